use Rattle.std.proofs.Common.{◌≡◌, ◌-◌}
use Rattle.event_codec.specs.Reading.{items}
use Rattle.event_codec.proofs.Loops.{with_front}
use Rattle.base_image.proofs.parts.read_items.Given as goal

abbrev pub invariant-loop : goal.invariant-loop
invariant-loop g l = with_front (g.T.Part.reading l.shape) l.items (items (l.count - l.counter) (g.T.Part.reading l.shape) l.reader) ≡ items l.count (g.T.Part.reading l.shape) l.fn.reader
