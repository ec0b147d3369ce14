use Rattle.std.proofs.Common.{◌≡◌, ◌-◌}
use Rattle.event_codec.specs.Reading.{items}
use Rattle.event_codec.proofs.Loops.{with_front}
use Rattle.event_codec.proofs.reader.Reader.items.Given as goal

abbrev pub invariant-loop : goal.invariant-loop
invariant-loop g l = with_front g.T.Field.reading l.items (items (l.count - l.counter) g.T.Field.reading l.self) ≡ items l.count g.T.Field.reading l.fn.self
