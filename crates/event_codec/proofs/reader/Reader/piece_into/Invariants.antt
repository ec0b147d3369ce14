use Rattle.std.proofs.Common.{◌≡◌, ◌-◌, length}
use Rattle.cell_rows.specs.Parts.{AreParts, parts}
use Rattle.event_codec.specs.Blocks.{timed_rows}
use Rattle.event_codec.specs.Reading.{items, row_at}
use Rattle.event_codec.proofs.Loops.{with_front}
use Rattle.event_codec.proofs.reader.Reader.piece_into.Given as goal

-- each row so far has a time and an end, and the rows left are read after them
abbrev pub invariant-loop : goal.invariant-loop
invariant-loop l =
    (length l.times.items ≡ length l.ends.items)
    × AreParts 0 l.ends.items l.values
    × (with_front row_at (timed_rows l.times.items (parts 0 l.ends.items l.values)) (items (l.count - l.counter) row_at l.self) ≡ items l.count row_at l.fn.self)
