use Rattle.std.proofs.Common.{◌≡◌}
use Rattle.event_codec.specs.Reading.{items, row_at}
use Rattle.event_codec.proofs.Loops.{with_front}
use Rattle.event_codec.proofs.reader.Reader.row_list.Given as goal

-- the rows so far, and those that are left
abbrev pub invariant-pieces : goal.invariant-pieces
invariant-pieces l = with_front row_at l.rows.items (items l.left row_at l.self) ≡ items l.count row_at l.fn.self

abbrev pub decreases-pieces : goal.decreases-pieces
decreases-pieces l = l.left
