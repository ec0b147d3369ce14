use Rattle.std.proofs.Common.{◌≡◌, ◌++◌, take}
use Rattle.seg_rows.proofs.joins.append_rows.Given as goal

abbrev pub invariant-loop-row : goal.invariant-loop-row
invariant-loop-row l = l.into.items ≡ l.initial.into.items ++ take l.row-index l.rows
