use Rattle.std.proofs.Common.{◌≡◌, drop}
use Rattle.std.specs.Cmp.Lexicographic.{slice_cmp}
use Rattle.ts_schema.specs.Rows.{value_cmp}
use Rattle.ts_schema.proofs.rows.order_of_values.Given as goal

-- what is left decides
abbrev pub invariant-loop-i : goal.invariant-loop-i
invariant-loop-i l = slice_cmp value_cmp (drop l.i l.fn.a) (drop l.i l.fn.b) ≡ slice_cmp value_cmp l.fn.a l.fn.b
