use Rattle.std.proofs.Common.{◌≡◌, drop}
use Rattle.std.specs.Ordering.{int_eq}
use Rattle.std.specs.Option.{option_eq}
use Rattle.std.specs.Cmp.Lexicographic.{pointwise}
use Rattle.ts_schema.proofs.values.are_same.Given as goal

-- what is left decides
abbrev pub invariant-loop-i : goal.invariant-loop-i
invariant-loop-i l = pointwise (option_eq int_eq) (drop l.i l.fn.a) (drop l.i l.fn.b) ≡ pointwise (option_eq int_eq) l.fn.a l.fn.b
