use Rattle.std.proofs.Common.{◌≡◌, ◌-◌, ◌++◌, map, take, drop}
use Rattle.ts_num.specs.Aggregates.{shown_or_null}
use Rattle.realtime_union.proofs.passing.put_part.Given as goal

-- the values so far
abbrev pub invariant-loop-i : goal.invariant-loop-i
invariant-loop-i l = l.cells.items ≡ l.fn.cells.items ++ map shown_or_null (take (l.i - l.from) (drop l.from l.vals))
