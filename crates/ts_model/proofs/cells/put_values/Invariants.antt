use Rattle.std.proofs.Common.{◌≡◌, ◌++◌, map, take}
use Rattle.ts_num.specs.Aggregates.{shown_or_null}
use Rattle.ts_model.proofs.cells.put_values.Given as goal

abbrev pub invariant-loop-value : goal.invariant-loop-value
invariant-loop-value l = l.cells.items ≡ l.initial.cells.items ++ map shown_or_null (take l.value-index l.values)
