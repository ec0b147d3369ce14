use Rattle.std.proofs.Common.{◌≡◌, false, take}
use Rattle.std.specs.List.{list_any}
use Rattle.row_versions.specs.Tables.{is_on}
use Rattle.engine_state.proofs.commits.are_on.Given as goal

abbrev pub invariant-loop-op : goal.invariant-loop-op
invariant-loop-op l = list_any (is_on l.fn.number) (take l.op-index l.ops) ≡ false
