use Rattle.std.proofs.Common.{◌≡◌, ◌++◌, map, take}
use Rattle.ts_num.specs.Aggregates.{shown_or_null}
use Rattle.cell_groups.specs.Groups.{keys_at}
use Rattle.cell_groups.proofs.results.put_keys.Given as goal

abbrev pub invariant-loop-key : goal.invariant-loop-key
invariant-loop-key l = l.cells.items ≡ l.initial.cells.items ++ map shown_or_null (keys_at (take l.key-index l.keys) l.row)
