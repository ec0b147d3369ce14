use Rattle.std.proofs.Common.{◌≡◌, map, take}
use Rattle.ts_schema.specs.Rows.{field_of}
use Rattle.group_fold.proofs.members.keys_listed.Given as goal

abbrev pub invariant-loop-col : goal.invariant-loop-col
invariant-loop-col l = l.keys.items ≡ map (field_of l.row) (take l.col-index l.cols)
