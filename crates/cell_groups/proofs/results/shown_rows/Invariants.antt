use Rattle.std.proofs.Common.{◌≡◌, map, take}
use Rattle.cell_rows.specs.Parts.{AreParts, parts}
use Rattle.cell_groups.specs.Groups.{group_shown}
use Rattle.cell_groups.proofs.results.shown_rows.Given as goal

abbrev pub invariant-loop-group : goal.invariant-loop-group
invariant-loop-group l = record {
  fit : AreParts 0 l.ends.items l.cells.items;
  shown : parts 0 l.ends.items l.cells.items ≡ map (group_shown l.shape) (take l.group-index l.groups);
}
