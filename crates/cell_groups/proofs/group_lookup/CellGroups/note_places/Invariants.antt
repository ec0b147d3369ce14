use Rattle.std.proofs.Common.{◌≡◌, false}
use Rattle.cell_groups.proofs.group_lookup.CellGroups.note_places.Given as goal

abbrev pub invariant-loop-at : goal.invariant-loop-at
invariant-loop-at l = record { groups : l.self.groups.items ≡ l.fn.self.groups.items; order : l.self.in_order ≡ false }
