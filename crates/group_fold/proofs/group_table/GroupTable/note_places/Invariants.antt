use Rattle.std.proofs.Common.{◌≡◌}
use Rattle.group_fold.proofs.group_table.GroupTable.note_places.Given as goal

abbrev pub invariant-loop-at : goal.invariant-loop-at
invariant-loop-at l = l.self.groups ≡ l.fn.self.groups
