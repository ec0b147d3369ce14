use Rattle.std.proofs.Common.{◌≡◌, ◌++◌}
use Rattle.std.specs.List.{AllByRecursion}
use Rattle.std.specs.VecDeque.{deque_len}
use Rattle.group_fold.specs.Blocks.{HasPartsAt, shown_groups}
use Rattle.group_fold.proofs.open_groups.shared_groups.Given as goal

abbrev pub invariant-loop-head : goal.invariant-loop-head
invariant-loop-head l = record {
  whole : l.groups.items ++ shown_groups l.each l.blocks l.left.items ≡ shown_groups l.each l.blocks l.fn.heads.items;
  within : AllByRecursion (λ h. HasPartsAt l.each l.blocks h.place) l.left.items;
}

abbrev pub decreases-loop-head : goal.decreases-loop-head
decreases-loop-head l = deque_len l.left
