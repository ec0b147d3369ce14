use Rattle.std.proofs.Common.{◌≡◌, List, ◌++◌, Option}
use Rattle.std.specs.List.{AllByRecursion, AllZip}
use Rattle.std.specs.VecDeque.{deque_len}
use Rattle.engine_state.specs.declared.group_rebuilds.GroupRebuild.{GroupRebuild}
use Rattle.engine_state.specs.GroupRebuilds.{CanTake, Makes}
use Rattle.engine_state.proofs.group_rebuilds.finish_all.Given as goal

-- those in front are finished, and the others are left
abbrev pub invariant-loop-refold : goal.invariant-loop-refold
invariant-loop-refold l = record {
  can : AllByRecursion CanTake l.left.items;
  made : (front : List (Option GroupRebuild)) × (front ++ l.left.items ≡ l.fn.refolds.items) × AllZip Makes front l.made;
}

abbrev pub decreases-loop-refold : goal.decreases-loop-refold
decreases-loop-refold l = deque_len l.left
