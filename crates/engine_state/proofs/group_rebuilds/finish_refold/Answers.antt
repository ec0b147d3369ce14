use Rattle.std.proofs.Common.{sym, subst}
use Rattle.partial_agg.specs.Groups.{AreInOrder}
use Rattle.ts_bucket.specs.Bucket.{IsWidth}
use Rattle.group_fold.specs.Foldings.{HasTaken}
use Rattle.group_fold.proofs.RowGroups.{sorted-groups_of}
use Rattle.std.specs.Prelude.{Some}
use Rattle.engine_state.specs.declared.group_rebuilds.GroupRebuild.{GroupRebuild}
use Rattle.engine_state.specs.GroupRebuilds.{CanTake}
use Rattle.engine_state.proofs.group_rebuilds.finish_refold.Goals as goal

pub of-requires : goal.of-requires
of-requires c =
    let r = c.in-Some.refold in
    let before : CanTake (Some c.in-Some.refold) = subst CanTake c.in-Some.is c.requires.before in
    let wide : IsWidth c.in-Some.refold.plan.width = subst (λ (x : GroupRebuild). IsWidth x.plan.width) c.refold.view_is c.refold.invariant in
    let has = subst (λ (x : GroupRebuild). HasTaken c.in-Some.refold.plan before.0 x.folding) (sym c.refold.view_is) before.1 in
    record { order = subst AreInOrder (sym (c.in_ok-finish-in-Some.ensures.groups r.plan before.0 has)) (sorted-groups_of r.plan wide before.0) }
