-- One more aggregate.
use Rattle.std.proofs.Common.{◌≡◌, ◌<◌, ◌+◌, [], Option, length, take, sym, ap, subst, arith}
use Rattle.std.specs.Prelude.{unwrap_or}
use Rattle.ts_model.specs.declared.images.SavedView.{SavedView}
use Rattle.ts_model.specs.declared.rosters.Roster.{Roster}
use Rattle.ts_model.specs.Saved.{nothing_saved, saved_view}
use Rattle.engine_state.specs.Lists.{Each}
use Rattle.engine_state.specs.GroupRebuilds.{AreRefolds, IsRefoldOf}
use Rattle.engine_state.proofs.CutFacts.{got}
use Rattle.engine_state.proofs.ResumedViews.{as_many_kept}
use Rattle.engine_state.proofs.TakenLaws.{each_taken}
use Rattle.engine_state.proofs.group_rebuilds.begin_all.Goals as goal

pub get-kept-requires : goal.get-kept-requires
get-kept-requires c = omega (arith, c.loop-view-test.true, c.len-view-end.ensures.len, ap (λ (r : Roster). length r.views) c.requires.roster, as_many_kept c.args.image.now c.requires.valid)

pub loop-view-preserved : goal.loop-view-preserved
loop-view-preserved c =
    let i = c.args.image.now in
    let within : c.loop-view.view < length c.args.roster.now.views = omega (arith, c.loop-view-test.true, c.len-view-end.ensures.len) in
    let many : c.loop-view.view < length c.args.image.now.views = omega (arith, within, ap (λ (r : Roster). length r.views) c.requires.roster, as_many_kept c.args.image.now c.requires.valid) in
    let kept_is : saved_view c.loop-view.view c.args.image.now ≡ c.get-kept.result.now = ap (λ (o : Option SavedView). unwrap_or o nothing_saved) (got i.views c.loop-view.view c.get-kept.result.now many c.get-kept.ensures.item) in
    let own : AreRefolds c.args.image.now (λ t. []) c.loop-view.view c.get-def.result.now c.in_ok-begin_refold.field-0 = subst (λ (v : SavedView). IsRefoldOf (λ t. []) c.get-def.result.now v c.in_ok-begin_refold.field-0) (sym kept_is) c.in_ok-begin_refold.ensures in
    subst (Each (AreRefolds i (λ t. [])) (take (c.loop-view.view + 1) c.args.roster.now.views)) (sym c.in_ok-push.ensures.items)
    (each_taken (AreRefolds i (λ t. [])) c.args.roster.now.views c.loop-view.made.items c.loop-view.view c.get-def.result.now c.in_ok-begin_refold.field-0 within c.get-def.ensures.item c.loop-view.invariant own)
