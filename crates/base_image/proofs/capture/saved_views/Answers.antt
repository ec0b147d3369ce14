use Rattle.std.proofs.Common.{◌≡◌, length, ap, ◌∙◌, subst, arith}
use Rattle.base_image.specs.Taking.{AreKept}
use Rattle.base_image.proofs.TakingLaws.{none_kept, one_more_kept}
use Rattle.base_image.proofs.capture.saved_views.Goals as goal

pub loop-view-init : goal.loop-view-init
loop-view-init g c = λ h stands. rw c.new-views.ensures.items (none_kept h)

pub loop-view-preserved : goal.loop-view-preserved
loop-view-preserved g c = λ h stands.
    rw c.in_ok-push.ensures.pushed (one_more_kept h c.loop-view.view c.loop-view.views _ (c.loop-view.invariant h stands) (λ def is. c.in_ok-saved_view.ensures.saved h def stands is))

pub returns : goal.returns
returns g c = record {
  saved = λ h stands.
      let all : c.loop-view.view ≡ length c.roster.result.now.views = omega (arith, c.loop-view-test.false) in
      subst (λ k. AreKept h k c.loop-view.views) (all ∙ ap (λ r. length r.views) (c.roster.ensures.roster h stands)) (c.loop-view.invariant h stands);
}
