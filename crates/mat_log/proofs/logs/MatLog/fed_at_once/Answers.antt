-- The pending position afterwards is the latest touch if it is above the last refresh.
use Rattle.std.proofs.Common.{◌∙◌, refl, sym, subst}
use Rattle.span_map.specs.Maps.{at}
use Rattle.mat_log.specs.Logs.{LogValue}
use Rattle.mat_log.specs.Feeding.{IsFed}
use Rattle.mat_log.specs.Touching.{touch_at}
use Rattle.mat_log.proofs.FeedLaws.{fed_is, fed_chain, in_step-with}
use Rattle.mat_log.proofs.StepLaws.{in_step-same}
use Rattle.mat_log.proofs.logs.MatLog.fed_at_once.Goals as goal

pub invariant_of-result : goal.invariant_of-result
invariant_of-result c =
    let w = c.self.inside.width in
    in_step-same w (at c.in_ok-of.field-0) (at c.self.inside.refreshed) (at c.in_ok-of.field-0) (at c.in_ok-copy.field-0)
    (in_step-with w (at c.self.inside.pending) (at c.self.inside.refreshed) (at c.in_ok-of.field-0) c.args.entries.now c.self.invariant
    (λ t. fed_chain _ _ _ _ _ _ _ _ _ (c.in_ok-of.ensures.values t) (c.in_ok-pending.ensures.values t) (c.in_ok-own-2.ensures.values t) (c.in_ok-fresh.ensures.values t) (c.in_ok-own.ensures.values t) (c.in_ok-newest.ensures t)))
    (λ t. refl) c.in_ok-copy.ensures.values

pub returns : goal.returns
returns c =
    let w = c.self.inside.width in
    let Fed : LogValue → Type 0 = λ log. IsFed c.args.entries.now log (record { width = w; pending = c.in_ok-of.field-0; refreshed = c.in_ok-copy.field-0 }) in
    record {
      fed = subst Fed c.self.view_is (record {
        width = refl;
        refreshed = c.in_ok-copy.ensures.values;
        pending = λ b q.
            fed_chain _ _ _ (at c.self.inside.pending b) _ _ (at c.self.inside.refreshed b) _ (touch_at w c.args.entries.now b) (c.in_ok-of.ensures.values b) (c.in_ok-pending.ensures.values b) (c.in_ok-own-2.ensures.values b) (c.in_ok-fresh.ensures.values b) (c.in_ok-own.ensures.values b) (c.in_ok-newest.ensures b)
            ∙ sym (fed_is w b 0 (at c.self.inside.refreshed b) c.args.entries.now (at c.self.inside.pending b) c.self.invariant.bounds q c.requires.rising);
      });
    }
