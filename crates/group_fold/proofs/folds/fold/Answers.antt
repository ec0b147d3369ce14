use Rattle.std.proofs.Common.{◌≡◌, sym, ap, ◌∙◌, subst}
use Rattle.ts_bucket.specs.Bucket.{IsWidth}
use Rattle.group_fold.specs.Grouping.{ShowScratch}
use Rattle.ts_model.specs.Groups.{groups_of}
use Rattle.group_fold.proofs.AnyOrder.{groups_of-permuted}
use Rattle.group_fold.proofs.Scratches.{groups_show_scratch}
use Rattle.group_fold.proofs.folds.fold.Goals as goal

pub returns-clause-scratch : goal.returns-clause-scratch
returns-clause-scratch c =
    let wide : IsWidth c.args.plan.now.width = subst (λ p. IsWidth p.width) c.plan.view_is c.plan.invariant in
    let is : c.of.result ≡ groups_of c.args.plan.now c.args.rows.now = c.of.ensures.items ∙ c.in_ok-fold_rows.ensures ∙ ap (groups_of c.args.plan.now) c.items.ensures.items in
    subst (λ groups. ShowScratch c.args.plan.now c.args.rows.now groups) (sym is) (groups_show_scratch c.args.plan.now wide c.args.rows.now)

pub returns-clause-any_order : goal.returns-clause-any_order
returns-clause-any_order c others p =
    let wide : IsWidth c.args.plan.now.width = subst (λ p. IsWidth p.width) c.plan.view_is c.plan.invariant in
    let is : c.of.result ≡ groups_of c.args.plan.now c.args.rows.now = c.of.ensures.items ∙ c.in_ok-fold_rows.ensures ∙ ap (groups_of c.args.plan.now) c.items.ensures.items in
    is ∙ groups_of-permuted c.args.plan.now wide c.args.rows.now others p
