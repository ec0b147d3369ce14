use Rattle.std.proofs.Common.{◌≡◌, sym, ◌∙◌, subst, rules}
use Rattle.ts_bucket.specs.Bucket.{IsWidth}
use Rattle.group_fold.specs.Grouping.{ShowScratch, all_rows}
use Rattle.ts_model.specs.Groups.{groups_of}
use Rattle.group_fold.proofs.AnyOrder.{groups_of-permuted}
use Rattle.group_fold.proofs.Scratches.{groups_show_scratch}
use Rattle.group_fold.proofs.pieces.fold_pieces.Goals as goal

pub returns-clause-scratch : goal.returns-clause-scratch
returns-clause-scratch g c =
    let wide : IsWidth c.args.plan.now.width = subst (λ p. IsWidth p.width) c.plan.view_is c.plan.invariant in
    let is : c.of.result ≡ groups_of c.args.plan.now (all_rows c.args.pieces.now) = search rules in
    subst (λ groups. ShowScratch c.args.plan.now (all_rows c.args.pieces.now) groups) (sym is) (groups_show_scratch c.args.plan.now wide (all_rows c.args.pieces.now))

pub returns-clause-any_order : goal.returns-clause-any_order
returns-clause-any_order g c others p =
    let wide : IsWidth c.args.plan.now.width = subst (λ p. IsWidth p.width) c.plan.view_is c.plan.invariant in
    let is : c.of.result ≡ groups_of c.args.plan.now (all_rows c.args.pieces.now) = search rules in
    is ∙ groups_of-permuted c.args.plan.now wide (all_rows c.args.pieces.now) others p
