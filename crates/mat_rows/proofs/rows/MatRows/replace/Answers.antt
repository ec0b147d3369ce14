-- The groups are in order, as the old and the new ones.
use Rattle.std.proofs.Common.{◌≡◌, ◌∙◌, ap, sym, subst}
use Rattle.std.specs.List.{list_all}
use Rattle.mat_rows.specs.Replacing.{of_bucket, groups_replaced}
use Rattle.partial_agg.specs.Groups.{AreInOrder}
use Rattle.mat_rows.proofs.ReplaceLaws.{order_replaced, of_bucket-replaced, list_all-replaced}
use Rattle.mat_rows.proofs.rows.MatRows.replace.Goals as goal
use Rattle.mat_rows.proofs.rows.MatRows.replace.Goals.{In_ok-replaced_in}

-- the list built
made : (c : In_ok-replaced_in) → c.in_ok-replaced_in.field-0.items ≡ groups_replaced c.args.spans.now c.args.groups.now c.args.self.now
made c =
    c.in_ok-replaced_in.ensures
    ∙ ap (λ ss. groups_replaced ss c.groups.inside.groups.items c.self.inside.groups.items) c.items.ensures.items
    ∙ ap (λ new. groups_replaced c.args.spans.now new c.self.inside.groups.items) c.groups.view_is
    ∙ ap (groups_replaced c.args.spans.now c.args.groups.now) c.self.view_is

pub invariant_of-result : goal.invariant_of-result
invariant_of-result c = subst AreInOrder (sym (made c)) (order_replaced c.args.spans.now c.args.groups.now c.args.self.now c.requires.sizes c.requires.rising (subst AreInOrder c.groups.view_is c.groups.invariant) (subst AreInOrder c.self.view_is c.self.invariant))

pub returns-clause-groups : goal.returns-clause-groups
returns-clause-groups c = made c

pub returns-clause-buckets : goal.returns-clause-buckets
returns-clause-buckets c = λ b. ap (of_bucket b) (made c) ∙ of_bucket-replaced b c.args.spans.now c.args.groups.now c.args.self.now c.requires.sizes c.requires.rising

pub returns-clause-all : goal.returns-clause-all
returns-clause-all c = λ test p q. ap (list_all test) (made c) ∙ list_all-replaced test c.args.spans.now c.args.groups.now c.args.self.now p q
