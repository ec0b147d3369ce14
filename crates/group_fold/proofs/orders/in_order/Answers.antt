use Rattle.std.proofs.Common.{◌≡◌, ◌∙◌, sym, subst}
use Rattle.std.proofs.lemmas.Result.{IfOk-weaker}
use Rattle.group_fold.specs.Gathering.{in_group_order}
use Rattle.partial_agg.specs.Groups.{AreInOrder}
use Rattle.group_fold.proofs.AnyOrder.{ordered-permuted}
use Rattle.group_fold.proofs.Gathers.{ordered_already, permuted_ordered}
use Rattle.group_fold.proofs.orders.in_order.Goals as goal

pub merge_equal-requires : goal.merge_equal-requires
merge_equal-requires c = permuted_ordered c.args.groups.items c.sort_by.new.self.items c.sort_by.ensures.permutation c.requires

pub returns-then-rises : goal.returns-then-rises
returns-then-rises c = sym (ordered_already c.args.groups.items (subst AreInOrder c.as_slice.ensures.value (c.rises.ensures c.if-rises.true)))

pub returns-then-rises-2 : goal.returns-then-rises-2
returns-then-rises-2 c =
    let sorted : AreInOrder c.sort_by.new.self.items = subst AreInOrder c.as_slice-2.ensures.value (c.rises-2.ensures c.if-rises-2.true) in
    sym (ordered_already c.sort_by.new.self.items sorted) ∙ sym (ordered-permuted c.args.groups.items c.sort_by.new.self.items c.sort_by.ensures.permutation)

pub returns : goal.returns
returns c =
    let same : in_group_order c.sort_by.new.self.items ≡ in_group_order c.args.groups.items = sym (ordered-permuted c.args.groups.items c.sort_by.new.self.items c.sort_by.ensures.permutation) in
    IfOk-weaker c.merge_equal.result (λ sorted. sorted.items ≡ in_group_order c.sort_by.new.self.items) (λ sorted. sorted.items ≡ in_group_order c.args.groups.items) (λ sorted is. is ∙ same) c.merge_equal.ensures
