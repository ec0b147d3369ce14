use Rattle.std.proofs.Common.{◌≡◌, ◌<◌, ◌/◌, ◌∙◌, length, ap, arith, rules, length-take, length-drop}
use Rattle.std.proofs.lemmas.Result.{IfOk-weaker}
use Rattle.group_fold.specs.Merging.{with_groups}
use Rattle.group_fold.specs.Gathering.{CanOrder, in_group_order}
use Rattle.group_fold.proofs.Gathers.{front_ordered, back_ordered, can_join_ordered, joined_ordered}
use Rattle.group_fold.proofs.orders.+merge_equal.Goals as goal

pub merge_equal-requires : goal.merge_equal-requires
merge_equal-requires t c =
    let can : CanOrder c.split_off.new.self.items = front_ordered c.args.groups.items c.split_off.new.self.items (c.len-2.result / 2) c.in_ok-back.ensures.items c.requires in
    let shorter : length c.split_off.new.self.items < length c.args.groups.items =
    omega (arith, ap length c.in_ok-back.ensures.items, length-take (c.len-2.result / 2) c.args.groups.items, c.len.ensures, c.len-2.ensures, c.if-len-lt2.false) in
    search rules

pub merge_equal-requires-2 : goal.merge_equal-requires-2
merge_equal-requires-2 t c =
    let can : CanOrder c.in_ok-back.back.items = back_ordered c.args.groups.items c.in_ok-back.back.items (c.len-2.result / 2) c.in_ok-back.ensures.tail c.requires in
    let shorter : length c.in_ok-back.back.items < length c.args.groups.items =
    omega (arith, ap length c.in_ok-back.ensures.tail, length-drop (c.len-2.result / 2) c.args.groups.items, c.len.ensures, c.len-2.ensures, c.if-len-lt2.false) in
    search rules

pub join_lists-requires : goal.join_lists-requires
join_lists-requires t c =
    can_join_ordered c.args.groups.items c.split_off.new.self.items c.in_ok-back.back.items c.in_ok-mine.mine.items c.in_ok-theirs.theirs.items (c.len-2.result / 2)
    c.in_ok-back.ensures.items c.in_ok-back.ensures.tail c.in_ok-mine.ensures c.in_ok-theirs.ensures c.requires

pub returns : goal.returns
returns t c =
    let whole : with_groups c.in_ok-mine.mine.items c.in_ok-theirs.theirs.items ≡ in_group_order c.args.groups.items =
    joined_ordered c.args.groups.items c.split_off.new.self.items c.in_ok-back.back.items c.in_ok-mine.mine.items c.in_ok-theirs.theirs.items (c.len-2.result / 2)
    c.in_ok-back.ensures.items c.in_ok-back.ensures.tail c.in_ok-mine.ensures c.in_ok-theirs.ensures in
    IfOk-weaker c.join_lists.result (λ sorted. sorted.items ≡ with_groups c.in_ok-mine.mine.items c.in_ok-theirs.theirs.items) (λ sorted. sorted.items ≡ in_group_order c.args.groups.items) (λ sorted is. is ∙ whole) c.join_lists.ensures
