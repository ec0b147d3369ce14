use Rattle.std.proofs.Common.{◌≡◌, sym, ap, ◌∙◌, rules, of_calls}
use Rattle.std.proofs.lemmas.List.Sorted.{IsPermutation-map, ranks_by}
use Rattle.std.proofs.lemmas.Fn.{always_returns_same}
use Rattle.partial_agg.proofs.GroupLaws.{group_cmp_total}
use Rattle.group_fold.proofs.AnyOrder.{ordered-permuted}
use Rattle.cell_groups.specs.declared.stops.Stop.TheVariants.{NoMemory}
use Rattle.cell_groups.proofs.Room.{rows_permuted}
use Rattle.cell_groups.specs.Groups.{HasTallies, as_group, as_groups}
use Rattle.cell_groups.proofs.Sorting.{all_permuted}
use Rattle.cell_groups.proofs.orders.sort_groups.Goals as goal

pub merge_neighbours-requires-clause-sorted : goal.merge_neighbours-requires-clause-sorted
merge_neighbours-requires-clause-sorted c = c.in_ok-sort_by.ensures.sorted _ (ranks_by group_cmp_total (as_group c.args.shape.now)) (always_returns_same _ _ _ (λ a r f k. search (rules, of_calls)))

pub merge_neighbours-requires-clause-alike : goal.merge_neighbours-requires-clause-alike
merge_neighbours-requires-clause-alike c = all_permuted (HasTallies c.args.shape.now.aggs) c.args.groups.items c.sort_by.new.self.items c.sort_by.ensures.permutation c.requires

pub returns-clause-groups : goal.returns-clause-groups
returns-clause-groups c =
    let kept = as_groups c.args.shape.now in
    ap kept c.from.ensures.0
    ∙ c.in_ok-merge_neighbours.ensures.groups
    ∙ sym (ordered-permuted (kept c.args.groups.items) (kept c.sort_by.new.self.items) (IsPermutation-map (as_group c.args.shape.now) c.args.groups.items c.sort_by.new.self.items c.sort_by.ensures.permutation))

pub returns-in_err-merge_neighbours-clause-room : goal.returns-in_err-merge_neighbours-clause-room
returns-in_err-merge_neighbours-clause-room c n rows few =
    let kept = as_groups c.args.shape.now in
    let alone : c.in_err-merge_neighbours.field-0.0 ≡ NoMemory =
    c.in_err-merge_neighbours.ensures.room n
    (rows_permuted n (kept c.args.groups.items) (kept c.sort_by.new.self.items) (IsPermutation-map (as_group c.args.shape.now) c.args.groups.items c.sort_by.new.self.items c.sort_by.ensures.permutation) rows) few in
    search rules
