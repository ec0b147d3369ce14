use Rattle.std.proofs.Common.{◌≡◌, ◌∷◌, ◌++◌, sym, ap, ◌∙◌, subst, rules}
use Rattle.std.specs.List.{AllByRecursion}
use Rattle.std.specs.Option.{option_to_list}
use Rattle.group_fold.specs.Merging.{joined_parts}
use Rattle.cell_groups.specs.declared.stops.Stop.TheVariants.{NoMemory}
use Rattle.cell_groups.specs.Groups.{as_group, as_groups, parts_of}
use Rattle.cell_groups.specs.Room.{AreOfRows, CanBeKept}
use Rattle.cell_groups.proofs.Room.{pair_kept}
use Rattle.cell_groups.proofs.orders.put_first.Goals as goal

pub returns-in_err-take_group-in-Some-clause-room : goal.returns-in_err-take_group-in-Some-clause-room
returns-in_err-take_group-in-Some-clause-room c n rows few =
    let shape = c.args.shape.now in
    let next = c.in-Some.next in
    let group = c.args.group in
    let popped : c.args.merged.now.items ≡ next ∷ c.pop_front.new.self.items = c.pop_front.ensures.items ∙ ap (λ r. option_to_list r ++ c.pop_front.new.self.items) c.in-Some.is in
    let pair : AreOfRows n (as_group shape group ∷ as_group shape next ∷ as_groups shape c.pop_front.new.self.items) = subst (λ gs. AreOfRows n (as_group shape group ∷ as_groups shape gs)) popped rows in
    let alone : c.in_err-take_group-in-Some.field-0.0 ≡ NoMemory =
    c.in_err-take_group-in-Some.ensures.room
    (subst (λ aggs. AllByRecursion CanBeKept (joined_parts (parts_of aggs group) (parts_of aggs next))) (sym c.items.ensures.items)
    (pair_kept n (as_group shape group) (as_group shape next) (as_groups shape c.pop_front.new.self.items) pair few)) in
    search rules
