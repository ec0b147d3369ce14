use Rattle.std.proofs.Common.{◌≡◌, ◌+◌, List, length, Option, None, true, false, sym, ap, ◌∙◌, subst, to_z-of_z}
use Rattle.std.specs.Prelude.{IfSome}
use Rattle.std.specs.List.{AllByRecursion}
use Rattle.std.proofs.lemmas.Result.{on_ok_weaker}
use Rattle.group_fold.specs.Gathering.{in_group_order}
use Rattle.group_fold.specs.Merging.{joined_parts}
use Rattle.ts_model.specs.declared.views.Agg.{Agg}
use Rattle.partial_agg.specs.Groups.{AreInOrder}
use Rattle.cell_groups.specs.declared.groups.CellGroup.{CellGroup}
use Rattle.cell_groups.specs.declared.tallies.Tally.{Tally}
use Rattle.cell_groups.specs.Groups.{HasTallies, HaveTallies, as_groups, parts_of}
use Rattle.cell_groups.specs.KeptSummaries.{as_parts, row_tallies}
use Rattle.cell_groups.specs.Room.{AreOfRows, CanBeKept}
use Rattle.cell_groups.specs.TakenRows.{ComesLast, IsRowAt}
use Rattle.cell_groups.proofs.Gathering.{alone_is, few-new, few-row, kept-row, order-new, order-row, ordered-new, ordered-row}
use Rattle.cell_groups.proofs.Sorting.{all_push, all_set}
use Rattle.cell_groups.proofs.group_lookup.CellGroups.take.Goals as goal
use Rattle.cell_groups.proofs.group_lookup.CellGroups.take.Goals.{In-At}

-- ---- into the group at a place

place : (c : In-At) → IsRowAt c.args.shape.now c.args.start c.args.cells c.args.self.now.groups.items c.in-At.at
place c = subst (λ start. IsRowAt c.args.shape.now start c.args.cells c.args.self.now.groups.items c.in-At.at) (to_z-of_z c.ranges.start) c.in-At.ensures

pub returns-in-At-clause-groups : goal.returns-in-At-clause-groups
returns-in-At-clause-groups c =
    let shape = c.args.shape.now in
    on_ok_weaker c.take_row.result
    (λ parts. ordered-row shape c.args.start c.args.cells c.args.self.now.groups.items c.in-At.at c.index_mut.result.now c.take_row.new.group
    (place (goal.at.returns-in-At-clause-groups c).In-At) c.index_mut.ensures.value c.take_row.ensures.start c.take_row.ensures.first
    (subst (λ aggs. parts_of aggs c.take_row.new.group ≡ joined_parts (parts_of aggs c.index_mut.result.now) (as_parts aggs (row_tallies aggs c.args.cells))) c.items.ensures.items parts)) c.take_row.ensures.parts

pub returns-in-At-clause-gathered : goal.returns-in-At-clause-gathered
returns-in-At-clause-gathered c =
    let shape = c.args.shape.now in
    on_ok_weaker c.take_row.result
    (λ _. record {
      tallies = all_set (HasTallies shape.aggs) c.args.self.now.groups.items c.in-At.at c.take_row.new.group c.requires.tallies
          (subst (λ aggs. HasTallies aggs c.take_row.new.group) c.items.ensures.items c.take_row.ensures.many);
      order = λ e. order-row shape c.args.start c.args.cells c.args.self.now.groups.items c.in-At.at c.index_mut.result.now c.take_row.new.group
          (place (goal.at.returns-in-At-clause-gathered c).In-At) c.index_mut.ensures.value c.take_row.ensures.start c.take_row.ensures.first (c.requires.order e);
    }) c.take_row.ensures.parts

pub returns-in-At-clause-few : goal.returns-in-At-clause-few
returns-in-At-clause-few c n rows words =
    let shape = c.args.shape.now in
    on_ok_weaker c.take_row.result
    (λ parts. few-row shape c.args.start c.args.cells c.args.self.now.groups.items n rows words c.in-At.at c.index_mut.result.now c.take_row.new.group
    (place (goal.at.returns-in-At-clause-few c).In-At) c.index_mut.ensures.value
    (subst (λ aggs. parts_of aggs c.take_row.new.group ≡ joined_parts (parts_of aggs c.index_mut.result.now) (as_parts aggs (row_tallies aggs c.args.cells))) c.items.ensures.items parts)) c.take_row.ensures.parts

pub returns-in-At-clause-room : goal.returns-in-At-clause-room
returns-in-At-clause-room c n rows words few =
    let shape = c.args.shape.now in
    c.take_row.ensures.room
    (subst (λ aggs. AllByRecursion CanBeKept (joined_parts (parts_of aggs c.index_mut.result.now) (as_parts aggs (row_tallies aggs c.args.cells)))) (sym c.items.ensures.items)
    (kept-row shape c.args.start c.args.cells c.args.self.now.groups.items n rows words c.in-At.at c.index_mut.result.now (place (goal.at.returns-in-At-clause-room c).In-At) c.index_mut.ensures.value few))

-- ---- after the others

-- a group of one row has no tallies
has_none : (aggs : List Agg) (g : CellGroup) → g.tallies ≡ None → HasTallies aggs g
has_none aggs g none = subst (λ (o : Option (List Tally)). IfSome o (λ ts. length ts ≡ length aggs)) (sym none) tt

pub returns-in_ok-put_last-in-End-clause-groups : goal.returns-in_ok-put_last-in-End-clause-groups
returns-in_ok-put_last-in-End-clause-groups c =
    let shape = c.args.shape.now in
    let alone = alone_is shape c.args.start c.args.cells c.group_of.result (c.group_of.ensures.start ∙ to_z-of_z c.ranges.start) c.group_of.ensures.first c.group_of.ensures.tallies in
    ap (λ gs. in_group_order (as_groups shape gs)) c.in_ok-put_last-in-End.ensures.groups ∙ ordered-new shape c.args.start c.args.cells c.args.self.now.groups.items c.group_of.result alone

pub returns-in_ok-put_last-in-End-clause-gathered : goal.returns-in_ok-put_last-in-End-clause-gathered
returns-in_ok-put_last-in-End-clause-gathered c =
    let shape = c.args.shape.now in
    let alone = alone_is shape c.args.start c.args.cells c.group_of.result (c.group_of.ensures.start ∙ to_z-of_z c.ranges.start) c.group_of.ensures.first c.group_of.ensures.tallies in
    let last : ComesLast shape c.args.start c.args.cells c.args.self.now.groups.items =
    subst (λ start. ComesLast shape start c.args.cells c.args.self.now.groups.items) (to_z-of_z c.ranges.start) c.in-End.ensures in
    record {
      tallies = subst (HaveTallies shape.aggs) (sym c.in_ok-put_last-in-End.ensures.groups)
          (all_push (HasTallies shape.aggs) c.args.self.now.groups.items c.group_of.result c.requires.tallies (has_none shape.aggs c.group_of.result c.group_of.ensures.tallies));
      order = λ e. subst (λ gs. AreInOrder (as_groups shape gs)) (sym c.in_ok-put_last-in-End.ensures.groups)
          (order-new shape c.args.start c.args.cells c.args.self.now.groups.items c.group_of.result alone last (c.requires.order (sym c.in_ok-put_last-in-End.ensures.order ∙ e)));
    }

pub returns-in_ok-put_last-in-End-clause-few : goal.returns-in_ok-put_last-in-End-clause-few
returns-in_ok-put_last-in-End-clause-few c n rows words =
    let shape = c.args.shape.now in
    let alone = alone_is shape c.args.start c.args.cells c.group_of.result (c.group_of.ensures.start ∙ to_z-of_z c.ranges.start) c.group_of.ensures.first c.group_of.ensures.tallies in
    subst (λ gs. AreOfRows (n + 1) (as_groups shape gs)) (sym c.in_ok-put_last-in-End.ensures.groups)
    (few-new shape c.args.start c.args.cells c.args.self.now.groups.items n rows words c.group_of.result alone)

-- ---- after the others, which are no longer in order

pub returns-in_ok-put-in-Unknown-clause-groups : goal.returns-in_ok-put-in-Unknown-clause-groups
returns-in_ok-put-in-Unknown-clause-groups c =
    let shape = c.args.shape.now in
    let own = c.group_of-in-Unknown in
    let alone = alone_is shape c.args.start c.args.cells own.result (own.ensures.start ∙ to_z-of_z c.ranges.start) own.ensures.first own.ensures.tallies in
    ap (λ gs. in_group_order (as_groups shape gs)) c.in_ok-put-in-Unknown.ensures.groups ∙ ordered-new shape c.args.start c.args.cells c.args.self.now.groups.items own.result alone

pub returns-in_ok-put-in-Unknown-clause-gathered : goal.returns-in_ok-put-in-Unknown-clause-gathered
returns-in_ok-put-in-Unknown-clause-gathered c =
    let shape = c.args.shape.now in
    let own = c.group_of-in-Unknown in
    record {
      tallies = subst (HaveTallies shape.aggs) (sym c.in_ok-put-in-Unknown.ensures.groups)
          (all_push (HasTallies shape.aggs) c.args.self.now.groups.items own.result c.requires.tallies (has_none shape.aggs own.result own.ensures.tallies));
      order = λ e. let no : false ≡ true = sym c.in_ok-put-in-Unknown.ensures.order ∙ e in absurd (cc no);
    }

pub returns-in_ok-put-in-Unknown-clause-few : goal.returns-in_ok-put-in-Unknown-clause-few
returns-in_ok-put-in-Unknown-clause-few c n rows words =
    let shape = c.args.shape.now in
    let own = c.group_of-in-Unknown in
    let alone = alone_is shape c.args.start c.args.cells own.result (own.ensures.start ∙ to_z-of_z c.ranges.start) own.ensures.first own.ensures.tallies in
    subst (λ gs. AreOfRows (n + 1) (as_groups shape gs)) (sym c.in_ok-put-in-Unknown.ensures.groups)
    (few-new shape c.args.start c.args.cells c.args.self.now.groups.items n rows words own.result alone)
