use Rattle.std.proofs.Common.{◌≡◌, [], ◌∷◌, ◌++◌, sym, ap, ◌∙◌, subst, append-nil, rules}
use Rattle.std.specs.List.{AllByRecursion}
use Rattle.std.specs.Option.{option_to_list}
use Rattle.std.proofs.lemmas.List.{map-append}
use Rattle.cell_groups.specs.declared.stops.Stop.TheVariants.{NoMemory}
use Rattle.cell_groups.specs.Room.{AreOfRows}
use Rattle.cell_groups.proofs.Room.{rows_behind, rows_merged}
use Rattle.cell_groups.specs.Groups.{HasTallies, HaveTallies, as_group, as_groups}
use Rattle.cell_groups.proofs.Sorting.{IsMerging, all_last, merging_first, merging_starts, merging_step, sorted_kept}
use Rattle.cell_groups.proofs.orders.merge_neighbours.Goals as goal

pub loop-group-init : goal.loop-group-init
loop-group-init c =
    let shape = c.args.shape.now in
    let none = sym c.new-merged.ensures.items in
    let whole = as_groups shape c.args.groups.items in
    record {
      merging = subst (λ gs. IsMerging whole whole (as_groups shape gs)) none (merging_starts whole (sorted_kept shape c.args.groups.items c.requires.sorted));
      left = c.requires.alike;
      merged = subst (HaveTallies shape.aggs) none tt;
      rows = λ n rows. subst (λ gs. AreOfRows n (whole ++ as_groups shape gs)) none (subst (AreOfRows n) (sym (append-nil whole)) rows);
    }

pub loop-group-preserved : goal.loop-group-preserved
loop-group-preserved c =
    let shape = c.args.shape.now in
    let popped : c.loop-group.left.items ≡ c.pop.new.self.items ++ c.in-Some.group ∷ [] = c.pop.ensures.items ∙ ap (λ r. c.pop.new.self.items ++ option_to_list r) c.in-Some.is in
    let kept : as_groups shape c.loop-group.left.items ≡ as_groups shape c.pop.new.self.items ++ as_group shape c.in-Some.group ∷ [] =
    ap (as_groups shape) popped ∙ map-append (as_group shape) c.pop.new.self.items (c.in-Some.group ∷ []) in
    let tallies = all_last (HasTallies shape.aggs) c.pop.new.self.items c.in-Some.group (subst (HaveTallies shape.aggs) popped c.loop-group.invariant.left) in
    record {
      merging = merging_step (as_groups shape c.args.groups.items) (as_groups shape c.loop-group.left.items) (as_groups shape c.loop-group.merged.items) (as_groups shape c.pop.new.self.items) (as_groups shape c.put_first.new.merged.items) (as_group shape c.in-Some.group)
          c.loop-group.invariant.merging kept c.in_ok-put_first.ensures.groups;
      left = tallies.0;
      merged = c.in_ok-put_first.ensures.tallies;
      rows = λ n rows. subst (λ gs. AreOfRows n (as_groups shape c.pop.new.self.items ++ gs)) (sym c.in_ok-put_first.ensures.groups)
          (rows_merged n (as_groups shape c.pop.new.self.items) (as_group shape c.in-Some.group) (as_groups shape c.loop-group.merged.items)
          (subst (λ gs. AreOfRows n (gs ++ as_groups shape c.loop-group.merged.items)) kept (c.loop-group.invariant.rows n rows)));
    }

pub put_first-requires-clause-first : goal.put_first-requires-clause-first
put_first-requires-clause-first c =
    let shape = c.args.shape.now in
    let popped : c.loop-group.left.items ≡ c.pop.new.self.items ++ c.in-Some.group ∷ [] = c.pop.ensures.items ∙ ap (λ r. c.pop.new.self.items ++ option_to_list r) c.in-Some.is in
    let kept : as_groups shape c.loop-group.left.items ≡ as_groups shape c.pop.new.self.items ++ as_group shape c.in-Some.group ∷ [] =
    ap (as_groups shape) popped ∙ map-append (as_group shape) c.pop.new.self.items (c.in-Some.group ∷ []) in
    merging_first (as_groups shape c.args.groups.items) (as_groups shape c.loop-group.left.items) (as_groups shape c.loop-group.merged.items) (as_groups shape c.pop.new.self.items) (as_group shape c.in-Some.group) c.loop-group.invariant.merging kept

pub put_first-requires-clause-mine : goal.put_first-requires-clause-mine
put_first-requires-clause-mine c =
    let shape = c.args.shape.now in
    let popped : c.loop-group.left.items ≡ c.pop.new.self.items ++ c.in-Some.group ∷ [] = c.pop.ensures.items ∙ ap (λ r. c.pop.new.self.items ++ option_to_list r) c.in-Some.is in
    (all_last (HasTallies shape.aggs) c.pop.new.self.items c.in-Some.group (subst (AllByRecursion (HasTallies shape.aggs)) popped c.loop-group.invariant.left)).1

pub returns-in_err-put_first-clause-room : goal.returns-in_err-put_first-clause-room
returns-in_err-put_first-clause-room c n rows few =
    let shape = c.args.shape.now in
    let popped : c.loop-group.left.items ≡ c.pop.new.self.items ++ c.in-Some.group ∷ [] = c.pop.ensures.items ∙ ap (λ r. c.pop.new.self.items ++ option_to_list r) c.in-Some.is in
    let kept : as_groups shape c.loop-group.left.items ≡ as_groups shape c.pop.new.self.items ++ as_group shape c.in-Some.group ∷ [] =
    ap (as_groups shape) popped ∙ map-append (as_group shape) c.pop.new.self.items (c.in-Some.group ∷ []) in
    let alone : c.in_err-put_first.field-0.0 ≡ NoMemory =
    c.in_err-put_first.ensures.room n
    (rows_behind n (as_groups shape c.pop.new.self.items) (as_group shape c.in-Some.group) (as_groups shape c.loop-group.merged.items)
    (subst (λ gs. AreOfRows n (gs ++ as_groups shape c.loop-group.merged.items)) kept (c.loop-group.invariant.rows n rows))) few in
    search rules
