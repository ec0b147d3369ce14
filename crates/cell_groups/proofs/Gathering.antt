-- Groups gathered one by one and put in order.
use Rattle.std.proofs.Common.{◌≡◌, ℕ, zero, suc, ◌+◌, ◌<◌, ◌^◌, List, [], ◌∷◌, ◌++◌, map, filter, length, get_or, set, Option, None, unwrap_or, ℤ, sym, refl, ap, ◌∙◌, subst, Bool, arith}
use Rattle.std.specs.List.{AllByRecursion}
use Rattle.std.proofs.lemmas.List.{get_or-map, length-map, map-append, map-set}
use Rattle.std.specs.declared.cmp.Ordering.TheVariants.{Equal}
use Rattle.ts_schema.proofs.Cases.{by_test}
use Rattle.ts_num.specs.declared.values.Datum.{Datum}
use Rattle.partial_agg.specs.declared.groups.Group.{Group}
use Rattle.partial_agg.specs.Groups.{AreInOrder, group_cmp}
use Rattle.partial_agg.specs.Summaries.{Summary}
use Rattle.partial_agg.proofs.GroupLaws.{group_cmp-place}
use Rattle.group_fold.specs.Gathering.{IsAt, in_group_order}
use Rattle.group_fold.specs.Merging.{joined_parts, merge_of, with_group, with_groups}
use Rattle.group_fold.proofs.Gathers.{none_in_order}
use Rattle.group_fold.proofs.Insertions.{equal_back, joined_parts_comm, with_group-commutes, with_group-twice}
use Rattle.cell_groups.specs.declared.group_lookup.CellGroups.{CellGroups}
use Rattle.cell_groups.specs.declared.groups.CellGroup.{CellGroup}
use Rattle.cell_groups.specs.declared.shapes.Shape.{Shape}
use Rattle.cell_groups.specs.declared.tallies.Tally.{Tally}
use Rattle.cell_groups.specs.Groups.{HaveTallies, as_group, as_groups, cells_at, keys_at, parts_of}
use Rattle.cell_groups.specs.KeptSummaries.{as_parts, row_needs, row_tallies}
use Rattle.cell_groups.specs.Room.{AreOfRows, CanBeKept, ShowWords}
use Rattle.cell_groups.specs.TakenRows.{AreGathered, ComesLast, IsRowAt, taken_in, with_rows}
use Rattle.cell_groups.proofs.KeptSummaries.{as_row}
use Rattle.cell_groups.proofs.Room.{row_kept, row_taken, row_words, rows_pushed, rows_set}
use Rattle.cell_groups.proofs.Sorting.{order_last, order_set}

-- ---- one more group

pub ordered-push : (gs : List Group) (g : Group) → in_group_order (gs ++ g ∷ []) ≡ with_group g (in_group_order gs)
ordered-push [] g = refl
ordered-push (x ∷ gs) g = ap (with_group x) (ordered-push gs g) ∙ with_group-commutes x g (in_group_order gs)

ordered-set : (gs : List Group) (at : ℕ) (g d : Group) → at < length gs → group_cmp (get_or gs at d) g ≡ Equal → in_group_order (set gs at (merge_of g (get_or gs at d))) ≡ with_group g (in_group_order gs)
ordered-set [] at g d h e = absurd (omega (arith, h))
ordered-set (x ∷ gs) zero g d h e = with_group-twice g x (in_group_order gs) (equal_back x g e)
ordered-set (x ∷ gs) (suc at) g d h e = ap (with_group x) (ordered-set gs at g d (omega (arith, h)) e) ∙ with_group-commutes x g (in_group_order gs)

-- adding a group to another of the same place is merging them
pub added_is_merged : (g old new : Group) → group_cmp old g ≡ Equal → new.start ≡ old.start → new.keys ≡ old.keys → new.parts ≡ joined_parts old.parts g.parts → new ≡ merge_of g old
added_is_merged g old new e start keys parts =
    let place = group_cmp-place old g e in
    let made : ℤ → List (Option ℤ) → List Summary → Group = λ s ks ps. record { start = s; keys = ks; parts = ps } in
    ap (λ s. made s new.keys new.parts) (start ∙ place.0) ∙ ap (λ ks. made g.start ks new.parts) (keys ∙ place.1) ∙ ap (λ ps. made g.start g.keys ps) (parts ∙ joined_parts_comm old.parts g.parts)

pub ordered-taken : (g : Group) (gs : List Group) (at : ℕ) (old new : Group) → IsAt g gs at → old ≡ get_or gs at old → new.start ≡ old.start → new.keys ≡ old.keys → new.parts ≡ joined_parts old.parts g.parts → in_group_order (set gs at new) ≡ with_group g (in_group_order gs)
ordered-taken g gs at old new place is start keys parts =
    let tied : group_cmp old g ≡ Equal = ap (λ x. group_cmp x g) is ∙ place.same old in
    let whole : new ≡ merge_of g (get_or gs at old) = added_is_merged g old new tied start keys parts ∙ ap (merge_of g) is in
    ap (λ x. in_group_order (set gs at x)) whole ∙ ordered-set gs at g old place.within (place.same old)

-- ---- rows in order

-- a group inserted first may be inserted last
group_last : (g : Group) (gs hs : List Group) → with_group g (with_groups gs hs) ≡ with_groups gs (with_group g hs)
group_last g [] hs = refl
group_last g (x ∷ gs) hs = with_group-commutes g x (with_groups gs hs) ∙ ap (with_group x) (group_last g gs hs)

pub rows_step : (passes : List Datum → Bool) (own : List Datum → Group) (cells : List Datum) (rows : List (List Datum)) (groups : List Group) → with_rows passes own (cells ∷ rows) groups ≡ with_rows passes own rows (taken_in passes own cells groups)
rows_step passes own cells rows groups =
    by_test (passes cells)
    (λ e. rw e (group_last (own cells) (map own (filter passes rows)) groups))
    (λ e. rw e refl)

-- ---- one more row

module _ (shape : Shape) (b : ℤ) (cells : List Datum) (gs : List CellGroup) where
  -- the place of a row's group among the stored groups
  place_kept : (at : ℕ) (was : CellGroup) → IsRowAt shape b cells gs at → IsAt (cells_at shape b cells) (as_groups shape gs) at
  place_kept at was place = record {
    within = let many = length-map gs (as_group shape) in let inside = place.within in omega (arith, many, inside);
    same = λ d. ap (λ x. group_cmp x (cells_at shape b cells)) (get_or-map (as_group shape) gs at was d place.within) ∙ place.same was;
  }

  -- a row in its group
  pub ordered-row : (at : ℕ) (was now : CellGroup) → IsRowAt shape b cells gs at → was ≡ get_or gs at was
      → now.start ≡ was.start → now.first ≡ was.first → parts_of shape.aggs now ≡ joined_parts (parts_of shape.aggs was) (as_parts shape.aggs (row_tallies shape.aggs cells))
      → in_group_order (as_groups shape (set gs at now)) ≡ with_group (cells_at shape b cells) (in_group_order (as_groups shape gs))
  ordered-row at was now place is start first parts =
      let before : as_group shape was ≡ get_or (as_groups shape gs) at (as_group shape was) = ap (as_group shape) is ∙ sym (get_or-map (as_group shape) gs at was (as_group shape was) place.within) in
      ap in_group_order (map-set (as_group shape) gs at now)
      ∙ ordered-taken (cells_at shape b cells) (as_groups shape gs) at (as_group shape was) (as_group shape now) (place_kept at was place) before start (ap (keys_at shape.keys) first)
      (parts ∙ ap (joined_parts (parts_of shape.aggs was)) (as_row shape.aggs cells))

  -- the group of a row, after the others
  pub ordered-new : (g : CellGroup) → as_group shape g ≡ cells_at shape b cells → in_group_order (as_groups shape (gs ++ g ∷ [])) ≡ with_group (cells_at shape b cells) (in_group_order (as_groups shape gs))
  ordered-new g is =
      ap in_group_order (map-append (as_group shape) gs (g ∷ []))
      ∙ ordered-push (as_groups shape gs) (as_group shape g)
      ∙ ap (λ x. with_group x (in_group_order (as_groups shape gs))) is

  -- groups that are in order stay so
  pub order-row : (at : ℕ) (was now : CellGroup) → IsRowAt shape b cells gs at → was ≡ get_or gs at was → now.start ≡ was.start → now.first ≡ was.first
      → AreInOrder (as_groups shape gs) → AreInOrder (as_groups shape (set gs at now))
  order-row at was now place is start first up =
      let before : as_group shape was ≡ get_or (as_groups shape gs) at (as_group shape was) = ap (as_group shape) is ∙ sym (get_or-map (as_group shape) gs at was (as_group shape was) place.within) in
      subst AreInOrder (sym (map-set (as_group shape) gs at now))
      (order_set (as_groups shape gs) at (as_group shape now) (as_group shape was) (place_kept at was place).within
      (start ∙ ap (λ (g : Group). g.start) before) (ap (keys_at shape.keys) first ∙ ap (λ (g : Group). g.keys) before) up)

  pub order-new : (g : CellGroup) → as_group shape g ≡ cells_at shape b cells → ComesLast shape b cells gs → AreInOrder (as_groups shape gs) → AreInOrder (as_groups shape (gs ++ g ∷ []))
  order-new g is last up = subst AreInOrder (sym (map-append (as_group shape) gs (g ∷ []))) (order_last shape b cells gs g is last up)

  -- groups of this many rows are groups of one more row
  module _ (n : ℕ) (rows : AreOfRows n (as_groups shape gs)) (words : ShowWords cells) where
    pub few-row : (at : ℕ) (was now : CellGroup) → IsRowAt shape b cells gs at → was ≡ get_or gs at was
        → parts_of shape.aggs now ≡ joined_parts (parts_of shape.aggs was) (as_parts shape.aggs (row_tallies shape.aggs cells)) → AreOfRows (n + 1) (as_groups shape (set gs at now))
    few-row at was now place is parts =
        let before : as_group shape was ≡ get_or (as_groups shape gs) at (as_group shape was) = ap (as_group shape) is ∙ sym (get_or-map (as_group shape) gs at was (as_group shape was) place.within) in
        subst (AreOfRows (n + 1)) (sym (map-set (as_group shape) gs at now))
        (rows_set n (as_groups shape gs) at (as_group shape now) (as_group shape was) (row_needs shape.aggs cells) rows (place_kept at was place).within
        (parts ∙ ap (joined_parts (parts_of shape.aggs was)) (as_row shape.aggs cells) ∙ ap (λ (g : Group). joined_parts g.parts (row_needs shape.aggs cells)) before)
        (row_taken shape.aggs cells) (row_words shape.aggs cells words))

    pub few-new : (g : CellGroup) → as_group shape g ≡ cells_at shape b cells → AreOfRows (n + 1) (as_groups shape (gs ++ g ∷ []))
    few-new g is =
        subst (AreOfRows (n + 1)) (sym (map-append (as_group shape) gs (g ∷ []) ∙ ap (λ x. as_groups shape gs ++ x ∷ []) is))
        (rows_pushed n (as_groups shape gs) (cells_at shape b cells) rows (row_taken shape.aggs cells) (row_words shape.aggs cells words))

    -- and the row can be kept
    pub kept-row : (at : ℕ) (was : CellGroup) → IsRowAt shape b cells gs at → was ≡ get_or gs at was → n + 1 < 2 ^ 64
        → AllByRecursion CanBeKept (joined_parts (parts_of shape.aggs was) (as_parts shape.aggs (row_tallies shape.aggs cells)))
    kept-row at was place is few =
        let before : as_group shape was ≡ get_or (as_groups shape gs) at (as_group shape was) = ap (as_group shape) is ∙ sym (get_or-map (as_group shape) gs at was (as_group shape was) place.within) in
        subst (AllByRecursion CanBeKept) (ap (λ (g : Group). joined_parts g.parts (row_needs shape.aggs cells)) (sym before) ∙ ap (joined_parts (parts_of shape.aggs was)) (sym (as_row shape.aggs cells)))
        (row_kept n (as_groups shape gs) at (as_group shape was) (row_needs shape.aggs cells) rows (place_kept at was place).within few (row_taken shape.aggs cells) (row_words shape.aggs cells words))

-- the group of one row
pub alone_is : (shape : Shape) (b : ℤ) (cells : List Datum) (g : CellGroup) → g.start ≡ b → g.first ≡ cells → g.tallies ≡ None → as_group shape g ≡ cells_at shape b cells
alone_is shape b cells g start first none =
    let made : ℤ → List (Option ℤ) → List Summary → Group = λ s ks ps. record { start = s; keys = ks; parts = ps } in
    let parts : parts_of shape.aggs g ≡ row_needs shape.aggs g.first =
    ap (λ (o : Option (List Tally)). as_parts shape.aggs (unwrap_or o (row_tallies shape.aggs g.first))) none ∙ as_row shape.aggs g.first in
    ap (λ s. made s (keys_at shape.keys g.first) (parts_of shape.aggs g)) start
    ∙ ap (made b (keys_at shape.keys g.first)) parts
    ∙ ap (λ cs. made b (keys_at shape.keys cs) (row_needs shape.aggs cs)) first

-- without rows there are no groups
pub none_gathered : (shape : Shape) (gathered : CellGroups) → gathered.groups.items ≡ [] → AreGathered shape gathered
none_gathered shape gathered none = record {
  tallies = subst (HaveTallies shape.aggs) (sym none) tt;
  order = λ e. subst (λ gs. AreInOrder (as_groups shape gs)) (sym none) (none_in_order [] (omega arith));
}

pub none_of_rows : (n : ℕ) (shape : Shape) (gs : List CellGroup) → gs ≡ [] → AreOfRows n (as_groups shape gs)
none_of_rows n shape gs none = subst (λ xs. AreOfRows n (as_groups shape xs)) (sym none) (record { few = omega arith; words = tt })
