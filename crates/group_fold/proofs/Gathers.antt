-- Groups in any order: these groups after one more row, and that they can be put in order.
use Rattle.std.proofs.Common.{◌≡◌, ℕ, zero, suc, ◌+◌, ◌-◌, ◌^◌, ◌<◌, ◌≤◌, true, false, List, [], ◌∷◌, ◌++◌, length, get_or, set, take, drop, Option, ℤ, sym, refl, ap, ◌∙◌, subst, arith}
use Rattle.std.specs.List.{AllByRecursion, insert}
use Rattle.std.specs.List.Sorted.{IsPermutation, IsStrictlySortedBy}
use Rattle.std.proofs.lemmas.List.Sorted.{All-permutation}
use Rattle.std.proofs.lemmas.List.Elements.{All-from_recursion, recursion_from_All}
use Rattle.std.specs.declared.cmp.Ordering.TheVariants.{Less, Equal}
use Rattle.std.proofs.lemmas.List.{append_assoc, get_or_default, length-append, take_more}
use Rattle.ts_schema.specs.declared.rows.Row.{Row}
use Rattle.ts_schema.specs.Conditions.{passes_all}
use Rattle.ts_bucket.specs.Bucket.{IsWidth}
use Rattle.ts_model.specs.declared.views.Agg.{Agg}
use Rattle.ts_model.specs.declared.views.Fold.{Fold}
use Rattle.partial_agg.specs.declared.groups.Group.{Group}
use Rattle.partial_agg.specs.Summaries.{Summary}
use Rattle.partial_agg.specs.Groups.{group_cmp, AreInOrder}
use Rattle.partial_agg.proofs.GroupLaws.{group_cmp_total, group_cmp-place}
use Rattle.group_fold.specs.Grouping.{row_group, row_parts}
use Rattle.ts_model.specs.Groups.{groups_of}
use Rattle.group_fold.specs.Blocks.{group_with_row}
use Rattle.group_fold.specs.Merging.{CanJoin, PartsFit, FitTogether, joined_parts, merge_of, with_group, with_groups}
use Rattle.group_fold.specs.Gathering.{IsAt, IsBelow, in_group_order, most_counted, total_rows, HaveParts, parts_each, CanOrder, HasRoom, IsGathered, Takes}
use Rattle.group_fold.proofs.Insertions.{by_order, equal_back, joined_parts_comm, with_group-commutes, with_group-front, with_group-twice, with_groups-with_group}
use Rattle.group_fold.proofs.RowGroups.{groups_of-push, sorted-with_groups}
use Rattle.group_fold.proofs.Counts.{length-row_parts}
use Rattle.group_fold.proofs.CutRows.{take_drop}
use Rattle.group_fold.proofs.Occurring.{all_above}
use Rattle.group_fold.proofs.AnyOrder.{gathered, gathered-permuted}
use Rattle.ts_schema.proofs.Cases.{all_weaker}

-- ---- one more group, or one merged with another

ordered-insert : (gs : List Group) (at : ℕ) (g : Group) → at ≤ length gs → in_group_order (insert gs at g) ≡ with_group g (in_group_order gs)
ordered-insert gs zero g h = refl
ordered-insert [] (suc at) g h = absurd (omega arith)
ordered-insert (x ∷ gs) (suc at) g h = ap (with_group x) (ordered-insert gs at g (omega arith)) ∙ with_group-commutes x g (in_group_order gs)

ordered-set : (gs : List Group) (at : ℕ) (g d : Group) → at < length gs → group_cmp (get_or gs at d) g ≡ Equal → in_group_order (set gs at (merge_of g (get_or gs at d))) ≡ with_group g (in_group_order gs)
ordered-set [] at g d h e = absurd (omega arith)
ordered-set (x ∷ gs) zero g d h e = with_group-twice g x (in_group_order gs) (equal_back x g e)
ordered-set (x ∷ gs) (suc at) g d h e = ap (with_group x) (ordered-set gs at g d (omega arith) e) ∙ with_group-commutes x g (in_group_order gs)

ordered-append : (gs hs : List Group) → in_group_order (gs ++ hs) ≡ with_groups (in_group_order gs) (in_group_order hs)
ordered-append [] hs = refl
ordered-append (g ∷ gs) hs = ap (with_group g) (ordered-append gs hs) ∙ sym (with_groups-with_group g (in_group_order gs) (in_group_order hs))

-- adding a group to another of the same place is merging them
added_is_merged : (g old new : Group) → group_cmp old g ≡ Equal → new.start ≡ old.start → new.keys ≡ old.keys → new.parts ≡ joined_parts old.parts g.parts → new ≡ merge_of g old
added_is_merged g old new e start keys parts =
    let place = group_cmp-place old g e in
    let made : ℤ → List (Option ℤ) → List Summary → Group = λ s ks ps. record { start = s; keys = ks; parts = ps } in
    ap (λ s. made s new.keys new.parts) (start ∙ place.0) ∙ ap (λ ks. made g.start ks new.parts) (keys ∙ place.1) ∙ ap (λ ps. made g.start g.keys ps) (parts ∙ joined_parts_comm old.parts g.parts)

-- ---- counts

most-joined : (ps qs : List Summary) → most_counted (joined_parts ps qs) ≤ most_counted ps + most_counted qs
most-joined [] qs = omega arith
most-joined (p ∷ ps) [] = omega arith
most-joined (p ∷ ps) (q ∷ qs) = omega (arith, most-joined ps qs)

most-row_parts : (aggs : List Agg) (row : Row) → most_counted (row_parts aggs row) ≤ 1
most-row_parts [] row = omega arith
most-row_parts (agg ∷ aggs) row = omega (arith, most-row_parts aggs row)

counted-append : (gs hs : List Group) → total_rows (gs ++ hs) ≡ total_rows gs + total_rows hs
counted-append [] hs = omega arith
counted-append (g ∷ gs) hs = omega (arith, counted-append gs hs)

counted-insert : (gs : List Group) (at : ℕ) (g : Group) → at ≤ length gs → total_rows (insert gs at g) ≡ most_counted g.parts + total_rows gs
counted-insert gs zero g h = omega arith
counted-insert [] (suc at) g h = absurd (omega arith)
counted-insert (x ∷ gs) (suc at) g h = omega (arith, counted-insert gs at g (omega arith))

counted-set : (gs : List Group) (at : ℕ) (new d : Group) (n : ℕ) → at < length gs → most_counted new.parts ≤ most_counted (get_or gs at d).parts + n → total_rows (set gs at new) ≤ total_rows gs + n
counted-set [] at new d n h le = absurd (omega arith)
counted-set (x ∷ gs) zero new d n h le = omega (arith, le)
counted-set (x ∷ gs) (suc at) new d n h le = omega (arith, counted-set gs at new d n (omega arith) le)

counted_at : (gs : List Group) (at : ℕ) (d : Group) → at < length gs → most_counted (get_or gs at d).parts ≤ total_rows gs
counted_at [] at d h = absurd (omega arith)
counted_at (x ∷ gs) zero d h = omega arith
counted_at (x ∷ gs) (suc at) d h = omega (arith, counted_at gs at d (omega arith))

counted-with_group : (g : Group) (xs : List Group) → total_rows (with_group g xs) ≤ most_counted g.parts + total_rows xs
counted-with_group g [] = omega arith
counted-with_group g (x ∷ xs) =
    by_order (group_cmp g x)
    (λ e. rw e (omega arith))
    (λ e. rw e (omega (arith, most-joined g.parts x.parts)))
    (λ e. rw e (omega (arith, counted-with_group g xs)))

counted-with_groups : (gs hs : List Group) → total_rows (with_groups gs hs) ≤ total_rows gs + total_rows hs
counted-with_groups [] hs = omega arith
counted-with_groups (g ∷ gs) hs = omega (arith, counted-with_group g (with_groups gs hs), counted-with_groups gs hs)

counts_under : (bound : ℕ) (ps : List Summary) → most_counted ps < bound → AllByRecursion (λ p. p.count < bound) ps
counts_under bound [] h = tt
counts_under bound (p ∷ ps) h = (omega (arith, h), counts_under bound ps (omega (arith, h)))

parts_fit_together : (ps qs : List Summary) → length ps ≡ length qs → most_counted ps + most_counted qs < 2 ^ 62 → PartsFit ps qs
parts_fit_together [] [] e h = tt
parts_fit_together [] (q ∷ qs) e h = absurd (omega (arith, e))
parts_fit_together (p ∷ ps) [] e h = absurd (omega (arith, e))
parts_fit_together (p ∷ ps) (q ∷ qs) e h = (omega (arith, h), parts_fit_together ps qs (omega (arith, e)) (omega (arith, h)))

-- ---- numbers of parts

length-joined : (ps qs : List Summary) (n : ℕ) → length ps ≡ n → length qs ≡ n → length (joined_parts ps qs) ≡ n
length-joined [] qs n p q = p
length-joined (x ∷ ps) [] n p q = absurd (omega (arith, p, q))
length-joined (x ∷ ps) (y ∷ qs) zero p q = absurd (omega (arith, p))
length-joined (x ∷ ps) (y ∷ qs) (suc n) p q = ap suc (length-joined ps qs n (omega (arith, p)) (omega (arith, q)))

parts-append : (n : ℕ) (gs hs : List Group) → HaveParts n gs → HaveParts n hs → HaveParts n (gs ++ hs)
parts-append n [] hs p q = q
parts-append n (g ∷ gs) hs p q = (p.0, parts-append n gs hs p.1 q)

parts-insert : (n : ℕ) (gs : List Group) (at : ℕ) (g : Group) → HaveParts n gs → length g.parts ≡ n → HaveParts n (insert gs at g)
parts-insert n gs zero g p q = (q, p)
parts-insert n [] (suc at) g p q = (q, p)
parts-insert n (x ∷ gs) (suc at) g p q = (p.0, parts-insert n gs at g p.1 q)

parts-set : (n : ℕ) (gs : List Group) (at : ℕ) (new : Group) → HaveParts n gs → length new.parts ≡ n → HaveParts n (set gs at new)
parts-set n [] at new p q = p
parts-set n (g ∷ gs) zero new p q = (q, p.1)
parts-set n (g ∷ gs) (suc at) new p q = (p.0, parts-set n gs at new p.1 q)

parts_at : (n : ℕ) (gs : List Group) (at : ℕ) (d : Group) → HaveParts n gs → at < length gs → length (get_or gs at d).parts ≡ n
parts_at n [] at d p h = absurd (omega arith)
parts_at n (g ∷ gs) zero d p h = p.0
parts_at n (g ∷ gs) (suc at) d p h = parts_at n gs at d p.1 (omega arith)

parts-with_group : (n : ℕ) (g : Group) (xs : List Group) → length g.parts ≡ n → HaveParts n xs → HaveParts n (with_group g xs)
parts-with_group n g [] p q = (p, tt)
parts-with_group n g (x ∷ xs) p q =
    by_order (group_cmp g x)
    (λ e. rw e (p, q))
    (λ e. rw e (length-joined g.parts x.parts n p q.0, q.1))
    (λ e. rw e (q.0, parts-with_group n g xs p q.1))

parts-ordered : (n : ℕ) (gs : List Group) → HaveParts n gs → HaveParts n (in_group_order gs)
parts-ordered n [] p = tt
parts-ordered n (g ∷ gs) p = parts-with_group n g (in_group_order gs) p.0 (parts-ordered n gs p.1)

parts-take : (n k : ℕ) (gs : List Group) → HaveParts n gs → HaveParts n (take k gs)
parts-take n zero gs p = tt
parts-take n (suc k) [] p = tt
parts-take n (suc k) (g ∷ gs) p = (p.0, parts-take n k gs p.1)

parts-drop : (n k : ℕ) (gs : List Group) → HaveParts n gs → HaveParts n (drop k gs)
parts-drop n zero gs p = p
parts-drop n (suc k) [] p = p
parts-drop n (suc k) (g ∷ gs) p = parts-drop n k gs p.1

-- ---- one row added

-- the group of a row, inserted anywhere
pub takes_alone : (fold : Fold) (row : Row) (old new : List Group) (at : ℕ) (g : Group) → at ≤ length old → new ≡ insert old at g → g ≡ row_group fold row → HasRoom 1 fold old → Takes fold row old new
takes_alone fold row old new at g within is alone room =
    let whole : new ≡ insert old at (row_group fold row) = is ∙ ap (insert old at) alone in
    let few : total_rows new ≡ most_counted (row_parts fold.aggs row) + total_rows old = ap total_rows whole ∙ counted-insert old at (row_group fold row) within in
    record {
      groups_are = ap in_group_order whole ∙ ordered-insert old at (row_group fold row) within;
      alike = subst (HaveParts (length fold.aggs)) (sym whole) (parts-insert (length fold.aggs) old at (row_group fold row) room.alike (length-row_parts fold.aggs row));
      few = omega (arith, few, most-row_parts fold.aggs row);
    }

-- a row in its group
takes_merged : (fold : Fold) (row : Row) (old new : List Group) (at : ℕ) (was now : Group) → IsAt (row_group fold row) old at → was ≡ get_or old at was → new ≡ set old at now
    → now.start ≡ was.start → now.keys ≡ was.keys → now.parts ≡ joined_parts was.parts (row_parts fold.aggs row) → HasRoom 1 fold old → Takes fold row old new
takes_merged fold row old new at was now place was_is is start keys parts room =
    let g = row_group fold row in
    let tied : group_cmp was g ≡ Equal = subst (λ x. group_cmp x g ≡ Equal) (sym was_is) (place.same was) in
    let whole : now ≡ merge_of g (get_or old at was) = added_is_merged g was now tied start keys parts ∙ ap (merge_of g) was_is in
    let many : length was.parts ≡ length fold.aggs = ap (λ (x : Group). length x.parts) was_is ∙ parts_at (length fold.aggs) old at was room.alike place.within in
    let count : most_counted now.parts ≤ most_counted (get_or old at was).parts + 1 =
    omega (arith, ap most_counted parts, most-joined was.parts (row_parts fold.aggs row), most-row_parts fold.aggs row, ap (λ (x : Group). most_counted x.parts) was_is) in
    record {
      groups_are = ap in_group_order (is ∙ ap (set old at) whole) ∙ ordered-set old at g was place.within (place.same was);
      alike = subst (HaveParts (length fold.aggs)) (sym is) (parts-set (length fold.aggs) old at now room.alike (ap length parts ∙ length-joined was.parts (row_parts fold.aggs row) (length fold.aggs) many (length-row_parts fold.aggs row)));
      few = omega (arith, ap total_rows is, counted-set old at now was 1 place.within count);
    }

-- the same, if the group with the row replaces the one at its place
pub takes_grown : (fold : Fold) (row : Row) (old new : List Group) (at : ℕ) → IsAt (row_group fold row) old at → new ≡ set old at (group_with_row fold row (get_or old at (row_group fold row))) → HasRoom 1 fold old → Takes fold row old new
takes_grown fold row old new at place is room =
    let was = get_or old at (row_group fold row) in
    takes_merged fold row old new at was (group_with_row fold row was) place (get_or_default old at (row_group fold row) was place.within) is refl refl refl room

-- if a row fits, it fits each group
room_at : (fold : Fold) (groups : List Group) (at : ℕ) (g : Group) → at < length groups → g ≡ get_or groups at g → HasRoom 1 fold groups → IsBelow (2 ^ 62 - 1) fold g
room_at fold groups at g within is room =
    let few : most_counted g.parts < 2 ^ 62 - 1 = omega (arith, ap (λ (x : Group). most_counted x.parts) is, counted_at groups at g within, room.few) in
    (ap (λ (x : Group). length x.parts) is ∙ parts_at (length fold.aggs) groups at g room.alike within, counts_under (2 ^ 62 - 1) g.parts few)

pub room_each : (fold : Fold) (groups : List Group) (at : ℕ) → at < length groups → HasRoom 1 fold groups → (d : Group) → IsBelow (2 ^ 62 - 1) fold (get_or groups at d)
room_each fold groups at within room d =
    room_at fold groups at (get_or groups at d) within (get_or_default groups at d (get_or groups at d) within) room

-- ---- rows added

pub none_gathered : (fold : Fold) → IsGathered fold [] []
none_gathered fold = record { groups_are = refl; alike = tt; few = omega arith }

module _ (fold : Fold) (wide : IsWidth fold.width) (before rows : List Row) (i : ℕ) (row : Row) (h : i < length rows) (is : row ≡ get_or rows i row) where
  one_more : before ++ take (i + 1) rows ≡ (before ++ take i rows) ++ row ∷ []
  one_more = ap (λ xs. before ++ xs) (take_more rows i row h ∙ ap (λ x. take i rows ++ x ∷ []) (sym is)) ∙ sym (append_assoc before (take i rows) (row ∷ []))

  longer : length (before ++ take (i + 1) rows) ≡ suc (length (before ++ take i rows))
  longer = omega (arith, ap length one_more, length-append (before ++ take i rows) (row ∷ []))

  pub passed_gathered : (old new : List Group) → passes_all row fold.tests ≡ true → Takes fold row old new → IsGathered fold (before ++ take i rows) old → IsGathered fold (before ++ take (i + 1) rows) new
  passed_gathered old new pass takes was = record {
    groups_are = takes.groups_are ∙ (ap (with_group (row_group fold row)) was.groups_are ∙ (sym (rw pass refl) ∙ (sym (groups_of-push fold wide (before ++ take i rows) row) ∙ ap (groups_of fold) (sym one_more))));
    alike = takes.alike;
    few = omega (arith, takes.few, was.few, longer);
  }

  pub failed_gathered : (old new : List Group) → passes_all row fold.tests ≡ false → new ≡ old → IsGathered fold (before ++ take i rows) old → IsGathered fold (before ++ take (i + 1) rows) new
  failed_gathered old new fail same was = record {
    groups_are = ap in_group_order same ∙ (was.groups_are ∙ (sym (rw fail refl) ∙ (sym (groups_of-push fold wide (before ++ take i rows) row) ∙ ap (groups_of fold) (sym one_more))));
    alike = subst (HaveParts (length fold.aggs)) (sym same) was.alike;
    few = omega (arith, ap total_rows same, was.few, longer);
  }

-- ---- put in order

alike_each : (n : ℕ) (gs : List Group) → HaveParts n gs → HaveParts (parts_each gs) gs
alike_each n [] p = tt
alike_each n (g ∷ gs) p = (refl, all_weaker (λ (x : Group). length x.parts ≡ n) (λ (x : Group). length x.parts ≡ length g.parts) (λ x e. e ∙ sym p.0) gs p.1)

counted_cut : (k : ℕ) (gs : List Group) → total_rows (take k gs) + total_rows (drop k gs) ≡ total_rows gs
counted_cut k gs = sym (counted-append (take k gs) (drop k gs)) ∙ ap total_rows (take_drop k gs)

pub can_order : (n : ℕ) (gs : List Group) → HaveParts n gs → total_rows gs < 2 ^ 62 → CanOrder gs
can_order n gs alike few = record { alike = alike_each n gs alike; few = few }

pub front_ordered : (gs front : List Group) (k : ℕ) → front ≡ take k gs → CanOrder gs → CanOrder front
front_ordered gs front k is can = rw is (can_order (parts_each gs) (take k gs) (parts-take (parts_each gs) k gs can.alike) (omega (arith, counted_cut k gs, can.few)))

pub back_ordered : (gs back : List Group) (k : ℕ) → back ≡ drop k gs → CanOrder gs → CanOrder back
back_ordered gs back k is can = rw is (can_order (parts_each gs) (drop k gs) (parts-drop (parts_each gs) k gs can.alike) (omega (arith, counted_cut k gs, can.few)))

fits_one : (n : ℕ) (g : Group) (hs : List Group) → length g.parts ≡ n → HaveParts n hs → most_counted g.parts + total_rows hs < 2 ^ 62 → AllByRecursion (λ (h : Group). group_cmp g h ≡ Equal → PartsFit g.parts h.parts) hs
fits_one n g [] p q few = tt
fits_one n g (h ∷ hs) p q few = (λ e. parts_fit_together g.parts h.parts (p ∙ sym q.0) (omega (arith, few)), fits_one n g hs p q.1 (omega (arith, few)))

fits_all : (n : ℕ) (gs hs : List Group) → HaveParts n gs → HaveParts n hs → total_rows gs + total_rows hs < 2 ^ 62 → FitTogether gs hs
fits_all n [] hs p q few = tt
fits_all n (g ∷ gs) hs p q few = (fits_one n g hs p.0 q (omega (arith, few)), fits_all n gs hs p.1 q (omega (arith, few)))

pub can_join_ordered : (gs front back mine theirs : List Group) (k : ℕ) → front ≡ take k gs → back ≡ drop k gs → mine ≡ in_group_order front → theirs ≡ in_group_order back → CanOrder gs → CanJoin mine theirs
unfolding IsStrictlySortedBy
can_join_ordered gs front back mine theirs k f b m t can =
    let low = counted-with_groups (take k gs) [] in
    let low_too = counted-with_groups (drop k gs) [] in
    rw (m, t, f, b) (record {
      mine = sorted-with_groups (take k gs) [] tt;
      theirs = sorted-with_groups (drop k gs) [] tt;
      fit = fits_all (parts_each gs) (in_group_order (take k gs)) (in_group_order (drop k gs)) (parts-ordered (parts_each gs) (take k gs) (parts-take (parts_each gs) k gs can.alike))
          (parts-ordered (parts_each gs) (drop k gs) (parts-drop (parts_each gs) k gs can.alike)) (omega (arith, low, low_too, counted_cut k gs, can.few));
    })

pub joined_ordered : (gs front back mine theirs : List Group) (k : ℕ) → front ≡ take k gs → back ≡ drop k gs → mine ≡ in_group_order front → theirs ≡ in_group_order back → with_groups mine theirs ≡ in_group_order gs
joined_ordered gs front back mine theirs k f b m t =
    rw (m, t, f, b) (sym (ordered-append (take k gs) (drop k gs)) ∙ ap in_group_order (take_drop k gs))

-- one group, or none, is in order
pub few_ordered : (gs : List Group) → length gs < 2 → gs ≡ in_group_order gs
few_ordered [] h = refl
few_ordered (g ∷ []) h = refl
few_ordered (g ∷ x ∷ gs) h = absurd (omega arith)

-- groups in order stay as they are
pub ordered_already : (gs : List Group) → AreInOrder gs → in_group_order gs ≡ gs
unfolding IsStrictlySortedBy
ordered_already [] h = refl
ordered_already (g ∷ gs) h = ap (with_group g) (ordered_already gs h.1) ∙ with_group-front g gs h.0

-- groups in order, with one in front that is before the first of them
pub in_front : (g h : Group) (gs : List Group) → group_cmp g h ≡ Less → AreInOrder (h ∷ gs) → AreInOrder (g ∷ h ∷ gs)
unfolding IsStrictlySortedBy
in_front g h gs less sorted = ((less, all_above group_cmp group_cmp_total g h gs less sorted.0), sorted)

pub none_in_order : (gs : List Group) → length gs < 1 → AreInOrder gs
unfolding IsStrictlySortedBy
none_in_order [] h = tt
none_in_order (g ∷ gs) h = absurd (omega arith)

pub before_none : (g : Group) (gs : List Group) → length gs < 1 → AreInOrder (g ∷ gs)
unfolding IsStrictlySortedBy
before_none g [] h = (tt, tt)
before_none g (x ∷ gs) h = absurd (omega arith)

pub before_next : (g x : Group) (gs : List Group) → 1 ≤ length gs → x ≡ get_or gs 0 x → group_cmp g x ≡ Less → AreInOrder gs → AreInOrder (g ∷ gs)
before_next g x [] h is less sorted = absurd (omega arith)
before_next g x (y ∷ gs) h is less sorted = in_front g y gs (ap (group_cmp g) (sym is) ∙ less) sorted

-- groups in another order can be put in order as well
abbrev add_count : Group → ℕ → ℕ
add_count g n = most_counted g.parts + n

add_count-commutes : (g h : Group) (n : ℕ) → add_count g (add_count h n) ≡ add_count h (add_count g n)
add_count-commutes g h n = omega arith

counted_gathered : (gs : List Group) → total_rows gs ≡ gathered add_count 0 add_count-commutes gs
counted_gathered [] = refl
counted_gathered (g ∷ gs) = ap (add_count g) (counted_gathered gs)

pub permuted_ordered : (gs hs : List Group) → IsPermutation gs hs → CanOrder gs → CanOrder hs
permuted_ordered gs hs p can =
    let each : Group → Type 0 = λ g. length g.parts ≡ parts_each gs in
    let alike : HaveParts (parts_each gs) hs = recursion_from_All each hs (All-permutation each gs hs p (All-from_recursion each gs can.alike)) in
    let same : total_rows hs ≡ total_rows gs = counted_gathered hs ∙ (sym (gathered-permuted add_count 0 add_count-commutes gs hs p) ∙ sym (counted_gathered gs)) in
    can_order (parts_each gs) hs alike (omega (arith, same, can.few))
