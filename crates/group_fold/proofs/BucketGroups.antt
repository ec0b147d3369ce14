-- Groups of some of the rows, and of some of the buckets.
use Rattle.std.proofs.Common.{◌≡◌, Bool, true, false, cond, ◌&&◌, ◌||◌, map, List, [], ◌∷◌, ◌++◌, ℤ, pos, ◌+ℤ◌, ◌≤ℤ◌, ◌<ℤ◌, Option, Some, None, refl, sym, ap, ◌∙◌, subst, arith}
use Rattle.std.specs.List.{AllByRecursion, filter, flat_map, list_all, list_any}
use Rattle.std.specs.List.Sorted.{IsStrictlySortedBy}
use Rattle.std.specs.Ordering.{int_cmp, int_eq, is_eq, is_gt}
use Rattle.std.specs.declared.cmp.Ordering.TheVariants.{Less, Equal, Greater}
use Rattle.std.proofs.lemmas.Int.{ints, clamps}
use Rattle.std.proofs.lemmas.Bool.Decides.{Decides-int_eq}
use Rattle.std.specs.Prelude.{int_lt, int_le}
use Rattle.std.proofs.lemmas.Cmp.{int_cmp_total}
use Rattle.std.proofs.lemmas.List.Elements.{filter-append}
use Rattle.ts_num.specs.Aggregates.{greater}
use Rattle.ts_schema.specs.declared.rows.Row.{Row}
use Rattle.ts_schema.specs.Rows.{row_cmp}
use Rattle.ts_schema.specs.Conditions.{passes_all}
use Rattle.ts_bucket.specs.Bucket.{IsWidth, is_bucket, is_time, bucket_of, first_of, min_time, max_time}
use Rattle.ts_bucket.proofs.BucketLaws.{bucket_of_meets}
use Rattle.ts_bucket.specs.Ranges.{lies_in, is_asked}
use Rattle.ts_bucket.specs.Spans.{in_span}
use Rattle.ts_bucket.specs.declared.widths.Width.{Width}
use Rattle.ts_model.specs.declared.views.Fold.{Fold}
use Rattle.ts_model.specs.Rows.{with_row, in_order}
use Rattle.ts_model.specs.Groups.{group_at, bucket_groups, groups_in, groups_of}
use Rattle.ts_model.specs.Scratch.{bucket_rows, key_lists, occurring_buckets}
use Rattle.ts_model.proofs.RangeLaws.{RisingBuckets, among}
use Rattle.ts_model.proofs.SameRanges.{flat_map-buckets_in}
use Rattle.ts_model.specs.Jobs.{rows_of_spans}
use Rattle.ts_model.specs.Windows.{last_end}
use Rattle.partial_agg.specs.declared.groups.Group.{Group}
use Rattle.partial_agg.specs.Groups.{group_cmp, AreInOrder}
use Rattle.partial_agg.proofs.GroupLaws.{group_cmp_total, group_cmp-place, less_start}
use Rattle.group_fold.specs.Grouping.{row_group, IsOfTime}
use Rattle.group_fold.specs.Merging.{groups_with_row, with_group}
use Rattle.group_fold.specs.Laws.{OrderPlaysNoPart, GroupsOfSomeBuckets, GroupsOfSpans, GroupsOfOneBucket, SpansKeepGroups, GroupsOfAsked, LastGroupEnds, end_of_last}
use Rattle.group_fold.proofs.Insertions.{by_order, at_less, at_equal, at_greater, with_group-front}
use Rattle.group_fold.proofs.Occurring.{all_above, all-map, any-once, is_eq-swap, sorted-once}
use Rattle.group_fold.proofs.RowGroups.{all-with_group, groups_of-more, no_bucket_rows, sorted-groups_of, starts_are_buckets, taken-commutes}
use Rattle.group_fold.proofs.Scratches.{filter-all, filter-none, groups_of_bucket}
use Rattle.ts_schema.proofs.Cases.{by_test, and_first, and_second, all_weaker}
use Rattle.ts_model.proofs.FinishLaws.{greater_swap}

-- ---- the order of rows

groups_of-with_row : (fold : Fold) → IsWidth fold.width → (row : Row) (xs : List Row) → groups_of fold (with_row row xs) ≡ groups_of fold (row ∷ xs)
groups_of-with_row fold wide row [] = refl
groups_of-with_row fold wide row (x ∷ xs) =
    elim (is_gt (row_cmp row x)) as (λ b. groups_of fold (cond b (x ∷ with_row row xs) (row ∷ x ∷ xs)) ≡ groups_of fold (row ∷ x ∷ xs)) [
      | true ↦
          groups_of-more fold wide x (with_row row xs)
          ∙ (ap (groups_with_row fold x) (groups_of-with_row fold wide row xs ∙ groups_of-more fold wide row xs)
          ∙ (taken-commutes fold wide x row (groups_of fold xs)
          ∙ (ap (groups_with_row fold row) (sym (groups_of-more fold wide x xs)) ∙ sym (groups_of-more fold wide row (x ∷ xs)))))
      | false ↦ refl
    ]

groups_of-in_order : (fold : Fold) → IsWidth fold.width → (rows : List Row) → groups_of fold (in_order rows) ≡ groups_of fold rows
groups_of-in_order fold wide [] = refl
groups_of-in_order fold wide (row ∷ rows) =
    groups_of-with_row fold wide row (in_order rows)
    ∙ (groups_of-more fold wide row (in_order rows) ∙ (ap (groups_with_row fold row) (groups_of-in_order fold wide rows) ∙ sym (groups_of-more fold wide row rows)))

pub order_plays_no_part : OrderPlaysNoPart
order_plays_no_part fold xs ys wide same = sym (groups_of-in_order fold wide xs) ∙ (ap (groups_of fold) same ∙ groups_of-in_order fold wide ys)

-- ---- some buckets

module _ (test : ℤ → Bool) where
  passing-out : (g : Group) (xs : List Group) → test g.start ≡ false → filter (λ x. test x.start) (with_group g xs) ≡ filter (λ x. test x.start) xs
  passing-out g [] out = rw out refl
  passing-out g (x ∷ xs) out =
      by_order (group_cmp g x)
      (λ e. ap (filter (λ y. test y.start)) (at_less g x xs e) ∙ rw out refl)
      (λ e.
      let same : test x.start ≡ false = ap test (sym ((group_cmp-place g x e).0)) ∙ out in
      rw (e, out, same) refl)
      (λ e.
      ap (filter (λ y. test y.start)) (at_greater g x xs e)
      ∙ elim (test x.start) as (λ b. cond b (x ∷ filter (λ y. test y.start) (with_group g xs)) (filter (λ y. test y.start) (with_group g xs)) ≡ cond b (x ∷ filter (λ y. test y.start) xs) (filter (λ y. test y.start) xs)) [
        | true ↦ ap (λ ys. x ∷ ys) (passing-out g xs out)
        | false ↦ passing-out g xs out
      ])

  all-filter : (P : Group → Type 0) (xs : List Group) → AllByRecursion P xs → AllByRecursion P (filter (λ x. test x.start) xs)
  all-filter P [] h = tt
  all-filter P (x ∷ xs) h =
      elim (test x.start) as (λ b. AllByRecursion P (cond b (x ∷ filter (λ y. test y.start) xs) (filter (λ y. test y.start) xs))) [
        | true ↦ (h.0, all-filter P xs h.1)
        | false ↦ all-filter P xs h.1
      ]

  passing-in : (g : Group) (xs : List Group) → test g.start ≡ true → AreInOrder xs → filter (λ x. test x.start) (with_group g xs) ≡ with_group g (filter (λ x. test x.start) xs)
  unfolding IsStrictlySortedBy
  passing-in g [] pass sorted = rw pass refl
  passing-in g (x ∷ xs) pass sorted =
      by_order (group_cmp g x)
      (λ e.
      let above : AllByRecursion (λ y. group_cmp g y ≡ Less) (x ∷ xs) = (e, all_above group_cmp group_cmp_total g x xs e sorted.0) in
      ap (filter (λ y. test y.start)) (at_less g x xs e)
      ∙ (rw pass refl ∙ sym (with_group-front g (filter (λ y. test y.start) (x ∷ xs)) (all-filter (λ y. group_cmp g y ≡ Less) (x ∷ xs) above))))
      (λ e.
      let same : test x.start ≡ true = ap test (sym ((group_cmp-place g x e).0)) ∙ pass in
      rw (e, pass, same) (sym (at_equal g x (filter (λ y. test y.start) xs) e)))
      (λ e.
      ap (filter (λ y. test y.start)) (at_greater g x xs e)
      ∙ elim (test x.start) as (λ b. cond b (x ∷ filter (λ y. test y.start) (with_group g xs)) (filter (λ y. test y.start) (with_group g xs)) ≡ with_group g (cond b (x ∷ filter (λ y. test y.start) xs) (filter (λ y. test y.start) xs))) [
        | true ↦ ap (λ ys. x ∷ ys) (passing-in g xs pass sorted.1) ∙ sym (at_greater g x (filter (λ y. test y.start) xs) e)
        | false ↦ passing-in g xs pass sorted.1
      ])

pub groups_of_some_buckets : GroupsOfSomeBuckets
groups_of_some_buckets fold test [] wide = refl
groups_of_some_buckets fold test (row ∷ rows) wide =
    let rest : filter (λ g. test g.start) (groups_of fold rows) ≡ groups_of fold (filter (λ r. test (bucket_of fold.width r.at)) rows) = groups_of_some_buckets fold test rows wide in
    let kept = filter (λ (r : Row). test (bucket_of fold.width r.at)) rows in
    ap (filter (λ g. test g.start)) (groups_of-more fold wide row rows)
    ∙ by_test (test (bucket_of fold.width row.at))
    (λ inside.
    by_test (passes_all row fold.tests)
    (λ pass.
    rw (pass, inside) (passing-in test (row_group fold row) (groups_of fold rows) inside (sorted-groups_of fold wide rows) ∙ (ap (with_group (row_group fold row)) rest ∙ sym (groups_of-more fold wide row kept ∙ rw pass refl))))
    (λ fail. rw (fail, inside) (rest ∙ sym (groups_of-more fold wide row kept ∙ rw fail refl))))
    (λ outside.
    by_test (passes_all row fold.tests)
    (λ pass. rw (pass, outside) (passing-out test (row_group fold row) (groups_of fold rows) outside ∙ rest))
    (λ fail. rw (fail, outside) rest))

-- ---- the rows of spans

-- rows that fail a test of the fold have no effect
only_passing : (fold : Fold) (wide : IsWidth fold.width) (test : ℤ → Bool) (rows : List Row)
    → groups_of fold (filter (λ row. test (bucket_of fold.width row.at) && passes_all row fold.tests) rows) ≡ groups_of fold (filter (λ row. test (bucket_of fold.width row.at)) rows)
only_passing fold wide test [] = refl
only_passing fold wide test (row ∷ rows) =
    let some = filter (λ (r : Row). test (bucket_of fold.width r.at) && passes_all r fold.tests) rows in
    let kept = filter (λ (r : Row). test (bucket_of fold.width r.at)) rows in
    let rest : groups_of fold some ≡ groups_of fold kept = only_passing fold wide test rows in
    elim (test (bucket_of fold.width row.at)) as (λ t. groups_of fold (cond (t && passes_all row fold.tests) (row ∷ some) some) ≡ groups_of fold (cond t (row ∷ kept) kept)) [
      | true ↦
          by_test (passes_all row fold.tests)
          (λ pass.
          ap (λ t. groups_of fold (cond t (row ∷ some) some)) pass
          ∙ (groups_of-more fold wide row some ∙ (ap (groups_with_row fold row) rest ∙ sym (groups_of-more fold wide row kept))))
          (λ fail.
          let left_out : groups_with_row fold row (groups_of fold kept) ≡ groups_of fold kept = rw fail refl in
          ap (λ t. groups_of fold (cond t (row ∷ some) some)) fail ∙ (rest ∙ sym (groups_of-more fold wide row kept ∙ left_out)))
      | false ↦ rest
    ]

pub groups_of_spans : GroupsOfSpans
groups_of_spans fold spans rows wide = groups_of_some_buckets fold (lies_in spans) rows wide ∙ sym (only_passing fold wide (lies_in spans) rows)

pub groups_of_one_bucket : GroupsOfOneBucket
groups_of_one_bucket fold rows b wide p = groups_of_bucket fold wide rows b p

starts_there : (b x : ℤ) → int_eq x b ≡ true → x ≡ b
starts_there b x e = (Decides-int_eq x b).0 e

one_of_some : (test : ℤ → Bool) (b : ℤ) (gs : List Group) → filter (λ g. int_eq g.start b) (filter (λ g. test g.start) gs) ≡ cond (test b) (filter (λ g. int_eq g.start b) gs) []
one_of_some test b [] = elim (test b) as (λ t. ◌≡◌ {A = List Group} [] (cond t [] [])) [ true ↦ refl | false ↦ refl ]
one_of_some test b (g ∷ gs) =
    by_test (int_eq g.start b)
    (λ here.
    let same : test g.start ≡ test b = ap test (starts_there b g.start here) in
    by_test (test b)
    (λ inside.
    let at : test g.start ≡ true = same ∙ inside in
    let rest : filter (λ (x : Group). int_eq x.start b) (filter (λ (x : Group). test x.start) gs) ≡ filter (λ (x : Group). int_eq x.start b) gs = one_of_some test b gs ∙ ap (λ t. cond t (filter (λ (x : Group). int_eq x.start b) gs) []) inside in
    rw (at, here, inside) (ap (λ ys. g ∷ ys) rest))
    (λ outside.
    let at : test g.start ≡ false = same ∙ outside in
    let rest : filter (λ (x : Group). int_eq x.start b) (filter (λ (x : Group). test x.start) gs) ≡ [] = one_of_some test b gs ∙ ap (λ t. cond t (filter (λ (x : Group). int_eq x.start b) gs) []) outside in
    rw (at, outside) rest))
    (λ elsewhere.
    by_test (test g.start)
    (λ at. rw (at, elsewhere) (one_of_some test b gs))
    (λ at. rw (at, elsewhere) (one_of_some test b gs)))

pub spans_keep_groups : SpansKeepGroups
spans_keep_groups fold spans rows b wide p =
    sym (groups_of_bucket fold wide (rows_of_spans fold spans rows) b p)
    ∙ (ap (filter (λ g. int_eq g.start b)) (sym (groups_of_spans fold spans rows wide))
    ∙ (one_of_some (lies_in spans) b (groups_of fold rows) ∙ ap (λ gs. cond (lies_in spans b) gs []) (groups_of_bucket fold wide rows b p)))

-- ---- where the last group ends

abbrev greatest_end : Width → List Group → Option ℤ
greatest_end w [] = None
greatest_end w (g ∷ gs) = greater (Some (g.start +ℤ w.step)) (greatest_end w gs)

twice : (a b : Option ℤ) → greater a (greater a b) ≡ greater a b
twice None b = refl
twice (Some x) None = ap Some (omega (arith, ints, clamps))
twice (Some x) (Some y) = ap Some (omega (arith, ints, clamps))

end-with_group : (w : Width) (g : Group) (xs : List Group) → greatest_end w (with_group g xs) ≡ greater (Some (g.start +ℤ w.step)) (greatest_end w xs)
end-with_group w g [] = refl
end-with_group w g (x ∷ xs) =
    by_order (group_cmp g x)
    (λ e. ap (greatest_end w) (at_less g x xs e))
    (λ e.
    let same : g.start ≡ x.start = (group_cmp-place g x e).0 in
    ap (greatest_end w) (at_equal g x xs e)
    ∙ (sym (twice (Some (g.start +ℤ w.step)) (greatest_end w xs)) ∙ ap (λ s. greater (Some (g.start +ℤ w.step)) (greater (Some (s +ℤ w.step)) (greatest_end w xs))) same))
    (λ e.
    ap (greatest_end w) (at_greater g x xs e)
    ∙ (ap (greater (Some (x.start +ℤ w.step))) (end-with_group w g xs) ∙ greater_swap (Some (x.start +ℤ w.step)) (Some (g.start +ℤ w.step)) (greatest_end w xs)))

last_is_greatest : (w : Width) (gs : List Group) → AreInOrder gs → end_of_last w gs ≡ greatest_end w gs
unfolding IsStrictlySortedBy
last_is_greatest w [] sorted = refl
last_is_greatest w (g ∷ []) sorted = refl
last_is_greatest w (g ∷ h ∷ gs) sorted =
    last_is_greatest w (h ∷ gs) sorted.1 ∙ sym (lower (g.start +ℤ w.step) (h.start +ℤ w.step) (greatest_end w gs) (omega (arith, ints, less_start g h sorted.0.0)))
  where
    lower : (x y : ℤ) (c : Option ℤ) → x ≤ℤ y → greater (Some x) (greater (Some y) c) ≡ greater (Some y) c
    lower x y None le = ap Some (omega (arith, ints, clamps, le))
    lower x y (Some z) le = ap Some (omega (arith, ints, clamps, le))

ends_of_rows : (fold : Fold) (wide : IsWidth fold.width) (rows : List Row) → greatest_end fold.width (groups_of fold rows) ≡ last_end fold.width (filter (λ row. passes_all row fold.tests) rows)
ends_of_rows fold wide [] = refl
ends_of_rows fold wide (row ∷ rows) =
    ap (greatest_end fold.width) (groups_of-more fold wide row rows)
    ∙ by_test (passes_all row fold.tests)
    (λ pass. rw pass (end-with_group fold.width (row_group fold row) (groups_of fold rows) ∙ ap (greater (Some (bucket_of fold.width row.at +ℤ fold.width.step))) (ends_of_rows fold wide rows)))
    (λ fail. rw fail (ends_of_rows fold wide rows))

pub last_group_ends : LastGroupEnds
last_group_ends fold rows wide = last_is_greatest fold.width (groups_of fold rows) (sorted-groups_of fold wide rows) ∙ ends_of_rows fold wide rows

-- ---- the buckets requested

module _ (fold : Fold) (rows : List Row) (test : ℤ → Bool) where
  flat_filter : (bs : List ℤ) → filter (λ g. test g.start) (flat_map (groups_in fold rows) bs) ≡ flat_map (groups_in fold rows) (filter test bs)
  flat_filter [] = refl
  flat_filter (b ∷ bs) =
      filter-append (λ g. test g.start) (groups_in fold rows b) (flat_map (groups_in fold rows) bs)
      ∙ by_test (test b)
      (λ inside.
      rw inside (ap (λ gs. gs ++ filter (λ g. test g.start) (flat_map (groups_in fold rows) bs)) (filter-all (λ g. test g.start) (groups_in fold rows b) (all-map (λ g. test g.start ≡ true) (group_at fold b (bucket_rows fold b rows)) (λ q. inside) (key_lists fold (bucket_rows fold b rows))))
      ∙ ap (λ gs. groups_in fold rows b ++ gs) (flat_filter bs)))
      (λ outside.
      rw outside (ap (λ gs. gs ++ filter (λ g. test g.start) (flat_map (groups_in fold rows) bs)) (filter-none (λ g. test g.start) (groups_in fold rows b) (all-map (λ g. test g.start ≡ false) (group_at fold b (bucket_rows fold b rows)) (λ q. outside) (key_lists fold (bucket_rows fold b rows))))
      ∙ flat_filter bs))

rising_some : (w : Width) (test : ℤ → Bool) (low : ℤ) (bs : List ℤ) → IsStrictlySortedBy int_cmp bs → AllByRecursion (λ b. is_bucket w b ≡ true) bs → AllByRecursion (λ b. test b ≡ true → low ≤ℤ b) bs → RisingBuckets w low (filter test bs)
unfolding IsStrictlySortedBy
rising_some w test low [] sorted whole above = tt
rising_some w test low (b ∷ bs) sorted whole above =
    by_test (test b)
    (λ inside.
    rw inside (above.0 inside, whole.0, rising_some w test (b +ℤ pos 1) bs sorted.1 whole.1 (all_weaker (λ y. int_cmp b y ≡ Less) (λ y. test y ≡ true → (b +ℤ pos 1) ≤ℤ y) (λ y less _. after b y less) bs sorted.0)))
    (λ outside. rw outside (rising_some w test low bs sorted.1 whole.1 above.1))
  where
    after : (x y : ℤ) → int_cmp x y ≡ Less → (x +ℤ pos 1) ≤ℤ y
    after x y e =
        elim (int_lt x y) as (λ t. int_lt x y ≡ t → cond t Less (cond (int_lt y x) Greater Equal) ≡ Less → (x +ℤ pos 1) ≤ℤ y) [
          | true ↦ λ below f. grind (arith, ints, below)
          | false ↦ λ low f. absurd (elim (int_lt y x) as (λ t. cond t Greater Equal ≡ Less → ⊥) [ true ↦ λ g. cc | false ↦ λ g. cc ] f)
        ] refl e

among_filter : (test : ℤ → Bool) (c : ℤ) (bs : List ℤ) → among c (filter test bs) ≡ (test c && among c bs)
among_filter test c [] = elim (test c) as (λ t. false ≡ (t && false)) [ true ↦ refl | false ↦ refl ]
among_filter test c (b ∷ bs) =
    by_test (int_eq b c)
    (λ here.
    let same : test b ≡ test c = ap test ((Decides-int_eq b c).0 here) in
    by_test (test c)
    (λ inside. let at : test b ≡ true = same ∙ inside in rw (at, inside, here) refl)
    (λ outside. let at : test b ≡ false = same ∙ outside in rw (at, outside) (among_filter test c bs ∙ rw outside refl)))
    (λ elsewhere.
    by_test (test b)
    (λ at. rw (at, elsewhere) (among_filter test c bs))
    (λ at. rw (at, elsewhere) (among_filter test c bs)))

any_among : (b : ℤ) (bs : List ℤ) → list_any (λ x. is_eq (int_cmp b x)) bs ≡ among b bs
any_among b [] = refl
any_among b (x ∷ bs) = ap (λ t. t || list_any (λ y. is_eq (int_cmp b y)) bs) (is_eq-swap int_cmp int_cmp_total b x) ∙ ap (λ t. int_eq x b || t) (any_among b bs)

pub groups_of_asked : GroupsOfAsked
groups_of_asked fold starts rows wide =
    let asked : ℤ → Bool = is_asked fold.width starts in
    let occurring = occurring_buckets fold rows in
    let keys = map (λ (row : Row). bucket_of fold.width row.at) (filter (λ (row : Row). passes_all row fold.tests) rows) in
    let whole : AllByRecursion (λ b. is_bucket fold.width b ≡ true) occurring = starts_are_buckets fold wide rows in
    let above : AllByRecursion (λ b. asked b ≡ true → starts.lo ≤ℤ b) occurring = all_weaker (λ b. is_bucket fold.width b ≡ true) (λ b. asked b ≡ true → starts.lo ≤ℤ b) (λ b _ e. from_start b e) occurring whole in
    flat_map-buckets_in fold.width (groups_in fold rows) starts (filter asked occurring)
    (rising_some fold.width asked starts.lo occurring (sorted-once int_cmp int_cmp_total keys) whole above)
    (λ b e. and_first (asked b) (among b occurring) (sym (among_filter asked b occurring) ∙ e))
    (λ b e none.
    let absent : among b occurring ≡ false = sym (rw e refl) ∙ (sym (among_filter asked b occurring) ∙ none) in
    ap (bucket_groups fold b) (no_bucket_rows fold b wide (bucket_asked b e) rows (sym (any-once int_cmp int_cmp_total b keys) ∙ (any_among b occurring ∙ absent))))
    ∙ sym (flat_filter fold rows asked occurring)
  where
    from_start : (b : ℤ) → is_asked fold.width starts b ≡ true → starts.lo ≤ℤ b
    from_start b e = grind (arith, ints, and_first (int_le starts.lo b) (int_lt b starts.hi) (and_first (in_span starts b) (is_bucket fold.width b && int_le (first_of fold.width) b) e))

    bucket_asked : (b : ℤ) → is_asked fold.width starts b ≡ true → is_bucket fold.width b ≡ true
    bucket_asked b e = and_first (is_bucket fold.width b) (int_le (first_of fold.width) b) (and_second (in_span starts b) (is_bucket fold.width b && int_le (first_of fold.width) b) e)

-- ---- the times of groups

row_of_time : (w : Width) (t : ℤ) → IsWidth w → is_time t ≡ true → (bucket_of w t ≤ℤ max_time) × (min_time <ℤ (bucket_of w t +ℤ w.step))
row_of_time w t wide time =
    let at_or_below : bucket_of w t ≤ℤ t = (bucket_of_meets w t wide).at_or_below in
    let end_above : t <ℤ (bucket_of w t +ℤ w.step) = (bucket_of_meets w t wide).end_above in
    (grind (arith, ints, time), grind (arith, ints, time))

-- the groups of rows with times are of buckets that hold a time
pub groups_of_times : (fold : Fold) → IsWidth fold.width → (rows : List Row) → list_all (λ row. is_time row.at) rows ≡ true → AllByRecursion (IsOfTime fold.width) (groups_of fold rows)
groups_of_times fold wide [] e = tt
groups_of_times fold wide (row ∷ rows) e =
    let here : is_time row.at ≡ true = and_first (is_time row.at) (list_all (λ r. is_time r.at) rows) e in
    let rest = groups_of_times fold wide rows (and_second (is_time row.at) (list_all (λ r. is_time r.at) rows) e) in
    subst (AllByRecursion (IsOfTime fold.width)) (sym (groups_of-more fold wide row rows))
    (by_test (passes_all row fold.tests)
    (λ pass. rw pass (all-with_group (IsOfTime fold.width) (λ g h p. p) (row_group fold row) (groups_of fold rows) (row_of_time fold.width row.at wide here) rest))
    (λ fail. rw fail rest))
