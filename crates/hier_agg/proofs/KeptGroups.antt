-- A plan that keeps the width and all keys, and has no test: each row is alone in its group.
use Rattle.std.proofs.Common.{◌≡◌, ℕ, zero, suc, ◌==◌, List, [], ◌∷◌, ◌++◌, map, filter, length, true, Option, Some, None, ℤ, sym, refl, ap, ◌∙◌, subst, arith}
use Rattle.std.proofs.lemmas.Bool.{and_parts, eqb-true}
use Rattle.std.proofs.lemmas.Bool.Decides.{Decides-int_eq}
use Rattle.std.proofs.lemmas.Int.{ints}
use Rattle.std.proofs.lemmas.List.{map-append}
use Rattle.std.specs.Ordering.{int_cmp, int_eq, ordering_then}
use Rattle.std.specs.declared.cmp.Ordering.TheVariants.{Less}
use Rattle.std.specs.List.{AllByRecursion, list_all}
use Rattle.std.specs.List.Sorted.{IsStrictlySortedBy}
use Rattle.ts_num.specs.Aggregates.{shown_or_null}
use Rattle.ts_num.specs.declared.values.Datum.{Datum}
use Rattle.ts_num.specs.declared.values.Datum.TheVariants.{Int}
use Rattle.ts_num.specs.declared.values.Fun.{Fun}
use Rattle.ts_num.specs.declared.values.Fun.TheVariants.{CountAll, Count, Sum, Min, Max, Avg}
use Rattle.ts_model.specs.declared.views.Agg.{Agg}
use Rattle.ts_model.specs.declared.views.Fold.{Fold}
use Rattle.ts_model.specs.Groups.{cells_of, shown_each}
use Rattle.ts_model.specs.Results.{cell_at}
use Rattle.partial_agg.specs.declared.groups.Group.{Group}
use Rattle.partial_agg.specs.Groups.{AreInOrder, group_cmp}
use Rattle.partial_agg.specs.Summaries.{Summary, datum_of, sum_shown, summary, value_of}
use Rattle.group_fold.specs.Gathering.{in_group_order}
use Rattle.group_fold.proofs.Gathers.{ordered_already}
use Rattle.ts_schema.specs.Rows.{values_cmp}
use Rattle.ts_bucket.specs.Bucket.{IsWidth, WidthValue, bucket_of}
use Rattle.ts_bucket.specs.declared.spans.Span.{Span}
use Rattle.ts_bucket.proofs.BucketLaws.{bucket_of-bucket}
use Rattle.cell_groups.specs.Cells.{cells_pass}
use Rattle.cell_groups.specs.Groups.{keys_at, row_shown, rows_shown}
use Rattle.cell_groups.specs.KeptSummaries.{needed_summary, row_needs}
use Rattle.hier_agg.specs.declared.plans.UpperPlan.{UpperPlan}
use Rattle.hier_agg.specs.Plans.{added_by, agg_at, is_additive}
use Rattle.hier_agg.specs.Stale.{AreWholeRanges, upper_stale}
use Rattle.hier_agg.specs.Taken.{added_at, columns_of, row_group_of, row_passes, shape_of}
use Rattle.hier_agg.specs.Upper.{upper_rows}
use Rattle.hier_agg.specs.Wholes.{AreRowsOf, IsGroupOf, are_all, run_from, same_width}
use Rattle.hier_agg.proofs.Held.{same_stale}
use Rattle.hier_agg.proofs.Stands.{gathered_is_upper}
use Rattle.hier_agg.proofs.Widening.{apart_whole, widened}
use Rattle.hier_agg.proofs.ReadRuns.{read_run}

-- ---- the values that are shown

keys_read : (keys : List (Option ℤ)) → map value_of (map shown_or_null keys) ≡ keys
keys_read [] = refl
keys_read (None ∷ keys) = ap (λ ks. None ∷ ks) (keys_read keys)
keys_read (Some k ∷ keys) = ap (λ ks. Some k ∷ ks) (keys_read keys)

sum_read : (n : ℕ) (s : ℤ) → shown_or_null (value_of (sum_shown n s)) ≡ sum_shown n s
sum_read zero s = refl
sum_read (suc n) s = refl

bound_read : (v : Option ℤ) → shown_or_null (value_of (shown_or_null v)) ≡ shown_or_null v
bound_read None = refl
bound_read (Some v) = refl

pub part_read : (fun : Fun) (p : Summary) → is_additive fun ≡ true → shown_or_null (value_of (datum_of fun p)) ≡ datum_of fun p
part_read CountAll p e = refl
part_read Count p e = refl
part_read Sum p e = sum_read p.values p.sum
part_read Min p e = bound_read p.least
part_read Max p e = bound_read p.most
part_read Avg p e = absurd (cc e)

parts_read : (aggs : List Agg) (parts : List Summary) → list_all (λ a. is_additive a.fun) aggs ≡ true → map shown_or_null (map value_of (shown_each aggs parts)) ≡ shown_each aggs parts
parts_read [] parts e = refl
parts_read (a ∷ aggs) [] e = refl
parts_read (a ∷ aggs) (p ∷ parts) e =
    let both = and_parts (is_additive a.fun) (list_all (λ x. is_additive x.fun) aggs) e in
    ap (λ d. d ∷ map shown_or_null (map value_of (shown_each aggs parts))) (part_read a.fun p both.0)
    ∙ ap (λ ds. datum_of a.fun p ∷ ds) (parts_read aggs parts both.1)

-- an adding function shows a single value unchanged
alone_shown : (fun : Fun) (v : Option ℤ) → datum_of (added_by fun) (needed_summary (added_by fun) (summary (v ∷ []))) ≡ shown_or_null v
alone_shown CountAll None = refl
alone_shown CountAll (Some v) = ap Int (omega (arith, ints))
alone_shown Count None = refl
alone_shown Count (Some v) = ap Int (omega (arith, ints))
alone_shown Sum None = refl
alone_shown Sum (Some v) = ap Int (omega (arith, ints))
alone_shown Min None = refl
alone_shown Min (Some v) = refl
alone_shown Max None = refl
alone_shown Max (Some v) = refl
alone_shown Avg None = refl
alone_shown Avg (Some v) = ap Int (omega (arith, ints))

pub all_alone : (lower : Fold) (cols : List ℕ) (cells : List Datum) → shown_each (map (added_at lower) cols) (row_needs (map (added_at lower) cols) cells) ≡ map shown_or_null (map (cell_at cells) cols)
all_alone lower [] cells = refl
all_alone lower (c ∷ cols) cells =
    ap (λ d. d ∷ shown_each (map (added_at lower) cols) (row_needs (map (added_at lower) cols) cells)) (alone_shown (agg_at lower c).fun (cell_at cells c))
    ∙ ap (λ ds. shown_or_null (cell_at cells c) ∷ ds) (all_alone lower cols cells)

-- ---- a plan that keeps groups

-- the parts of a test that both tests have
pub record KeepsGroups (lower : Fold) (plan : UpperPlan) : Type 0 where
  pub width : plan.width ≡ lower.width
  pub keys : run_from 0 plan.keys ≡ true
  pub all_keys : length plan.keys ≡ length lower.keys
  pub tests : plan.tests ≡ []

none_of : {X : Type 0} (xs : List X) → length xs ≡ 0 → xs ≡ []
none_of [] e = refl
none_of (x ∷ xs) e = absurd (omega (arith, e))

width_is : (v w : WidthValue) → same_width v w ≡ true → v ≡ w
width_is v w e =
    let parts = and_parts (int_eq v.step w.step) (int_eq v.shift w.shift) e in
    let made : ℤ → ℤ → WidthValue = λ step shift. record { step = step; shift = shift } in
    ap (λ step. made step v.shift) ((Decides-int_eq v.step w.step).0 parts.0) ∙ ap (λ shift. made w.step shift) ((Decides-int_eq v.shift w.shift).0 parts.1)

pub groups_kept : (lower : Fold) (plan : UpperPlan) → same_width plan.width lower.width ≡ true → are_all 0 (length lower.keys) plan.keys ≡ true → (length plan.tests == 0) ≡ true → KeepsGroups lower plan
groups_kept lower plan width keys tests =
    let own_keys = and_parts (length plan.keys == length lower.keys) (run_from 0 plan.keys) keys in
    record {
      width = width_is plan.width lower.width width;
      keys = own_keys.1;
      all_keys = eqb-true (length plan.keys) (length lower.keys) own_keys.0;
      tests = none_of plan.tests (eqb-true (length plan.tests) 0 tests);
    }

-- what a group shows after its bucket
abbrev pub columns : Fold → Group → List Datum
columns lower group = map shown_or_null group.keys ++ shown_each lower.aggs group.parts

-- the group of the row that a group shows
abbrev pub again : Fold → UpperPlan → Group → Group
again lower plan group = row_group_of plan (shape_of lower plan) (cells_of lower group)

pub values_are : (lower : Fold) (group : Group) → map value_of (columns lower group) ≡ group.keys ++ map value_of (shown_each lower.aggs group.parts)
values_are lower group =
    map-append value_of (map shown_or_null group.keys) (shown_each lower.aggs group.parts)
    ∙ ap (λ ks. ks ++ map value_of (shown_each lower.aggs group.parts)) (keys_read group.keys)

module _ (lower : Fold) (plan : UpperPlan) (wide : IsWidth lower.width) (keeps : KeepsGroups lower plan) where
  -- ---- one row

  same_keys : (group : Group) → IsGroupOf lower group → (again lower plan group).keys ≡ group.keys
  same_keys group is =
      read_run None (map value_of (columns lower group)) 0 plan.keys group.keys (map value_of (shown_each lower.aggs group.parts)) (values_are lower group) keeps.keys (keeps.all_keys ∙ sym is.keys)

  same_start : (group : Group) → IsGroupOf lower group → (again lower plan group).start ≡ group.start
  same_start group is = ap (λ w. bucket_of w group.start) keeps.width ∙ bucket_of-bucket lower.width group.start wide is.start

  -- its bucket, its keys and its columns are shown unchanged
  pub shows_again : (group : Group) → IsGroupOf lower group → row_shown (shape_of lower plan) (again lower plan group) ≡ Int group.start ∷ (map shown_or_null group.keys ++ map shown_or_null (map (cell_at (columns lower group)) plan.cols))
  shows_again group is =
      let added = map (added_at lower) plan.cols in
      let needs = row_needs added (columns lower group) in
      ap (λ b. Int b ∷ (map shown_or_null (keys_at plan.keys (columns lower group)) ++ shown_each added needs)) (same_start group is)
      ∙ ap (λ ks. Int group.start ∷ (map shown_or_null ks ++ shown_each added needs)) (same_keys group is)
      ∙ ap (λ ds. Int group.start ∷ (map shown_or_null group.keys ++ ds)) (all_alone lower plan.cols (columns lower group))

  -- ---- all rows

  same_cmp : (g h : Group) → IsGroupOf lower g → IsGroupOf lower h → group_cmp g h ≡ Less → group_cmp (again lower plan g) (again lower plan h) ≡ Less
  same_cmp g h p q less =
      ap (λ b. ordering_then (int_cmp b (again lower plan h).start) (values_cmp (again lower plan g).keys (again lower plan h).keys)) (same_start g p)
      ∙ ap (λ b. ordering_then (int_cmp g.start b) (values_cmp (again lower plan g).keys (again lower plan h).keys)) (same_start h q)
      ∙ ap (λ ks. ordering_then (int_cmp g.start h.start) (values_cmp ks (again lower plan h).keys)) (same_keys g p)
      ∙ ap (λ ks. ordering_then (int_cmp g.start h.start) (values_cmp g.keys ks)) (same_keys h q)
      ∙ less

  all_above : (g : Group) (hs : List Group) → IsGroupOf lower g → AllByRecursion (IsGroupOf lower) hs → AllByRecursion (λ h. group_cmp g h ≡ Less) hs → AllByRecursion (λ h. group_cmp (again lower plan g) h ≡ Less) (map (again lower plan) hs)
  all_above g [] p qs less = tt
  all_above g (h ∷ hs) p qs less = (same_cmp g h p qs.0 less.0, all_above g hs p qs.1 less.1)

  still_in_order : (gs : List Group) → AllByRecursion (IsGroupOf lower) gs → AreInOrder gs → AreInOrder (map (again lower plan) gs)
  unfolding IsStrictlySortedBy
  still_in_order [] each order = tt
  still_in_order (g ∷ gs) each order = (all_above g gs each.0 each.1 order.0, still_in_order gs each.1 order.1)

  all_pass : (gs : List Group) → map (row_group_of plan (shape_of lower plan)) (filter (row_passes plan) (map (cells_of lower) gs)) ≡ map (again lower plan) gs
  all_pass [] = refl
  all_pass (g ∷ gs) =
      let passed : row_passes plan (cells_of lower g) ≡ true = ap (λ ts. cells_pass ts (columns_of (cells_of lower g))) keeps.tests in
      rw passed (ap (λ hs. again lower plan g ∷ hs) (all_pass gs))

  -- each group is shown unchanged
  pub rows_alone : (rows : List (List Datum)) → (are : AreRowsOf lower rows) → upper_rows lower plan rows ≡ rows_shown (shape_of lower plan) (map (again lower plan) are.groups)
  rows_alone rows are =
      let datum_of : List (List Datum) = map (cells_of lower) are.groups in
      let plan_wide : IsWidth plan.width = subst IsWidth (sym keeps.width) wide in
      ap (upper_rows lower plan) are.shown
      ∙ sym (gathered_is_upper lower plan plan_wide datum_of)
      ∙ ap (λ gs. rows_shown (shape_of lower plan) (in_group_order gs)) (all_pass are.groups)
      ∙ ap (rows_shown (shape_of lower plan)) (ordered_already (map (again lower plan) are.groups) (still_in_order are.groups are.each are.order))

  -- ranges of the fold's width are those of the roll-up
  pub same_ranges : (spans : List Span) → AreWholeRanges lower.width spans → upper_stale plan.width spans ≡ spans
  same_ranges spans whole =
      ap (λ w. upper_stale w spans) keeps.width
      ∙ same_stale lower.width spans (upper_stale lower.width spans) wide whole (widened lower.width wide spans (apart_whole lower.width spans whole))
