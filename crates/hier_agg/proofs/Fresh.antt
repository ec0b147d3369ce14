-- Wider buckets of the answer of an aggregate at a history.
use Rattle.std.proofs.Common.{◌≡◌, ◌^◌, ℕ, true, false, ◌||◌, ◌&&◌, List, [], ◌∷◌, ◌++◌, map, Option, Some, None, ℤ, pos, ◌+ℤ◌, ◌-ℤ◌, ◌≤ℤ◌, ◌<ℤ◌, int_le, int_lt, nat_lt, sym, refl, ap, ◌∙◌, arith}
use Rattle.std.specs.List.{AllByRecursion, filter, flat_map, list_all}
use Rattle.std.specs.Ordering.{int_cmp, int_eq}
use Rattle.std.proofs.lemmas.Cmp.{int_cmp_total}
use Rattle.std.proofs.lemmas.Int.{ints}
use Rattle.std.proofs.lemmas.Bool.{and_parts}
use Rattle.std.proofs.lemmas.Bool.Decides.{Decides-int_eq}
use Rattle.std.proofs.lemmas.List.{map-append}
use Rattle.std.proofs.lemmas.List.Elements.{filter-append}
use Rattle.std.proofs.Math.Bool.{or-true}
use Rattle.ts_schema.proofs.Cases.{by_test, int_le-true, int_lt-true, le-int_le, lt-int_lt, and_first, and_second}
use Rattle.ts_schema.specs.declared.rows.Row.{Row}
use Rattle.ts_schema.specs.Conditions.{passes_all}
use Rattle.ts_bucket.specs.Bucket.{IsWidth, bucket_of, first_of, holds, is_bucket, is_time, min_time, max_time}
use Rattle.ts_bucket.specs.Ranges.{AreRanges, is_asked, lies_in}
use Rattle.ts_bucket.specs.Spans.{in_span}
use Rattle.ts_bucket.specs.WholeSpans.{greatest, is_below, least}
use Rattle.ts_bucket.specs.declared.widths.Width.{Width}
use Rattle.ts_bucket.proofs.BucketLaws.{bucket_of_meets, first_of-least, holds-parts, is_bucket-bucket_of}
use Rattle.ts_model.specs.declared.queries.Answer.{Answer}
use Rattle.ts_model.specs.declared.views.Fold.{Fold}
use Rattle.ts_model.specs.declared.views.ViewDef.{ViewDef}
use Rattle.ts_model.specs.Answers.{answer_of_view, buckets_in, left_by, ranges, shown}
use Rattle.ts_model.specs.History.{History, start, resumed, ◌▸◌, prefix}
use Rattle.ts_model.specs.Refreshes.{last, stale, watermark}
use Rattle.ts_model.specs.Rows.{rows}
use Rattle.ts_model.specs.Saved.{groups_among, is_dirty, saved_view}
use Rattle.ts_model.specs.declared.images.SavedGroup.{SavedGroup}
use Rattle.ts_model.specs.Scratch.{bucket_rows, fold_rows, key_lists, occurring_buckets, scratch, scratch_of}
use Rattle.partial_agg.specs.declared.groups.Group.{Group}
use Rattle.ts_model.specs.Groups.{cells_of, group_at, groups_at, groups_in, groups_of, groups_at_last}
use Rattle.ts_model.proofs.GroupLaws.{cells_are_scratch}
use Rattle.ts_model.proofs.RangeLaws.{among, among-buckets_in, ranges_are_maximal}
use Rattle.group_fold.proofs.BucketGroups.{groups_of_asked}
use Rattle.group_fold.proofs.Occurring.{all-flat_map, all-map, all-once}
use Rattle.group_fold.proofs.Scratches.{filter-all, groups_show_scratch}
use Rattle.hier_agg.specs.declared.plans.UpperPlan.{UpperPlan}
use Rattle.hier_agg.specs.Laws.{IsRolledUp, IsShownWhole}
use Rattle.hier_agg.specs.Plans.{all_starts}
use Rattle.hier_agg.specs.Plans.{PlanFits, composed_fold}
use Rattle.hier_agg.specs.Stale.{holds_stale}
use Rattle.hier_agg.specs.Upper.{row_of, rows_within}
use Rattle.hier_agg.proofs.Held.{any_reached}
use Rattle.hier_agg.proofs.Showing.{wider_buckets_show_the_composed_fold}

-- ---- the buckets requested

all_among : (P : ℤ → Type 0) (bs : List ℤ) → ((c : ℤ) → among c bs ≡ true → P c) → AllByRecursion P bs
all_among P [] h = tt
all_among P (b ∷ bs) h =
    let own : int_eq b b ≡ true = (Decides-int_eq b b).1 refl in
    (h b (rw own refl), all_among P bs (λ c e. h c (ap (λ x. int_eq b c || x) e ∙ or-true (int_eq b c))))

all_asked : (w : Width) → AllByRecursion (λ x. is_asked w all_starts x ≡ true) (buckets_in w all_starts)
all_asked w = all_among (λ x. is_asked w all_starts x ≡ true) (buckets_in w all_starts) (λ c e. sym (among-buckets_in w all_starts c) ∙ e)

-- the bucket of a time is requested
time_asked : (w : Width) (t : ℤ) → IsWidth w → is_time t ≡ true → is_asked w all_starts (bucket_of w t) ≡ true
time_asked w t wide e =
    let low : min_time ≤ℤ t = int_le-true min_time t (and_first (int_le min_time t) (int_le t max_time) e) in
    let high : t ≤ℤ max_time = int_le-true t max_time (and_second (int_le min_time t) (int_le t max_time) e) in
    let first : first_of w ≤ℤ bucket_of w t = first_of-least w t wide low in
    let meets = bucket_of_meets w t wide in
    let below : bucket_of w t ≤ℤ t = meets.at_or_below in
    let above : t <ℤ (bucket_of w t +ℤ w.step) = meets.end_above in
    let step : w.step ≤ℤ pos (2 ^ 40) = wide.bounded in
    let p : int_le least (bucket_of w t) ≡ true = le-int_le least (bucket_of w t) (omega (arith, ints, low, above, step)) in
    let q : int_lt (bucket_of w t) greatest ≡ true = lt-int_lt (bucket_of w t) greatest (omega (arith, ints, below, high)) in
    let r : int_le (first_of w) (bucket_of w t) ≡ true = le-int_le (first_of w) (bucket_of w t) first in
    rw (p, q, is_bucket-bucket_of w t wide, r) refl

times_asked : (fold : Fold) (found : List Row) → IsWidth fold.width → list_all (λ row. is_time row.at) found ≡ true → AllByRecursion (λ x. is_asked fold.width all_starts x ≡ true) (map (λ row. bucket_of fold.width row.at) (filter (λ row. passes_all row fold.tests) found))
times_asked fold [] wide e = tt
times_asked fold (row ∷ found) wide e =
    let parts = and_parts (is_time row.at) (list_all (λ row. is_time row.at) found) e in
    let rest = times_asked fold found wide parts.1 in
    by_test (passes_all row fold.tests)
    (λ t. rw t (time_asked fold.width row.at wide parts.0, rest))
    (λ t. rw t rest)

groups_asked : (fold : Fold) (found : List Row) → IsWidth fold.width → list_all (λ row. is_time row.at) found ≡ true → AllByRecursion (λ g. is_asked fold.width all_starts g.start ≡ true) (groups_of fold found)
groups_asked fold found wide e =
    all-flat_map (λ x. is_asked fold.width all_starts x ≡ true) (λ g. is_asked fold.width all_starts g.start ≡ true) (groups_in fold found)
    (λ x a. all-map (λ g. is_asked fold.width all_starts g.start ≡ true) (group_at fold x (bucket_rows fold x found)) (λ keys. a) (key_lists fold (bucket_rows fold x found)))
    (occurring_buckets fold found)
    (all-once int_cmp int_cmp_total (λ x. is_asked fold.width all_starts x ≡ true) (map (λ row. bucket_of fold.width row.at) (filter (λ row. passes_all row fold.tests) found)) (times_asked fold found wide e))

-- the groups of all buckets, in order, are what the fold shows
cells_flat : (fold : Fold) (found : List Row) (bs : List ℤ) → map (cells_of fold) (flat_map (groups_in fold found) bs) ≡ flat_map (λ x. scratch_of fold x found) bs
cells_flat fold found [] = refl
cells_flat fold found (b ∷ bs) =
    map-append (cells_of fold) (groups_in fold found b) (flat_map (groups_in fold found) bs)
    ∙ ap (λ ds. ds ++ map (cells_of fold) (flat_map (groups_in fold found) bs)) (cells_are_scratch fold found b)
    ∙ ap (λ ds. scratch_of fold b found ++ ds) (cells_flat fold found bs)

all_scratch : (fold : Fold) (found : List Row) → IsWidth fold.width → list_all (λ row. is_time row.at) found ≡ true → flat_map (λ x. scratch_of fold x found) (buckets_in fold.width all_starts) ≡ fold_rows fold found
all_scratch fold found wide e =
    sym (cells_flat fold found (buckets_in fold.width all_starts))
    ∙ ap (map (cells_of fold)) (groups_of_asked fold all_starts found wide ∙ filter-all (λ g. is_asked fold.width all_starts g.start) (groups_of fold found) (groups_asked fold found wide e))
    ∙ (groups_show_scratch fold wide found).of_all

-- ---- rows of one bucket

-- the groups of one bucket start there
pub group_starts : (fold : Fold) (b : ℤ) (found : List Row) (keys : List (List (Option ℤ))) → AllByRecursion (λ g. g.start ≡ b) (map (group_at fold b found) keys)
group_starts fold b found keys = all-map (λ g. g.start ≡ b) (group_at fold b found) (λ q. refl) keys

-- so do its saved groups in an image
pub saved_start : (gs : List SavedGroup) (b : ℤ) → AllByRecursion (λ g. g.start ≡ b) (groups_among gs b)
saved_start [] b = tt
saved_start (g ∷ gs) b =
    by_test (int_eq g.start b)
    (λ e. rw e ((Decides-int_eq g.start b).0 e, saved_start gs b))
    (λ e. rw e (saved_start gs b))

-- and so do its earlier groups
pub stood_start : (n : ℕ) (def : ViewDef) (g : History) (s : ℕ) (b : ℤ) → AllByRecursion (λ x. x.start ≡ b) (groups_at_last n def g s b)
stood_start n def start s b = group_starts def.fold b (bucket_rows def.fold b (rows def.table start)) (key_lists def.fold (bucket_rows def.fold b (rows def.table start)))
stood_start n def (resumed i) s b =
    let here = rows def.table (resumed i) in
    by_test (nat_lt s i.pos && is_dirty n i b)
    (λ e. rw e (saved_start (saved_view n i).groups b))
    (λ e. rw e (group_starts def.fold b (bucket_rows def.fold b here) (key_lists def.fold (bucket_rows def.fold b here))))
stood_start n def (g ▸ e) s b = group_starts def.fold b (bucket_rows def.fold b (rows def.table (g ▸ e))) (key_lists def.fold (bucket_rows def.fold b (rows def.table (g ▸ e))))

-- a bucket outside the wider one shows nothing within it
none_within : (w : Width) (b x : ℤ) (fold : Fold) (gs : List Group) → AllByRecursion (λ g. g.start ≡ x) gs → holds w b x ≡ false → rows_within w b (map (cells_of fold) gs) ≡ []
none_within w b x fold [] starts out = refl
none_within w b x fold (g ∷ gs) starts out =
    let own : holds w b g.start ≡ false = ap (holds w b) starts.0 ∙ out in
    rw own (none_within w b x fold gs starts.1 out)

module _ (n : ℕ) (def : ViewDef) (h : History) (w : Width) (b x : ℤ) where
  scratch_outside : holds w b x ≡ false → rows_within w b (scratch def h x) ≡ []
  scratch_outside out =
      let found = bucket_rows def.fold x (rows def.table h) in
      ap (rows_within w b) (sym (cells_are_scratch def.fold (rows def.table h) x))
      ∙ none_within w b x def.fold (groups_in def.fold (rows def.table h) x) (group_starts def.fold x found (key_lists def.fold found)) out

  left_outside : (s : Option ℕ) → holds w b x ≡ false → rows_within w b (left_by n def h x s) ≡ []
  left_outside None out = refl
  left_outside (Some s) out = none_within w b x def.fold (groups_at n def h s x) (stood_start n def (prefix h s) s x) out

  pub shown_outside : holds w b x ≡ false → rows_within w b (shown n def h x) ≡ []
  shown_outside out =
      by_test (stale n def h x)
      (λ e. rw e (left_outside (last n h x) out))
      (λ e. rw e (by_test (is_below x (watermark n def h))
      (λ f. rw f (scratch_outside out))
      (λ f. rw f (by_test def.only
      (λ g. rw g refl)
      (λ g. rw g (scratch_outside out))))))

  shown_inside : stale n def h x ≡ false → (def.only ≡ true → is_below x (watermark n def h) ≡ true) → shown n def h x ≡ scratch def h x
  shown_inside e whole =
      rw e (by_test def.only
      (λ g. let f : is_below x (watermark n def h) ≡ true = whole g in rw f refl)
      (λ g. rw g (by_test (is_below x (watermark n def h)) (λ f. rw f refl) (λ f. rw f refl))))

-- ---- a wider bucket

lower_below : (m : Option ℤ) (x y : ℤ) → x ≤ℤ y → is_below y m ≡ true → is_below x m ≡ true
lower_below None x y le e = e
lower_below (Some m) x y le e = let below : y <ℤ m = int_lt-true y m e in lt-int_lt x m (omega (arith, ints, le, below))

module _ (n : ℕ) (def : ViewDef) (h : History) (w : Width) (b : ℤ) (fresh : holds_stale w (answer_of_view n h all_starts (Some def)).stale b ≡ false) (whole : IsShownWhole n def h w b) (wide : IsWidth def.fold.width) where
  not_stale : (x : ℤ) → is_asked def.fold.width all_starts x ≡ true → holds w b x ≡ true → stale n def h x ≡ false
  not_stale x asked inside =
      by_test (stale n def h x)
      (λ e.
      let found : AreRanges def.fold.width all_starts (stale n def h) (ranges def.fold.width (stale n def h) (buckets_in def.fold.width all_starts)) = ranges_are_maximal def.fold.width all_starts (stale n def h) wide in
      let bucket : is_bucket def.fold.width x ≡ true = and_first (is_bucket def.fold.width x) (int_le (first_of def.fold.width) x) (and_second (in_span all_starts x) (is_bucket def.fold.width x && int_le (first_of def.fold.width) x) asked) in
      let lies : lies_in (answer_of_view n h all_starts (Some def)).stale x ≡ true = found.exact x bucket ∙ (ap (λ t. t && stale n def h x) asked ∙ e) in
      let no : true ≡ false = sym (any_reached w b x inside (answer_of_view n h all_starts (Some def)).stale lies) ∙ fresh in
      absurd (cc no))
      (λ e. e)

  same_within : (x : ℤ) → is_asked def.fold.width all_starts x ≡ true → rows_within w b (shown n def h x) ≡ rows_within w b (scratch def h x)
  same_within x asked =
      by_test (holds w b x)
      (λ inside.
      let at = holds-parts w b x inside in
      let below : x <ℤ (b +ℤ w.step) = at.1 in
      ap (rows_within w b) (shown_inside n def h w b x (not_stale x asked inside) (λ only. lower_below (watermark n def h) x ((b +ℤ w.step) -ℤ pos 1) (omega (arith, ints, below)) (whole only))))
      (λ out. shown_outside n def h w b x out ∙ sym (scratch_outside n def h w b x out))

  all_within : (bs : List ℤ) → AllByRecursion (λ x. is_asked def.fold.width all_starts x ≡ true) bs → rows_within w b (flat_map (shown n def h) bs) ≡ rows_within w b (flat_map (scratch def h) bs)
  all_within [] a = refl
  all_within (x ∷ bs) a =
      filter-append (λ cells. holds w b (row_of cells).at) (shown n def h x) (flat_map (shown n def h) bs)
      ∙ ap (λ xs. xs ++ rows_within w b (flat_map (shown n def h) bs)) (same_within x a.0)
      ∙ ap (λ xs. rows_within w b (scratch def h x) ++ xs) (all_within bs a.1)
      ∙ sym (filter-append (λ cells. holds w b (row_of cells).at) (scratch def h x) (flat_map (scratch def h) bs))

pub fresh_buckets_show_the_composed_fold : (n : ℕ) (def : ViewDef) (h : History) (plan : UpperPlan) (upper : Answer) (b : ℤ) → PlanFits def.fold plan → list_all (λ row. is_time row.at) (rows def.table h) ≡ true → IsRolledUp def.fold plan (answer_of_view n h all_starts (Some def)) upper → is_bucket plan.width b ≡ true → lies_in upper.stale b ≡ false → IsShownWhole n def h plan.width b → rows_within plan.width b upper.rows ≡ scratch_of (composed_fold def.fold plan) b (rows def.table h)
fresh_buckets_show_the_composed_fold n def h plan upper b fits times made at fresh whole =
    let lower = answer_of_view n h all_starts (Some def) in
    let none : holds_stale plan.width lower.stale b ≡ false = sym (made.stale.exact b at) ∙ fresh in
    ap (rows_within plan.width b) made.rows
    ∙ wider_buckets_show_the_composed_fold def.fold plan (rows def.table h) lower.rows b fits at
    (all_within n def h plan.width b none whole fits.lower_width (buckets_in def.fold.width all_starts) (all_asked def.fold.width)
    ∙ ap (rows_within plan.width b) (all_scratch def.fold (rows def.table h) fits.lower_width times))
