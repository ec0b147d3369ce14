-- Laws of live buckets.
use Rattle.std.proofs.Common.{◌≡◌, Bool, true, false, not, ◌&&◌, ◌||◌, cond, map, List, [], ◌∷◌, ℤ, pos, ◌+ℤ◌, ◌≤ℤ◌, ◌<ℤ◌, Option, refl, sym, ◌∙◌, ap, subst, arith}
use Rattle.std.specs.Prelude.{int_le, int_lt}
use Rattle.std.specs.Int.{int_max}
use Rattle.std.specs.List.{AllByRecursion, filter, list_all}
use Rattle.std.proofs.lemmas.Int.{ints, clamps}
use Rattle.std.proofs.Math.Bool.{or-false}
use Rattle.ts_bucket.specs.Bucket.{IsWidth, WidthValue, is_bucket, is_time, bucket_of, first_of, min_time, max_time}
use Rattle.ts_bucket.specs.Ranges.{lies_in}
use Rattle.ts_bucket.specs.Spans.{SpanValue, in_span}
use Rattle.ts_bucket.specs.WholeSpans.{greatest, is_below, whole_span}
use Rattle.ts_bucket.specs.declared.spans.Span.{Span}
use Rattle.ts_bucket.proofs.BucketLaws.{bucket_of_meets, is_bucket-bucket_of}
use Rattle.ts_bucket.proofs.WholeSpanLaws.{in_span-bucket, is_bucket-range_end, range_end}
use Rattle.ts_schema.specs.declared.rows.Row.{Row}
use Rattle.ts_schema.specs.Conditions.{passes_all}
use Rattle.ts_model.specs.declared.views.Fold.{Fold}
use Rattle.ts_model.specs.Groups.{cells_of, groups_of}
use Rattle.ts_model.specs.Rows.{in_order}
use Rattle.ts_model.specs.Scratch.{fold_rows}
use Rattle.ts_model.proofs.RowLaws.{in_order-twice}
use Rattle.group_fold.proofs.Scratches.{groups_show_scratch}
use Rattle.partial_agg.specs.declared.groups.Group.{Group}
use Rattle.group_fold.specs.Grouping.{row_group}
use Rattle.group_fold.proofs.RowGroups.{all-with_group, groups_of-more}
use Rattle.group_fold.proofs.BucketGroups.{groups_of_some_buckets, order_plays_no_part}
use Rattle.group_fold.specs.Spans.{HaveTimes, rows_in}
use Rattle.realtime_union.specs.Live.{IsLiveSpan, all_times, is_live}
use Rattle.ts_schema.proofs.Cases.{by_test, int_le-true, le-int_le, lt-int_lt, and_first, and_second, all_weaker, filter_same}

-- the part of a span at or above a number
pub cut_at : (lo hi mark l h b : ℤ) → l ≡ int_max lo mark → h ≡ int_max hi l → (int_le l b && int_lt b h) ≡ ((int_le lo b && int_lt b hi) && not (int_lt b mark))
cut_at lo hi mark l h b p q = rw (q, p) (grind (arith, ints, clamps))

filter_alike : (p q : Group → Bool) (xs : List Group) → AllByRecursion (λ g. p g ≡ q g) xs → filter p xs ≡ filter q xs
filter_alike p q [] same = refl
filter_alike p q (x ∷ xs) same = ap (λ b. cond b (x ∷ filter p xs) (filter p xs)) same.0 ∙ ap (λ ys. cond (q x) (x ∷ ys) ys) (filter_alike p q xs same.1)

-- a group of a bucket of the range of buckets
abbrev Ranged : WidthValue → Group → Type 0
Ranged w g = (is_bucket w g.start ≡ true) × (in_span (whole_span w) g.start ≡ true)

row_ranged : (w : WidthValue) (t : ℤ) → IsWidth w → is_time t ≡ true → (is_bucket w (bucket_of w t) ≡ true) × (in_span (whole_span w) (bucket_of w t) ≡ true)
row_ranged w t wide time =
    let first : first_of w ≤ℤ min_time = (bucket_of_meets w min_time wide).at_or_below in
    let ends = range_end w wide in
    let last : greatest <ℤ ((whole_span w).hi +ℤ w.step) = ends.1 in
    let bounded = wide.bounded in
    let from : min_time ≤ℤ t = int_le-true min_time t (and_first (int_le min_time t) (int_le t max_time) time) in
    let upto : t ≤ℤ max_time = int_le-true t max_time (and_second (int_le min_time t) (int_le t max_time) time) in
    let low : int_le (first_of w) t ≡ true = le-int_le (first_of w) t (omega (arith, ints, first, from)) in
    let high : int_lt t (whole_span w).hi ≡ true = lt-int_lt t (whole_span w).hi (omega (arith, ints, last, bounded, upto)) in
    let inside : in_span (whole_span w) t ≡ true = rw (low, high) refl in
    (is_bucket-bucket_of w t wide, sym (in_span-bucket w (whole_span w) t wide (is_bucket-bucket_of w min_time wide) (is_bucket-range_end w wide)) ∙ inside)

groups_ranged : (fold : Fold) → IsWidth fold.width → (rows : List Row) → HaveTimes rows → AllByRecursion (Ranged fold.width) (groups_of fold rows)
groups_ranged fold wide [] e = tt
groups_ranged fold wide (row ∷ rows) e =
    let here : is_time row.at ≡ true = and_first (is_time row.at) (list_all (λ r. is_time r.at) rows) e in
    let rest = groups_ranged fold wide rows (and_second (is_time row.at) (list_all (λ r. is_time r.at) rows) e) in
    subst (AllByRecursion (Ranged fold.width)) (sym (groups_of-more fold wide row rows))
    (by_test (passes_all row fold.tests)
    (λ pass. rw pass (all-with_group (Ranged fold.width) (λ g h p. p) (row_group fold row) (groups_of fold rows) (row_ranged fold.width row.at wide here) rest))
    (λ fail. rw fail rest))

-- a bucket of the range of buckets is in the live span if and only if it is live
live_at : (w : WidthValue) (mark : Option ℤ) (starts live : SpanValue) (b : ℤ) → IsLiveSpan w mark starts live → is_bucket w b ≡ true → in_span (whole_span w) b ≡ true → in_span live b ≡ is_live w mark starts b
live_at w mark starts live b is bucket inside =
    let first : int_le (first_of w) b ≡ true = and_first (int_le (first_of w) b) (int_lt b (whole_span w).hi) inside in
    is.exact b bucket ∙ same (in_span (whole_span w) b) (in_span starts b) (is_bucket w b) (int_le (first_of w) b) (not (is_below b mark)) inside bucket first
  where
    same : (a b c d e : Bool) → a ≡ true → c ≡ true → d ≡ true → (a && (b && e)) ≡ ((b && (c && d)) && e)
    same a true c d e p q r = rw (p, q, r) refl
    same a false c d e p q r = rw p refl

groups_as_in_order : (fold : Fold) → IsWidth fold.width → (rows : List Row) → groups_of fold rows ≡ groups_of fold (in_order rows)
groups_as_in_order fold wide rows = order_plays_no_part fold rows (in_order rows) wide (sym (in_order-twice rows))

-- the groups of the rows of the live span are the live ones among all groups
pub live_are : (fold : Fold) → IsWidth fold.width → (mark : Option ℤ) (starts : SpanValue) (live : Span) (rows : List Row) → IsLiveSpan fold.width mark starts live → HaveTimes rows
    → groups_of fold (rows_in (live ∷ []) rows) ≡ filter (λ g. is_live fold.width mark starts g.start) (groups_of fold (in_order rows))
live_are fold wide mark starts live rows is times =
    ap (groups_of fold) (filter_same (λ row. lies_in (live ∷ []) row.at) (λ row. lies_in (live ∷ []) (bucket_of fold.width row.at)) rows (λ row. ap (λ b. b || false) (in_span-bucket fold.width live row.at wide is.whole.starts is.whole.ends)))
    ∙ (sym (groups_of_some_buckets fold (lies_in (live ∷ [])) rows wide)
    ∙ filter_alike (λ g. lies_in (live ∷ []) g.start) (λ g. is_live fold.width mark starts g.start) (groups_of fold rows)
    (all_weaker (Ranged fold.width) (λ g. lies_in (live ∷ []) g.start ≡ is_live fold.width mark starts g.start)
    (λ g p. or-false (in_span live g.start) ∙ live_at fold.width mark starts live g.start is p.0 p.1) (groups_of fold rows) (groups_ranged fold wide rows times))
    ∙ ap (filter (λ g. is_live fold.width mark starts g.start)) (groups_as_in_order fold wide rows))

-- ---- whole tables

time_inside : (t : ℤ) → is_time t ≡ true → lies_in (all_times ∷ []) t ≡ true
time_inside t time =
    let low : int_le min_time t ≡ true = and_first (int_le min_time t) (int_le t max_time) time in
    let high : int_lt t (max_time +ℤ pos 1) ≡ true = lt-int_lt t (max_time +ℤ pos 1) (omega (arith, ints, int_le-true t max_time (and_second (int_le min_time t) (int_le t max_time) time))) in
    rw (low, high) refl

-- all rows with times are rows of all times
pub all_inside : (rows : List Row) → HaveTimes rows → rows_in (all_times ∷ []) rows ≡ rows
all_inside [] times = refl
all_inside (row ∷ rows) times =
    let here = time_inside row.at (and_first (is_time row.at) (list_all (λ r. is_time r.at) rows) times) in
    ap (λ b. cond b (row ∷ rows_in (all_times ∷ []) rows) (rows_in (all_times ∷ []) rows)) here
    ∙ ap (λ rs. row ∷ rs) (all_inside rows (and_second (is_time row.at) (list_all (λ r. is_time r.at) rows) times))

-- what the groups of all rows show
pub all_shown : (fold : Fold) → IsWidth fold.width → (rows : List Row) (groups : List Group) → HaveTimes rows → groups ≡ groups_of fold (rows_in (all_times ∷ []) rows) → map (cells_of fold) groups ≡ fold_rows fold (in_order rows)
all_shown fold wide rows groups times made =
    ap (map (cells_of fold)) (made ∙ (ap (groups_of fold) (all_inside rows times) ∙ groups_as_in_order fold wide rows)) ∙ (groups_show_scratch fold wide (in_order rows)).of_all

-- the rows that a scan of all times finds
pub all_scanned : (rows : List Row) → HaveTimes rows → filter (λ row. in_span all_times row.at) rows ≡ rows
all_scanned rows times = filter_same (λ row. in_span all_times row.at) (λ row. lies_in (all_times ∷ []) row.at) rows (λ row. sym (or-false (in_span all_times row.at))) ∙ all_inside rows times
