-- Laws of jobs: ranges of whole buckets hold the rows of their buckets; and the end of the last group.
use Rattle.std.proofs.Common.{◌≡◌, ℕ, suc, ◌<◌, ◌-◌, Bool, true, false, ◌&&◌, ◌||◌, cond, List, [], ◌∷◌, length, get_or, ◌^◌, ℤ, pos, negsuc, ◌+ℤ◌, ◌≤ℤ◌, ◌<ℤ◌, Option, Some, None, refl, sym, ◌∙◌, ap, subst, arith}
use Rattle.std.specs.Prelude.{FitsSigned}
use Rattle.std.specs.Int.{w64}
use Rattle.std.proofs.lemmas.List.Elements.{All-from_recursion}
use Rattle.group_fold.specs.Grouping.{IsOfTime}
use Rattle.std.specs.List.{AllByRecursion, filter, list_all}
use Rattle.std.proofs.lemmas.Int.{ints}
use Rattle.ts_bucket.specs.Bucket.{IsWidth, is_time, bucket_of, WidthValue, min_time, max_time}
use Rattle.ts_bucket.specs.Ranges.{AreRanges, IsWholeRange, RiseApart, lies_in}
use Rattle.ts_bucket.specs.Spans.{SpanValue, in_span}
use Rattle.ts_bucket.specs.declared.spans.Span.{Span}
use Rattle.ts_bucket.specs.declared.widths.Width.{Width}
use Rattle.ts_bucket.proofs.WholeSpanLaws.{in_span-bucket}
use Rattle.ts_schema.specs.declared.rows.Row.{Row}
use Rattle.ts_schema.specs.Conditions.{passes_all}
use Rattle.ts_model.specs.declared.views.Fold.{Fold}
use Rattle.ts_model.specs.Groups.{groups_of}
use Rattle.ts_model.specs.Jobs.{rows_of_spans}
use Rattle.ts_model.specs.Windows.{last_end}
use Rattle.partial_agg.specs.declared.groups.Group.{Group}
use Rattle.group_fold.specs.Laws.{end_of_last}
use Rattle.group_fold.proofs.BucketGroups.{groups_of_some_buckets, groups_of_spans, last_group_ends}
use Rattle.group_fold.specs.Spans.{AreApart, rows_in}
use Rattle.group_fold.proofs.ScanLaws.{all-filter}
use Rattle.mat_log.proofs.RangeLaws.{out_below}
use Rattle.ts_schema.proofs.Cases.{filter_same}

-- ---- ranges of whole buckets

-- ranges that rise hold no number at or below one that is below the first range
none_below : (w : WidthValue) (x : ℤ) (s : Span) (ss : List Span) (t : ℤ) → AllByRecursion (IsWholeRange w) (s ∷ ss) → RiseApart (s ∷ ss) → x <ℤ s.lo → t ≤ℤ x → lies_in (s ∷ ss) t ≡ false
none_below w x s [] t whole rise above low = rw (out_below s t (omega (arith, ints, above, low))) refl
none_below w x s (u ∷ ss) t whole rise above low =
    let some : s.lo <ℤ s.hi = whole.0.some in
    rw (out_below s t (omega (arith, ints, above, low))) (none_below w s.hi u ss t whole.1 rise.1 rise.0 (omega (arith, ints, above, low, some)))

-- ranges that rise apart hold no number twice
pub rising_apart : (w : WidthValue) (spans : List Span) → AllByRecursion (IsWholeRange w) spans → RiseApart spans → AreApart spans
rising_apart w [] whole rise = tt
rising_apart w (s ∷ []) whole rise = ((λ t inside. refl), tt)
rising_apart w (s ∷ u ∷ ss) whole rise = ((λ t inside. none_below w s.hi u ss t whole.1 rise.1 rise.0 (below s t inside)), rising_apart w (u ∷ ss) whole.1 rise.1)
  where
    below : (s : Span) (t : ℤ) → in_span s t ≡ true → t ≤ℤ s.hi
    below s t inside = grind (arith, ints, inside)

pub ranges_apart : (w : WidthValue) (starts : SpanValue) (test : ℤ → Bool) (spans : List Span) → AreRanges w starts test spans → AreApart spans
ranges_apart w starts test spans ranges = rising_apart w spans ranges.whole ranges.rising

-- they hold a number if and only if they hold its bucket
pub lies_in-bucket : (w : WidthValue) (spans : List Span) (t : ℤ) → IsWidth w → AllByRecursion (IsWholeRange w) spans → lies_in spans t ≡ lies_in spans (bucket_of w t)
lies_in-bucket w [] t wide whole = refl
lies_in-bucket w (s ∷ ss) t wide whole =
    ap (λ b. b || lies_in ss t) (in_span-bucket w s t wide whole.0.starts whole.0.ends) ∙ ap (λ b. in_span s (bucket_of w t) || b) (lies_in-bucket w ss t wide whole.1)

-- ---- the rows of the spans

-- the groups of the rows whose times lie in ranges of whole buckets are those of the rows of the ranges
pub groups_of_ranges : (fold : Fold) (spans : List Span) (rows : List Row) → IsWidth fold.width → AllByRecursion (IsWholeRange fold.width) spans → groups_of fold (rows_in spans rows) ≡ groups_of fold (rows_of_spans fold spans rows)
groups_of_ranges fold spans rows wide whole =
    ap (groups_of fold) (filter_same (λ row. lies_in spans row.at) (λ row. lies_in spans (bucket_of fold.width row.at)) rows (λ row. lies_in-bucket fold.width spans row.at wide whole))
    ∙ (sym (groups_of_some_buckets fold (lies_in spans) rows wide) ∙ groups_of_spans fold spans rows wide)

already_passing : (q p : Row → Bool) (xs : List Row) → filter p (filter (λ row. q row && p row) xs) ≡ filter (λ row. q row && p row) xs
already_passing q p [] = refl
already_passing q p (x ∷ xs) =
    elim (q x) as (λ b. filter p (cond (b && p x) (x ∷ filter (λ row. q row && p row) xs) (filter (λ row. q row && p row) xs)) ≡ cond (b && p x) (x ∷ filter (λ row. q row && p row) xs) (filter (λ row. q row && p row) xs)) [
      | true ↦
          elim (p x) as (λ b. p x ≡ b → filter p (cond b (x ∷ filter (λ row. q row && p row) xs) (filter (λ row. q row && p row) xs)) ≡ cond b (x ∷ filter (λ row. q row && p row) xs) (filter (λ row. q row && p row) xs)) [
            | true ↦ λ e. rw e (ap (λ ys. x ∷ ys) (already_passing q p xs))
            | false ↦ λ e. already_passing q p xs
          ] refl
      | false ↦ already_passing q p xs
    ]

-- the end of the groups of spans is the greatest end of a bucket with a row of the spans
pub top_of_groups : (fold : Fold) (spans : List Span) (rows : List Row) (groups : List Group) (top : Option ℤ) → IsWidth fold.width → groups ≡ groups_of fold (rows_of_spans fold spans rows) → top ≡ end_of_last fold.width groups
    → top ≡ last_end fold.width (rows_of_spans fold spans rows)
top_of_groups fold spans rows groups top wide made is =
    is
    ∙ (ap (end_of_last fold.width) made
    ∙ (last_group_ends fold (rows_of_spans fold spans rows) wide
    ∙ ap (last_end fold.width) (already_passing (λ row. lies_in spans (bucket_of fold.width row.at)) (λ row. passes_all row fold.tests) rows)))

pub times_of_spans : (spans : List Span) (rows : List Row) → list_all (λ row. is_time row.at) rows ≡ true → list_all (λ row. is_time row.at) (rows_in spans rows) ≡ true
times_of_spans spans rows times = all-filter (λ row. is_time row.at) (λ row. lies_in spans row.at) rows times

-- ---- the last group

pub last_group : (w : Width) (groups : List Group) (g : Group) → 0 < length groups → g ≡ get_or groups (length groups - 1) g → Some (g.start +ℤ w.step) ≡ end_of_last w groups
last_group w [] g some is = absurd (omega (arith, some))
last_group w (x ∷ []) g some is = ap (λ (y : Group). Some (y.start +ℤ w.step)) is
last_group w (x ∷ y ∷ groups) g some is = last_group w (y ∷ groups) g (omega arith) (is ∙ further x y groups g)
  where
    further : (x y : Group) (groups : List Group) (d : Group) → get_or (x ∷ y ∷ groups) (length (x ∷ y ∷ groups) - 1) d ≡ get_or (y ∷ groups) (length (y ∷ groups) - 1) d
    further x y groups d = ap (λ i. get_or (x ∷ y ∷ groups) i d) (lemma (length groups))
      where
        lemma : (n : ℕ) → suc (suc n) - 1 ≡ suc (suc n - 1)
        lemma n = omega arith

pub no_group : (w : Width) (groups : List Group) → length groups < 1 → None ≡ end_of_last w groups
no_group w [] h = refl
no_group w (g ∷ groups) h = absurd (omega arith)

pub last_holds : (P : Group → Type 0) (groups : List Group) (g : Group) → 0 < length groups → g ≡ get_or groups (length groups - 1) g → AllByRecursion P groups → P g
last_holds P groups g some is all = subst P (sym is) (All-from_recursion P groups all (length groups - 1) g (omega (arith, some)))

fits_near : (t : ℤ) → min_time ≤ℤ t → t ≤ℤ pos (2 ^ 63 - 1) → FitsSigned w64 t
fits_near (pos n) low high = record { sfits = omega (arith, ints, high) }
fits_near (negsuc n) low high = record { sfits = omega (arith, ints, low) }

-- the end of a bucket that holds a time has 64 bits
pub fits_end : (w : WidthValue) (g : Group) → IsWidth w → IsOfTime w g → FitsSigned w64 (g.start +ℤ w.step)
fits_end w g wide here =
    let below : g.start ≤ℤ max_time = here.0 in
    let above : min_time <ℤ (g.start +ℤ w.step) = here.1 in
    let bounded = wide.bounded in
    fits_near (g.start +ℤ w.step) (omega (arith, ints, above)) (omega (arith, ints, below, bounded))
