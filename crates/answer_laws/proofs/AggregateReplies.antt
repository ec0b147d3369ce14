-- What the answer of an aggregate shows of one bucket.
use Rattle.std.proofs.Common.{◌≡◌, ℕ, Bool, true, false, ◌&&◌, List, [], Option, None, Some, ℤ, int_le, cond, sym, refl, ap, ◌∙◌, subst}
use Rattle.std.specs.Ordering.{int_eq}
use Rattle.std.proofs.lemmas.Bool.{and_parts}
use Rattle.ts_schema.proofs.Cases.{by_test}
use Rattle.ts_num.specs.declared.values.Datum.{Datum}
use Rattle.ts_bucket.specs.Bucket.{IsWidth, first_of, holds, is_bucket}
use Rattle.ts_bucket.specs.Ranges.{AreRanges, is_asked, lies_in}
use Rattle.ts_bucket.specs.Spans.{in_span}
use Rattle.ts_bucket.specs.WholeSpans.{is_below}
use Rattle.ts_bucket.specs.declared.spans.Span.{Span}
use Rattle.ts_model.specs.declared.queries.Query.TheVariants.{Aggregate}
use Rattle.ts_model.specs.declared.views.ViewDef.{ViewDef}
use Rattle.ts_model.specs.Allowed.{all_consistent}
use Rattle.ts_model.specs.Answers.{answer, answer_of_view, buckets_in, left_by, ranges, shown}
use Rattle.ts_model.specs.Groups.{groups_at, groups_in}
use Rattle.ts_model.specs.History.{History, prefix}
use Rattle.ts_model.specs.Refreshes.{invalid, is_invalid, last, stale, touched, watermark}
use Rattle.ts_model.specs.Roster.{roster, view_of}
use Rattle.ts_model.specs.Rows.{rows}
use Rattle.ts_model.specs.Scratch.{bucket_rows, key_lists, scratch}
use Rattle.ts_model.proofs.GroupLaws.{cells_are_scratch}
use Rattle.ts_model.proofs.RangeLaws.{among-buckets_in, ranges_are_maximal, rising-buckets_in}
use Rattle.ts_model.proofs.RefreshLaws.{nothing_above_watermark}
use Rattle.ts_model.proofs.SoundLaws.{view_width}
use Rattle.ts_model.proofs.UntouchedLaws.{untouched_keeps}
use Rattle.hier_agg.specs.Upper.{rows_within}
use Rattle.hier_agg.proofs.Fresh.{group_starts, shown_outside, stood_start}
use Rattle.answer_laws.specs.Laws.{AsksFor, BucketsShow, ShowsAs}
use Rattle.answer_laws.proofs.OneBucket.{all_within_own, holds_itself, holds_no_other, one_part, within_each}

-- what a query asks for is a bucket
asked_bucket : (def : ViewDef) (starts : Span) (b : ℤ) → is_asked def.fold.width starts b ≡ true → is_bucket def.fold.width b ≡ true
asked_bucket def starts b e =
    (and_parts (is_bucket def.fold.width b) (int_le (first_of def.fold.width) b) (and_parts (in_span starts b) (is_bucket def.fold.width b && int_le (first_of def.fold.width) b) e).1).0

-- ---- what the aggregate shows of it

-- a bucket that isn't stale shows the aggregation from scratch, if it does so at or above the watermark
shown_fresh : (n : ℕ) (def : ViewDef) (h : History) (b : ℤ) → stale n def h b ≡ false → (is_below b (watermark n def h) ≡ false → cond def.only [] (scratch def h b) ≡ scratch def h b) → shown n def h b ≡ scratch def h b
shown_fresh n def h b e above =
    by_test (is_below b (watermark n def h))
    (λ f. let one : stale n def h b ≡ false = e in rw one (rw f refl))
    (λ f. let one : stale n def h b ≡ false = e in rw one (rw f (above f)))

-- a bucket that was refreshed, and that no commit touched since, isn't stale
not_stale : (n : ℕ) (def : ViewDef) (h : History) (b : ℤ) (s : ℕ) → last n h b ≡ Some s → touched n def h b s ≡ false → stale n def h b ≡ false
not_stale n def h b s e f =
    let valid : invalid n def h b ≡ false = ap (is_invalid n def h b) e ∙ f in
    by_test (is_below b (watermark n def h)) (λ t. rw t valid) (λ t. rw t refl)

-- a bucket at or above the watermark had no row at that refresh, and so has none
nothing_there : (n : ℕ) (def : ViewDef) (h : History) (b : ℤ) (s : ℕ) → all_consistent h ≡ true → view_of (roster h) n ≡ Some def → is_bucket def.fold.width b ≡ true → last n h b ≡ Some s → touched n def h b s ≡ false → is_below b (watermark n def h) ≡ false → cond def.only [] (scratch def h b) ≡ scratch def h b
nothing_there n def h b s ok there bucket e f mark =
    let none : scratch def h b ≡ [] = untouched_keeps n def h b s f ∙ nothing_above_watermark n def h b s ok there bucket e mark in
    by_test def.only (λ t. rw t (sym none)) (λ t. rw t refl)

-- ---- in the answer

module _ (n : ℕ) (def : ViewDef) (h : History) (starts : Span) (b : ℤ) (asks : AsksFor n def h starts b) where
  wide : IsWidth def.fold.width
  wide = view_width h n def asks.consistent asks.there

  bucket : is_bucket def.fold.width b ≡ true
  bucket = asked_bucket def starts b asks.asked

  own : holds def.fold.width b b ≡ true
  own = holds_itself def.fold.width b wide bucket

  -- the rows of other buckets aren't among those of this one
  others : (x : ℤ) → is_bucket def.fold.width x ≡ true → int_eq b x ≡ false → rows_within def.fold.width b (shown n def h x) ≡ []
  others x at apart = shown_outside n def h def.fold.width b x (holds_no_other def.fold.width b x wide bucket at apart)

  -- the rows of this bucket all are
  scratch_within : rows_within def.fold.width b (scratch def h b) ≡ scratch def h b
  scratch_within =
      let found = bucket_rows def.fold b (rows def.table h) in
      let cells = cells_are_scratch def.fold (rows def.table h) b in
      ap (rows_within def.fold.width b) (sym cells)
      ∙ (all_within_own def.fold.width b def.fold (groups_in def.fold (rows def.table h) b) (group_starts def.fold b found (key_lists def.fold found)) own
      ∙ cells)

  left_within : (s : Option ℕ) → rows_within def.fold.width b (left_by n def h b s) ≡ left_by n def h b s
  left_within None = refl
  left_within (Some s) = all_within_own def.fold.width b def.fold (groups_at n def h s b) (stood_start n def (prefix h s) s b) own

  answered : answer (Aggregate n starts) h ≡ answer_of_view n h starts (Some def)
  answered = ap (answer_of_view n h starts) asks.there

  -- so the answer shows of this bucket what the aggregate shows of it
  pub shows : (found : List (List Datum)) (named : Bool) → shown n def h b ≡ found → rows_within def.fold.width b found ≡ found → stale n def h b ≡ named → ShowsAs n def h starts b found named
  shows found named is within e = record {
    rows =
        ap (λ a. rows_within def.fold.width b a.rows) answered
        ∙ (within_each def.fold.width b (shown n def h) (buckets_in def.fold.width starts)
        ∙ (one_part def.fold.width b (λ x. rows_within def.fold.width b (shown n def h x)) others starts.lo (buckets_in def.fold.width starts) (rising-buckets_in def.fold.width starts) (among-buckets_in def.fold.width starts b ∙ asks.asked)
        ∙ (ap (rows_within def.fold.width b) is ∙ within)));
    stale =
        let maximal : AreRanges def.fold.width starts (stale n def h) (ranges def.fold.width (stale n def h) (buckets_in def.fold.width starts)) = ranges_are_maximal def.fold.width starts (stale n def h) wide in
        ap (λ a. lies_in a.stale b) answered ∙ (maximal.exact b bucket ∙ (ap (λ t. t && stale n def h b) asks.asked ∙ e));
  }

-- ---- each bucket

pub buckets_show : BucketsShow
buckets_show = record {
  refreshed = λ n def h starts b s asks e f.
      let at = asked_bucket def starts b asks.asked in
      let fresh = not_stale n def h b s e f in
      shows n def h starts b asks (scratch def h b) false
      (shown_fresh n def h b fresh (nothing_there n def h b s asks.consistent asks.there at e f))
      (scratch_within n def h starts b asks) fresh;
  real_time = λ n def h starts b asks real mark.
      let fresh : stale n def h b ≡ false = rw mark refl in
      shows n def h starts b asks (scratch def h b) false
      (shown_fresh n def h b fresh (λ f. rw real refl))
      (scratch_within n def h starts b asks) fresh;
  stale = λ n def h starts b asks below bad.
      let is : stale n def h b ≡ true = rw below bad in
      shows n def h starts b asks (left_by n def h b (last n h b)) true
      (rw is refl) (left_within n def h starts b asks (last n h b)) is;
  nothing = λ n def h starts b asks only mark.
      let fresh : stale n def h b ≡ false = rw mark refl in
      shows n def h starts b asks [] false
      (rw fresh (rw mark (rw only refl))) refl fresh;
}
