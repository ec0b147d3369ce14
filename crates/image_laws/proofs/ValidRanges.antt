-- The ranges and the mark of an aggregate in the image of a history, and the rows below the mark, are valid.
use Rattle.std.proofs.Common.{◌≡◌, ℕ, zero, suc, ◌<◌, ◌≤◌, Bool, true, false, ◌&&◌, ◌||◌, not, cond, nat_lt, List, [], ◌∷◌, map, filter, ℤ, pos, ◌+ℤ◌, ◌-ℤ◌, ◌≤ℤ◌, ◌<ℤ◌, int_le, int_lt, Option, Some, None, ◌⊎◌, ⊎_elim, sym, refl, ap, ◌∙◌, subst, arith}
use Rattle.std.specs.Prelude.{IfSome, is_some}
use Rattle.std.specs.List.{list_all, list_any, AllByRecursion}
use Rattle.std.specs.Ordering.{int_eq}
use Rattle.std.proofs.lemmas.Bool.{true≢false, and_parts, and_from, and_left, or_left, or_right, or_from, lt-ltb, cases_Bool}
use Rattle.std.proofs.lemmas.Int.{ints}
use Rattle.ts_bucket.specs.Bucket.{IsWidth, is_bucket, bucket_of, holds, first_of, min_time, max_time}
use Rattle.ts_bucket.specs.Ranges.{lies_in, is_asked, IsWholeRange, RiseApart}
use Rattle.ts_bucket.specs.Spans.{in_span}
use Rattle.ts_bucket.specs.WholeSpans.{is_below, IsMark, least, greatest}
use Rattle.ts_bucket.specs.declared.spans.Span.{Span}
use Rattle.ts_bucket.specs.declared.widths.Width.{Width}
use Rattle.ts_bucket.proofs.BucketLaws.{buckets_apart, is_bucket-before, is_bucket-bucket_of, holds-bucket_of}
use Rattle.ts_bucket.proofs.SpanLaws.{in_span-from_ends, in_span-ends}
use Rattle.ts_schema.proofs.Cases.{int_lt-true, int_le-true, le-int_le, lt-int_lt}
use Rattle.ts_schema.specs.declared.rows.Row.{Row}
use Rattle.ts_schema.specs.Conditions.{passes_all}
use Rattle.ts_model.specs.declared.images.SavedLast.{SavedLast}
use Rattle.ts_model.specs.declared.images.SavedView.{SavedView}
use Rattle.ts_model.specs.declared.views.Fold.{Fold}
use Rattle.ts_model.specs.declared.views.ViewDef.{ViewDef}
use Rattle.ts_model.specs.Saved.{pos_in}
use Rattle.ts_model.specs.Scratch.{bucket_rows}
use Rattle.ts_model.specs.Answers.{buckets_in}
use Rattle.ts_model.specs.Limits.{is_word}
use Rattle.ts_model.specs.Sound.{span_fits}
use Rattle.ts_model.specs.Valid.{spans_rise, lasts_fit, has_lasts, dirty_fits, mark_fits, row_marked}
use Rattle.image_laws.specs.Images.{Follows, LastsRise}
use Rattle.ts_model.proofs.RangeLaws.{among, among-buckets_in}
use Rattle.ts_model.proofs.CutLaws.{IsSpanned}

-- ---- a range whose first and last buckets lie in spans that fit

span_parts : (def : ViewDef) (span : Span) → span_fits span (Some def) ≡ true → (is_bucket def.fold.width span.hi ≡ true) × (first_of def.fold.width ≤ℤ span.lo) × (least ≤ℤ span.lo) × (span.hi ≤ℤ greatest)
span_parts def span fits =
    let high = and_parts _ (is_word span.hi) fits in
    let low = and_parts _ (is_word span.lo) high.0 in
    let first = and_parts _ (int_le (first_of def.fold.width) span.lo) low.0 in
    let some = and_parts _ (int_lt span.lo span.hi) first.0 in
    let ends = and_parts (is_bucket def.fold.width span.lo) (is_bucket def.fold.width span.hi) some.0 in
    (ends.1, int_le-true (first_of def.fold.width) span.lo first.1, int_le-true least span.lo (and_parts (int_le least span.lo) (int_le span.lo greatest) low.1).0, int_le-true span.hi greatest (and_parts (int_le least span.hi) (int_le span.hi greatest) high.1).1)

last_of : (w : Width) (s : Span) → IsWidth w → IsWholeRange w s → (is_bucket w (s.hi -ℤ w.step) ≡ true) × (in_span s (s.hi -ℤ w.step) ≡ true)
last_of w s width whole =
    let positive : pos 0 <ℤ w.step = width.positive in
    let some : s.lo <ℤ s.hi = whole.some in
    let apart : (s.lo +ℤ w.step) ≤ℤ s.hi = buckets_apart w s.lo s.hi width whole.starts whole.ends some in
    (is_bucket-before w s.hi width ∙ whole.ends, in_span-from_ends s (s.hi -ℤ w.step) (omega (arith, ints)) (omega (arith, ints)))

pub first_in : (w : Width) (s : Span) → IsWholeRange w s → in_span s s.lo ≡ true
first_in w s whole = let some : s.lo <ℤ s.hi = whole.some in in_span-from_ends s s.lo (omega (arith, ints)) some

range_fits : (def : ViewDef) (s : Span) → IsWidth def.fold.width → IsWholeRange def.fold.width s → IsSpanned def s.lo → IsSpanned def (s.hi -ℤ def.fold.width.step) → span_fits s (Some def) ≡ true
range_fits def s width whole low high =
    let w = def.fold.width in
    let positive : pos 0 <ℤ w.step = width.positive in
    let some : s.lo <ℤ s.hi = whole.some in
    let last = last_of w s width whole in
    let a = span_parts def low.span low.fits in
    let z = span_parts def high.span high.fits in
    let la = in_span-ends low.span s.lo low.inside in
    let lz = in_span-ends high.span (s.hi -ℤ w.step) high.inside in
    let from : low.span.lo ≤ℤ s.lo = la.0 in
    let to : s.lo <ℤ low.span.hi = la.1 in
    let upto : (s.hi -ℤ w.step) <ℤ high.span.hi = lz.1 in
    let apart : ((s.hi -ℤ w.step) +ℤ w.step) ≤ℤ high.span.hi = buckets_apart w (s.hi -ℤ w.step) high.span.hi width last.0 z.0 upto in
    let a1 : first_of w ≤ℤ low.span.lo = a.1 in
    let a2 : least ≤ℤ low.span.lo = a.2 in
    let a3 : low.span.hi ≤ℤ greatest = a.3 in
    let z3 : high.span.hi ≤ℤ greatest = z.3 in
    let first : first_of w ≤ℤ s.lo = omega (arith, ints) in
    let lo_low : least ≤ℤ s.lo = omega (arith, ints) in
    let lo_high : s.lo ≤ℤ greatest = omega (arith, ints) in
    let hi_low : least ≤ℤ s.hi = omega (arith, ints) in
    let hi_high : s.hi ≤ℤ greatest = omega (arith, ints) in
    and_from _ _ (and_from _ _ (and_from _ _ (and_from _ _ (and_from _ _ whole.starts whole.ends) (lt-int_lt s.lo s.hi some)) (le-int_le (first_of w) s.lo first)) (and_from _ _ (le-int_le least s.lo lo_low) (le-int_le s.lo greatest lo_high))) (and_from _ _ (le-int_le least s.hi hi_low) (le-int_le s.hi greatest hi_high))

-- ---- last refreshes

-- ranges that rise hold no number below where the first begins
pub lasts_from : (w : Width) (b : ℤ) (s : ℕ) (l : SavedLast) (ls : List SavedLast) → AllByRecursion (λ (l : SavedLast). IsWholeRange w l.span) (l ∷ ls) → LastsRise (l ∷ ls) → pos_in (l ∷ ls) b ≡ Some s → l.span.lo ≤ℤ b
lasts_from w b s l [] whole rise e =
    elim (in_span l.span b) as (λ t. in_span l.span b ≡ t → cond t (Some l.pos) None ≡ Some s → l.span.lo ≤ℤ b) [
      | true ↦ λ inside _. (in_span-ends l.span b inside).0
      | false ↦ λ _ f. absurd (cc)
    ] refl e
lasts_from w b s l (m ∷ ls) whole rise e =
    elim (in_span l.span b) as (λ t. in_span l.span b ≡ t → cond t (Some l.pos) (pos_in (m ∷ ls) b) ≡ Some s → l.span.lo ≤ℤ b) [
      | true ↦ λ inside _. (in_span-ends l.span b inside).0
      | false ↦ λ _ f.
          let above : l.span.hi ≤ℤ m.span.lo = rise.0.above in
          let some : l.span.lo <ℤ l.span.hi = whole.0.some in
          let rest : m.span.lo ≤ℤ b = lasts_from w b s m ls whole.1 rise.1 f in
          omega (arith, ints)
    ] refl e

later_lasts : (w : Width) (b : ℤ) (s : ℕ) (l : SavedLast) (ls : List SavedLast) → AllByRecursion (λ (l : SavedLast). IsWholeRange w l.span) (l ∷ ls) → LastsRise (l ∷ ls) → pos_in ls b ≡ Some s → pos_in (l ∷ ls) b ≡ Some s
later_lasts w b s l [] whole rise e = absurd (cc)
later_lasts w b s l (m ∷ ls) whole rise e =
    elim (in_span l.span b) as (λ t. in_span l.span b ≡ t → cond t (Some l.pos) (pos_in (m ∷ ls) b) ≡ Some s) [
      | true ↦ λ inside.
          let above : l.span.hi ≤ℤ m.span.lo = rise.0.above in
          let from : m.span.lo ≤ℤ b = lasts_from w b s m ls whole.1 rise.1 e in
          let to : b <ℤ l.span.hi = (in_span-ends l.span b inside).1 in
          absurd (omega (arith, ints))
      | false ↦ λ _. e
    ] refl

pub tail_rises : (l : SavedLast) (ls : List SavedLast) → LastsRise (l ∷ ls) → LastsRise ls
tail_rises l [] rise = tt
tail_rises l (m ∷ ls) rise = rise.1

lasts_each : (def : ViewDef) (p : ℕ) (ls : List SavedLast) → IsWidth def.fold.width → AllByRecursion (λ (l : SavedLast). IsWholeRange def.fold.width l.span) ls → LastsRise ls → ((b : ℤ) (s : ℕ) → is_bucket def.fold.width b ≡ true → pos_in ls b ≡ Some s → IsSpanned def b × (s < p)) → list_all (λ l. span_fits l.span (Some def) && nat_lt l.pos p) ls ≡ true
lasts_each def p [] width whole rise each = refl
lasts_each def p (l ∷ ls) width whole rise each =
    let w = def.fold.width in
    let last = last_of w l.span width whole.0 in
    let here : (b : ℤ) → in_span l.span b ≡ true → pos_in (l ∷ ls) b ≡ Some l.pos = λ b inside. ap (λ t. cond t (Some l.pos) (pos_in ls b)) inside in
    let low = each l.span.lo l.pos whole.0.starts (here l.span.lo (first_in w l.span whole.0)) in
    let high = each (l.span.hi -ℤ w.step) l.pos last.0 (here (l.span.hi -ℤ w.step) last.1) in
    and_from _ _ (and_from _ _ (range_fits def l.span width whole.0 low.0 high.0) (lt-ltb l.pos p low.1))
    (lasts_each def p ls width whole.1 (tail_rises l ls rise) (λ b s bucket e. each b s bucket (later_lasts w b s l ls whole rise e)))

lasts_rising : (ls : List SavedLast) → LastsRise ls → spans_rise (map (λ (l : SavedLast). l.span) ls) ≡ true
lasts_rising [] rise = refl
lasts_rising (l ∷ []) rise = refl
lasts_rising (l ∷ m ∷ ls) rise = and_from _ _ (le-int_le l.span.hi m.span.lo rise.0.above) (lasts_rising (m ∷ ls) rise.1)

pub lasts_are_fit : (def : ViewDef) (p : ℕ) (ls : List SavedLast) → IsWidth def.fold.width → AllByRecursion (λ (l : SavedLast). IsWholeRange def.fold.width l.span) ls → LastsRise ls → ((b : ℤ) (s : ℕ) → is_bucket def.fold.width b ≡ true → pos_in ls b ≡ Some s → IsSpanned def b × (s < p)) → lasts_fit def p ls ≡ true
lasts_are_fit def p ls width whole rise each = and_from _ _ (lasts_each def p ls width whole rise each) (lasts_rising ls rise)

-- ---- dirty buckets

all_among : (test : ℤ → Bool) (bs : List ℤ) → ((b : ℤ) → among b bs ≡ true → test b ≡ true) → list_all test bs ≡ true
all_among test [] each = refl
all_among test (b ∷ bs) each = and_from _ _ (each b (or_left _ _ (itself b))) (all_among test bs (λ c e. each c (or_right (int_eq b c) _ e)))
  where
    itself : (b : ℤ) → int_eq b b ≡ true
    itself b = grind (arith, ints)

dirty_each : (def : ViewDef) (ls : List SavedLast) (ss : List Span) → IsWidth def.fold.width → AllByRecursion (IsWholeRange def.fold.width) ss → ((b : ℤ) → is_bucket def.fold.width b ≡ true → lies_in ss b ≡ true → IsSpanned def b × (is_some (pos_in ls b) ≡ true)) → list_all (λ s. span_fits s (Some def) && has_lasts def.fold.width ls s) ss ≡ true
dirty_each def ls [] width whole each = refl
dirty_each def ls (s ∷ ss) width whole each =
    let w = def.fold.width in
    let last = last_of w s width whole.0 in
    let low = each s.lo whole.0.starts (or_left _ _ (first_in w s whole.0)) in
    let high = each (s.hi -ℤ w.step) last.0 (or_left _ _ last.1) in
    let all : has_lasts w ls s ≡ true = all_among (λ b. is_some (pos_in ls b)) (buckets_in w s) (λ b e.
    let asked = and_parts (in_span s b) (is_bucket w b && int_le (first_of w) b) (sym (among-buckets_in w s b) ∙ e) in
    (each b (and_parts (is_bucket w b) (int_le (first_of w) b) asked.1).0 (or_left _ _ asked.0)).1)
    in
    and_from _ _ (and_from _ _ (range_fits def s width whole.0 low.0 high.0) all)
    (dirty_each def ls ss width whole.1 (λ b bucket e. each b bucket (or_right (in_span s b) _ e)))

dirty_rising : (ss : List Span) → RiseApart ss → spans_rise ss ≡ true
dirty_rising [] rise = refl
dirty_rising (s ∷ []) rise = refl
dirty_rising (s ∷ t ∷ ss) rise = let l : s.hi <ℤ t.lo = rise.0 in and_from _ _ (le-int_le s.hi t.lo (omega (arith, ints))) (dirty_rising (t ∷ ss) rise.1)

pub dirty_is_fit : (def : ViewDef) (ls : List SavedLast) (ss : List Span) → IsWidth def.fold.width → AllByRecursion (IsWholeRange def.fold.width) ss → RiseApart ss → ((b : ℤ) → is_bucket def.fold.width b ≡ true → lies_in ss b ≡ true → IsSpanned def b × (is_some (pos_in ls b) ≡ true)) → dirty_fits def ls ss ≡ true
dirty_is_fit def ls ss width whole rise each = and_from _ _ (dirty_each def ls ss width whole each) (dirty_rising ss rise)

-- ---- the mark

pub mark_is_fit : (w : Width) (o : Option ℤ) → IfSome o (IsMark w) → mark_fits w o ≡ true
mark_is_fit w None m = refl
mark_is_fit w (Some x) m = and_from _ _ (and_from _ _ m.ends (lt-int_lt min_time x m.above_a_time)) (le-int_le (x -ℤ w.step) max_time m.starts_at_or_below_a_time)

-- ---- rows below the mark

one_less : (fold : Fold) (row : Row) (xs : List Row) (b : ℤ) → bucket_rows fold b (row ∷ xs) ≡ [] → ((holds fold.width b row.at && passes_all row fold.tests) ≡ false) × (bucket_rows fold b xs ≡ [])
one_less fold row xs b e =
    elim (holds fold.width b row.at && passes_all row fold.tests) as (λ t. cond t (row ∷ bucket_rows fold b xs) (bucket_rows fold b xs) ≡ [] → (t ≡ false) × (bucket_rows fold b xs ≡ [])) [
      | true ↦ λ f. absurd (cc)
      | false ↦ λ f. (refl, f)
    ] e

pub rows_are_marked : (fold : Fold) (v : SavedView) (xs : List Row) → IsWidth fold.width → ((b : ℤ) → is_bucket fold.width b ≡ true → is_some (pos_in v.lasts b) ≡ true → lies_in v.dirty b ≡ false → is_below b v.mark ≡ false → bucket_rows fold b xs ≡ []) → list_all (row_marked fold v) xs ≡ true
rows_are_marked fold v [] width none = refl
rows_are_marked fold v (row ∷ xs) width none =
    let b = bucket_of fold.width row.at in
    let bucket : is_bucket fold.width b ≡ true = is_bucket-bucket_of fold.width row.at width in
    and_from _ _ (by_cases (passes_all row fold.tests) (is_some (pos_in v.lasts b)) (lies_in v.dirty b) (is_below b v.mark) refl refl refl refl)
    (rows_are_marked fold v xs width (λ c buck last clean above. (one_less fold row xs c (none c buck last clean above)).1))
  where
    by_cases : (p l d m : Bool) → passes_all row fold.tests ≡ p → is_some (pos_in v.lasts (bucket_of fold.width row.at)) ≡ l → lies_in v.dirty (bucket_of fold.width row.at) ≡ d → is_below (bucket_of fold.width row.at) v.mark ≡ m → (not (p && l && not d) || m) ≡ true
    by_cases p l d true a b c e = or_right (not (p && l && not d)) true refl
    by_cases false l d false a b c e = refl
    by_cases true false d false a b c e = refl
    by_cases true true true false a b c e = refl
    by_cases true true false false a b c e =
        let gone = (one_less fold row xs (bucket_of fold.width row.at) (none (bucket_of fold.width row.at) (is_bucket-bucket_of fold.width row.at width) b c e)).0 in
        absurd (true≢false (sym (and_from _ _ (holds-bucket_of fold.width row.at width) a) ∙ gone))
