-- Laws of ranges: pieces joined where they touch are ranges of whole buckets, of maximal length.
use Rattle.std.proofs.Common.{◌≡◌, ℕ, Bool, true, false, not, cond, nat_le, nat_lt, ◌&&◌, ◌||◌, ℤ, pos, ◌+ℤ◌, ◌-ℤ◌, ◌≤ℤ◌, ◌<ℤ◌, int_le, List, [], ◌∷◌, ◌++◌, filter, Option, Some, None, is_some, is_none, Result, IfOk, refl, sym, ap, ◌∙◌, subst, arith, true≢false}
use Rattle.std.specs.Ordering.{int_eq}
use Rattle.std.specs.List.{AllByRecursion}
use Rattle.std.proofs.lemmas.Result.{IfOk-weaker}
use Rattle.std.proofs.lemmas.Int.{ints, by_lt_z}
use Rattle.std.proofs.lemmas.Bool.{false≢true, or_left}
use Rattle.std.proofs.lemmas.Bool.Decides.{Decides-int_eq, nat_tests}
use Rattle.std.proofs.Math.Bool.{and-true, and_assoc}
use Rattle.ts_bucket.specs.Bucket.{WidthValue, IsWidth, is_bucket, bucket_of, first_of}
use Rattle.ts_bucket.specs.Spans.{SpanValue, in_span, overlaps}
use Rattle.ts_bucket.proofs.BucketLaws.{bucket_of_meets, bucket_of-last, holds-one, holds-from_parts, is_bucket-bucket_of}
use Rattle.ts_bucket.proofs.SpanLaws.{in_span-ends, in_span-from_ends}
use Rattle.span_map.specs.declared.pieces.Piece.{Piece}
use Rattle.span_map.specs.Pieces.{piece_at, ArePieces}
use Rattle.ts_bucket.specs.Positions.{above, is_above}
use Rattle.ts_bucket.specs.Ranges.{lies_in, is_asked, IsWholeRange, RiseApart, AreRanges}
use Rattle.ts_bucket.specs.WholeSpans.{IsWholeSpan, whole_span, greatest, is_below}
use Rattle.ts_bucket.proofs.PositionLaws.{is_some-above}
use Rattle.ts_bucket.proofs.RangeLaws.{AreRanges-same}
use Rattle.ts_bucket.proofs.WholeSpanLaws.{in_span-bucket}
use Rattle.inval_log.specs.declared.entries.Entry.{Entry}
use Rattle.mat_log.specs.Logs.{LogValue, IsInStep, is_refreshed_after, pending_at, last_at}
use Rattle.span_map.specs.Combined.{combined_by}
use Rattle.span_map.specs.declared.rules.Rule.TheVariants.{NotBelow, Over, Where}
use Rattle.mat_log.specs.Feeding.{is_dirty_with, is_changed_with, is_redone_with}
use Rattle.mat_log.specs.Touching.{pending_or_fresh}
use Rattle.mat_log.proofs.FeedLaws.{in_step-with, near_some, cond_twice, some_over}
use Rattle.mat_log.specs.JoinedRanges.{ranges_joined}

-- x is below the first of the ranges
abbrev IsBeforeRanges : ℤ → List SpanValue → Type 0
IsBeforeRanges x [] = Unit {0}
IsBeforeRanges x (s ∷ ss) = x <ℤ s.lo

-- none of the ranges is empty, and each ends below the next one's start
abbrev AreApart : List SpanValue → Type 0
AreApart [] = Unit {0}
AreApart (s ∷ ss) = (s.lo <ℤ s.hi) × IsBeforeRanges s.hi ss × AreApart ss

pub out_below : (s : SpanValue) (t : ℤ) → t <ℤ s.lo → in_span s t ≡ false
out_below s t l = grind (arith, ints)

pub out_above : (s : SpanValue) (t : ℤ) → s.hi ≤ℤ t → in_span s t ≡ false
out_above s t l = grind (arith, ints)

-- ---- pieces joined

-- the open range, if there is one, has numbers and ends at or below lo
abbrev OpenFits : Option SpanValue → ℤ → Type 0
OpenFits None lo = Unit {0}
OpenFits (Some s) lo = (s.lo <ℤ s.hi) × (s.hi ≤ℤ lo)

abbrev in_open : Option SpanValue → ℤ → Bool
in_open None t = false
in_open (Some s) t = in_span s t

some_piece : (b : Bool) (at : ℕ) (v : Option ℕ) → is_some (cond b (Some at) v) ≡ (b || is_some v)
some_piece true at v = refl
some_piece false at v = refl

or_assoc : (a b c : Bool) → (a || (b || c)) ≡ (a || b || c)
or_assoc true b c = refl
or_assoc false b c = refl

-- two spans that touch are one
pub one_span : (s p : SpanValue) (t : ℤ) → s.lo <ℤ s.hi → p.lo <ℤ p.hi → s.hi ≡ p.lo → in_span (record { lo = s.lo; hi = p.hi }) t ≡ (in_span s t || in_span p t)
one_span s p t l g e = by_lt_z t s.hi
    (λ below. grind (arith, ints))
    (λ above. grind (arith, ints))

touch_step : (s : SpanValue) (p : Piece) (ps : List Piece) (t : ℤ) (touching : Bool) → int_eq s.hi p.span.lo ≡ touching → s.lo <ℤ s.hi → p.span.lo <ℤ p.span.hi → ((o : SpanValue) → o.lo <ℤ o.hi → o.hi ≡ p.span.hi → lies_in (ranges_joined (Some o) ps) t ≡ (in_span o t || is_some (piece_at ps t))) → lies_in (cond touching [] (s ∷ []) ++ ranges_joined (Some (cond touching (record { lo = s.lo; hi = p.span.hi }) p.span)) ps) t ≡ (in_span s t || (in_span p.span t || is_some (piece_at ps t)))
touch_step s p ps t true e l g rest =
    let same : s.hi ≡ p.span.lo = (Decides-int_eq s.hi p.span.lo).0 e in
    rest (record { lo = s.lo; hi = p.span.hi }) (omega (arith, ints)) refl
    ∙ ap (λ b. b || is_some (piece_at ps t)) (one_span s p.span t l g same)
    ∙ sym (or_assoc (in_span s t) (in_span p.span t) (is_some (piece_at ps t)))
touch_step s p ps t false e l g rest = ap (λ b. in_span s t || b) (rest p.span g refl)

-- the ranges have the numbers of the open range and of the pieces
lies_in-joined : (range : Option SpanValue) (lo hi : ℤ) (ps : List Piece) (t : ℤ) → ArePieces lo hi ps → OpenFits range lo → lies_in (ranges_joined range ps) t ≡ (in_open range t || is_some (piece_at ps t))
lies_in-joined None lo hi [] t a f = refl
lies_in-joined (Some s) lo hi [] t a f = refl
lies_in-joined None lo hi (p ∷ ps) t a f =
    lies_in-joined (Some p.span) p.span.hi hi ps t a.3 (a.1, omega (arith, ints)) ∙ sym (some_piece (in_span p.span t) p.pos (piece_at ps t))
lies_in-joined (Some s) lo hi (p ∷ ps) t a f =
    touch_step s p ps t (int_eq s.hi p.span.lo) refl f.0 a.1 (λ o l e. lies_in-joined (Some o) p.span.hi hi ps t a.3 (l, omega (arith, ints)))
    ∙ ap (λ b. in_span s t || b) (sym (some_piece (in_span p.span t) p.pos (piece_at ps t)))

before_step : (x : ℤ) (s : SpanValue) (p : Piece) (ps : List Piece) (touching : Bool) → x <ℤ s.lo → ((o : SpanValue) → x <ℤ o.lo → IsBeforeRanges x (ranges_joined (Some o) ps)) → IsBeforeRanges x (cond touching [] (s ∷ []) ++ ranges_joined (Some (cond touching (record { lo = s.lo; hi = p.span.hi }) p.span)) ps)
before_step x s p ps true l rest = rest (record { lo = s.lo; hi = p.span.hi }) l
before_step x s p ps false l rest = l

-- a number below the open range is below all ranges
before-joined : (x : ℤ) (s : SpanValue) (ps : List Piece) → x <ℤ s.lo → IsBeforeRanges x (ranges_joined (Some s) ps)
before-joined x s [] l = l
before-joined x s (p ∷ ps) l = before_step x s p ps (int_eq s.hi p.span.lo) l (λ o g. before-joined x o ps g)

apart_step : (s : SpanValue) (p : Piece) (ps : List Piece) (touching : Bool) → int_eq s.hi p.span.lo ≡ touching → s.lo <ℤ s.hi → p.span.lo <ℤ p.span.hi → s.hi ≤ℤ p.span.lo → ((o : SpanValue) → o.lo <ℤ o.hi → o.hi ≡ p.span.hi → AreApart (ranges_joined (Some o) ps)) → AreApart (cond touching [] (s ∷ []) ++ ranges_joined (Some (cond touching (record { lo = s.lo; hi = p.span.hi }) p.span)) ps)
apart_step s p ps true e l g le rest = rest (record { lo = s.lo; hi = p.span.hi }) (omega (arith, ints)) refl
apart_step s p ps false e l g le rest =
    (l, before-joined s.hi p.span ps (by_lt_z s.hi p.span.lo (λ less. less) (λ more. absurd (true≢false (sym ((Decides-int_eq s.hi p.span.lo).1 (omega (arith, ints))) ∙ e)))), rest p.span g refl)

-- the ranges are apart
apart-joined : (range : Option SpanValue) (lo hi : ℤ) (ps : List Piece) → ArePieces lo hi ps → OpenFits range lo → AreApart (ranges_joined range ps)
apart-joined None lo hi [] a f = tt
apart-joined (Some s) lo hi [] a f = (f.0, tt, tt)
apart-joined None lo hi (p ∷ ps) a f = apart-joined (Some p.span) p.span.hi hi ps a.3 (a.1, omega (arith, ints))
apart-joined (Some s) lo hi (p ∷ ps) a f =
    let end : s.hi ≤ℤ lo = f.1 in
    let start : lo ≤ℤ p.span.lo = a.0 in
    apart_step s p ps (int_eq s.hi p.span.lo) refl f.0 a.1 (omega (arith, ints)) (λ o l e. apart-joined (Some o) p.span.hi hi ps a.3 (l, omega (arith, ints)))

-- ---- whole buckets

-- no number below the first range is in a range, nor is the end of a range before the next
pub before_none : (x t : ℤ) (ss : List SpanValue) → IsBeforeRanges x ss → AreApart ss → t ≤ℤ x → lies_in ss t ≡ false
before_none x t [] b a l = refl
before_none x t (s ∷ ss) b a l =
    let start : x <ℤ s.lo = b in
    let size : s.lo <ℤ s.hi = a.0 in
    ap (λ c. c || lies_in ss t) (out_below s t (omega (arith, ints))) ∙ before_none s.hi t ss a.1 a.2 (omega (arith, ints))

-- if a test that has one answer for a whole bucket changes, a bucket starts
pub changes_at_bucket : (w : WidthValue) (test : ℤ → Bool) (x : ℤ) → IsWidth w → ((t : ℤ) → test t ≡ test (bucket_of w t)) → (test (x -ℤ pos 1) ≡ test x → ⊥) → is_bucket w x ≡ true
changes_at_bucket w test x h one differs =
    let low : bucket_of w x ≤ℤ x = (bucket_of_meets w x h).at_or_below in
    let high : x <ℤ (bucket_of w x +ℤ w.step) = (bucket_of_meets w x h).end_above in
    by_lt_z (bucket_of w x) x
    (λ below.
    let same : bucket_of w x ≡ bucket_of w (x -ℤ pos 1) = holds-one w (bucket_of w x) (x -ℤ pos 1) h (is_bucket-bucket_of w x h) (holds-from_parts w (bucket_of w x) (x -ℤ pos 1) (omega (arith, ints)) (omega (arith, ints))) in
    absurd (differs (one (x -ℤ pos 1) ∙ ap test (sym same) ∙ sym (one x))))
    (λ above. let at : bucket_of w x ≡ x = omega (arith, ints) in subst (λ y. is_bucket w y ≡ true) at (is_bucket-bucket_of w x h))

pub differ : (a b : Bool) → a ≡ false → b ≡ true → a ≡ b → ⊥
differ a b p q e = false≢true (sym p ∙ e ∙ q)

pub differ' : (a b : Bool) → a ≡ true → b ≡ false → a ≡ b → ⊥
differ' a b p q e = true≢false (sym p ∙ e ∙ q)

-- ranges of such a test start and end where buckets do
whole_from : (w : WidthValue) (test : ℤ → Bool) (x : ℤ) (ss : List SpanValue) → IsWidth w → ((t : ℤ) → test t ≡ test (bucket_of w t)) → AreApart ss → IsBeforeRanges x ss → ((t : ℤ) → x ≤ℤ t → lies_in ss t ≡ test t) → AllByRecursion (IsWholeRange w) ss
whole_from w test x [] h one a b is = tt
whole_from w test x (s ∷ ss) h one a b is =
    let start : x <ℤ s.lo = b in
    let size : s.lo <ℤ s.hi = a.0 in
    let before : lies_in (s ∷ ss) (s.lo -ℤ pos 1) ≡ false = ap (λ c. c || lies_in ss (s.lo -ℤ pos 1)) (out_below s (s.lo -ℤ pos 1) (omega (arith, ints))) ∙ before_none s.hi (s.lo -ℤ pos 1) ss a.1 a.2 (omega (arith, ints)) in
    let at_start : lies_in (s ∷ ss) s.lo ≡ true = or_left (in_span s s.lo) (lies_in ss s.lo) (in_span-from_ends s s.lo (omega (arith, ints)) size) in
    let at_last : lies_in (s ∷ ss) (s.hi -ℤ pos 1) ≡ true = or_left (in_span s (s.hi -ℤ pos 1)) (lies_in ss (s.hi -ℤ pos 1)) (in_span-from_ends s (s.hi -ℤ pos 1) (omega (arith, ints)) (omega (arith, ints))) in
    let at_end : lies_in (s ∷ ss) s.hi ≡ false = ap (λ c. c || lies_in ss s.hi) (out_above s s.hi (omega (arith, ints))) ∙ before_none s.hi s.hi ss a.1 a.2 (omega (arith, ints)) in (
      record {
        starts = changes_at_bucket w test s.lo h one (differ (test (s.lo -ℤ pos 1)) (test s.lo) (sym (is (s.lo -ℤ pos 1) (omega (arith, ints))) ∙ before) (sym (is s.lo (omega (arith, ints))) ∙ at_start));
        ends = changes_at_bucket w test s.hi h one (differ' (test (s.hi -ℤ pos 1)) (test s.hi) (sym (is (s.hi -ℤ pos 1) (omega (arith, ints))) ∙ at_last) (sym (is s.hi (omega (arith, ints))) ∙ at_end));
        some = size;
      },
      whole_from w test s.hi ss h one a.2 a.1 (λ t l. ap (λ c. c || lies_in ss t) (sym (out_above s t l)) ∙ is t (omega (arith, ints))),
    )

some_start : (lo : ℤ) (ss : List SpanValue) → (x : ℤ) × IsBeforeRanges x ss
some_start lo [] = (lo, tt)
some_start lo (s ∷ ss) = (s.lo -ℤ pos 1, omega (arith, ints))

apart_rise : (ss : List SpanValue) → AreApart ss → RiseApart ss
apart_rise [] a = tt
apart_rise (s ∷ []) a = tt
apart_rise (s ∷ t ∷ ss) a = (a.1, apart_rise (t ∷ ss) a.2)

-- ---- the buckets at which a function has a value

and_some : (b : Bool) (v : Option ℕ) → is_some (cond b v None) ≡ (b && is_some v)
and_some true v = refl
and_some false v = refl

-- a bucket of a span of whole buckets is requested
asked : (w : WidthValue) (s : SpanValue) (b : ℤ) → IsWholeSpan w s → is_bucket w b ≡ true → is_asked w s b ≡ in_span s b
asked w s b whole bucket = by (in_span s b) refl
  where
    by : (c : Bool) → in_span s b ≡ c → (c && (is_bucket w b && int_le (first_of w) b)) ≡ c
    by false e = refl
    by true e =
        let first : first_of w ≤ℤ s.lo = whole.from_first in
        let low : s.lo ≤ℤ b = (in_span-ends s b e).0 in
        let above : int_le (first_of w) b ≡ true = grind (arith, ints) in
        ap (λ x. x && int_le (first_of w) b) bucket ∙ above

-- the joined pieces within a span of whole buckets of a function that has one value for a whole bucket are the ranges of the buckets at which it has one
pub some_ranges : (w : WidthValue) (f : ℤ → Option ℕ) (s : SpanValue) (pieces : List Piece) → IsWidth w → ((t : ℤ) → f t ≡ f (bucket_of w t)) → IsWholeSpan w s → ((t : ℤ) → piece_at pieces t ≡ cond (in_span s t) (f t) None) → ArePieces s.lo s.hi pieces → AreRanges w s (λ b. is_some (f b)) (ranges_joined None pieces)
some_ranges w f s pieces h one whole values rising =
    let is : (t : ℤ) → lies_in (ranges_joined None pieces) t ≡ (in_span s t && is_some (f t)) = λ t. lies_in-joined None s.lo s.hi pieces t rising tt ∙ ap is_some (values t) ∙ and_some (in_span s t) (f t) in
    let both : (t : ℤ) → (in_span s t && is_some (f t)) ≡ (in_span s (bucket_of w t) && is_some (f (bucket_of w t))) = λ t. ap (λ b. b && is_some (f t)) (in_span-bucket w s t h whole.starts whole.ends) ∙ ap (λ v. in_span s (bucket_of w t) && is_some v) (one t) in
    let apart : AreApart (ranges_joined None pieces) = apart-joined None s.lo s.hi pieces rising tt in
    let start = some_start s.lo (ranges_joined None pieces) in
    record {
      whole = whole_from w (λ t. in_span s t && is_some (f t)) start.0 (ranges_joined None pieces) h both apart start.1 (λ t l. is t);
      rising = apart_rise (ranges_joined None pieces) apart;
      exact = λ b q. is b ∙ ap (λ c. c && is_some (f b)) (sym (asked w s b whole q));
    }

-- ---- dirty buckets

-- if something is pending in each bucket without a last refresh, the buckets with something pending are the
-- dirty ones
pub dirty_ranges : (w : WidthValue) (p r : ℤ → Option ℕ) (s : SpanValue) (pieces : List Piece) → IsInStep w p r → IsWholeSpan w s → s.hi ≤ℤ greatest → ((t : ℤ) → piece_at pieces t ≡ cond (in_span s t) (p t) None) → ArePieces s.lo s.hi pieces → AreRanges w s (λ b. is_none (r b) || is_some (p b)) (ranges_joined None pieces)
dirty_ranges w p r s pieces h whole end values rising =
    AreRanges-same w s s (λ b. is_some (p b)) (λ b. is_none (r b) || is_some (p b)) (ranges_joined None pieces)
    (λ b q. ap (λ c. c && is_some (p b)) (asked w s b whole q) ∙ by b (in_span s b) refl ∙ ap (λ c. c && (is_none (r b) || is_some (p b))) (sym (asked w s b whole q)))
    (some_ranges w p s pieces h.bounds h.one_pending whole values rising)
  where
    pending_is : (v u : Option ℕ) → (is_some u || is_some v) ≡ true → is_some v ≡ (is_none u || is_some v)
    pending_is v None m = m
    pending_is v (Some x) m = refl

    by : (b : ℤ) (c : Bool) → in_span s b ≡ c → (c && is_some (p b)) ≡ (c && (is_none (r b) || is_some (p b)))
    by b false e = refl
    by b true e =
        let ends = in_span-ends s b e in
        let first : first_of w ≤ℤ s.lo = whole.from_first in
        let low : s.lo ≤ℤ b = ends.0 in
        let high : b <ℤ s.hi = ends.1 in
        let last : s.hi ≤ℤ bucket_of w greatest = bucket_of-last w s.hi greatest h.bounds whole.ends end in
        let inside : in_span (whole_span w) b ≡ true = in_span-from_ends (whole_span w) b (omega (arith, ints)) (omega (arith, ints)) in
        pending_is (p b) (r b) (h.marked b inside)

-- the same as if entries had been fed, given the pieces of what is then pending near a span
pub dirty_with_as : {E : Type 0} (log : LogValue) (es : List Entry) (s : SpanValue) (f : ℤ → Option ℕ) (pieces : List Piece) (found : Result (List SpanValue) E) → IsInStep log.width (pending_at log) (last_at log) → IsWholeSpan log.width s → s.hi ≤ℤ greatest → ((t : ℤ) → f t ≡ cond (in_span s t) (pending_or_fresh log (filter (λ e. overlaps e.hull s) es) t) None) → ((t : ℤ) → piece_at pieces t ≡ cond (in_span s t) (f t) None) → ArePieces s.lo s.hi pieces → IfOk found (λ ranges. ranges ≡ ranges_joined None pieces) → IfOk found (AreRanges log.width s (is_dirty_with log es))
dirty_with_as log es s f pieces found h whole end is values rising =
    IfOk-weaker found _ _ (λ ranges e. subst (AreRanges w s (is_dirty_with log es)) (sym e)
    (AreRanges-same w s s (λ b. is_none (last_at log b) || is_some (p b)) (is_dirty_with log es) (ranges_joined None pieces) same
    (dirty_ranges w p (last_at log) s pieces (in_step-with w (pending_at log) (last_at log) p near h (λ t. refl)) whole end (λ t. values t ∙ ap (λ v. cond (in_span s t) v None) (is t) ∙ cond_twice (in_span s t) (p t)) rising)))
  where
    w : WidthValue
    w = log.width

    near : List Entry
    near = filter (λ e. overlaps e.hull s) es

    p : ℤ → Option ℕ
    p t = pending_or_fresh log near t

    by : (b : ℤ) (c : Bool) → is_bucket w b ≡ true → in_span s b ≡ c → (c && (is_none (last_at log b) || is_some (p b))) ≡ (c && is_dirty_with log es b)
    by b false q e = refl
    by b true q e = ap (λ c. is_none (last_at log b) || c) (near_some w s b (last_at log b) es (pending_at log b) h.bounds whole q e)

    same : (b : ℤ) → is_bucket w b ≡ true → (is_asked w s b && (is_none (last_at log b) || is_some (p b))) ≡ (is_asked w s b && is_dirty_with log es b)
    same b q = ap (λ c. c && (is_none (last_at log b) || is_some (p b))) (asked w s b whole q) ∙ by b (in_span s b) q refl ∙ ap (λ c. c && is_dirty_with log es b) (sym (asked w s b whole q))

-- the same for results
pub dirty_as : {E : Type 0} (w : WidthValue) (p r : ℤ → Option ℕ) (s : SpanValue) (pieces : List Piece) (found : Result (List SpanValue) E) → IsInStep w p r → IsWholeSpan w s → s.hi ≤ℤ greatest → ((t : ℤ) → piece_at pieces t ≡ cond (in_span s t) (p t) None) → ArePieces s.lo s.hi pieces → IfOk found (λ ranges. ranges ≡ ranges_joined None pieces) → IfOk found (AreRanges w s (λ b. is_none (r b) || is_some (p b)))
dirty_as w p r s pieces found h whole end values rising = IfOk-weaker found _ _ (λ ranges e. subst (AreRanges w s (λ b. is_none (r b) || is_some (p b))) (sym e) (dirty_ranges w p r s pieces h whole end values rising))

pub some_as : {E : Type 0} (w : WidthValue) (f : ℤ → Option ℕ) (s : SpanValue) (pieces : List Piece) (found : Result (List SpanValue) E) → IsWidth w → ((t : ℤ) → f t ≡ f (bucket_of w t)) → IsWholeSpan w s → ((t : ℤ) → piece_at pieces t ≡ cond (in_span s t) (f t) None) → ArePieces s.lo s.hi pieces → IfOk found (λ ranges. ranges ≡ ranges_joined None pieces) → IfOk found (AreRanges w s (λ b. is_some (f b)))
some_as w f s pieces found h one whole values rising = IfOk-weaker found _ _ (λ ranges e. subst (AreRanges w s (λ b. is_some (f b))) (sym e) (some_ranges w f s pieces h one whole values rising))

pub same_as : {E : Type 0} (w : WidthValue) (s s' : SpanValue) (test test' : ℤ → Bool) (found : Result (List SpanValue) E) → ((b : ℤ) → is_bucket w b ≡ true → (is_asked w s b && test b) ≡ (is_asked w s' b && test' b)) → IfOk found (AreRanges w s test) → IfOk found (AreRanges w s' test')
same_as w s s' test test' found same = IfOk-weaker found _ _ (λ ranges h. AreRanges-same w s s' test test' ranges same h)

-- buckets below a mark that are requested within a span, and that pass a test
pub stale_same : (w : WidthValue) (s starts : SpanValue) (mark : Option ℤ) (test : ℤ → Bool) (b : ℤ) → is_bucket w b ≡ true → (first_of w ≤ℤ b → in_span s b ≡ (in_span starts b && is_below b mark)) → (is_asked w s b && test b) ≡ (is_asked w starts b && (is_below b mark && test b))
stale_same w s starts mark test b bucket exact = by_lt_z b (first_of w)
    (λ below.
    let out : int_le (first_of w) b ≡ false = grind (arith, ints) in
    not_asked s (test b) out ∙ sym (not_asked starts (is_below b mark && test b) out))
    (λ above.
    let from : int_le (first_of w) b ≡ true = grind (arith, ints) in
    is_first s (test b) from ∙ ap (λ x. x && test b) (exact above) ∙ and_assoc (in_span starts b) (is_below b mark) (test b) ∙ sym (is_first starts (is_below b mark && test b) from))
  where
    none : (x y z : Bool) → ((x && (y && false)) && z) ≡ false
    none true true z = refl
    none true false z = refl
    none false y z = refl

    not_asked : (t : SpanValue) (z : Bool) → int_le (first_of w) b ≡ false → (is_asked w t b && z) ≡ false
    not_asked t z e = ap (λ x. (in_span t b && (is_bucket w b && x)) && z) e ∙ none (in_span t b) (is_bucket w b) z

    is_first : (t : SpanValue) (z : Bool) → int_le (first_of w) b ≡ true → (is_asked w t b && z) ≡ (in_span t b && z)
    is_first t z e =
        ap (λ x. (in_span t b && (is_bucket w b && x)) && z) e
        ∙ ap (λ x. (in_span t b && (x && true)) && z) bucket
        ∙ ap (λ x. x && z) (and-true (in_span t b))

-- the ranges of the buckets with a last refresh and something pending, given the pieces of what is then pending
-- near a span
pub changed_with_as : {E : Type 0} (log : LogValue) (es : List Entry) (s : SpanValue) (f q r : ℤ → Option ℕ) (pieces : List Piece) (found : Result (List SpanValue) E) → IsInStep log.width (pending_at log) (last_at log) → IsWholeSpan log.width s → ((t : ℤ) → q t ≡ cond (in_span s t) (pending_or_fresh log (filter (λ e. overlaps e.hull s) es) t) None) → ((t : ℤ) → r t ≡ cond (in_span s t) (last_at log t) None) → ((t : ℤ) → f t ≡ combined_by Where (r t) (q t)) → ((t : ℤ) → piece_at pieces t ≡ cond (in_span s t) (f t) None) → ArePieces s.lo s.hi pieces → IfOk found (λ ranges. ranges ≡ ranges_joined None pieces) → IfOk found (AreRanges log.width s (is_changed_with log es))
changed_with_as log es s f q r pieces found h whole qs rs fs values rising =
    IfOk-weaker found _ _ (λ ranges e. subst (AreRanges w s (is_changed_with log es)) (sym e)
    (AreRanges-same w s s (λ b. is_some (g b)) (is_changed_with log es) (ranges_joined None pieces) same
    (some_ranges w g s pieces h.bounds one whole (λ t. values t ∙ ap (λ v. cond (in_span s t) v None) (fs t ∙ ap (λ v. combined_by Where v (q t)) (rs t) ∙ ap (combined_by Where (cond (in_span s t) (last_at log t) None)) (qs t)) ∙ inside (in_span s t) (last_at log t) (p t)) rising)))
  where
    w : WidthValue
    w = log.width

    near : List Entry
    near = filter (λ e. overlaps e.hull s) es

    p : ℤ → Option ℕ
    p t = pending_or_fresh log near t

    g : ℤ → Option ℕ
    g t = combined_by Where (last_at log t) (p t)

    inside : (i : Bool) (v u : Option ℕ) → cond i (combined_by Where (cond i v None) (cond i u None)) None ≡ cond i (combined_by Where v u) None
    inside true v u = refl
    inside false v u = refl

    step : IsInStep w p (last_at log)
    step = in_step-with w (pending_at log) (last_at log) p near h (λ t. refl)

    one : (t : ℤ) → g t ≡ g (bucket_of w t)
    one t = ap (λ v. combined_by Where v (p t)) (step.one_refreshed t) ∙ ap (combined_by Where (last_at log (bucket_of w t))) (step.one_pending t)

    some_where : (v u : Option ℕ) → is_some (combined_by Where v u) ≡ (is_some v && is_some u)
    some_where None u = refl
    some_where (Some x) u = refl

    by : (b : ℤ) (c : Bool) → is_bucket w b ≡ true → in_span s b ≡ c → (c && is_some (g b)) ≡ (c && is_changed_with log es b)
    by b false q e = refl
    by b true q e = some_where (last_at log b) (p b) ∙ ap (λ c. is_some (last_at log b) && c) (near_some w s b (last_at log b) es (pending_at log b) h.bounds whole q e)

    same : (b : ℤ) → is_bucket w b ≡ true → (is_asked w s b && is_some (g b)) ≡ (is_asked w s b && is_changed_with log es b)
    same b q = ap (λ c. c && is_some (g b)) (asked w s b whole q) ∙ by b (in_span s b) q refl ∙ ap (λ c. c && is_changed_with log es b) (sym (asked w s b whole q))

-- ---- refreshes against a snapshot

some_not_below : (snap : ℕ) (v : Option ℕ) → is_some (combined_by NotBelow v (Some snap)) ≡ not (is_above snap v)
some_not_below snap None = refl
some_not_below snap (Some p) = by (nat_le p snap) (nat_lt snap p) refl refl
  where
    by : (a b : Bool) → nat_le p snap ≡ a → nat_lt snap p ≡ b → is_some (cond a (Some snap) None) ≡ not b
    by true true e f = absurd (grind (arith, nat_tests))
    by true false e f = refl
    by false true e f = refl
    by false false e f = absurd (grind (arith, nat_tests))

-- ranges of whole buckets hold a whole bucket or none of it
lies_in-bucket : (w : WidthValue) (ranges : List SpanValue) (t : ℤ) → IsWidth w → AllByRecursion (IsWholeRange w) ranges → lies_in ranges t ≡ lies_in ranges (bucket_of w t)
lies_in-bucket w [] t h whole = refl
lies_in-bucket w (s ∷ ss) t h whole =
    let first : IsWholeRange w s = whole.0 in
    ap (λ b. b || lies_in ss t) (in_span-bucket w s t h first.starts first.ends) ∙ ap (λ b. in_span s (bucket_of w t) || b) (lies_in-bucket w ss t h whole.1)

-- the buckets of ranges whose last refresh isn't above a snapshot
pub renewed_as : {E : Type 0} (log : LogValue) (s : SpanValue) (ranges : List SpanValue) (snap : ℕ) (f : ℤ → Option ℕ) (pieces : List Piece) (found : Result (List SpanValue) E) → IsInStep log.width (pending_at log) (last_at log) → IsWholeSpan log.width s → AllByRecursion (IsWholeRange log.width) ranges → ((t : ℤ) → f t ≡ combined_by NotBelow (cond (in_span s t) (last_at log t) None) (cond (lies_in ranges t) (Some snap) None)) → ((t : ℤ) → piece_at pieces t ≡ cond (in_span s t) (f t) None) → ArePieces s.lo s.hi pieces → IfOk found (λ rs. rs ≡ ranges_joined None pieces) → IfOk found (AreRanges log.width s (λ b. lies_in ranges b && not (is_above snap (last_at log b))))
renewed_as log s ranges snap f pieces found h whole parts is values rising =
    IfOk-weaker found _ _ (λ rs e. subst (AreRanges w s (λ b. lies_in ranges b && not (is_above snap (last_at log b)))) (sym e)
    (AreRanges-same w s s (λ b. is_some (g b)) (λ b. lies_in ranges b && not (is_above snap (last_at log b))) (ranges_joined None pieces) (λ b q. ap (λ c. is_asked w s b && c) (says (lies_in ranges b) (last_at log b)))
    (some_ranges w g s pieces h.bounds one whole (λ t. values t ∙ ap (λ v. cond (in_span s t) v None) (is t) ∙ inside (in_span s t) (last_at log t) (cond (lies_in ranges t) (Some snap) None)) rising)))
  where
    w : WidthValue
    w = log.width

    g : ℤ → Option ℕ
    g t = combined_by NotBelow (last_at log t) (cond (lies_in ranges t) (Some snap) None)

    one : (t : ℤ) → g t ≡ g (bucket_of w t)
    one t = ap (λ v. combined_by NotBelow v (cond (lies_in ranges t) (Some snap) None)) (h.one_refreshed t) ∙ ap (λ b. combined_by NotBelow (last_at log (bucket_of w t)) (cond b (Some snap) None)) (lies_in-bucket w ranges t h.bounds parts)

    says : (b : Bool) (v : Option ℕ) → is_some (combined_by NotBelow v (cond b (Some snap) None)) ≡ (b && not (is_above snap v))
    says true v = some_not_below snap v
    says false None = refl
    says false (Some p) = refl

    inside : (i : Bool) (v u : Option ℕ) → cond i (combined_by NotBelow (cond i v None) u) None ≡ cond i (combined_by NotBelow v u) None
    inside true v u = refl
    inside false v u = refl

-- the values above a snapshot that remain within a span
pub cut_above : (i : Bool) (snap : ℕ) (v : Option ℕ) → cond i (above snap (cond i v None)) (cond i v None) ≡ cond i (above snap v) None
cut_above true snap v = refl
cut_above false snap v = refl

-- the ranges that a repeated refresh with a snapshot recomputes, given the pieces of what is then pending near a span
-- and of the last refreshes above the snapshot
pub redone_with_as : {E : Type 0} (log : LogValue) (es : List Entry) (snap : ℕ) (s : SpanValue) (f q a : ℤ → Option ℕ) (pieces : List Piece) (found : Result (List SpanValue) E) → IsInStep log.width (pending_at log) (last_at log) → IsWholeSpan log.width s → s.hi ≤ℤ greatest → ((t : ℤ) → q t ≡ cond (in_span s t) (pending_or_fresh log (filter (λ e. overlaps e.hull s) es) t) None) → ((t : ℤ) → a t ≡ cond (in_span s t) (above snap (last_at log t)) None) → ((t : ℤ) → f t ≡ combined_by Over (q t) (a t)) → ((t : ℤ) → piece_at pieces t ≡ cond (in_span s t) (f t) None) → ArePieces s.lo s.hi pieces → IfOk found (λ ranges. ranges ≡ ranges_joined None pieces) → IfOk found (AreRanges log.width s (is_redone_with log es snap))
redone_with_as log es snap s f q a pieces found h whole end qs ats fs values rising =
    IfOk-weaker found _ _ (λ ranges e. subst (AreRanges w s (is_redone_with log es snap)) (sym e)
    (AreRanges-same w s s (λ b. is_some (g b)) (is_redone_with log es snap) (ranges_joined None pieces) same
    (some_ranges w g s pieces h.bounds one whole (λ t. values t ∙ ap (λ v. cond (in_span s t) v None) (fs t ∙ ap (λ v. combined_by Over v (a t)) (qs t) ∙ ap (combined_by Over (cond (in_span s t) (p t) None)) (ats t)) ∙ inside (in_span s t) (p t) (above snap (last_at log t))) rising)))
  where
    w : WidthValue
    w = log.width

    near : List Entry
    near = filter (λ e. overlaps e.hull s) es

    p : ℤ → Option ℕ
    p t = pending_or_fresh log near t

    g : ℤ → Option ℕ
    g t = combined_by Over (p t) (above snap (last_at log t))

    inside : (i : Bool) (v u : Option ℕ) → cond i (combined_by Over (cond i v None) (cond i u None)) None ≡ cond i (combined_by Over v u) None
    inside true v u = refl
    inside false v u = refl

    step : IsInStep w p (last_at log)
    step = in_step-with w (pending_at log) (last_at log) p near h (λ t. refl)

    one : (t : ℤ) → g t ≡ g (bucket_of w t)
    one t = ap (λ v. combined_by Over v (above snap (last_at log t))) (step.one_pending t) ∙ ap (λ v. combined_by Over (p (bucket_of w t)) (above snap v)) (step.one_refreshed t)

    pending_is : (v u : Option ℕ) → (is_some u || is_some v) ≡ true → is_some v ≡ (is_none u || is_some v)
    pending_is v None m = m
    pending_is v (Some x) m = refl

    by : (b : ℤ) (c : Bool) → is_bucket w b ≡ true → in_span s b ≡ c → (c && is_some (g b)) ≡ (c && is_redone_with log es snap b)
    by b false bucket e = refl
    by b true bucket e =
        let ends = in_span-ends s b e in
        let first : first_of w ≤ℤ s.lo = whole.from_first in
        let low : s.lo ≤ℤ b = ends.0 in
        let high : b <ℤ s.hi = ends.1 in
        let last : s.hi ≤ℤ bucket_of w greatest = bucket_of-last w s.hi greatest h.bounds whole.ends end in
        let held : in_span (whole_span w) b ≡ true = in_span-from_ends (whole_span w) b (omega (arith, ints)) (omega (arith, ints)) in
        some_over (p b) (above snap (last_at log b))
        ∙ ap (λ c. is_some (p b) || c) (is_some-above snap (last_at log b))
        ∙ ap (λ c. c || is_refreshed_after log snap b) (pending_is (p b) (last_at log b) (step.marked b held) ∙ ap (λ c. is_none (last_at log b) || c) (near_some w s b (last_at log b) es (pending_at log b) h.bounds whole bucket e))

    same : (b : ℤ) → is_bucket w b ≡ true → (is_asked w s b && is_some (g b)) ≡ (is_asked w s b && is_redone_with log es snap b)
    same b bucket = ap (λ c. c && is_some (g b)) (asked w s b whole bucket) ∙ by b (in_span s b) bucket refl ∙ ap (λ c. c && is_redone_with log es snap b) (sym (asked w s b whole bucket))
