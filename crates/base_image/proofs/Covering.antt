-- Ranges that rise cover a span of whole buckets if and only if each of its buckets lies in one of them.
use Rattle.std.proofs.Common.{◌≡◌, ℕ, suc, ◌+◌, Bool, true, false, ◌&&◌, ◌||◌, not, cond, nat_lt, ℤ, ◌≤ℤ◌, ◌<ℤ◌, int_lt, int_le, List, [], ◌∷◌, drop, Some, refl, sym, ap, ◌∙◌, subst, arith}
use Rattle.std.specs.Prelude.{is_some}
use Rattle.std.specs.Int.{int_max}
use Rattle.std.specs.List.{list_all, prefix_len, AllByRecursion}
use Rattle.std.specs.Ordering.{int_eq}
use Rattle.std.proofs.lemmas.Bool.{and_parts, and_from, or_parts, or_left, or_right, true≢false}
use Rattle.std.proofs.lemmas.Bool.Decides.{Decides-int_eq}
use Rattle.std.proofs.lemmas.Int.{ints}
use Rattle.ts_bucket.specs.Bucket.{is_bucket, first_of}
use Rattle.ts_bucket.specs.Ranges.{lies_in}
use Rattle.ts_bucket.specs.Spans.{in_span}
use Rattle.ts_bucket.specs.declared.spans.Span.{Span}
use Rattle.ts_bucket.specs.declared.widths.Width.{Width}
use Rattle.ts_bucket.proofs.SpanLaws.{in_span-from_ends, in_span-ends}
use Rattle.ts_schema.proofs.Cases.{by_test, same_test, int_le-true, le-int_le}
use Rattle.ts_model.specs.Answers.{buckets_in}
use Rattle.ts_model.specs.Limits.{is_word}
use Rattle.ts_model.specs.Saved.{pos_in}
use Rattle.ts_model.specs.Sound.{span_fits}
use Rattle.ts_model.specs.Valid.{dirty_fits, has_lasts, lasts_fit, spans_rise}
use Rattle.ts_model.specs.declared.images.SavedLast.{SavedLast}
use Rattle.ts_model.specs.declared.views.ViewDef.{ViewDef}
use Rattle.ts_model.proofs.RangeLaws.{among, among-buckets_in}
use Rattle.base_image.specs.Rising.{are_rising, cover_from, spans_of}
use Rattle.base_image.proofs.Searching.{rising_head, rising_tail, below_later, lasts_hold}

-- ---- covered numbers lie in a range

ended_before : (until from : ℤ) → int_le until from ≡ false → from <ℤ until
ended_before until from e = grind (arith, ints)

low_enough : (from lo : ℤ) → not (int_lt from lo) ≡ true → lo ≤ℤ from
low_enough from lo e = grind (arith, ints)

at_most_greater : (x y b : ℤ) → x ≤ℤ b → y ≤ℤ b → int_max x y ≤ℤ b
at_most_greater x y b l m = grind (arith, ints)

from_first : (x y b : ℤ) → int_max x y ≤ℤ b → x ≤ℤ b
from_first x y b l = grind (arith, ints)

from_second : (x y b : ℤ) → int_max x y ≤ℤ b → y ≤ℤ b
from_second x y b l = grind (arith, ints)

covered : (from until b : ℤ) (ss : List Span) → cover_from from until ss ≡ true → from ≤ℤ b → b <ℤ until → lies_in ss b ≡ true
covered from until b [] c low high = let past : until ≤ℤ from = int_le-true until from c in absurd (omega (arith, ints))
covered from until b (s ∷ ss) c low high =
    by_test (int_le until from) (λ e. let past : until ≤ℤ from = int_le-true until from e in absurd (omega (arith, ints))) (λ e.
    let parts = and_parts (not (int_lt from s.lo)) (cover_from (int_max from s.hi) until ss) (ap (λ (t : Bool). t || (not (int_lt from s.lo) && cover_from (int_max from s.hi) until ss)) (sym e) ∙ c) in
    let first : s.lo ≤ℤ from = low_enough from s.lo parts.0 in
    by_test (int_le s.hi b) (λ past.
    or_right (in_span s b) (lies_in ss b) (covered (int_max from s.hi) until b ss parts.1 (at_most_greater from s.hi b low (int_le-true s.hi b past)) high)
    ) (λ here. or_left (in_span s b) (lies_in ss b) (in_span-from_ends s b (omega (arith, ints)) (ended_before s.hi b here)))
    )

-- ---- and if a number isn't covered, some bucket lies in no range

record Gap (w : Width) (from until : ℤ) (ss : List Span) : Type 0 where
  bucket : ℤ
  starts : is_bucket w bucket ≡ true
  low : from ≤ℤ bucket
  high : bucket <ℤ until
  outside : lies_in ss bucket ≡ false

outside_below : (s : Span) (b : ℤ) → int_lt b s.lo ≡ true → in_span s b ≡ false
outside_below s b l = grind (arith, ints)

outside_above : (s : Span) (b : ℤ) → s.hi ≤ℤ b → in_span s b ≡ false
outside_above s b l = grind (arith, ints)

greater_bucket : (w : Width) (x y : ℤ) → is_bucket w x ≡ true → is_bucket w y ≡ true → is_bucket w (int_max x y) ≡ true
greater_bucket w x y p q = elim (int_lt y x) as (λ t. is_bucket w (cond t x y) ≡ true) [ true ↦ p | false ↦ q ]

gap : (w : Width) (from until : ℤ) (ss : List Span) → are_rising ss ≡ true → AllByRecursion (λ (s : Span). is_bucket w s.hi ≡ true) ss → is_bucket w from ≡ true → cover_from from until ss ≡ false → Gap w from until ss
gap w from until [] rise ends starts c = record { bucket = from; starts = starts; low = omega (arith, ints); high = ended_before until from c; outside = refl }
gap w from until (s ∷ ss) rise ends starts c =
    let none = or_parts (int_le until from) (not (int_lt from s.lo) && cover_from (int_max from s.hi) until ss) c in
    by_test (int_lt from s.lo) (λ below.
    let some : s.lo <ℤ s.hi = rising_head s ss rise in
    let less : from <ℤ s.lo = grind (arith, ints) in
    record {
      bucket = from;
      starts = starts;
      low = omega (arith, ints);
      high = ended_before until from none.0;
      outside = ap (λ (t : Bool). t || lies_in ss from) (outside_below s from below) ∙ below_later s ss from rise (omega (arith, ints));
    }
    ) (λ above.
    let rest = gap w (int_max from s.hi) until ss (rising_tail s ss rise) ends.1 (greater_bucket w from s.hi starts ends.0) (ap (λ (t : Bool). not t && cover_from (int_max from s.hi) until ss) (sym above) ∙ none.1) in
    record {
      bucket = rest.bucket;
      starts = rest.starts;
      low = from_first from s.hi rest.bucket rest.low;
      high = rest.high;
      outside = ap (λ (t : Bool). t || lies_in ss rest.bucket) (outside_above s rest.bucket (from_second from s.hi rest.bucket rest.low)) ∙ rest.outside;
    }
    )

-- ---- ranges that end at or below the first number have no effect

once_more : (from until : ℤ) (ss : List Span) → (int_le until from || cover_from from until ss) ≡ cover_from from until ss
once_more from until [] = same (int_le until from)
  where
    same : (t : Bool) → (t || t) ≡ t
    same true = refl
    same false = refl
once_more from until (s ∷ ss) = same (int_le until from) (not (int_lt from s.lo) && cover_from (int_max from s.hi) until ss)
  where
    same : (t u : Bool) → (t || (t || u)) ≡ (t || u)
    same true u = refl
    same false u = refl

passed_over : (from until : ℤ) (s : Span) (ss : List Span) → s.lo <ℤ s.hi → s.hi ≤ℤ from → cover_from from until (s ∷ ss) ≡ cover_from from until ss
passed_over from until s ss some past =
    let kept : int_max from s.hi ≡ from = no_greater from s.hi past in
    let below : not (int_lt from s.lo) ≡ true = not_below from s.lo (omega (arith, ints)) in
    ap (λ (t : Bool). int_le until from || (t && cover_from (int_max from s.hi) until ss)) below
    ∙ ap (λ z. int_le until from || cover_from z until ss) kept
    ∙ once_more from until ss
  where
    no_greater : (x y : ℤ) → y ≤ℤ x → int_max x y ≡ x
    no_greater x y l = grind (arith, ints)

    not_below : (x y : ℤ) → y ≤ℤ x → not (int_lt x y) ≡ true
    not_below x y l = grind (arith, ints)

pub skipped : (from until : ℤ) (ls : List SavedLast) → are_rising (spans_of ls) ≡ true → cover_from from until (spans_of (drop (prefix_len (λ (l : SavedLast). int_le l.span.hi from) ls) ls)) ≡ cover_from from until (spans_of ls)
skipped from until [] rise = refl
skipped from until (l ∷ ls) rise =
    let next : 1 + prefix_len (λ (l : SavedLast). int_le l.span.hi from) ls ≡ suc (prefix_len (λ (l : SavedLast). int_le l.span.hi from) ls) = omega arith in
    by_test (int_le l.span.hi from) (λ past.
    ap (λ (t : Bool). cover_from from until (spans_of (drop (cond t (1 + prefix_len (λ (l : SavedLast). int_le l.span.hi from) ls) 0) (l ∷ ls)))) past
    ∙ ap (λ n. cover_from from until (spans_of (drop n (l ∷ ls)))) next
    ∙ skipped from until ls (rising_tail l.span (spans_of ls) rise)
    ∙ sym (passed_over from until l.span (spans_of ls) (rising_head l.span (spans_of ls) rise) (int_le-true l.span.hi from past))
    ) (λ here. ap (λ (t : Bool). cover_from from until (spans_of (drop (cond t (1 + prefix_len (λ (l : SavedLast). int_le l.span.hi from) ls) 0) (l ∷ ls)))) here)

-- ---- the buckets of a span

all_among : (test : ℤ → Bool) (bs : List ℤ) → ((b : ℤ) → among b bs ≡ true → test b ≡ true) → list_all test bs ≡ true
all_among test [] each = refl
all_among test (b ∷ bs) each = and_from _ _ (each b (or_left _ _ (itself b))) (all_among test bs (λ c e. each c (or_right (int_eq b c) _ e)))
  where
    itself : (b : ℤ) → int_eq b b ≡ true
    itself b = grind (arith, ints)

each_among : (test : ℤ → Bool) (bs : List ℤ) (b : ℤ) → list_all test bs ≡ true → among b bs ≡ true → test b ≡ true
each_among test [] b all is = absurd (true≢false (sym is))
each_among test (c ∷ bs) b all is =
    let parts = and_parts (test c) (list_all test bs) all in
    by_test (int_eq c b) (λ same. subst (λ z. test z ≡ true) ((Decides-int_eq c b).0 same) parts.0) (λ other.
    each_among test bs b parts.1 (ap (λ (t : Bool). t || among b bs) (sym other) ∙ is)
    )

-- the ends of a span that fits
record WholeEnds (w : Width) (s : Span) : Type 0 where
  starts : is_bucket w s.lo ≡ true
  ends : is_bucket w s.hi ≡ true
  first : first_of w ≤ℤ s.lo

whole_ends : (def : ViewDef) (s : Span) → span_fits s (Some def) ≡ true → WholeEnds def.fold.width s
whole_ends def s fits =
    let high = and_parts _ (is_word s.hi) fits in
    let low = and_parts _ (is_word s.lo) high.0 in
    let first = and_parts _ (int_le (first_of def.fold.width) s.lo) low.0 in
    let some = and_parts _ (int_lt s.lo s.hi) first.0 in
    let ends = and_parts (is_bucket def.fold.width s.lo) (is_bucket def.fold.width s.hi) some.0 in
    record { starts = ends.0; ends = ends.1; first = int_le-true (first_of def.fold.width) s.lo first.1 }

all_end : (def : ViewDef) (ls : List SavedLast) → list_all (λ (l : SavedLast). span_fits l.span (Some def)) ls ≡ true → AllByRecursion (λ (s : Span). is_bucket def.fold.width s.hi ≡ true) (spans_of ls)
all_end def [] e = tt
all_end def (l ∷ ls) e =
    let parts = and_parts (span_fits l.span (Some def)) (list_all (λ (l : SavedLast). span_fits l.span (Some def)) ls) e in
    ((whole_ends def l.span parts.0).ends, all_end def ls parts.1)

pub cover_is : (def : ViewDef) (ls : List SavedLast) (s : Span) → list_all (λ (l : SavedLast). span_fits l.span (Some def)) ls ≡ true → are_rising (spans_of ls) ≡ true → span_fits s (Some def) ≡ true → cover_from s.lo s.hi (spans_of ls) ≡ has_lasts def.fold.width ls s
cover_is def ls s fits rise whole = same_test _ _ there back
  where
    there : cover_from s.lo s.hi (spans_of ls) ≡ true → has_lasts def.fold.width ls s ≡ true
    there c = all_among (λ b. is_some (pos_in ls b)) (buckets_in def.fold.width s) (λ b e.
        let asked = and_parts (in_span s b) (is_bucket def.fold.width b && int_le (first_of def.fold.width) b) (sym (among-buckets_in def.fold.width s b) ∙ e) in
        let ends = in_span-ends s b asked.0 in
        lasts_hold ls b ∙ covered s.lo s.hi b (spans_of ls) c ends.0 ends.1)

    back : has_lasts def.fold.width ls s ≡ true → cover_from s.lo s.hi (spans_of ls) ≡ true
    back h = by_test (cover_from s.lo s.hi (spans_of ls)) (λ c. c) (λ c.
        let ends = whole_ends def s whole in
        let g = gap def.fold.width s.lo s.hi (spans_of ls) rise (all_end def ls fits) ends.starts c in
        let low : s.lo ≤ℤ g.bucket = g.low in
        let first : first_of def.fold.width ≤ℤ s.lo = ends.first in
        let among_them : among g.bucket (buckets_in def.fold.width s) ≡ true =
        among-buckets_in def.fold.width s g.bucket
        ∙ and_from _ _ (in_span-from_ends s g.bucket g.low g.high) (and_from _ _ g.starts (le-int_le (first_of def.fold.width) g.bucket (omega (arith, ints)))) in
        absurd (true≢false (sym (each_among (λ b. is_some (pos_in ls b)) (buckets_in def.fold.width s) g.bucket h among_them) ∙ lasts_hold ls g.bucket ∙ g.outside)))

-- ---- what fits rises

span_some : (def : ViewDef) (s : Span) → span_fits s (Some def) ≡ true → int_lt s.lo s.hi ≡ true
span_some def s fits =
    let high = and_parts _ (is_word s.hi) fits in
    let low = and_parts _ (is_word s.lo) high.0 in
    let first = and_parts _ (int_le (first_of def.fold.width) s.lo) low.0 in
    (and_parts _ (int_lt s.lo s.hi) first.0).1

lasts_whole_each : (def : ViewDef) (p : ℕ) (ls : List SavedLast) → list_all (λ (l : SavedLast). span_fits l.span (Some def) && nat_lt l.pos p) ls ≡ true → (list_all (λ (l : SavedLast). span_fits l.span (Some def)) ls ≡ true) × (list_all (λ (s : Span). int_lt s.lo s.hi) (spans_of ls) ≡ true)
lasts_whole_each def p [] e = (refl, refl)
lasts_whole_each def p (l ∷ ls) e =
    let parts = and_parts (span_fits l.span (Some def) && nat_lt l.pos p) (list_all (λ (l : SavedLast). span_fits l.span (Some def) && nat_lt l.pos p) ls) e in
    let fits = (and_parts (span_fits l.span (Some def)) (nat_lt l.pos p) parts.0).0 in
    let rest = lasts_whole_each def p ls parts.1 in
    (and_from _ _ fits rest.0, and_from _ _ (span_some def l.span fits) rest.1)

pub lasts_whole : (def : ViewDef) (p : ℕ) (ls : List SavedLast) → lasts_fit def p ls ≡ true → list_all (λ (l : SavedLast). span_fits l.span (Some def)) ls ≡ true
lasts_whole def p ls e = (lasts_whole_each def p ls (and_parts _ (spans_rise (spans_of ls)) e).0).0

pub lasts_rising : (def : ViewDef) (p : ℕ) (ls : List SavedLast) → lasts_fit def p ls ≡ true → are_rising (spans_of ls) ≡ true
lasts_rising def p ls e =
    let parts = and_parts _ (spans_rise (spans_of ls)) e in
    and_from _ _ (lasts_whole_each def p ls parts.0).1 parts.1

dirty_some_each : (def : ViewDef) (ls : List SavedLast) (ss : List Span) → list_all (λ (s : Span). span_fits s (Some def) && has_lasts def.fold.width ls s) ss ≡ true → list_all (λ (s : Span). int_lt s.lo s.hi) ss ≡ true
dirty_some_each def ls [] e = refl
dirty_some_each def ls (s ∷ ss) e =
    let parts = and_parts (span_fits s (Some def) && has_lasts def.fold.width ls s) (list_all (λ (s : Span). span_fits s (Some def) && has_lasts def.fold.width ls s) ss) e in
    and_from _ _ (span_some def s (and_parts (span_fits s (Some def)) (has_lasts def.fold.width ls s) parts.0).0) (dirty_some_each def ls ss parts.1)

pub dirty_rising : (def : ViewDef) (ls : List SavedLast) (ss : List Span) → dirty_fits def ls ss ≡ true → are_rising ss ≡ true
dirty_rising def ls ss e =
    let parts = and_parts _ (spans_rise ss) e in
    and_from _ _ (dirty_some_each def ls ss parts.0) parts.1
