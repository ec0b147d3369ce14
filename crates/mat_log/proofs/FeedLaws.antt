-- Laws of feeding: the latest positions of entries fed in order determine what is pending. Something is pending
-- after them if and only if something was, or one of them is above the last refresh.
use Rattle.std.proofs.Common.{◌≡◌, ℕ, ◌≤◌, ◌<◌, ◌+◌, length, drop, get_or, max, Bool, true, false, cond, ◌&&◌, ◌||◌, nat_le, nat_lt, List, [], ◌∷◌, ◌++◌, filter, ℤ, ◌+ℤ◌, ◌≤ℤ◌, ◌<ℤ◌, Option, Some, None, is_some, refl, sym, ap, ◌∙◌, arith}
use Rattle.std.proofs.lemmas.Int.{ints}
use Rattle.std.proofs.lemmas.List.{drop_more}
use Rattle.std.proofs.lemmas.Bool.{false≢true}
use Rattle.std.proofs.lemmas.Bool.Decides.{nat_tests}
use Rattle.std.proofs.Math.Bool.{or-false, or-true, or_assoc}
use Rattle.ts_bucket.specs.Bucket.{WidthValue, IsWidth, is_bucket, bucket_of}
use Rattle.ts_bucket.specs.Positions.{later, above_last, is_before}
use Rattle.ts_bucket.specs.Spans.{SpanValue, HullValue, in_span, meets, overlaps, touched_span}
use Rattle.ts_bucket.specs.WholeSpans.{IsWholeSpan}
use Rattle.ts_bucket.proofs.PositionLaws.{later-assoc, above_last-later, above_last-nothing, is_some-later}
use Rattle.ts_bucket.proofs.BucketLaws.{buckets_apart}
use Rattle.ts_bucket.proofs.SpanLaws.{in_span-ends, meets-between}
use Rattle.ts_bucket.proofs.WholeSpanLaws.{in_span-bucket, touched_starts, touched_ends}
use Rattle.span_map.specs.Combined.{combined_by}
use Rattle.span_map.specs.declared.rules.Rule.TheVariants.{Over, Above}
use Rattle.inval_log.specs.declared.entries.Entry.{Entry}
use Rattle.mat_log.specs.Logs.{IsInStep, LogValue, last_at, pending_at}
use Rattle.mat_log.specs.Feeding.{pending_after, pending_after_all, are_rising}
use Rattle.mat_log.specs.Touching.{touch_at}

-- ---- what entries touched

-- entries in two parts
pub touch_at-append : (w : WidthValue) (ds es : List Entry) (t : ℤ) → touch_at w (ds ++ es) t ≡ later (touch_at w ds t) (touch_at w es t)
touch_at-append w [] es t = refl
touch_at-append w (d ∷ ds) es t =
    let one = cond (in_span (touched_span w d.hull) t) (Some d.pos) None in
    ap (later one) (touch_at-append w ds es t) ∙ sym (later-assoc one (touch_at w ds t) (touch_at w es t))

-- one value for a whole bucket
touch_at-bucket : (w : WidthValue) (es : List Entry) (t : ℤ) → IsWidth w → touch_at w es t ≡ touch_at w es (bucket_of w t)
touch_at-bucket w [] t h = refl
touch_at-bucket w (e ∷ es) t h =
    ap (λ b. later (cond b (Some e.pos) None) (touch_at w es t)) (in_span-bucket w (touched_span w e.hull) t h (touched_starts w e.hull h) (touched_ends w e.hull h))
    ∙ ap (later (cond (in_span (touched_span w e.hull) (bucket_of w t)) (Some e.pos) None)) (touch_at-bucket w es t h)

-- a bucket of a span of whole buckets that a hull meets has a number in common with it
meets_near : (w : WidthValue) (s : SpanValue) (b : ℤ) (hull : HullValue) → IsWidth w → IsWholeSpan w s → is_bucket w b ≡ true → in_span s b ≡ true → in_span (touched_span w hull) b ≡ true → overlaps hull s ≡ true
meets_near w s b hull h whole bucket inside met =
    let ends = in_span-ends s b inside in
    let low : s.lo ≤ℤ b = ends.0 in
    let high : b <ℤ s.hi = ends.1 in
    let end : (b +ℤ w.step) ≤ℤ s.hi = buckets_apart w b s.hi h bucket whole.ends high in
    let meeting : meets w b hull ≡ true = meets-between w b hull h bucket ∙ met in
    let before : hull.least <ℤ (b +ℤ w.step) = grind (arith, ints) in
    let after : b ≤ℤ hull.most = grind (arith, ints) in
    let one : hull.least <ℤ s.hi = omega (arith, ints) in
    let two : s.lo ≤ℤ hull.most = omega (arith, ints) in
    let some : s.lo <ℤ s.hi = omega (arith, ints) in
    grind (arith, ints)

near_step : (w : WidthValue) (e : Entry) (es near : List Entry) (b : ℤ) (met kept : Bool) → in_span (touched_span w e.hull) b ≡ met → (met ≡ true → kept ≡ true) → touch_at w near b ≡ touch_at w es b → touch_at w (cond kept (e ∷ near) near) b ≡ later (cond met (Some e.pos) None) (touch_at w es b)
near_step w e es near b true true m k rest = ap (λ x. later (cond x (Some e.pos) None) (touch_at w near b)) m ∙ ap (later (Some e.pos)) rest
near_step w e es near b true false m k rest = absurd (false≢true (k refl))
near_step w e es near b false true m k rest = ap (λ x. later (cond x (Some e.pos) None) (touch_at w near b)) m ∙ rest
near_step w e es near b false false m k rest = rest

-- only the entries near a span touch its buckets
pub touch_at-near : (w : WidthValue) (s : SpanValue) (es : List Entry) (b : ℤ) → IsWidth w → IsWholeSpan w s → is_bucket w b ≡ true → in_span s b ≡ true → touch_at w (filter (λ e. overlaps e.hull s) es) b ≡ touch_at w es b
touch_at-near w s [] b h whole bucket inside = refl
touch_at-near w s (e ∷ es) b h whole bucket inside =
    near_step w e es (filter (λ d. overlaps d.hull s) es) b (in_span (touched_span w e.hull) b) (overlaps e.hull s) refl (meets_near w s b e.hull h whole bucket inside) (touch_at-near w s es b h whole bucket inside)

-- ---- entries whose positions rise

-- there is no position, or it is at least n
abbrev IsFrom : ℕ → Option ℕ → Type 0
IsFrom n None = Unit {0}
IsFrom n (Some p) = n ≤ p

pub rise_parts : (n p : ℕ) (b : Bool) → (nat_le n p && b) ≡ true → (n ≤ p) × (b ≡ true)
rise_parts n p true h = (grind (arith, nat_tests), refl)
rise_parts n p false h = absurd (no (nat_le n p) h)
  where
    no : (a : Bool) → (a && false) ≡ true → ⊥
    no true e = false≢true e
    no false e = false≢true e

from_later : (n p : ℕ) (met : Bool) (q : Option ℕ) → n ≤ p → IsFrom p q → IsFrom n (later (cond met (Some p) None) q)
from_later n p true None le f = le
from_later n p true (Some q) le f = omega arith
from_later n p false None le f = tt
from_later n p false (Some q) le f = omega arith

risen : (w : WidthValue) (n : ℕ) (es : List Entry) (t : ℤ) → are_rising n es ≡ true → IsFrom n (touch_at w es t)
risen w n [] t h = tt
risen w n (e ∷ es) t h =
    let parts = rise_parts n e.pos (are_rising e.pos es) h in
    from_later n e.pos (in_span (touched_span w e.hull) t) (touch_at w es t) parts.0 (risen w e.pos es t parts.1)

fed_step : (p : ℕ) (met : Bool) (r v q : Option ℕ) → IsFrom p q → combined_by Over (cond (met && is_before p r) (Some p) v) (above_last r q) ≡ combined_by Over v (above_last r (later (cond met (Some p) None) q))
fed_step p false r v q f = refl
fed_step p true None v None f = refl
fed_step p true None v (Some q) f = ap Some (let e : q ≡ max p q = omega arith in e)
fed_step p true (Some s) v None f = by (nat_lt s p) refl
  where
    by : (b : Bool) → nat_lt s p ≡ b → cond b (Some p) v ≡ combined_by Over v (cond b (Some p) None)
    by true e = refl
    by false e = refl
fed_step p true (Some s) v (Some q) f =
    let same : max p q ≡ q = omega arith in
    by (nat_lt s p) (nat_lt s q) refl refl ∙ sym (ap (λ x. combined_by Over v (cond (nat_lt s x) (Some x) None)) same)
  where
    by : (a b : Bool) → nat_lt s p ≡ a → nat_lt s q ≡ b → combined_by Over (cond a (Some p) v) (cond b (Some q) None) ≡ combined_by Over v (cond b (Some q) None)
    by a true e g = refl
    by true false e g = absurd (grind (arith, nat_tests))
    by false false e g = refl

-- the pending position after entries whose positions rise is the latest of them that is above the last refresh,
-- and otherwise what was pending
pub fed_is : (w : WidthValue) (b : ℤ) (n : ℕ) (r : Option ℕ) (es : List Entry) (v : Option ℕ) → IsWidth w → is_bucket w b ≡ true → are_rising n es ≡ true → pending_after_all w b r es v ≡ combined_by Over v (combined_by Above r (touch_at w es b))
fed_is w b n r [] v h bucket rising = sym (ap (combined_by Over v) (above_last-nothing r))
fed_is w b n r (e ∷ es) v h bucket rising =
    let parts = rise_parts n e.pos (are_rising e.pos es) rising in
    fed_is w b e.pos r es (pending_after w b r e v) h bucket parts.1
    ∙ fed_step e.pos (meets w b e.hull) r v (touch_at w es b) (risen w e.pos es b parts.1)
    ∙ ap (λ m. combined_by Over v (above_last r (later (cond m (Some e.pos) None) (touch_at w es b)))) (meets-between w b e.hull h bucket)

-- ---- whether something is pending

some_step : (p : ℕ) (met : Bool) (r v : Option ℕ) → is_some (cond (met && is_before p r) (Some p) v) ≡ (is_some v || is_some (above_last r (cond met (Some p) None)))
some_step p false r v = sym (ap (λ x. is_some v || is_some x) (above_last-nothing r) ∙ or-false (is_some v))
some_step p true None v = sym (or-true (is_some v))
some_step p true (Some s) v = by (nat_lt s p)
  where
    by : (b : Bool) → is_some (cond b (Some p) v) ≡ (is_some v || is_some (cond b (Some p) None))
    by true = sym (or-true (is_some v))
    by false = sym (or-false (is_some v))

-- something is pending after any entries if and only if it was, or the latest of them is above the last refresh
pub fed_some : (w : WidthValue) (b : ℤ) (r : Option ℕ) (es : List Entry) (v : Option ℕ) → IsWidth w → is_bucket w b ≡ true → is_some (pending_after_all w b r es v) ≡ (is_some v || is_some (above_last r (touch_at w es b)))
fed_some w b r [] v h bucket = sym (ap (λ x. is_some v || is_some x) (above_last-nothing r) ∙ or-false (is_some v))
fed_some w b r (e ∷ es) v h bucket =
    let one = cond (meets w b e.hull) (Some e.pos) None in
    fed_some w b r es (pending_after w b r e v) h bucket
    ∙ ap (λ x. x || is_some (above_last r (touch_at w es b))) (some_step e.pos (meets w b e.hull) r v)
    ∙ or_assoc (is_some v) (is_some (above_last r one)) (is_some (above_last r (touch_at w es b)))
    ∙ ap (λ x. is_some v || x) (sym (ap is_some (above_last-later r one (touch_at w es b)) ∙ is_some-later (above_last r one) (above_last r (touch_at w es b))))
    ∙ ap (λ m. is_some v || is_some (above_last r (later (cond m (Some e.pos) None) (touch_at w es b)))) (meets-between w b e.hull h bucket)

pub some_over : (v q : Option ℕ) → is_some (combined_by Over v q) ≡ (is_some v || is_some q)
some_over None None = refl
some_over None (Some q) = refl
some_over (Some p) None = refl
some_over (Some p) (Some q) = refl

-- the same for the entries near a span
pub near_some : (w : WidthValue) (s : SpanValue) (b : ℤ) (r : Option ℕ) (es : List Entry) (v : Option ℕ) → IsWidth w → IsWholeSpan w s → is_bucket w b ≡ true → in_span s b ≡ true → is_some (combined_by Over v (combined_by Above r (touch_at w (filter (λ e. overlaps e.hull s) es) b))) ≡ is_some (pending_after_all w b r es v)
near_some w s b r es v h whole bucket inside =
    ap (λ q. is_some (combined_by Over v (above_last r q))) (touch_at-near w s es b h whole bucket inside)
    ∙ some_over v (above_last r (touch_at w es b))
    ∙ sym (fed_some w b r es v h bucket)

-- ---- the two functions stay in step

pub in_step-with : (w : WidthValue) (p r p' : ℤ → Option ℕ) (es : List Entry) → IsInStep w p r → ((t : ℤ) → p' t ≡ combined_by Over (p t) (combined_by Above (r t) (touch_at w es t))) → IsInStep w p' r
in_step-with w p r p' es h is = record {
  bounds = h.bounds;
  one_pending = λ t.
      is t
      ∙ ap (λ v. combined_by Over v (combined_by Above (r t) (touch_at w es t))) (h.one_pending t)
      ∙ ap (λ v. combined_by Over (p (bucket_of w t)) (combined_by Above v (touch_at w es t))) (h.one_refreshed t)
      ∙ ap (λ v. combined_by Over (p (bucket_of w t)) (combined_by Above (r (bucket_of w t)) v)) (touch_at-bucket w es t h.bounds)
      ∙ sym (is (bucket_of w t));
  one_refreshed = h.one_refreshed;
  marked = λ t inside. ap (λ v. is_some (r t) || is_some v) (is t) ∙ still (is_some (r t)) (p t) (combined_by Above (r t) (touch_at w es t)) (h.marked t inside);
}
  where
    still : (c : Bool) (v q : Option ℕ) → (c || is_some v) ≡ true → (c || is_some (combined_by Over v q)) ≡ true
    still true v q m = refl
    still false None None m = m
    still false None (Some q) m = refl
    still false (Some p) None m = refl
    still false (Some p) (Some q) m = refl

-- only within a span
pub with_within : (i : Bool) (p r q : Option ℕ) → combined_by Over (cond i p None) (combined_by Above (cond i r None) (cond i q None)) ≡ cond i (combined_by Over p (combined_by Above r q)) None
with_within true p r q = refl
with_within false p r q = refl

pub cond_twice : (i : Bool) (v : Option ℕ) → cond i (cond i v None) None ≡ cond i v None
cond_twice true v = refl
cond_twice false v = refl

-- the chain of values that the code computes at a number
pub fed_chain : (shared made p' p fresh r' r newest q : Option ℕ) → shared ≡ made → made ≡ combined_by Over p' fresh → p' ≡ p → fresh ≡ combined_by Above r' newest → r' ≡ r → newest ≡ q → shared ≡ combined_by Over p (combined_by Above r q)
fed_chain shared made p' p fresh r' r newest q a c d e f g =
    a ∙ c ∙ ap (λ v. combined_by Over v fresh) d ∙ ap (combined_by Over p) (e ∙ ap (λ v. combined_by Above v newest) f ∙ ap (combined_by Above r) g)

pub near_chain : (i : Bool) (made p' p fresh r' r newest q q' : Option ℕ) → made ≡ combined_by Over p' fresh → p' ≡ cond i p None → fresh ≡ combined_by Above r' newest → r' ≡ cond i r None → newest ≡ cond i q None → q ≡ q' → made ≡ cond i (combined_by Over p (combined_by Above r q')) None
near_chain i made p' p fresh r' r newest q q' c d e f g k =
    c ∙ ap (λ v. combined_by Over v fresh) d ∙ ap (combined_by Over (cond i p None)) (e ∙ ap (λ v. combined_by Above v newest) f ∙ ap (combined_by Above (cond i r None)) (g ∙ ap (λ v. cond i v None) k)) ∙ with_within i p r q'

-- ---- entries in order

pub fed_one : (first old new : LogValue) (b : ℤ) (entries : List Entry) (i : ℕ) (e : Entry) → i < length entries → e ≡ get_or entries i e → old.width ≡ first.width → last_at old b ≡ last_at first b
    → (is_bucket old.width b ≡ true → pending_at new b ≡ pending_after old.width b (last_at old b) e (pending_at old b)) → is_bucket first.width b ≡ true
    → pending_after_all first.width b (last_at first b) (drop (i + 1) entries) (pending_at new b) ≡ pending_after_all first.width b (last_at first b) (drop i entries) (pending_at old b)
fed_one first old new b entries i e within is width last fed bucket =
    let made : pending_at new b ≡ pending_after first.width b (last_at first b) e (pending_at old b) =
    fed (rw width bucket) ∙ (ap (λ w. pending_after w b (last_at old b) e (pending_at old b)) width ∙ ap (λ r. pending_after first.width b r e (pending_at old b)) last) in
    ap (pending_after_all first.width b (last_at first b) (drop (i + 1) entries)) made
    ∙ sym (ap (λ es. pending_after_all first.width b (last_at first b) es (pending_at old b)) (drop_more entries i e within ∙ ap (λ x. x ∷ drop (i + 1) entries) (sym is)))
