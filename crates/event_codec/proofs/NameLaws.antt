-- Names as the code reads them.
use Rattle.std.proofs.Common.{◌≡◌, ℕ, zero, suc, ◌-◌, ◌<◌, ◌≤◌, Bool, true, false, cond, ◌&&◌, nat_lt, nat_le, List, [], ◌∷◌, length, length-append, get_or, take, drop, Result, Ok, Err, refl, sym, ap, subst, ◌∙◌, arith}
use Rattle.std.specs.List.{list_all}
use Rattle.std.proofs.lemmas.Bool.{and_parts, ltb-true, leb-true, true≢false}
use Rattle.ts_schema.specs.Names.{is_name, is_head, is_tail}
use Rattle.event_codec.specs.Reading.{Matches, go_on, byte_where, put_before, items, is_name_length, name_text}
use Rattle.event_codec.proofs.Formats.{done}
use Rattle.event_codec.proofs.Parts.{text_format}

-- the length of a name fits one byte
pub short : (text : List ℕ) → is_name text ≡ true → length text < 256
short [] h = absurd (true≢false (sym h))
short (b ∷ bytes) h =
    let tail = and_parts (nat_le (length (b ∷ bytes)) 63 && is_head b) (list_all is_tail bytes) h in
    let head = and_parts (nat_le (length (b ∷ bytes)) 63) (is_head b) tail.0 in
    omega (arith, leb-true (length (b ∷ bytes)) 63 head.0)

abbrev Tails : ℕ → List ℕ → Result (List ℕ × List ℕ) (List ℕ)
Tails n bytes = items n (byte_where is_tail) bytes

-- one byte, and what comes after it
abbrev step : ℕ → ℕ → List ℕ → Bool → Result (List ℕ × List ℕ) (List ℕ)
step n b bytes test = go_on (go_on (cond test (done b bytes) (Err (b ∷ bytes))) (λ a left. go_on (Tails n left) (λ c end. Ok ((a, c), end)))) (λ x end. Ok (put_before x, end))

pub no_tail : (n : ℕ) (bytes : List ℕ) → n ≡ 0 → Tails n bytes ≡ Ok (take n bytes, bytes)
unfolding items
no_tail n bytes h = subst (λ (k : ℕ). Tails k bytes ≡ Ok (take k bytes, bytes)) (sym h) refl

pub tails_end : (n : ℕ) (bytes : List ℕ) → 1 ≤ n → length bytes < 1 → Tails n bytes ≡ Err bytes
unfolding items
tails_end zero bytes h l = absurd (omega (arith, h))
tails_end (suc n) [] h l = refl
tails_end (suc n) (b ∷ bytes) h l = absurd (omega (arith, l))

pub not_tail : (n : ℕ) (bytes : List ℕ) → 1 ≤ n → 1 ≤ length bytes → is_tail (get_or bytes 0 0) ≡ false → Tails n bytes ≡ Err bytes
unfolding items
not_tail zero bytes h l t = absurd (omega (arith, h))
not_tail (suc n) [] h l t = absurd (omega (arith, l))
not_tail (suc n) (b ∷ bytes) h l t = ap (step n b bytes) t

pub tail_then : (n : ℕ) (bytes rest : List ℕ) → 1 ≤ n → 1 ≤ length bytes → is_tail (get_or bytes 0 0) ≡ true → Tails (n - 1) (drop 1 bytes) ≡ Ok (take (n - 1) (drop 1 bytes), rest) → Tails n bytes ≡ Ok (take n bytes, rest)
unfolding items
tail_then zero bytes rest h l t e = absurd (omega (arith, h))
tail_then (suc n) [] rest h l t e = absurd (omega (arith, l))
tail_then (suc n) (b ∷ bytes) rest h l t e =
    let same : suc n - 1 ≡ n = omega arith in
    let read : Tails n bytes ≡ Ok (take n bytes, rest) = subst (λ (k : ℕ). Tails k bytes ≡ Ok (take k bytes, rest)) same e in
    ap (step n b bytes) t ∙ ap (λ (r : Result (List ℕ × List ℕ) (List ℕ)). go_on (go_on r (λ c end. Ok ((b, c), end))) (λ x end. done (put_before x) end)) read

pub tail_fails : (n : ℕ) (bytes left : List ℕ) → 1 ≤ n → 1 ≤ length bytes → is_tail (get_or bytes 0 0) ≡ true → Tails (n - 1) (drop 1 bytes) ≡ Err left → Tails n bytes ≡ Err left
unfolding items
tail_fails zero bytes left h l t e = absurd (omega (arith, h))
tail_fails (suc n) [] left h l t e = absurd (omega (arith, l))
tail_fails (suc n) (b ∷ bytes) left h l t e =
    let same : suc n - 1 ≡ n = omega arith in
    let read : Tails n bytes ≡ Err left = subst (λ (k : ℕ). Tails k bytes ≡ Err left) same e in
    ap (step n b bytes) t ∙ ap (λ (r : Result (List ℕ × List ℕ) (List ℕ)). go_on (go_on r (λ c end. Ok ((b, c), end))) (λ x end. done (put_before x) end)) read

-- ---- the whole text

abbrev whole : ℕ → ℕ → List ℕ → Bool → Result (List ℕ × List ℕ) (List ℕ)
whole n b bytes test = go_on (go_on (cond test (done b bytes) (Err (b ∷ bytes))) (λ a left. go_on (Tails (n - 1) left) (λ c end. Ok ((a, c), end)))) (λ x end. Ok (put_before x, end))

pub nothing_there : (n : ℕ) (bytes : List ℕ) → length bytes < 1 → name_text n bytes ≡ Err bytes
unfolding name_text
nothing_there n [] l = refl
nothing_there n (b ∷ bytes) l = absurd (omega (arith, l))

pub no_head : (n : ℕ) (bytes : List ℕ) → 1 ≤ length bytes → is_head (get_or bytes 0 0) ≡ false → name_text n bytes ≡ Err bytes
unfolding name_text
no_head n [] l t = absurd (omega (arith, l))
no_head n (b ∷ bytes) l t = ap (whole n b bytes) t

some_length : (n : ℕ) → is_name_length n ≡ true → 1 ≤ n
some_length n h = ltb-true 0 n (and_parts (nat_lt 0 n) (nat_le n 63) h).0

pub head_then : (n : ℕ) (bytes rest : List ℕ) → is_name_length n ≡ true → 1 ≤ length bytes → is_head (get_or bytes 0 0) ≡ true → Tails (n - 1) (drop 1 bytes) ≡ Ok (take (n - 1) (drop 1 bytes), rest) → name_text n bytes ≡ Ok (take n bytes, rest)
unfolding name_text
head_then zero bytes rest h l t e = absurd (omega (arith, some_length 0 h))
head_then (suc n) [] rest h l t e = absurd (omega (arith, l))
head_then (suc n) (b ∷ bytes) rest h l t e =
    let same : suc n - 1 ≡ n = omega arith in
    ap (whole (suc n) b bytes) t ∙ ap (λ (r : Result (List ℕ × List ℕ) (List ℕ)). go_on (go_on r (λ c end. Ok ((b, c), end))) (λ x end. done (put_before x) end)) e ∙ ap (λ (k : ℕ). done (b ∷ take k bytes) rest) same

pub head_fails : (n : ℕ) (bytes left : List ℕ) → 1 ≤ length bytes → is_head (get_or bytes 0 0) ≡ true → Tails (n - 1) (drop 1 bytes) ≡ Err left → name_text n bytes ≡ Err left
unfolding name_text
head_fails n [] left l t e = absurd (omega (arith, l))
head_fails n (b ∷ bytes) left l t e =
    ap (whole n b bytes) t ∙ ap (λ (r : Result (List ℕ × List ℕ) (List ℕ)). go_on (go_on r (λ c end. Ok ((b, c), end))) (λ x end. done (put_before x) end)) e

-- a text that is read is a name
pub text_is_name : (n : ℕ) (bytes text rest : List ℕ) → is_name_length n ≡ true → name_text n bytes ≡ Ok (text, rest) → is_name text ≡ true
text_is_name n bytes text rest h e = ((text_format n h).takes bytes text rest e).ok.1

pub text_fits : (n : ℕ) (bytes text rest : List ℕ) → is_name_length n ≡ true → name_text n bytes ≡ Ok (text, rest) → n ≤ length bytes
text_fits n bytes text rest h e =
    let read = (text_format n h).takes bytes text rest e in
    omega (arith, read.ok.0, ap length read.parts, length-append text rest)

-- ---- the same for the result of a call

module _ {X Y : Type 0} (f : X → List ℕ) (g : Y → List ℕ) where
  pub tail_goes : (n : ℕ) (bytes rest : List ℕ) (r : Result X Y) → 1 ≤ n → 1 ≤ length bytes → is_tail (get_or bytes 0 0) ≡ true → rest ≡ drop 1 bytes → Matches (λ x. (take (n - 1) rest, f x)) g r (Tails (n - 1) rest) → Matches (λ x. (take n bytes, f x)) g r (Tails n bytes)
  tail_goes n bytes rest r h l t same m = by_end r (subst (λ (w : List ℕ). Matches (λ x. (take (n - 1) w, f x)) g r (Tails (n - 1) w)) same m)
    where
      by_end : (r : Result X Y) → Matches (λ x. (take (n - 1) (drop 1 bytes), f x)) g r (Tails (n - 1) (drop 1 bytes)) → Matches (λ x. (take n bytes, f x)) g r (Tails n bytes)
      by_end (Ok x) m = tail_then n bytes (f x) h l t m
      by_end (Err y) m = tail_fails n bytes (g y) h l t m

  pub head_goes : (n : ℕ) (bytes rest : List ℕ) (r : Result X Y) → is_name_length n ≡ true → 1 ≤ length bytes → is_head (get_or bytes 0 0) ≡ true → rest ≡ drop 1 bytes → Matches (λ x. (take (n - 1) rest, f x)) g r (Tails (n - 1) rest) → Matches (λ x. (take n bytes, f x)) g r (name_text n bytes)
  head_goes n bytes rest r h l t same m = by_end r (subst (λ (w : List ℕ). Matches (λ x. (take (n - 1) w, f x)) g r (Tails (n - 1) w)) same m)
    where
      by_end : (r : Result X Y) → Matches (λ x. (take (n - 1) (drop 1 bytes), f x)) g r (Tails (n - 1) (drop 1 bytes)) → Matches (λ x. (take n bytes, f x)) g r (name_text n bytes)
      by_end (Ok x) m = head_then n bytes (f x) h l t m
      by_end (Err y) m = head_fails n bytes (g y) l t m
