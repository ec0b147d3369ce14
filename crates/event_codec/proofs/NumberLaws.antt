-- Numbers in bytes, the lowest first: the bytes of a number in a range, read one by one, are exact.
use Rattle.std.proofs.Common.{◌≡◌, ℕ, zero, suc, ◌+◌, ◌-◌, ◌*◌, ◌/◌, ◌%◌, ◌^◌, ◌<◌, ◌≤◌, true, nat_lt, int_le, List, [], ◌∷◌, ◌++◌, ℤ, pos, negsuc, ◌+ℤ◌, ◌-ℤ◌, ◌≤ℤ◌, unsigned_abs, refl, sym, ap, subst, ◌∙◌, arith}
use Rattle.std.specs.Int.{w32, w64, to_le_bytes, cast_unsigned}
use Rattle.std.proofs.lemmas.Bool.{and_parts, and_from, ltb-true, lt-ltb}
use Rattle.std.proofs.lemmas.Int.{ints}
use Rattle.ts_bucket.specs.WholeSpans.{least, greatest}
use Rattle.event_codec.specs.Formed.{Within, IsFour, IsEight, IsWord}
use Rattle.event_codec.specs.Spelling.{four, eight, signed_bytes}
use Rattle.event_codec.specs.Reading.{gives, pair, byte_where, low_byte, without_low, with_low, least_above, most_below, is_low_byte, put_low, number, any_byte, four_upto, any_four, any_eight, between, any_word}
use Rattle.event_codec.proofs.Formats.{IsFormat, SameSpelling, byte_format, pair_format, map_format, gives_format, alike}
use Rattle.ts_schema.proofs.Cases.{int_le-true, le-int_le}

-- this many bytes of a whole number, the lowest first
abbrev pub low_bytes : ℕ → ℤ → List ℕ
low_bytes zero z = []
low_bytes (suc k) z = low_byte z ∷ low_bytes k (without_low z)

-- the number of values that this many bytes can encode
abbrev pub room : ℕ → ℕ
room zero = 1
room (suc k) = 256 * room k

-- ---- one byte and the rest

low_byte-lt : (z : ℤ) → low_byte z < 256
low_byte-lt (pos n) = omega arith
low_byte-lt (negsuc n) = omega arith

low-with_low : (b : ℕ) (q : ℤ) → b < 256 → low_byte (with_low b q) ≡ b
low-with_low b (pos n) h = omega arith
low-with_low b (negsuc n) h = omega arith

without-with_low : (b : ℕ) (q : ℤ) → b < 256 → without_low (with_low b q) ≡ q
without-with_low b (pos n) h = ap pos (omega arith)
without-with_low b (negsuc n) h = ap negsuc (omega arith)

with-low-without : (z : ℤ) → with_low (low_byte z) (without_low z) ≡ z
with-low-without (pos n) = ap pos (omega arith)
with-low-without (negsuc n) = ap negsuc (omega arith)

-- rounding down: from below and from above
down_le : (z q : ℤ) → z ≤ℤ with_low 255 q → without_low z ≤ℤ q
down_le (pos z) (pos q) h = omega (arith, ints)
down_le (pos z) (negsuc q) h = absurd (omega (arith, ints))
down_le (negsuc z) (pos q) h = omega (arith, ints)
down_le (negsuc z) (negsuc q) h = omega (arith, ints)

down_le_back : (z q : ℤ) → without_low z ≤ℤ q → z ≤ℤ with_low 255 q
down_le_back (pos z) (pos q) h = omega (arith, ints)
down_le_back (pos z) (negsuc q) h = absurd (omega (arith, ints))
down_le_back (negsuc z) (pos q) h = omega (arith, ints)
down_le_back (negsuc z) (negsuc q) h = omega (arith, ints)

le_down : (z q : ℤ) → with_low 0 q ≤ℤ z → q ≤ℤ without_low z
le_down (pos z) (pos q) h = omega (arith, ints)
le_down (pos z) (negsuc q) h = omega (arith, ints)
le_down (negsuc z) (pos q) h = absurd (omega (arith, ints))
le_down (negsuc z) (negsuc q) h = omega (arith, ints)

le_down_back : (z q : ℤ) → q ≤ℤ without_low z → with_low 0 q ≤ℤ z
le_down_back (pos z) (pos q) h = omega (arith, ints)
le_down_back (pos z) (negsuc q) h = omega (arith, ints)
le_down_back (negsuc z) (pos q) h = absurd (omega (arith, ints))
le_down_back (negsuc z) (negsuc q) h = omega (arith, ints)

low_up : (b : ℕ) (q : ℤ) → b < 256 → with_low b q +ℤ pos (255 - b) ≡ with_low 255 q
low_up b (pos q) h = omega (arith, ints)
low_up b (negsuc q) h = omega (arith, ints)

low_down : (b : ℕ) (q : ℤ) → b < 256 → with_low b q -ℤ pos b ≡ with_low 0 q
low_down b (pos q) h = omega (arith, ints)
low_down b (negsuc q) h = omega (arith, ints)

above : (lo : ℤ) (b : ℕ) (q : ℤ) → b < 256 → lo ≤ℤ with_low b q → least_above lo b ≤ℤ q
above lo b q h l = down_le (lo +ℤ pos (255 - b)) q (omega (arith, ints, low_up b q h))

above_back : (lo : ℤ) (b : ℕ) (q : ℤ) → b < 256 → least_above lo b ≤ℤ q → lo ≤ℤ with_low b q
above_back lo b q h l = let k = down_le_back (lo +ℤ pos (255 - b)) q l in omega (arith, ints, low_up b q h, k)

below : (hi : ℤ) (b : ℕ) (q : ℤ) → b < 256 → with_low b q ≤ℤ hi → q ≤ℤ most_below hi b
below hi b q h l = le_down (hi -ℤ pos b) q (omega (arith, ints, low_down b q h))

below_back : (hi : ℤ) (b : ℕ) (q : ℤ) → b < 256 → q ≤ℤ most_below hi b → with_low b q ≤ℤ hi
below_back hi b q h l = let k = le_down_back (hi -ℤ pos b) q l in omega (arith, ints, low_down b q h, k)

-- ---- a range, and its numbers with a given lowest byte

narrower : (x z : ℤ) (d : ℕ) → (x +ℤ pos 255) ≤ℤ (z +ℤ pos d) → without_low x ≤ℤ (without_low z +ℤ pos (d / 256))
narrower (pos x) (pos z) d h = omega (arith, ints)
narrower (pos x) (negsuc z) d h = omega (arith, ints)
narrower (negsuc x) (pos z) d h = omega (arith, ints)
narrower (negsuc x) (negsuc z) d h = omega (arith, ints)

narrow : (lo hi : ℤ) (d b : ℕ) → b < 256 → hi ≤ℤ (lo +ℤ pos d) → most_below hi b ≤ℤ (least_above lo b +ℤ pos (d / 256))
narrow lo hi d b h l = narrower (hi -ℤ pos b) (lo +ℤ pos (255 - b)) d (omega (arith, ints))

-- the lowest byte of a number in the range
is_low : (lo hi z : ℤ) → Within lo hi z → is_low_byte lo hi (low_byte z) ≡ true
is_low lo hi z h =
    let b = low_byte z in
    let small : low_byte z < 256 = low_byte-lt z in
    let whole = with-low-without z in
    let from : least_above lo (low_byte z) ≤ℤ without_low z = above lo (low_byte z) (without_low z) small (subst (λ (y : ℤ). lo ≤ℤ y) (sym whole) h.0) in
    let to : without_low z ≤ℤ most_below hi (low_byte z) = below hi (low_byte z) (without_low z) small (subst (λ (y : ℤ). y ≤ℤ hi) (sym whole) h.1) in
    and_from _ _ (lt-ltb (low_byte z) 256 small) (le-int_le (least_above lo (low_byte z)) (most_below hi (low_byte z)) (omega (arith, ints, from, to)))

abbrev both_bytes : ℕ → ℕ × ℤ → List ℕ
both_bytes k x = (x.0 ∷ []) ++ low_bytes k x.1

abbrev both_within : ℤ → ℤ → ℕ × ℤ → Type 0
both_within lo hi x = (is_low_byte lo hi x.0 ≡ true) × Within (least_above lo x.0) (most_below hi x.0) x.1

module _ (lo hi : ℤ) where
  small_byte : (b : ℕ) → is_low_byte lo hi b ≡ true → b < 256
  small_byte b h = ltb-true b 256 (and_parts (nat_lt b 256) (int_le (least_above lo b) (most_below hi b)) h).0

  some_left : (b : ℕ) → is_low_byte lo hi b ≡ true → least_above lo b ≤ℤ most_below hi b
  some_left b h = int_le-true (least_above lo b) (most_below hi b) (and_parts (nat_lt b 256) (int_le (least_above lo b) (most_below hi b)) h).1

  low_first : (k : ℕ) → SameSpelling put_low (both_bytes k) (both_within lo hi) (low_bytes (suc k)) (Within lo hi)
  low_first k = record {
    there = λ x h.
        let small = small_byte x.0 h.0 in
        ((above_back lo x.0 x.1 small h.1.0, below_back hi x.0 x.1 small h.1.1), ap (λ (b : ℕ). b ∷ low_bytes k (without_low (with_low x.0 x.1))) (low-with_low x.0 x.1 small) ∙ ap (λ (z : ℤ). x.0 ∷ low_bytes k z) (without-with_low x.0 x.1 small));
    back = λ z h.
        let small = low_byte-lt z in
        let whole = with-low-without z in
        record {
          value = (low_byte z, without_low z);
          ok = (is_low lo hi z h, (above lo (low_byte z) (without_low z) small (subst (λ (y : ℤ). lo ≤ℤ y) (sym whole) h.0), below hi (low_byte z) (without_low z) small (subst (λ (y : ℤ). y ≤ℤ hi) (sym whole) h.1)));
          same = whole;
          spelled = refl;
        };
  }

-- a number from lo to hi, if this many bytes can encode every number of the range
pub number_format : (k : ℕ) (lo hi : ℤ) (d : ℕ) → lo ≤ℤ hi → hi ≤ℤ (lo +ℤ pos d) → d < room k → IsFormat (low_bytes k) (Within lo hi) (number k lo hi)
unfolding number
number_format zero lo hi d l w r = map_format (λ z. z) (λ z. []) (λ z. z ≡ lo) (gives lo) (low_bytes 0) (Within lo hi) (gives_format lo) (record {
  there = λ z h. let is : z ≡ lo = h in ((omega (arith, ints, is), omega (arith, ints, is, l)), refl);
  back = λ z h. record { value = lo; ok = refl; same = omega (arith, ints, h.0, h.1, l, w, r); spelled = refl };
})
number_format (suc k) lo hi d l w r =
    map_format put_low (both_bytes k) (both_within lo hi) (pair (byte_where (is_low_byte lo hi)) (λ b. number k (least_above lo b) (most_below hi b))) (low_bytes (suc k)) (Within lo hi)
    (pair_format (λ b. b ∷ []) (λ b. is_low_byte lo hi b ≡ true) (byte_where (is_low_byte lo hi)) (λ b. low_bytes k) (λ b. Within (least_above lo b) (most_below hi b)) (λ b. number k (least_above lo b) (most_below hi b))
    (byte_format (is_low_byte lo hi) (low_byte lo) (is_low lo hi lo (omega (arith, ints), l)))
    (λ b h. number_format k (least_above lo b) (most_below hi b) (d / 256) (some_left lo hi b h) (narrow lo hi d b (small_byte lo hi b h) w) (omega (arith, r))))
    (low_first lo hi k)

-- ---- the bytes of the types

pub four_is : (n : ℕ) → to_le_bytes w32 n ≡ low_bytes 4 (pos n)
four_is n =
    let second : n / 65536 ≡ n / 256 / 256 = omega arith in
    let third : n / 16777216 ≡ n / 65536 / 256 = omega arith in
    cc

pub eight_is : (n : ℕ) → to_le_bytes w64 n ≡ low_bytes 8 (pos n)
eight_is n =
    let second : n / 65536 ≡ n / 256 / 256 = omega arith in
    let third : n / 16777216 ≡ n / 65536 / 256 = omega arith in
    let fourth : n / 4294967296 ≡ n / 16777216 / 256 = omega arith in
    let fifth : n / 1099511627776 ≡ n / 4294967296 / 256 = omega arith in
    let sixth : n / 281474976710656 ≡ n / 1099511627776 / 256 = omega arith in
    let seventh : n / 72057594037927936 ≡ n / 281474976710656 / 256 = omega arith in
    cc

-- a number below 0 has the bytes of its complement
complement : (k n m : ℕ) → m + suc n ≡ room k → low_bytes k (pos m) ≡ low_bytes k (negsuc n)
complement zero n m h = refl
complement (suc k) n m h =
    let low : m % 256 ≡ 255 - n % 256 = omega arith in
    let rest : m / 256 + suc (n / 256) ≡ room k = omega arith in
    cc (low, complement k (n / 256) (m / 256) rest)

pub signed_is : (z : ℤ) → Within (negsuc (2 ^ 63 - 1)) (pos (2 ^ 63 - 1)) z → to_le_bytes w64 (cast_unsigned w64 z) ≡ low_bytes 8 z
signed_is (pos n) h = eight_is n
signed_is (negsuc n) h =
    let m : ℕ = 2 ^ 64 - suc n in
    let whole : m + suc n ≡ room 8 = omega (arith, ints, h.0) in
    eight_is m ∙ complement 8 n m whole

-- ---- fields

pub byte_count : IsFormat (λ n. n ∷ []) (λ n. n < 2 ^ 8) any_byte
byte_count = alike (λ n. n ∷ []) (λ n. n ∷ []) (λ n. nat_lt n 256 ≡ true) (λ n. n < 2 ^ 8) any_byte (byte_format (λ b. nat_lt b 256) 0 refl) (λ n h. (ltb-true n 256 h, refl)) (λ n h. (lt-ltb n 256 h, refl))

natural : (n : ℕ) (z : ℤ) (most : ℕ) → Within (pos 0) (pos most) z → (pos (unsigned_abs z) ≡ z) × (unsigned_abs z ≤ most)
natural n (pos z) most h = (refl, omega (arith, ints, h.1))
natural n (negsuc z) most h = absurd (omega (arith, ints, h.0))

pub four_format : (most : ℕ) → most < 2 ^ 32 → IsFormat four (λ n. n ≤ most) (four_upto most)
unfolding four
four_format most small = map_format unsigned_abs (low_bytes 4) (Within (pos 0) (pos most)) (number 4 (pos 0) (pos most)) four (λ n. n ≤ most)
    (number_format 4 (pos 0) (pos most) most (omega (arith, ints)) (omega (arith, ints)) small)
    (record {
      there = λ z h. let n = natural 0 z most h in (n.1, four_is (unsigned_abs z) ∙ ap (low_bytes 4) n.0);
      back = λ n h. record { value = pos n; ok = (omega (arith, ints), omega (arith, ints, h)); same = refl; spelled = four_is n };
    })

pub any_four_format : IsFormat four IsFour any_four
any_four_format = alike four four (λ n. n ≤ 2 ^ 32 - 1) IsFour any_four (four_format (2 ^ 32 - 1) (omega arith)) (λ n h. (omega (arith, h), refl)) (λ n h. (omega (arith, h), refl))

pub any_eight_format : IsFormat eight IsEight any_eight
unfolding eight
any_eight_format = map_format unsigned_abs (low_bytes 8) (Within (pos 0) (pos (2 ^ 64 - 1))) (number 8 (pos 0) (pos (2 ^ 64 - 1))) eight IsEight
    (number_format 8 (pos 0) (pos (2 ^ 64 - 1)) (2 ^ 64 - 1) (omega (arith, ints)) (omega (arith, ints)) (omega arith))
    (record {
      there = λ z h. let n = natural 0 z (2 ^ 64 - 1) h in (omega (arith, n.1), eight_is (unsigned_abs z) ∙ ap (low_bytes 8) n.0);
      back = λ n h. record { value = pos n; ok = (omega (arith, ints), omega (arith, ints, h)); same = refl; spelled = eight_is n };
    })

pub between_format : (lo hi : ℤ) → lo ≤ℤ hi → least ≤ℤ lo → hi ≤ℤ greatest → IsFormat signed_bytes (Within lo hi) (between lo hi)
unfolding signed_bytes
between_format lo hi l low high = alike (low_bytes 8) signed_bytes (Within lo hi) (Within lo hi) (between lo hi)
    (number_format 8 lo hi (2 ^ 64 - 1) l (omega (arith, ints, low, high)) (omega arith))
    (λ z h. (h, sym (signed_is z (omega (arith, ints, low, h.0), omega (arith, ints, high, h.1)))))
    (λ z h. (h, signed_is z (omega (arith, ints, low, h.0), omega (arith, ints, high, h.1))))

pub any_word_format : IsFormat signed_bytes IsWord any_word
any_word_format = between_format least greatest (omega (arith, ints)) (omega (arith, ints)) (omega (arith, ints))
