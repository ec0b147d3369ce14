-- Signed numbers in sixteen bytes: the lower eight, and the upper eight.
use Rattle.std.proofs.Common.{◌≡◌, ℕ, ◌+◌, ◌-◌, ◌*◌, ◌/◌, ◌%◌, ◌<◌, ◌^◌, ◌++◌, ℤ, pos, negsuc, sym, ap, ◌∙◌, arith}
use Rattle.std.specs.Int.{w64, w128, to_le_bytes, cast_unsigned}
use Rattle.std.proofs.lemmas.Int.{ints}
use Rattle.event_codec.specs.Formed.{IsEight, IsWord}
use Rattle.event_codec.specs.Spelling.{eight, signed_bytes}
use Rattle.event_codec.specs.Reading.{any_eight, any_word, pair}
use Rattle.event_codec.proofs.NumberLaws.{any_eight_format, any_word_format}
use Rattle.base_image.specs.Formed.{IsWide}
use Rattle.base_image.specs.Reading.{to_wide, wide_at}
use Rattle.base_image.specs.Spelling.{wide}
use Rattle.base_image.proofs.Exact.{IsExact, exact, pair_exact, map_exact}

halves : (n low high : ℕ) → n ≡ high * 18446744073709551616 + low → low < 2 ^ 64 → to_le_bytes w128 n ≡ to_le_bytes w64 low ++ to_le_bytes w64 high
halves n low high is small =
    let b0 : n % 256 ≡ low % 256 = omega (arith, is, small) in
    let b1 : n / 256 % 256 ≡ low / 256 % 256 = omega (arith, is, small) in
    let b2 : n / 65536 % 256 ≡ low / 65536 % 256 = omega (arith, is, small) in
    let b3 : n / 16777216 % 256 ≡ low / 16777216 % 256 = omega (arith, is, small) in
    let b4 : n / 4294967296 % 256 ≡ low / 4294967296 % 256 = omega (arith, is, small) in
    let b5 : n / 1099511627776 % 256 ≡ low / 1099511627776 % 256 = omega (arith, is, small) in
    let b6 : n / 281474976710656 % 256 ≡ low / 281474976710656 % 256 = omega (arith, is, small) in
    let b7 : n / 72057594037927936 % 256 ≡ low / 72057594037927936 % 256 = omega (arith, is, small) in
    let b8 : n / 18446744073709551616 % 256 ≡ high % 256 = omega (arith, is, small) in
    let b9 : n / 4722366482869645213696 % 256 ≡ high / 256 % 256 = omega (arith, is, small) in
    let b10 : n / 1208925819614629174706176 % 256 ≡ high / 65536 % 256 = omega (arith, is, small) in
    let b11 : n / 309485009821345068724781056 % 256 ≡ high / 16777216 % 256 = omega (arith, is, small) in
    let b12 : n / 79228162514264337593543950336 % 256 ≡ high / 4294967296 % 256 = omega (arith, is, small) in
    let b13 : n / 20282409603651670423947251286016 % 256 ≡ high / 1099511627776 % 256 = omega (arith, is, small) in
    let b14 : n / 5192296858534827628530496329220096 % 256 ≡ high / 281474976710656 % 256 = omega (arith, is, small) in
    let b15 : n / 1329227995784915872903807060280344576 % 256 ≡ high / 72057594037927936 % 256 = omega (arith, is, small) in
    cc

unsigned : (low : ℕ) (high : ℤ) → low < 2 ^ 64 → IsWord high → cast_unsigned w128 (to_wide (low, high)) ≡ cast_unsigned w64 high * 18446744073709551616 + low
unsigned low (pos h) small w = omega (arith, ints)
unsigned low (negsuc h) small w = omega (arith, ints, small, w.0)

pub wide_halves : (low : ℕ) (high : ℤ) → low < 2 ^ 64 → IsWord high → wide (to_wide (low, high)) ≡ eight low ++ signed_bytes high
unfolding wide eight signed_bytes
wide_halves low high small w = halves (cast_unsigned w128 (to_wide (low, high))) low (cast_unsigned w64 high) (unsigned low high small w) small

is_wide : (low : ℕ) (high : ℤ) → low < 2 ^ 64 → IsWord high → IsWide (to_wide (low, high))
is_wide low high small w = (omega (arith, ints, small, w.0), omega (arith, ints, small, w.1))

-- the halves of a number
abbrev lower : ℤ → ℕ
lower (pos n) = n % 18446744073709551616
lower (negsuc n) = 18446744073709551615 - n % 18446744073709551616

abbrev upper : ℤ → ℤ
upper (pos n) = pos (n / 18446744073709551616)
upper (negsuc n) = negsuc (n / 18446744073709551616)

lower_small : (z : ℤ) → lower z < 2 ^ 64
lower_small (pos n) = omega arith
lower_small (negsuc n) = omega arith

upper_word : (z : ℤ) → IsWide z → IsWord (upper z)
upper_word (pos n) h = (omega (arith, ints), omega (arith, ints, h.1))
upper_word (negsuc n) h = (omega (arith, ints, h.0), omega (arith, ints))

both : (z : ℤ) → to_wide (lower z, upper z) ≡ z
both (pos n) = omega (arith, ints)
both (negsuc n) = omega (arith, ints)

pub wide_exact : IsExact wide IsWide wide_at
unfolding wide_at
wide_exact = map_exact to_wide (λ x. eight x.0 ++ signed_bytes x.1) (λ x. IsEight x.0 × IsWord x.1) (pair any_eight (λ low. any_word)) wide IsWide
    (pair_exact _ _ _ _ _ _ (exact any_eight_format) (λ low h. exact any_word_format))
    (record {
      there = λ x h. (is_wide x.0 x.1 h.0 h.1, wide_halves x.0 x.1 h.0 h.1);
      back = λ z h. record {
        value = (lower z, upper z);
        ok = (lower_small z, upper_word z h);
        same = both z;
        spelled = ap wide (sym (both z)) ∙ wide_halves (lower z) (upper z) (lower_small z) (upper_word z h);
      };
    })
