-- Positions in parts. If numbers lie in parts in order, and together are all positions, those of each part are its
-- positions.
use Rattle.std.proofs.Common.{◌≡◌, ℕ, ◌+◌, ◌<◌, ◌≤◌, Bool, true, false, cond, eqb, nat_lt, nat_le, ◌&&◌, List, [], ◌∷◌, ◌++◌, sym, refl, ap, ◌∙◌, arith}
use Rattle.std.specs.Prelude.{IsPermutation}
use Rattle.std.proofs.lemmas.Bool.Decides.{nat_tests}
use Rattle.std.proofs.lemmas.List.Sorted.{sum_by-IsPermutation}
use Rattle.turn_lock.specs.Positions.{positions_between, times}
use Rattle.turn_lock.proofs.Numbers.{times-append, times-cons, times_between, counts_permute}
use Rattle.par_laws.proofs.NumberLaws.{AreWithin}

-- a number is after one position and up to another
abbrev inside : ℕ → ℕ → ℕ → Bool
inside a b q = nat_lt a q && nat_le q b

other_number : (a b n q : ℕ) → a < n → n ≤ b → inside a b q ≡ false → eqb n q ≡ false
other_number a b n q low high out = grind (arith, nat_tests, low, high, out)

times_outside : (a b q : ℕ) (ns : List ℕ) → AreWithin a b ns → inside a b q ≡ false → times q ns ≡ 0
times_outside a b q [] w out = refl
times_outside a b q (n ∷ ns) w out =
    let all = times-cons q n ns in
    let other : cond {A = ℕ} (eqb n q) 1 0 ≡ 0 = ap (λ t. cond t 1 0) (other_number a b n q w.0.0 w.0.1 out) in
    let rest = times_outside a b q ns w.1 out in
    omega (arith, all, other, rest)

inside_wider : (lo a b hi q : ℕ) → lo ≤ a → b ≤ hi → inside a b q ≡ true → inside lo hi q ≡ true
inside_wider lo a b hi q low high e = grind (arith, nat_tests, low, high, e)

-- a number of a part before or after another isn't in the other
before_part : (a b c d q : ℕ) → d ≤ a → inside a b q ≡ true → inside c d q ≡ false
before_part a b c d q le e = grind (arith, nat_tests, le, e)

after_part : (a b c d q : ℕ) → b ≤ c → inside a b q ≡ true → inside c d q ≡ false
after_part a b c d q le e = grind (arith, nat_tests, le, e)

-- the numbers of a part are its positions, if the whole has each once and no others are in the part
part_permutes : (lo a b hi : ℕ) (ns others whole : List ℕ) → lo ≤ a → a ≤ b → b ≤ hi → AreWithin a b ns → ((q : ℕ) → inside a b q ≡ true → times q others ≡ 0) → ((q : ℕ) → times q ns + times q others ≡ times q whole) → IsPermutation whole (positions_between lo hi) → IsPermutation ns (positions_between a b)
part_permutes lo a b hi ns others whole low order high within none sum all =
    counts_permute ns (positions_between a b) (λ q. count q (inside a b q) refl ∙ sym (times_between a q b order))
  where
    once : (q : ℕ) → times q whole ≡ cond (inside lo hi q) 1 0
    once q = sym (sum_by-IsPermutation (λ n. cond (eqb n q) 1 0) whole (positions_between lo hi) all) ∙ times_between lo q hi (let x = low in let y = order in let z = high in omega (arith, x, y, z))

    count : (q : ℕ) (t : Bool) → inside a b q ≡ t → times q ns ≡ cond (inside a b q) 1 0
    count q true e =
        let here = once q ∙ ap (λ t. cond t 1 0) (inside_wider lo a b hi q low high e) in
        let alone = none q e in
        let total = sum q in
        let one : times q ns ≡ 1 = omega (arith, here, alone, total) in
        one ∙ sym (ap (λ t. cond t 1 0) e)
    count q false e = times_outside a b q ns within e ∙ sym (ap (λ t. cond t 1 0) e)

-- three parts in order
pub record Parts (p0 p1 p2 p3 : ℕ) (ns ms ks : List ℕ) : Type 0 where
  pub first : IsPermutation ns (positions_between p0 p1)
  pub second : IsPermutation ms (positions_between p1 p2)
  pub third : IsPermutation ks (positions_between p2 p3)

pub three_parts : (p0 p1 p2 p3 : ℕ) (ns ms ks : List ℕ) → p0 ≤ p1 → p1 ≤ p2 → p2 ≤ p3 → AreWithin p0 p1 ns → AreWithin p1 p2 ms → AreWithin p2 p3 ks → IsPermutation (ns ++ ms ++ ks) (positions_between p0 p3) → Parts p0 p1 p2 p3 ns ms ks
three_parts p0 p1 p2 p3 ns ms ks one two three in_first in_second in_third all = record {
  first = part_permutes p0 p0 p1 p3 ns (ms ++ ks) (ns ++ ms ++ ks) (omega arith) one (omega (arith, two, three)) in_first
      (λ q e. both q ms ks (times_outside p1 p2 q ms in_second (after_part p0 p1 p1 p2 q (omega arith) e)) (times_outside p2 p3 q ks in_third (after_part p0 p1 p2 p3 q two e)))
      (λ q. let t = times-append q ms ks in let u = times-append q ns ms in let v = times-append q (ns ++ ms) ks in omega (arith, t, u, v)) all;
  second = part_permutes p0 p1 p2 p3 ms (ns ++ ks) (ns ++ ms ++ ks) one two three in_second
      (λ q e. both q ns ks (times_outside p0 p1 q ns in_first (before_part p1 p2 p0 p1 q (omega arith) e)) (times_outside p2 p3 q ks in_third (after_part p1 p2 p2 p3 q (omega arith) e)))
      (λ q. let t = times-append q ns ks in let u = times-append q ns ms in let v = times-append q (ns ++ ms) ks in omega (arith, t, u, v)) all;
  third = part_permutes p0 p2 p3 p3 ks (ns ++ ms) (ns ++ ms ++ ks) (omega (arith, one, two)) three (omega arith) in_third
      (λ q e. both q ns ms (times_outside p0 p1 q ns in_first (before_part p2 p3 p0 p1 q two e)) (times_outside p1 p2 q ms in_second (before_part p2 p3 p1 p2 q (omega arith) e)))
      (λ q. let v = times-append q (ns ++ ms) ks in omega (arith, v)) all;
}
  where
    both : (q : ℕ) (xs ys : List ℕ) → times q xs ≡ 0 → times q ys ≡ 0 → times q (xs ++ ys) ≡ 0
    both q xs ys e f = let t = times-append q xs ys in omega (arith, t, e, f)
