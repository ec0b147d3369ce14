-- Positions that numbers in rising order leave out, or have twice.
use Rattle.std.proofs.Common.{◌≡◌, ◌≢◌, ℕ, zero, suc, ◌+◌, ◌<◌, ◌≤◌, ◌&&◌, cond, true, false, List, [], ◌∷◌, ◌++◌, length, take, drop, get_or, eqb, Option, Some, None, refl, sym, ap, ◌∙◌, subst, arith, eq-eqb, ne_eqb, zero-add}
use Rattle.std.specs.Prelude.{IsPermutation, nat_lt, nat_le}
use Rattle.std.specs.List.Sorted.{IsNonDecreasing, IsSorted}
use Rattle.std.specs.Option.{MatchOption}
use Rattle.std.specs.Ordering.{is_lt, nat_cmp}
use Rattle.std.specs.declared.cmp.Ordering.TheVariants.{Less, Equal, Greater}
use Rattle.std.proofs.lemmas.Bool.{ltb-false}
use Rattle.std.proofs.lemmas.Cmp.{nat_cmp_total}
use Rattle.std.proofs.lemmas.Bool.Decides.{nat_tests}
use Rattle.std.proofs.lemmas.List.{drop_more, get_or-drop, take_more}
use Rattle.std.proofs.lemmas.List.Sums.{sum_by-take-drop}
use Rattle.std.proofs.lemmas.List.Sorted.{All-permutation, ranks_by, sorted_far, sum_by-IsPermutation}
use Rattle.turn_lock.specs.Positions.{positions_between, times}
use Rattle.turn_lock.proofs.Numbers.{positions_meet, positions_one, times-cons, times_between}
use Rattle.audit.specs.Answers.{IsLost}
use Rattle.audit.specs.ReplayedReplies.{LieBetween}

-- a number below all of a list isn't in it
times_below : (q : ℕ) (ys : List ℕ) → ((k : ℕ) → k < length ys → q < get_or ys k 0) → times q ys ≡ 0
times_below q [] h = refl
times_below q (y ∷ ys) h =
    let above : q < y = h 0 (omega arith) in
    let other : eqb y q ≡ false = ne_eqb y q (omega arith) in
    times-cons q y ys ∙ ap (λ t. cond t 1 0 + times q ys) other ∙ zero-add (times q ys) ∙ times_below q ys (λ k l. h (suc k) (omega arith))

-- in rising numbers, none from an index on is below the one there
pub none_below : (xs : List ℕ) (i q : ℕ) → IsNonDecreasing xs → i < length xs → q < get_or xs i 0 → times q (drop i xs) ≡ 0
none_below xs i q rise within below = times_below q (drop i xs) (λ k l. rw get_or-drop (later k l))
  where
    later : (k : ℕ) → k < length (drop i xs) → q < get_or xs (i + k) 0
    later k l = let up = rise i (i + k) 0 (omega arith) (omega (arith, Rattle.std.proofs.Common.length-drop i xs)) in omega (arith, up)

-- the number at an index is in the rest of the list from there on
pub times_here : (xs : List ℕ) (i : ℕ) → i < length xs → 0 < times (get_or xs i 0) (drop i xs)
times_here xs i within =
    let n : ℕ = get_or xs i 0 in
    let rest : ℕ = times n (drop (i + 1) xs) in
    let itself : eqb n n ≡ true = eq-eqb n n refl in
    let is : times n (drop i xs) ≡ 1 + rest = ap (times n) (drop_more xs i 0 within) ∙ times-cons n n (drop (i + 1) xs) ∙ ap (λ t. cond t 1 0 + rest) itself in
    omega (arith, is)

-- how often a number is in a list that begins with the positions between two
pub times_split : (xs : List ℕ) (i start seen q : ℕ) → start ≤ seen → take i xs ≡ positions_between start seen → times q xs ≡ cond (nat_lt start q && nat_le q seen) 1 0 + times q (drop i xs)
times_split xs i start seen q order taken =
    sym (sum_by-take-drop (λ x. cond (eqb x q) 1 0) xs i)
    ∙ ap (λ n. n + times q (drop i xs)) (ap (times q) taken ∙ times_between start q seen order)

-- one more position
pub taken_more : (xs : List ℕ) (i start seen number : ℕ) → start ≤ seen → take i xs ≡ positions_between start seen → i < length xs → number ≡ get_or xs i number → number ≡ seen + 1 → take (i + 1) xs ≡ positions_between start number
taken_more xs i start seen number order taken within at next =
    take_more xs i number within
    ∙ (λ j. taken j ++ (sym at ∙ next) j ∷ [])
    ∙ (λ j. positions_between start seen ++ sym (positions_one seen) j)
    ∙ sym (positions_meet start seen (seen + 1) order (omega arith))
    ∙ ap (positions_between start) (sym next)

-- the next position is left out
pub lost_gap : (xs : List ℕ) (i start end seen : ℕ) → start ≤ seen → seen + 1 ≤ end → take i xs ≡ positions_between start seen → ((q : ℕ) → q ≤ seen + 1 → times q (drop i xs) ≡ 0) → IsLost xs start end (seen + 1)
lost_gap xs i start end seen order within taken none = record {
  above = omega arith;
  within = within;
  lost = λ once.
      let split = times_split xs i start seen (seen + 1) order taken in
      let rest = none (seen + 1) (omega arith) in
      grind (arith, nat_tests, split, rest, once);
  least = λ q low below.
      let split = times_split xs i start seen q order taken in
      let rest = none q (omega arith) in
      grind (arith, nat_tests, split, rest);
}

-- a position occurs again
pub lost_again : (xs : List ℕ) (i start end seen number : ℕ) → start ≤ seen → seen ≤ end → take i xs ≡ positions_between start seen → start < number → number ≤ seen → 0 < times number (drop i xs) → ((q : ℕ) → q < number → times q (drop i xs) ≡ 0) → IsLost xs start end number
lost_again xs i start end seen number order within taken above low again none = record {
  above = above;
  within = omega arith;
  lost = λ once.
      let split = times_split xs i start seen number order taken in
      grind (arith, nat_tests, split, again, once);
  least = λ q above_q below.
      let split = times_split xs i start seen q order taken in
      let rest = none q below in
      grind (arith, nat_tests, split, rest);
}

-- ---- numbers in any order

-- the lowest position that is lost stays lost in any order
pub lost_permuted : (xs ys : List ℕ) (start end p : ℕ) → IsPermutation xs ys → IsLost ys start end p → IsLost xs start end p
lost_permuted xs ys start end p moved l = record {
  above = l.above;
  within = l.within;
  lost = λ once. l.lost (same p ∙ once);
  least = λ q low below. sym (same q) ∙ l.least q low below;
}
  where
    same : (q : ℕ) → times q ys ≡ times q xs
    same q = sum_by-IsPermutation (λ x. cond (eqb x q) 1 0) xs ys moved

-- if the positions between two are named, each once, none is lost
pub none_lost : (numbers : List ℕ) (start end p : ℕ) → start ≤ end → IsPermutation numbers (positions_between start end) → IsLost numbers start end p → ⊥
none_lost numbers start end p order all l =
    let same = sum_by-IsPermutation (λ x. cond (eqb x p) 1 0) numbers (positions_between start end) all in
    let there = times_between start p end order in
    let above = l.above in
    let within = l.within in
    l.lost (sym same ∙ there ∙ (grind (arith, nat_tests, above, within)))

-- ---- numbers that were sorted

-- sorted numbers are in the same range
pub sorted_lie : (start end : ℕ) (numbers items sorted : List ℕ) → items ≡ numbers → IsPermutation items sorted → LieBetween start end numbers → LieBetween start end sorted
sorted_lie start end numbers items sorted same moved lie =
    All-permutation (λ n. (start < n) × (n ≤ end)) items sorted moved (subst (LieBetween start end) (sym same) lie)

is_lt_is : (x y : ℕ) → is_lt (nat_cmp x y) ≡ nat_lt x y
is_lt_is x y =
    elim (nat_lt x y) as (λ t. is_lt (cond t Less (cond (eqb x y) Equal Greater)) ≡ t) [
      | true ↦ refl
      | false ↦ elim (eqb x y) as (λ t. is_lt (cond t Equal Greater) ≡ false) [ true ↦ refl | false ↦ refl ]
    ]

-- sorted numbers don't fall
pub sorted_rise : (sorted : List ℕ) → IsSorted nat_cmp sorted → IsNonDecreasing sorted
sorted_rise sorted up i j d le within =
    let first : ℕ = get_or sorted i d in
    let later : ℕ = get_or sorted j d in
    let far : is_lt (nat_cmp later first) ≡ false = sorted_far (λ (a b : ℕ). is_lt (nat_cmp a b)) (ranks_by nat_cmp_total (λ (a : ℕ). a)) sorted up i j d le within in
    ltb-false later first (sym (is_lt_is later first) ∙ far)

-- a position that sorted numbers lose, the numbers lose
pub sorted_lost : (found : Option ℕ) (start end : ℕ) (numbers items sorted : List ℕ) → items ≡ numbers → IsPermutation items sorted → MatchOption found (sorted ≡ positions_between start end) (IsLost sorted start end) → MatchOption found (IsPermutation numbers (positions_between start end)) (IsLost numbers start end)
sorted_lost None start end numbers items sorted same moved is = subst (λ ns. IsPermutation ns (positions_between start end)) same (subst (IsPermutation items) is moved)
sorted_lost (Some p) start end numbers items sorted same moved lost = subst (λ ns. IsLost ns start end p) same (lost_permuted items sorted start end p moved lost)
