-- The first line end of a text.
use Rattle.std.proofs.Common.{◌≡◌, ℕ, suc, ◌+◌, ◌-◌, ◌<◌, ◌≤◌, Bool, true, false, cond, not, ◌==◌, List, [], ◌∷◌, ◌++◌, length, take, drop, get_or, None, Some, MatchOption, refl, sym, ◌∙◌, ap, subst, arith, le_refl, take_all, take-add, take-append-drop, length-drop, length-take, ltb}
use Rattle.std.proofs.lemmas.Bool.{ltb-true, ltb-false, eqb-true, false_from_ne_true}
use Rattle.std.proofs.lemmas.List.{drop_more, get_or-drop, get_or-take, take-take, take_rest}
use Rattle.std.proofs.lemmas.List.Sums.{passes_at_first, position_or_len_is}
use Rattle.std.specs.Prelude.{Option}
use Rattle.std.specs.List.{position, position_or_len}
use Rattle.memchr.specs.Find.{IsFirstByte}
use Rattle.ts_io.specs.Lines.{ended_lines, onto_ended, IsFirstEnd}
use Rattle.ts_io.proofs.LineLaws.{ended_lines-append_none}

abbrev pub is_end : ℕ → Bool
is_end byte = byte == 10

none_before_step : (v : Bool) (x : ℕ) (xs : List ℕ) (n : ℕ) → (x == 10) ≡ v → ended_lines (take n xs) ≡ [] → ended_lines (take (cond (not v) (1 + n) 0) (x ∷ xs)) ≡ []
none_before_step true x xs n h none = refl
none_before_step false x xs n h none =
    let more : suc n ≡ 1 + n = omega arith in
    let P : ℕ → Type 0 = λ m. ended_lines (take m (x ∷ xs)) ≡ [] in
    let next = ended_lines (take n xs) in
    subst P more (ap (λ (v : Bool). cond v ([] ∷ next) (onto_ended x next)) h ∙ ap (onto_ended x) none)

-- no line ends before the first line end
none_before : (xs : List ℕ) → ended_lines (take (position_or_len is_end xs) xs) ≡ []
none_before [] = refl
none_before (x ∷ xs) = none_before_step (x == 10) x xs (position_or_len is_end xs) refl (none_before xs)

first_end_cases : (v : Bool) (xs : List ℕ) → ltb (position_or_len is_end xs) (length xs) ≡ v
    → MatchOption (cond v (Some (position_or_len is_end xs)) None) (ended_lines xs ≡ []) (IsFirstEnd xs)
first_end_cases true xs h =
    let n = position_or_len is_end xs in
    let within = ltb-true n (length xs) h in
    (within, eqb-true (get_or xs n 0) 10 (passes_at_first is_end xs 0 within), none_before xs)
first_end_cases false xs h =
    let n = position_or_len is_end xs in
    subst (λ ys. ended_lines ys ≡ []) (take_all n xs (ltb-false n (length xs) h)) (none_before xs)

-- a search for the byte LF finds the first line end
first_end_of : (xs : List ℕ) → MatchOption (position is_end xs) (ended_lines xs ≡ []) (IsFirstEnd xs)
first_end_of xs = first_end_cases (ltb (position_or_len is_end xs) (length xs)) xs refl

-- a place of a list, with no other after it
placed : (test : ℕ → Bool) (xs : List ℕ) (n : ℕ) (within : Bool) → position_or_len test xs ≡ n → ltb n (length xs) ≡ within → cond within (Some n) None ≡ position test xs
placed test xs n within at e = ap (λ b. cond b (Some n) None) (sym e) ∙ ap (λ k. cond (ltb k (length xs)) (Some k) None) (sym at)

-- the first byte of a list that passes a test
pub position_of_first : (test : ℕ → Bool) (xs : List ℕ) (r : Option ℕ) → IsFirstByte test xs r → r ≡ position test xs
position_of_first test xs None none =
    let n = length xs in
    placed test xs n false (position_or_len_is test xs n 0 (le_refl n) (λ k below. false_from_ne_true (test (get_or xs k 0)) (none k (omega arith) below)) (λ below. absurd (omega arith))) (grind arith)
position_of_first test xs (Some n) first =
    let fails : (k : ℕ) → k < n → test (get_or xs k 0) ≡ false = λ k below. false_from_ne_true (test (get_or xs k 0)) (first.0.before k (omega arith) below) in
    placed test xs n true (position_or_len_is test xs n 0 (omega (arith, first.0.high)) fails (λ _. first.1)) (grind (arith, first.0.high))

-- a search that found one, and one that found none
pub found_end : (xs : List ℕ) (n : ℕ) → Some n ≡ position is_end xs → IsFirstEnd xs n
found_end xs n e = subst (λ (o : Option ℕ). MatchOption o (ended_lines xs ≡ []) (IsFirstEnd xs)) (sym e) (first_end_of xs)

pub found_none : (xs : List ℕ) → let none : Option ℕ = None in none ≡ position is_end xs → ended_lines xs ≡ []
found_none xs e = subst (λ (o : Option ℕ). MatchOption o (ended_lines xs ≡ []) (IsFirstEnd xs)) (sym e) (first_end_of xs)

-- the first line end after bytes without one
pub IsFirstEnd-after : (xs : List ℕ) (s n : ℕ) → s ≤ length xs → ended_lines (take s xs) ≡ [] → IsFirstEnd (take (length xs - s) (drop s xs)) n → IsFirstEnd xs (s + n)
IsFirstEnd-after xs s n within none found =
    let at : IsFirstEnd (drop s xs) n = subst (λ ys. IsFirstEnd ys n) (take_rest xs s) found in (
      omega (arith, at.0, length-drop s xs),
      sym (get_or-drop s xs n 0) ∙ at.1,
      subst (λ ys. ended_lines ys ≡ []) (sym (take-add s n xs)) (ended_lines-append_none (take s xs) (take n (drop s xs)) none at.2),
    )

-- no line end before or after a place
pub none_after : (xs : List ℕ) (s : ℕ) → ended_lines (take s xs) ≡ [] → ended_lines (take (length xs - s) (drop s xs)) ≡ [] → ended_lines xs ≡ []
none_after xs s none more =
    let rest = subst (λ ys. ended_lines ys ≡ []) (take_rest xs s) more in
    subst (λ ys. ended_lines ys ≡ []) (take-append-drop s xs) (ended_lines-append_none (take s xs) (drop s xs) none rest)

-- what is before and after the first line end
pub split_end : (xs : List ℕ) (n : ℕ) → IsFirstEnd xs n → xs ≡ take n xs ++ 10 ∷ drop (n + 1) xs
split_end xs n found =
    sym (take-append-drop n xs) ∙ ap (λ l. take n xs ++ l) (drop_more xs n 0 found.0 ∙ ap (λ b. b ∷ drop (n + 1) xs) found.1)

-- the first line end of a front is that of the whole
pub IsFirstEnd-front : (xs : List ℕ) (a n : ℕ) → IsFirstEnd (take a xs) n → (n < a) × IsFirstEnd xs n
IsFirstEnd-front xs a n (within, at, none) =
    let below : (n < a) × (n < length xs) = (omega (arith, length-take a xs), omega (arith, length-take a xs)) in (
      below.0,
      (below.1, sym (get_or-take a xs n 0 below.0) ∙ at, subst (λ ys. ended_lines ys ≡ []) (take-take n a xs (omega (arith, below.0))) none),
    )
