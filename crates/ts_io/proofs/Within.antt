-- The lines of a text that end within a limit.
use Rattle.std.proofs.Common.{◌≡◌, ℕ, zero, suc, ◌+◌, ◌-◌, ◌<◌, ◌≤◌, Bool, cond, ◌⊎◌, inl, inr, List, [], ◌∷◌, ◌++◌, length, take, sym, ◌∙◌, ap, arith, length-append}
use Rattle.std.proofs.lemmas.Bool.{le-leb, lt-leb, cases_lt}
use Rattle.ts_io.specs.Lines.{lines_of, ended_lines, lines_within}
use Rattle.ts_io.proofs.LineLaws.{lines_of-at, ended_lines-at, lines_of-last}

-- a text within the limit has all its lines within it
pub lines_within-whole : (n : ℕ) (text : List ℕ) → length text ≤ n → lines_within n text ≡ lines_of text
lines_within-whole n text h = ap (λ (v : Bool). cond v (lines_of text) (ended_lines (take n text))) (le-leb (length text) n h)

-- a longer text has those that end before the limit
pub lines_within-cut : (n : ℕ) (text : List ℕ) → n < length text → lines_within n text ≡ ended_lines (take n text)
lines_within-cut n text h = ap (λ (v : Bool). cond v (lines_of text) (ended_lines (take n text))) (lt-leb (length text) n h)

-- no byte, no line
pub lines_within-nil : (n : ℕ) → lines_within n [] ≡ []
lines_within-nil n = lines_within-whole n [] (omega arith)

-- bytes without a line end are one line, if they are all
pub lines_within-last : (n : ℕ) (p : List ℕ) → ended_lines p ≡ [] → 0 < length p → length p ≤ n → lines_within n p ≡ p ∷ []
lines_within-last n p none some within = lines_within-whole n p within ∙ lines_of-last p none some

take_line : (n : ℕ) (p t : List ℕ) → length p < n → take n (p ++ 10 ∷ t) ≡ p ++ 10 ∷ take (n - (length p + 1)) t
take_line zero p t h = absurd (omega arith)
take_line (suc n) [] t h =
    let same : n ≡ suc n - 1 = omega arith in
    ap (λ m. 10 ∷ take m t) same
take_line (suc n) (b ∷ p) t h =
    let same : n - (length p + 1) ≡ suc n - (suc (length p) + 1) = omega arith in
    ap (λ l. b ∷ l) (take_line n p t (omega arith)) ∙ ap (λ m. b ∷ (p ++ 10 ∷ take m t)) same

at_cases : (n : ℕ) (p t : List ℕ) → ended_lines p ≡ [] → length p < n → (n < length (p ++ 10 ∷ t)) ⊎ (length (p ++ 10 ∷ t) ≤ n)
    → lines_within n (p ++ 10 ∷ t) ≡ p ∷ lines_within (n - (length p + 1)) t
at_cases n p t none below (inl cut) =
    let m = n - (length p + 1) in
    let more : m < length t = omega (arith, length-append p (10 ∷ t)) in
    lines_within-cut n (p ++ 10 ∷ t) cut ∙ ap ended_lines (take_line n p t below) ∙ ended_lines-at p (take m t) none
    ∙ ap (λ ls. p ∷ ls) (sym (lines_within-cut m t more))
at_cases n p t none below (inr whole) =
    let m = n - (length p + 1) in
    let rest : length t ≤ m = omega (arith, length-append p (10 ∷ t)) in
    lines_within-whole n (p ++ 10 ∷ t) whole ∙ lines_of-at p t none ∙ ap (λ ls. p ∷ ls) (sym (lines_within-whole m t rest))

-- a line that ends within the limit is the first, and the others follow within what is left of it
pub lines_within-at : (n : ℕ) (p t : List ℕ) → ended_lines p ≡ [] → length p < n → lines_within n (p ++ 10 ∷ t) ≡ p ∷ lines_within (n - (length p + 1)) t
lines_within-at n p t none below = at_cases n p t none below (cases_lt n (length (p ++ 10 ∷ t)))
