-- The first line of a text: where it ends, and what follows.
use Rattle.std.proofs.Common.{◌≡◌, ℕ, ◌<◌, Bool, true, false, cond, ◌==◌, List, [], ◌∷◌, ◌++◌, length, refl, ◌∙◌, ap, arith}
use Rattle.ts_io.specs.Lines.{lines_of, ended_lines, onto_first, onto_ended}

-- a byte and a text without a line end, if no line ends in both together
front_none : (v : Bool) (b : ℕ) (lines : List (List ℕ)) → cond v ([] ∷ lines) (onto_ended b lines) ≡ [] → (v ≡ false) × (lines ≡ [])
front_none true b lines h = cc
front_none false b [] h = (refl, refl)
front_none false b (line ∷ lines) h = cc

-- the first line ends at the first line end
pub lines_of-at : (p t : List ℕ) → ended_lines p ≡ [] → lines_of (p ++ 10 ∷ t) ≡ p ∷ lines_of t
lines_of-at [] t none = refl
lines_of-at (b ∷ p) t none =
    let (mid, rest) = front_none (b == 10) b (ended_lines p) none in
    let next = lines_of (p ++ 10 ∷ t) in
    ap (λ (v : Bool). cond v ([] ∷ next) (onto_first b next)) mid ∙ ap (onto_first b) (lines_of-at p t rest)

-- so does the first line that ends
pub ended_lines-at : (p t : List ℕ) → ended_lines p ≡ [] → ended_lines (p ++ 10 ∷ t) ≡ p ∷ ended_lines t
ended_lines-at [] t none = refl
ended_lines-at (b ∷ p) t none =
    let (mid, rest) = front_none (b == 10) b (ended_lines p) none in
    let next = ended_lines (p ++ 10 ∷ t) in
    ap (λ (v : Bool). cond v ([] ∷ next) (onto_ended b next)) mid ∙ ap (onto_ended b) (ended_lines-at p t rest)

-- bytes without a line end are one line
pub lines_of-last : (p : List ℕ) → ended_lines p ≡ [] → 0 < length p → lines_of p ≡ p ∷ []
lines_of-last [] none some = absurd (omega arith)
lines_of-last (b ∷ []) none some = ap (λ (v : Bool). cond v ([] ∷ []) ((b ∷ []) ∷ [])) (front_none (b == 10) b [] none).0
lines_of-last (b ∷ c ∷ p) none some =
    let (mid, rest) = front_none (b == 10) b (ended_lines (c ∷ p)) none in
    let next = lines_of (c ∷ p) in
    ap (λ (v : Bool). cond v ([] ∷ next) (onto_first b next)) mid ∙ ap (onto_first b) (lines_of-last (c ∷ p) rest (omega arith))

-- two texts without a line end have none together
pub ended_lines-append_none : (p q : List ℕ) → ended_lines p ≡ [] → ended_lines q ≡ [] → ended_lines (p ++ q) ≡ []
ended_lines-append_none [] q none more = more
ended_lines-append_none (b ∷ p) q none more =
    let (mid, rest) = front_none (b == 10) b (ended_lines p) none in
    let next = ended_lines (p ++ q) in
    ap (λ (v : Bool). cond v ([] ∷ next) (onto_ended b next)) mid ∙ ap (onto_ended b) (ended_lines-append_none p q rest more)
