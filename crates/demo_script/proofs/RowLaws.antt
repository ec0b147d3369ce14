-- Consecutive rows of a round, written in order.
use Rattle.std.proofs.Common.{◌≡◌, ◌∙◌, sym, ap, ℕ, zero, suc, ◌+◌, ◌-◌, ◌<◌, List, ◌++◌, codes, arith}
use Rattle.std.proofs.lemmas.List.{append_assoc, append-nil}
use Rattle.std.specs.List.{flat_map, range_with_len}
use Rattle.demo_script.specs.Demo.{row_text, rows_text}

-- the piece of one more number comes last
piece_more : (piece : ℕ → List ℕ) (a m : ℕ) → flat_map piece (range_with_len a (suc m)) ≡ flat_map piece (range_with_len a m) ++ piece (a + m)
piece_more piece a zero =
    let e : a ≡ a + 0 = omega arith in
    append-nil (piece a) ∙ ap piece e
piece_more piece a (suc m) =
    let e : a + 1 + m ≡ a + suc m = omega arith in
    ap (λ t. piece a ++ t) (piece_more piece (a + 1) m)
    ∙ sym (append_assoc (piece a) (flat_map piece (range_with_len (a + 1) m)) (piece (a + 1 + m)))
    ∙ ap (λ k. piece a ++ flat_map piece (range_with_len (a + 1) m) ++ piece k) e

-- the first row has no comma before it
pub first_row : (demo round first : ℕ) → rows_text demo round first 1 ≡ row_text demo round first
unfolding rows_text
first_row demo round first = append-nil (row_text demo round first)

-- each further row follows a comma and a space
further_row : (demo round first m : ℕ) → rows_text demo round first (suc (suc m)) ≡ rows_text demo round first (suc m) ++ (codes ", " ++ row_text demo round (first + suc m))
unfolding rows_text
further_row demo round first m =
    let row : ℕ → List ℕ = row_text demo round in
    let piece : ℕ → List ℕ = λ k. codes ", " ++ row k in
    let e : first + 1 + m ≡ first + suc m = omega arith in
    ap (λ t. row first ++ t) (piece_more piece (first + 1) m)
    ∙ sym (append_assoc (row first) (flat_map piece (range_with_len (first + 1) m)) (piece (first + 1 + m)))
    ∙ ap (λ k. row first ++ flat_map piece (range_with_len (first + 1) m) ++ piece k) e

-- the row at this place comes next
pub next_row : (demo round first place : ℕ) → first < place
    → rows_text demo round first (place + 1 - first) ≡ rows_text demo round first (place - first) ++ (codes ", " ++ row_text demo round place)
next_row demo round first place after =
    let e : place + 1 - first ≡ suc (suc (place - first - 1)) = omega arith in
    let f : suc (place - first - 1) ≡ place - first = omega arith in
    let g : first + suc (place - first - 1) ≡ place = omega arith in
    ap (λ k. rows_text demo round first k) e
    ∙ further_row demo round first (place - first - 1)
    ∙ ap (λ k. rows_text demo round first k ++ (codes ", " ++ row_text demo round (first + suc (place - first - 1)))) f
    ∙ ap (λ k. rows_text demo round first (place - first) ++ (codes ", " ++ row_text demo round k)) g
