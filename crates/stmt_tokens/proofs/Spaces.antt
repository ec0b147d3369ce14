-- A space in front doesn't change what comes next.
use Rattle.std.proofs.Common.{◌≡◌, ℕ, suc, ◌+◌, ◌<◌, Bool, true, false, cond, List, ◌∷◌, length, drop, get_or, ap, ◌∙◌, arith}
use Rattle.std.proofs.lemmas.List.{drop_more}
use Rattle.std.proofs.Math.Numerals.{one-add}
use Rattle.std.specs.List.{prefix_len}
use Rattle.stmt_tokens.specs.Bytes.{is_space}
use Rattle.stmt_tokens.specs.Tokens.{is_return, blank_len, next, next_here}

one_more : (t : Bool) (n : ℕ) → cond t (suc n + 1) (suc n) ≡ 1 + cond t (n + 1) n
one_more true n = omega arith
one_more false n = omega arith

space_first : (b : ℕ) (bs : List ℕ) → b ≡ 32 → blank_len (b ∷ bs) ≡ 1 + blank_len bs
space_first b bs e = rw (e, one-add (prefix_len is_space bs)) (one_more (is_return (drop (prefix_len is_space bs) bs)) (prefix_len is_space bs))

-- what comes next after a space comes next before it
pub next_past_space : (text : List ℕ) (skip : ℕ) → skip < length text → get_or text skip 0 ≡ 32 → next text (skip + 1) ≡ next text skip
next_past_space text skip below e =
    let split : drop skip text ≡ get_or text skip 0 ∷ drop (skip + 1) text = drop_more text skip 0 below in
    let blanks : blank_len (drop skip text) ≡ 1 + blank_len (drop (skip + 1) text) = ap blank_len split ∙ space_first (get_or text skip 0) (drop (skip + 1) text) e in
    let same : skip + 1 + blank_len (drop (skip + 1) text) ≡ skip + blank_len (drop skip text) = omega (arith, blanks) in
    ap (λ k. next_here k (drop k text)) same
