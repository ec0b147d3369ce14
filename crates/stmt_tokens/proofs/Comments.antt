-- Where the comment of a line begins, as a search for dashes finds it.
use Rattle.std.proofs.Common.{◌≡◌, ℕ, zero, suc, ◌+◌, ◌-◌, ◌≤◌, false, cond, ◌&&◌, ◌==◌, List, [], ◌∷◌, length, take, drop, get_or, Some, None, sym, ◌∙◌, ap, subst, arith, length-drop, drop-drop}
use Rattle.std.proofs.lemmas.Bool.{false_from_ne_true}
use Rattle.std.proofs.lemmas.List.{drop_all, drop_more, take_rest}
use Rattle.memchr.specs.Find.{IsFirstByte, Nowhere, Passes, is_byte}
use Rattle.stmt_tokens.specs.Tokens.{begins_with}
use Rattle.stmt_tokens.specs.Lines.{comment_at}

-- no comment begins before the first dash
comment_at-skip : (xs : List ℕ) (n : ℕ) → n ≤ length xs → Nowhere (Passes (is_byte 45) xs) 0 n → comment_at xs ≡ n + comment_at (drop n xs)
comment_at-skip xs zero le none = omega arith
comment_at-skip [] (suc n) le none = absurd (omega arith)
comment_at-skip (x ∷ xs) (suc n) le none =
    let other : (x == 45) ≡ false = false_from_ne_true (x == 45) (none 0 (omega arith) (omega arith)) in
    let later : comment_at xs ≡ n + comment_at (drop n xs) = comment_at-skip xs n (omega arith) (λ k low high. none (suc k) (omega arith) (omega arith)) in
    let here : comment_at (x ∷ xs) ≡ 1 + comment_at xs = ap (λ b. cond (b && begins_with 45 xs) 0 (1 + comment_at xs)) other in
    omega (arith, here, later)

-- a comment begins at a dash if and only if another dash follows
comment_at-dash : (xs : List ℕ) (n : ℕ) → IsFirstByte (is_byte 45) xs (Some n) → comment_at xs ≡ n + cond (begins_with 45 (drop (n + 1) xs)) 0 (1 + comment_at (drop (n + 1) xs))
comment_at-dash xs n first =
    let rest = drop (n + 1) xs in
    let split : drop n xs ≡ get_or xs n 0 ∷ rest = drop_more xs n 0 first.0.high in
    let dash = ap (λ b. cond (b && begins_with 45 rest) 0 (1 + comment_at rest)) first.1 in
    comment_at-skip xs n (omega (arith, first.0.high)) first.0.before ∙ ap (λ l. n + comment_at l) split ∙ ap (λ k. n + k) dash

module _ (line : List ℕ) (at : ℕ) (so_far : at + comment_at (drop at line) ≡ comment_at line) where
  -- no dash is left
  pub no_dash_left : at ≤ length line → IsFirstByte (is_byte 45) (take (length line - at) (drop at line)) None → length line ≡ comment_at line
  no_dash_left le none =
      let rest = drop at line in
      let over = subst (λ xs. IsFirstByte (is_byte 45) xs None) (take_rest line at) none in
      let all = comment_at-skip rest (length rest) (omega arith) over in
      let nothing = ap comment_at (drop_all (length rest) rest (omega arith)) in
      omega (arith, so_far, all, nothing, length-drop at line)

  -- a dash is found, and a byte or the end follows
  pub dash_found : (n : ℕ) → IsFirstByte (is_byte 45) (take (length line - at) (drop at line)) (Some n)
      → let next = at + n + 1 in
      (next ≤ length line) × (comment_at line ≡ at + n + cond (begins_with 45 (take (length line - next) (drop next line))) 0 (1 + comment_at (drop next line)))
  dash_found n found =
      let next = at + n + 1 in
      let first = subst (λ xs. IsFirstByte (is_byte 45) xs (Some n)) (take_rest line at) found in
      let P : List ℕ → Type 0 = λ xs. comment_at line ≡ at + n + cond (begins_with 45 xs) 0 (1 + comment_at (drop next line)) in
      let moved : drop (n + 1) (drop at line) ≡ drop next line = drop-drop (n + 1) at line ∙ ap (λ k. drop k line) (omega arith) in
      let here : comment_at (drop at line) ≡ n + cond (begins_with 45 (drop next line)) 0 (1 + comment_at (drop next line)) = rw (← moved) (comment_at-dash (drop at line) n first) in
      (omega (arith, first.0.high, length-drop at line), subst P (sym (take_rest line next)) (omega (arith, so_far, here)))
