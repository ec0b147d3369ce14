-- Scripts in parts, in order.
use Rattle.std.proofs.Common.{◌≡◌, ℕ, suc, ◌+◌, Bool, ◌||◌, false, true, List, [], ◌∷◌, ◌++◌, length, refl, sym, ap, ◌∙◌, append_assoc, arith}
use Rattle.ts_sessions.specs.Script.{Semantics, ScriptState, executes, output, is_refused, reads_in, final_script_state}

or_join : (a b c : Bool) → (a || (b || c)) ≡ ((a || b) || c)
or_join true b c = refl
or_join false b c = refl

add_join : (a b c : ℕ) → a + (b + c) ≡ (a + b) + c
add_join a b c = omega arith

none_plus : (a : ℕ) → a ≡ 0 + a
none_plus a = omega arith

counts_on : (n k : ℕ) → suc n + k ≡ n + suc k
counts_on n k = omega arith

module _ {P : Type 0} (semantics : Semantics P) where
  -- the state of the script after lines and further lines
  pub final-append : (s : ScriptState P) (n : ℕ) (xs ys : List (List ℕ)) → final_script_state semantics s n (xs ++ ys) ≡ final_script_state semantics (final_script_state semantics s n xs) (n + length xs) ys
  final-append s n [] ys = ap (λ k. final_script_state semantics s k ys) (let e : n ≡ n + 0 = omega arith in e)
  final-append s n (x ∷ xs) ys =
      let t = (executes semantics s n x).script_state in
      final-append t (suc n) xs ys ∙ ap (λ k. final_script_state semantics (final_script_state semantics t (suc n) xs) k ys) (counts_on n (length xs))

  -- the text of lines and of further lines
  pub output-append : (s : ScriptState P) (n : ℕ) (xs ys : List (List ℕ)) → output semantics s n (xs ++ ys) ≡ output semantics s n xs ++ output semantics (final_script_state semantics s n xs) (n + length xs) ys
  output-append s n [] ys = ap (λ k. output semantics s k ys) (let e : n ≡ n + 0 = omega arith in e)
  output-append s n (x ∷ xs) ys =
      let t = (executes semantics s n x).script_state in
      let text = (executes semantics s n x).text in
      ap (λ l. text ++ l) (output-append t (suc n) xs ys ∙ ap (λ k. output semantics t (suc n) xs ++ output semantics (final_script_state semantics t (suc n) xs) k ys) (counts_on n (length xs)))
      ∙ sym (append_assoc text (output semantics t (suc n) xs) (output semantics (final_script_state semantics t (suc n) xs) (n + suc (length xs)) ys))

  -- whether a reply to one of lines or of further lines is a FAULT
  pub refused-append : (s : ScriptState P) (n : ℕ) (xs ys : List (List ℕ))
      → is_refused semantics s n (xs ++ ys) ≡ (is_refused semantics s n xs || is_refused semantics (final_script_state semantics s n xs) (n + length xs) ys)
  refused-append s n [] ys = ap (λ k. is_refused semantics s k ys) (let e : n ≡ n + 0 = omega arith in e)
  refused-append s n (x ∷ xs) ys =
      let t = (executes semantics s n x).script_state in
      let fault = (executes semantics s n x).fault in
      ap (λ b. fault || b) (refused-append t (suc n) xs ys ∙ ap (λ k. is_refused semantics t (suc n) xs || is_refused semantics (final_script_state semantics t (suc n) xs) k ys) (counts_on n (length xs)))
      ∙ or_join fault (is_refused semantics t (suc n) xs) (is_refused semantics (final_script_state semantics t (suc n) xs) (n + suc (length xs)) ys)

  -- the rows read by lines and by further lines
  pub reads-append : (s : ScriptState P) (n : ℕ) (xs ys : List (List ℕ)) → reads_in semantics s n (xs ++ ys) ≡ reads_in semantics s n xs + reads_in semantics (final_script_state semantics s n xs) (n + length xs) ys
  reads-append s n [] ys = ap (λ k. reads_in semantics s k ys) (let e : n ≡ n + 0 = omega arith in e) ∙ none_plus (reads_in semantics s (n + 0) ys)
  reads-append s n (x ∷ xs) ys =
      let t = (executes semantics s n x).script_state in
      let reads = (executes semantics s n x).reads in
      ap (λ k. reads + k) (reads-append t (suc n) xs ys ∙ ap (λ k. reads_in semantics t (suc n) xs + reads_in semantics (final_script_state semantics t (suc n) xs) k ys) (counts_on n (length xs)))
      ∙ add_join reads (reads_in semantics t (suc n) xs) (reads_in semantics (final_script_state semantics t (suc n) xs) (n + suc (length xs)) ys)
