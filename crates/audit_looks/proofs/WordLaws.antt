-- The words of refusals neither end a line nor mark a position.
use Rattle.std.proofs.Common.{◌≡◌, ℕ, ◌≤◌, ◌<◌, ◌==◌, ◌⊎◌, Bool, true, false, refl, ap, ◌∙◌, inl, inr, arith}
use Rattle.std.specs.Prelude.{codes}
use Rattle.std.specs.List.{list_any}
use Rattle.std.proofs.lemmas.Bool.{agree_below, agree_below_at, cases_lt, ne_eqb}
use Rattle.result_text.specs.declared.refusals.Tail.TheVariants.{Bare}
use Rattle.result_text.specs.Refusals.{entry_of, entry_named}
use Rattle.audit_looks.proofs.ByteLaws.{Lacks}

-- a number that isn't in the table
unknown : (code : ℕ) → 30 < code → entry_of code ≡ entry_named (codes "unnamed") Bare
unknown code above =
    let no : (k : ℕ) → k ≤ 30 → (code == k) ≡ false = λ k le. ne_eqb code k (λ e. absurd (omega (arith, e, le, above))) in
    simp (no 1 (omega arith), no 2 (omega arith), no 3 (omega arith), no 4 (omega arith), no 5 (omega arith), no 6 (omega arith), no 7 (omega arith), no 8 (omega arith), no 9 (omega arith), no 10 (omega arith), no 11 (omega arith), no 12 (omega arith), no 13 (omega arith), no 14 (omega arith), no 15 (omega arith), no 16 (omega arith), no 17 (omega arith), no 18 (omega arith), no 19 (omega arith), no 20 (omega arith), no 21 (omega arith), no 22 (omega arith), no 23 (omega arith), no 24 (omega arith), no 25 (omega arith), no 26 (omega arith), no 27 (omega arith), no 28 (omega arith), no 29 (omega arith), no 30 (omega arith)) refl

module _ (p : ℕ → Bool) (known : agree_below (λ code. list_any p (entry_of code).word) (λ code. false) 31 ≡ true) (unnamed : Lacks p (codes "unnamed")) where
  pub word_lacks : (code : ℕ) → Lacks p (entry_of code).word
  word_lacks code = by (cases_lt code 31)
    where
      by : (code < 31) ⊎ (31 ≤ code) → Lacks p (entry_of code).word
      by (inl lt) = agree_below_at (λ k. list_any p (entry_of k).word) (λ k. false) 31 code known lt
      by (inr le) = ap (λ e. list_any p e.word) (unknown code (omega (arith, le))) ∙ unnamed
