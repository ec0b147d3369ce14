-- The first line that begins as a statement on policies.
use Rattle.std.proofs.Common.{◌≡◌, ◌<◌, ℕ, zero, suc, ◌+◌, Bool, true, false, cond, List, [], ◌∷◌, length, get_or, Some, None, refl, sym, ap, ◌∙◌, arith}
use Rattle.std.specs.Prelude.{nat_lt, not, position}
use Rattle.std.specs.List.{position_or_len}
use Rattle.std.proofs.lemmas.Bool.{cond-false, cond-true, le-ltb, lt-ltb}
use Rattle.transcript.specs.declared.transcripts.SessionTranscript.{SessionTranscript}
use Rattle.audit.specs.Lines.{first_policy, found_first, policy_among}

-- ---- in one list

module _ {X : Type 0} (p : X → Bool) where
  place_found : (xs : List X) (i : ℕ) (x : X) → ((k : ℕ) (d : X) → k < i → p (get_or xs k d) ≡ false) → i < length xs → x ≡ get_or xs i x → p x ≡ true → position_or_len p xs ≡ i
  place_found [] i x none within at passes = absurd (omega arith)
  place_found (y ∷ xs) zero x none within at passes = ap (λ z. cond (not (p z)) (1 + position_or_len p xs) 0) (sym at) ∙ ap (λ t. cond (not t) (1 + position_or_len p xs) 0) passes
  place_found (y ∷ xs) (suc i) x none within at passes =
      ap (λ t. cond (not t) (1 + position_or_len p xs) 0) (none 0 y (omega arith))
      ∙ (let later = place_found xs i x (λ k d l. none (suc k) d (omega arith)) (omega arith) at passes in omega (arith, later))

  no_place : (xs : List X) → ((k : ℕ) (d : X) → k < length xs → p (get_or xs k d) ≡ false) → position_or_len p xs ≡ length xs
  no_place [] none = refl
  no_place (y ∷ xs) none =
      ap (λ t. cond (not t) (1 + position_or_len p xs) 0) (none 0 y (omega arith))
      ∙ (let later = no_place xs (λ k d l. none (suc k) d (omega arith)) in omega (arith, later))

  -- an element that passes is the first if none before it passes
  pub found_at : (xs : List X) (i : ℕ) (x : X) → ((k : ℕ) (d : X) → k < i → p (get_or xs k d) ≡ false) → i < length xs → x ≡ get_or xs i x → p x ≡ true → position p xs ≡ Some i
  found_at xs i x none within at passes =
      let is = place_found xs i x none within at passes in
      ap (λ n. cond (nat_lt n (length xs)) (Some n) None) is ∙ cond-true (nat_lt i (length xs)) (Some i) None (lt-ltb i (length xs) within)

  pub found_nowhere : (xs : List X) → ((k : ℕ) (d : X) → k < length xs → p (get_or xs k d) ≡ false) → position p xs ≡ None
  found_nowhere xs none =
      let is = no_place xs none in
      ap (λ n. cond (nat_lt n (length xs)) (Some n) None) is ∙ cond-false (nat_lt (length xs) (length xs)) (Some (length xs)) None (le-ltb (length xs) (length xs) (omega arith))

-- ---- in all sessions

pub policy_found : (talks : List SessionTranscript) (i : ℕ) (talk : SessionTranscript) (j : ℕ) → ((k : ℕ) (d : SessionTranscript) → k < i → policy_among (get_or talks k d).replies ≡ None) → i < length talks → talk ≡ get_or talks i talk → policy_among talk.replies ≡ Some j → first_policy talks ≡ Some (record { session = i; reply = j })
policy_found [] i talk j none within at here = absurd (omega arith)
policy_found (t ∷ talks) zero talk j none within at here = ap (λ o. found_first o (first_policy talks)) (ap (λ z. policy_among z.replies) (sym at) ∙ here)
policy_found (t ∷ talks) (suc i) talk j none within at here =
    ap (λ o. found_first o (first_policy talks)) (none 0 t (omega arith))
    ∙ ap (found_first None) (policy_found talks i talk j (λ k d l. none (suc k) d (omega arith)) (omega arith) at here)

pub policy_nowhere : (talks : List SessionTranscript) → ((k : ℕ) (d : SessionTranscript) → k < length talks → policy_among (get_or talks k d).replies ≡ None) → first_policy talks ≡ None
policy_nowhere [] none = refl
policy_nowhere (t ∷ talks) none =
    ap (λ o. found_first o (first_policy talks)) (none 0 t (omega arith))
    ∙ ap (found_first None) (policy_nowhere talks (λ k d l. none (suc k) d (omega arith)))
