-- Consequences of not being refused.
use Rattle.std.proofs.Common.{◌≡◌, ℕ, Bool, true, false, not, Option, Some, None, is_some, refl}
use Rattle.ts_model.specs.declared.outcomes.Refusal.{Refusal}
use Rattle.stmt_check.specs.Refusals.{◌⊳◌, marked_refusal, refusal_if_none}

-- neither of two is refused
pub neither : (a b : Option Refusal) → (a ⊳ b) ≡ None → (a ≡ None) × (b ≡ None)
neither None b e = (refl, e)
neither (Some r) b e = absurd cc

pub not_wrong : (pos code mark : ℕ) (wrong : Bool) → marked_refusal pos code mark wrong ≡ None → wrong ≡ false
not_wrong pos code mark true e = absurd cc
not_wrong pos code mark false e = refl

pub not_missing : {T : Type 0} (pos code : ℕ) (o : Option T) → refusal_if_none pos code o ≡ None → is_some o ≡ true
not_missing pos code None e = absurd cc
not_missing pos code (Some t) e = refl

-- a condition that wasn't refused is true
pub has_to_be : (pos code mark : ℕ) (good : Bool) → marked_refusal pos code mark (not good) ≡ None → good ≡ true
has_to_be pos code mark true e = refl
has_to_be pos code mark false e = absurd cc
