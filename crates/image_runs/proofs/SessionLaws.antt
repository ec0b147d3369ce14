-- The states of the sessions of a script.
use Rattle.std.proofs.Common.{◌≡◌, ℕ, true, false, cond, List, [], ◌∷◌, Some, sym, ap, subst}
use Rattle.std.proofs.lemmas.Bool.{true≢false}
use Rattle.std.specs.Prelude.{is_some}
use Rattle.std.specs.List.{AllByRecursion}
use Rattle.ts_model.specs.Roster.{same_name}
use Rattle.ts_sessions.specs.Script.{places_of, with_places}

module _ {P : Type 0} (Fit : P → Type 0) where
  -- each of them fits
  abbrev pub AllFit : List (List ℕ × P) → Type 0
  AllFit sessions = AllByRecursion (λ e. Fit e.1) sessions

  pub places_there : (name : List ℕ) (sessions : List (List ℕ × P)) (p : P) → AllFit sessions → places_of name sessions ≡ Some p → Fit p
  places_there name [] p f e = absurd (true≢false (sym (ap is_some e)))
  places_there name (s ∷ sessions) p f is =
      elim (same_name s.0 name) as (λ t. cond t (Some s.1) (places_of name sessions) ≡ Some p → Fit p) [
        | true ↦ λ here. subst Fit (same_places s.1 p here) f.0
        | false ↦ λ further. places_there name sessions p f.1 further
      ] is
    where
      same_places : (x y : P) → Some x ≡ Some y → x ≡ y
      same_places x y e = cc

  pub sessions_with : (name : List ℕ) (p : P) (sessions : List (List ℕ × P)) → Fit p → AllFit sessions → AllFit (with_places name p sessions)
  sessions_with name p [] new f = (new, tt)
  sessions_with name p (s ∷ sessions) new f = elim (same_name s.0 name) as (λ t. AllFit (cond t ((name, p) ∷ sessions) (s ∷ with_places name p sessions))) [ true ↦ (new, f.1) | false ↦ (f.0, sessions_with name p sessions new f.1) ]

-- if each session state that fits one condition fits another, so do all
pub sessions_on : {P : Type 0} (Fit More : P → Type 0) → ((p : P) → Fit p → More p) → (sessions : List (List ℕ × P)) → AllFit Fit sessions → AllFit More sessions
sessions_on Fit More on [] f = tt
sessions_on Fit More on (e ∷ sessions) f = (on e.1 f.0, sessions_on Fit More on sessions f.1)
