-- Walks of a session's lines on a store that others may change too.
use Rattle.std.specs.Prelude.{◌≡◌, ℕ, Bool, List, [], ◌∷◌}
use Rattle.ts_model.specs.History.{History}
use Rattle.ts_model.specs.States.{State}
use Rattle.ts_sessions.specs.Procedures.{Procedure}
use Rattle.ts_sessions.specs.Script.{SessionLine}
use Rattle.ts_sessions.specs.Walks.{By, Walks}

-- what lines do by the state of their session, the session state after a line by its result, and which session states
-- fit a history
module _ {P A : Type 0} (does : P → List ℕ → ℕ → Procedure A) (next : A → P) (Fits : P → History → Type 0) where
  -- one line was walked from a state on, and left a state
  pub record WalkedOne (alone : Bool) (s : State) (p : P) (line : SessionLine) (y : A) (mid : State) : Type 0 where
    pub fits : Fits p s.history
    -- whether the disk failed at one of its events
    pub failed : Bool
    pub walks : Walks alone failed s (does p line.text line.skip) mid y

  -- the lines of a session were walked in order from a store state and a session state on, each to its end. They left a
  -- store state and a session state
  abbrev pub Walked : Bool → State → P → List SessionLine → List A → State → P → Type 0
  Walked alone s p [] [] new q = (new ≡ s) × (q ≡ p)
  Walked alone s p [] (y ∷ ys) new q = ⊥
  Walked alone s p (line ∷ lines) [] new q = ⊥
  Walked alone s p (line ∷ lines) (y ∷ ys) new q =
      By (WalkedOne alone s p line y) (λ mid. Walked alone mid (next y) lines ys new q)
