-- What workers have done to the store that they shared.
use Rattle.std.specs.Prelude.{◌≡◌, ℕ, Bool, false, List, [], ◌∷◌, ◌++◌, Some, None}
use Rattle.ts_model.specs.declared.events.Event.{Event}
use Rattle.ts_model.specs.History.{History, Begins}
use Rattle.ts_model.specs.States.{State}
use Rattle.turn_lock.specs.Pass.{closed_of, made_of}
use Rattle.shared_store.specs.Stores.{Shared, Ticket, history_of}

-- the events are those of the first of several, and those of the others
pub record Parted (One Rest : List ℕ → Type 0) (made : List ℕ) : Type 0 where
  pub mine : List ℕ
  pub others : List ℕ
  pub one : One mine
  pub rest : Rest others
  pub all : made ≡ mine ++ others

module _ {B : Type 0} (state : B → State) (store : Shared B) where
  -- the state of a store handle at the position of a pass, without events of its own
  abbrev pub begun_at : Ticket B → State
  begun_at pass = record {
    history = history_of state store pass;
    failed = None;
    faults = (state store.opened.value).faults;
    made = [];
    origin = (state store.opened.value).origin;
  }

  -- a worker began at one pass, and left a state in which it has done this. It appended the events with these numbers.
  -- Another pass has seen all that the worker has and, if the worker found that the store has stopped, no more
  pub record Outcome (Did : State → State → Type 0) (start end : Ticket B) (made : List ℕ) : Type 0 where
    pub left : State
    pub did : Did (begun_at start) left
    pub begins : Begins left.history (history_of state store end)
    pub stops :
        (e : Event) → left.failed ≡ Some e → (closed_of end ≡ Some e) × (history_of state store end ≡ left.history)
    pub makes : left.made ≡ made

  module _ {W : Type 0} (did : Bool → W → State → W → State → Type 0) where
    -- the same for several workers, before and after; the events are those of all together
    abbrev pub AllOutcomes : Ticket B → Ticket B → List W → List W → List ℕ → Type 0
    AllOutcomes start end [] [] made = made ≡ []
    AllOutcomes start end [] (new ∷ news) made = ⊥
    AllOutcomes start end (old ∷ olds) [] made = ⊥
    AllOutcomes start end (old ∷ olds) (new ∷ news) made =
        Parted (Outcome (λ s t. did false old s new t) start end) (AllOutcomes start end olds news) made

    -- workers were all at the store between two passes
    pub record Ran (start end : Ticket B) (olds news : List W) : Type 0 where
      pub made : List ℕ
      pub outcomes : AllOutcomes start end olds news made
      pub all : made_of end ≡ made_of start ++ made
