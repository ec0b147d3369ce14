-- Procedures: what a statement does, as a tree of reads of a history, events, and results.
use Rattle.std.specs.Prelude.{Bool, true, Result, Ok, Err}
use Rattle.ts_model.specs.declared.events.Event.{Event}
use Rattle.ts_model.specs.declared.outcomes.Refusal.{Refusal}
use Rattle.ts_model.specs.History.{History}
use Rattle.ts_model.specs.Calls.{Act, refuses, returns, makes, refusal}
use Rattle.ts_model.specs.Numbers.{stopped}

-- what a statement does, up to its result
pub data Procedure (A : Type 0) : Type 0 where
  -- reads the history, and continues by what it reads. The test says at which histories the reply prints the position.
  -- At any other, what follows is the same at each longer history
  sees : (History → Bool) → (History → Procedure A) → Procedure A
  -- appends an event directly after the last read; what follows, and what follows if the store has stopped
  adds : Event → Procedure A → Procedure A → Procedure A
  -- ends with this
  ends : A → Procedure A

-- a read whose position is printed
abbrev pub looks : {A : Type 0} → (History → Procedure A) → Procedure A
looks f = sees (λ h. true) f

-- one procedure, and then another by the result of the first
abbrev pub followed_by : {A B : Type 0} → Procedure A → (A → Procedure B) → Procedure B
followed_by (sees shown f) k = sees shown (λ h. followed_by (f h) k)
followed_by (adds e next stop) k = adds e (followed_by next k) (followed_by stop k)
followed_by (ends a) k = k a

-- the same procedure, with this function of its result
abbrev pub ending_as : {A B : Type 0} → (A → B) → Procedure A → Procedure B
ending_as f procedure = followed_by procedure (λ a. ends (f a))

-- the outcome of a call at the history that it found: what it returns, or a refusal. The refusal is E24 if the call
-- would append an event and the store has stopped
abbrev pub tries_at : {A : Type 0} → History → Act A → Procedure (Result A Refusal)
tries_at h (refuses r) = ends (Err r)
tries_at h (returns a) = ends (Ok a)
tries_at h (makes e a) = adds e (ends (Ok a)) (ends (Err (refusal stopped h 0)))

-- a call: it reads the history, and then does what it does there
abbrev pub tries : {A : Type 0} → (History → Act A) → Procedure (Result A Refusal)
tries act = looks (λ h. tries_at h (act h))
