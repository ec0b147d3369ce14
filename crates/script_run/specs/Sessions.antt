-- The sessions of a script, by their names.
use Rattle.std.specs.Prelude.{◌≡◌, ℕ, suc, ◌+◌, List, [], ◌∷◌, map, ⊤}
use Rattle.std.specs.Global.{Vec}
use Rattle.ts_model.specs.History.{History}
use Rattle.ts_model.specs.States.{State}
use Rattle.ts_sessions.specs.Script.{ScriptState}
use Rattle.ts_sessions.specs.declared.actors.Actor.{Ghosts as Actor}

-- the sessions, each with its name and its state
abbrev pub sessions_of : {A P : Type 0} → (A → P) → List (Vec ℕ × A) → List (List ℕ × P)
sessions_of places entries = map (λ e. (e.0.items, places e.1)) entries

-- a script with these sessions at a history
abbrev pub script_state_of : {A P : Type 0} → (A → P) → History → List (Vec ℕ × A) → ScriptState P
script_state_of places h entries = record { history = h; sessions = sessions_of places entries }

-- a script with these sessions whose store has this state
abbrev pub script_over : {A P : Type 0} → (A → P) → State → List (Vec ℕ × A) → ScriptState P
script_over places s entries = script_state_of places s.history entries

-- a session with this number: it knows its name and its number, and what it holds fits the state of the store
pub record IsMember {A T J : Type 0} (actors : Actor A T J) (s : State) (number : ℕ) (entry : Vec ℕ × A) : Type 0 where
  pub name : actors.named entry.1 ≡ entry.0.items
  pub number_known : actors.numbered entry.1 ≡ number
  pub holds_well : actors.holds entry.1 s

-- sessions are numbered in order of appearance, from this number on
abbrev pub AreSessionsFrom : {A T J : Type 0} → Actor A T J → State → ℕ → List (Vec ℕ × A) → Type 0
AreSessionsFrom actors s n [] = ⊤
AreSessionsFrom actors s n (entry ∷ entries) = IsMember actors s n entry × AreSessionsFrom actors s (suc n) entries

-- all sessions are numbered in order of appearance, from 0 on
abbrev pub AreSessions : {A T J : Type 0} → Actor A T J → State → List (Vec ℕ × A) → Type 0
AreSessions actors s entries = AreSessionsFrom actors s 0 entries

-- the bytes of the texts whose operations are queued in write blocks
abbrev pub waiting_in : {A : Type 0} → (A → ℕ) → List (Vec ℕ × A) → ℕ
waiting_in waiting [] = 0
waiting_in waiting (entry ∷ entries) = waiting entry.1 + waiting_in waiting entries
