-- What the calls guarantee by which sessions run on one store: three groups of workers in order, the close of the
-- store, and a snapshot of the backend that it returns.
use Rattle.std.specs.Prelude.{◌≡◌, ℕ, Bool, false, List, [], map, IsPermutation, IsTrue}
use Rattle.std.specs.List.{list_any}
use mathlib.Core.List.{IsPrefix}
use Rattle.ts_model.specs.Allowed.{all_allowed}
use Rattle.ts_model.specs.Calls.{Looked}
use Rattle.ts_model.specs.History.{position}
use Rattle.ts_model.specs.States.{State}
use Rattle.turn_lock.specs.Pass.{seen_of, closed_of, made_of, StaysIn}
use Rattle.turn_lock.specs.Positions.{positions_between}
use Rattle.shared_store.specs.Stores.{Shared, Ticket, history_of}
use Rattle.par_workers.specs.Outcomes.{Ran}
use Rattle.ts_sessions.specs.Places.{Block, Turn}
use Rattle.ts_sessions.specs.Procedures.{Procedure}
use Rattle.ts_sessions.specs.Script.{SessionScript}
use Rattle.par_laws.specs.Parallel.{SessionReplies, SessionExecuted}

-- workers by what the lines of their sessions do, and the states of these at their first lines. Further parameters are
-- the sessions, their replies, and whether they ran out of memory
module _ {P : Type 0} (within : P → Block) (does : P → List ℕ → ℕ → Procedure (Turn P)) (p : P) {W : Type 0}
    (session_of : W → SessionScript) (replies_of : W → SessionReplies) (ran_out : W → Bool) where
  -- a worker executed all lines of its session, unless it ran out of memory
  abbrev pub Worked : Bool → W → State → W → State → Type 0
  Worked alone old s new t =
      ran_out new ≡ false → SessionExecuted within does p alone (session_of old) s (replies_of new) t

  module _ {B : Type 0} (state : B → State) (store : Shared B) where
    -- a group of workers was at the store between two passes: these were its sessions, and none ran out of memory
    pub record CrewRan (start end : Ticket B) (olds news : List W) (sessions : List SessionScript) : Type 0 where
      pub begins : IsPrefix (seen_of start) (seen_of end)
      pub stays : StaysIn end start
      pub ran : Ran state store Worked start end olds news
      pub are : map session_of olds ≡ sessions
      pub sufficed : list_any ran_out news ≡ false

    -- the sessions of `setup`, then `others` in parallel, then those of `final` ran on the store, with these replies.
    -- Then the store was closed, and a snapshot of the backend was taken
    pub record RanOverStore (alone : Bool) (setup others final : List SessionScript) (new : State)
        (before between after : List SessionReplies) : Type 0 where
      -- the passes before the first group, between the groups, and after the last, and the workers as each group found
      -- and left them
      pub start : Ticket B
      pub middle : Ticket B
      pub later : Ticket B
      pub last : Ticket B
      pub setup_old : List W
      pub setup_new : List W
      pub others_old : List W
      pub others_new : List W
      pub final_old : List W
      pub final_new : List W
      -- the first pass has seen and added nothing
      pub start_seen : seen_of start ≡ []
      pub start_made : made_of start ≡ []
      pub setup_ran : CrewRan start middle setup_old setup_new setup
      pub others_ran : CrewRan middle later others_old others_new others
      pub final_ran : CrewRan later last final_old final_new final
      -- the backend that the store returned when the last pass closed it
      pub closed : State
      pub history : closed.history ≡ history_of state store last
      pub failed : closed.failed ≡ closed_of last
      pub made :
          IsPermutation (made_of last)
          (positions_between (position (state store.opened.value).history) (position closed.history))
      -- what the snapshot left
      pub is_alone : IsTrue alone
      pub looked : Looked alone closed (λ h. IsTrue (all_allowed h)) new
      -- the replies of the workers
      pub before_is : map replies_of setup_new ≡ before
      pub between_is : map replies_of others_new ≡ between
      pub after_is : map replies_of final_new ≡ after
