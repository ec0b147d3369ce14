-- The workers of a run.
use Rattle.std.specs.Prelude.{◌≡◌, ◌<◌, ◌≤◌, ℕ, List, [], ◌∷◌, ◌++◌, All, length, map}
use Rattle.ts_model.specs.History.{History}
use Rattle.ts_model.specs.States.{State}
use Rattle.par_workers.specs.Slots.{Slot, workers_of}
use Rattle.ts_sessions.specs.Places.{Block, Turn}
use Rattle.ts_sessions.specs.Procedures.{Procedure}
use Rattle.ts_sessions.specs.Script.{SessionScript}
use Rattle.ts_model.specs.Limits.{most_sessions}
use Rattle.par_laws.specs.Broken.{RanAsFar}
use Rattle.par_laws.specs.Parallel.{RanInParallel, SessionReplies}
use Rattle.par_lines.specs.Sorted.{Sorted, at_once, final, only, setup}
use Rattle.par_run.specs.declared.crews.Crews.{Crews}
use Rattle.par_run.specs.declared.workers.SessionWorker.{SessionWorker}
use Rattle.par_run.specs.Outputs.{Output, Says}
use Rattle.par_run.specs.Workers.{worker_script, IsNumbered, IsReady}
use Rattle.ts_sessions.specs.declared.actors.Actor.{Ghosts as Actor}

-- the sessions of workers
abbrev pub scripts_in : {A G B : Type 0} → (A → List ℕ) → List (Slot (SessionWorker A G) B) → List SessionScript
scripts_in named crew = map (worker_script named) (workers_of crew)

-- a worker for each session, before its first line
pub record IsCrew {A G T J B : Type 0} (actors : Actor A T J) (sessions : List SessionScript)
    (crew : List (Slot (SessionWorker A G) B)) : Type 0 where
  pub scripts : scripts_in actors.named crew ≡ sessions
  pub ready : All (IsReady actors) (workers_of crew)

module _ {A B G T J : Type 0} where
  -- the workers have these sorted lines
  pub record AreOf (named : A → List ℕ) (lines : Sorted) (crews : Crews A B G T J) : Type 0 where
    pub refusals : crews.refusals.items ≡ lines.refusals
    pub setup_is : scripts_in named crews.setup.items ≡ only setup lines.sessions
    pub at_once_are : scripts_in named crews.at_once.items ≡ at_once lines.sessions
    pub last_is : scripts_in named crews.last.items ≡ only final lines.sessions

  -- each has the number of its session among those that have appeared
  pub record AreNumbered (named : A → List ℕ) (numbered : A → ℕ) (appeared : List SessionScript)
      (crews : Crews A B G T J) : Type 0 where
    pub setup_is : All (IsNumbered named numbered appeared) (workers_of crews.setup.items)
    pub at_once_are : All (IsNumbered named numbered appeared) (workers_of crews.at_once.items)
    pub last_is : All (IsNumbered named numbered appeared) (workers_of crews.last.items)

  -- each is before its first line
  pub record AreReady {S K : Type 0} (actors : Actor A S K) (crews : Crews A B G T J) : Type 0 where
    pub setup_is : All (IsReady actors) (workers_of crews.setup.items)
    pub at_once_are : All (IsReady actors) (workers_of crews.at_once.items)
    pub last_is : All (IsReady actors) (workers_of crews.last.items)

  -- there is at most one worker before all others and one after them. The others are at most as many as the sessions of
  -- a script
  pub record AreFew (crews : Crews A B G T J) : Type 0 where
    pub setup_is : length crews.setup.items ≤ 1
    pub at_once_are : length crews.at_once.items ≤ most_sessions
    pub last_is : length crews.last.items ≤ 1

  -- this many shares of a store suffice for the workers that run at the same time, and for one pass more
  pub record HaveShares (shares : ℕ) (crews : Crews A B G T J) : Type 0 where
    pub setup_has : length crews.setup.items < shares
    pub at_once_have : length crews.at_once.items < shares
    pub last_has : length crews.last.items < shares

-- the replies to lines by the state of their session, and the state of each session at its first line
module _ {P : Type 0} (reply : P → List ℕ → ℕ → Procedure (Turn P)) (p : P) where
  -- over an opening history first the sessions of `setup` ran, then `others` in parallel, then those of `final`. Other
  -- lines were refused with a text. The sessions left a state and this output, and read this many stored rows
  pub record RanTo (opening : History) (refusals : List ℕ) (setup others final : List SessionScript) (new : State)
      (out : Output) (reads : ℕ) : Type 0 where
    -- the replies of the sessions of each phase
    pub before : List SessionReplies
    pub between : List SessionReplies
    pub after : List SessionReplies
    pub ran : RanInParallel reply p opening setup others final new before between after
    pub says : Says refusals (before ++ between ++ after) out reads
    pub names : map (λ talk. talk.name) out.sessions ≡ map (λ session. session.name) (setup ++ others ++ final)

  -- the same for the sessions of the sorted lines of an input
  abbrev pub LinesRan : History → Sorted → State → Output → ℕ → Type 0
  LinesRan opening lines new out reads =
      RanTo opening lines.refusals (only setup lines.sessions) (at_once lines.sessions) (only final lines.sessions) new
      out reads

-- the same for workers
abbrev pub CrewsRan :
    {A S K B G T J : Type 0} → Actor A S K → History → Crews A B G T J → State → Output → ℕ → Type 0
CrewsRan actors opening crews new out reads =
    RanTo actors.replies (actors.semantics.opening 0) opening crews.refusals.items
    (scripts_in actors.named crews.setup.items) (scripts_in actors.named crews.at_once.items)
    (scripts_in actors.named crews.last.items) new out reads

-- what lines do by the state of their session, the block in a session state, and the state of each session at its first
-- line
module _ {P : Type 0} (within : P → Block) (does : P → List ℕ → ℕ → Procedure (Turn P)) (p : P) where
  -- the sessions of the sorted lines of an input ran, until memory ran out if it did
  abbrev pub LinesRanAsFar : History → Sorted → State → ℕ → Type 0
  LinesRanAsFar opening lines new reads =
      RanAsFar within does p opening
      (only setup lines.sessions ∷ at_once lines.sessions ∷ only final lines.sessions ∷ []) new reads

-- the same for workers
abbrev pub CrewsRanAsFar : {A S K B G T J : Type 0} → Actor A S K → History → Crews A B G T J → State → ℕ → Type 0
CrewsRanAsFar actors opening crews new reads =
    RanAsFar actors.within actors.semantics.does (actors.semantics.opening 0) opening
    (scripts_in actors.named crews.setup.items ∷ scripts_in actors.named crews.at_once.items
    ∷ scripts_in actors.named crews.last.items ∷ []) new reads
