-- Runs that may run out of memory: the sessions that ran, up to the phase that ran out of memory.
use Rattle.std.specs.Prelude.{◌≡◌, ◌≤◌, ◌⊎◌, ℕ, Bool, true, false, List, [], ◌∷◌, ◌++◌, flat_map, sum_by, Option, IsPermutation}
use Rattle.std.specs.List.{list_any}
use Rattle.ts_schema.specs.Counts.{raised_by}
use Rattle.ts_model.specs.History.{History, position, Begins}
use Rattle.ts_model.specs.States.{State, stop_of}
use Rattle.turn_lock.specs.Positions.{positions_between}
use Rattle.ts_sessions.specs.Gives.{StopsLater}
use Rattle.ts_sessions.specs.Places.{Block, Turn}
use Rattle.ts_sessions.specs.Procedures.{Procedure}
use Rattle.ts_sessions.specs.Script.{SessionLine, SessionScript}
use Rattle.ts_sessions.specs.Walks.{Breaks}
use Rattle.par_laws.specs.Calls.{Worked}
use Rattle.par_laws.specs.Parallel.{SessionReplies, SessionExecuted, SessionExecutedTo}

-- what a session did in its phase: whether it ran out of memory and broke off, the numbers of its events, and how many
-- stored rows it read
pub record Part : Type 0 where
  pub broke : Bool
  pub made : List ℕ
  pub reads : ℕ

-- whether one of several broke off
abbrev pub one_broke : List Part → Bool
one_broke parts = list_any (λ part. part.broke) parts

-- the events that the sessions of several phases appended, and the rows that they read
abbrev pub all_made : List (List Part) → List ℕ
all_made phases = flat_map (λ parts. flat_map (λ part. part.made) parts) phases

abbrev pub all_reads : List (List Part) → ℕ
all_reads phases = sum_by (λ parts. sum_by (λ part. part.reads) parts) phases

-- a first part reached a position, and the rest continued from there
pub record Upto (First Rest : ℕ → Type 0) : Type 0 where
  pub mid : ℕ
  pub first : First mid
  pub rest : Rest mid

-- what lines do by the state of their session, the block in a session state, and the state of each session at its first
-- line
module _ {P : Type 0} (within : P → Block) (does : P → List ℕ → ℕ → Procedure (Turn P)) (p : P) where
  -- ---- one session

  -- a session executed all its lines from a state on, and read this many rows
  pub record Finished (alone : Bool) (session : SessionScript) (s : State) (count : ℕ) (t : State) : Type 0 where
    pub replies : SessionReplies
    pub executed : SessionExecuted within does p alone session s replies t
    pub reads : count ≡ replies.reads

  -- a session executed its first lines from a state on, ran out of memory in the next one, and broke off. The events of
  -- this line remain
  pub record BrokeOff (alone : Bool) (session : SessionScript) (s : State) (count : ℕ) (t : State) : Type 0 where
    pub done : List SessionLine
    pub line : SessionLine
    pub rest : List SessionLine
    pub lines : session.lines ≡ done ++ line ∷ rest
    -- the replies to the first lines, and the store state and the session state that they left
    pub replies : SessionReplies
    pub mid : State
    pub places : P
    pub executed :
        SessionExecutedTo within does p alone (record { name = session.name; lines = done }) s replies mid places
    pub broke : Breaks alone mid (does places line.text line.skip) t
    pub reads : replies.reads ≤ count

  -- what a session did, by whether it broke off
  abbrev pub Went : Bool → Bool → SessionScript → State → ℕ → State → Type 0
  Went false alone session s count t = Finished alone session s count t
  Went true alone session s count t = BrokeOff alone session s count t

  -- ---- a phase

  -- over a whole history, which stopped at `stop` if it did, a session took part in a phase between two positions
  pub record TookPart (all : History) (stop : Option ℕ) (from to : ℕ) (session : SessionScript)
      (part : Part) : Type 0 where
    -- the states that it found and left
    pub old : State
    pub new : State
    pub found : position old.history ≡ from
    pub fresh : old.made ≡ []
    pub went : Went part.broke false session old part.reads new
    pub begins : Begins new.history all
    pub ended : position new.history ≤ to
    pub stops : StopsLater (stop_of new) stop
    pub made : new.made ≡ part.made

  -- each of several sessions did
  abbrev pub AllTookPart : History → Option ℕ → ℕ → ℕ → List SessionScript → List Part → Type 0
  AllTookPart all stop from to [] [] = Unit {0}
  AllTookPart all stop from to [] (part ∷ parts) = ⊥
  AllTookPart all stop from to (session ∷ sessions) [] = ⊥
  AllTookPart all stop from to (session ∷ sessions) (part ∷ parts) =
      TookPart all stop from to session part × AllTookPart all stop from to sessions parts

  -- a phase of sessions between two positions, in which memory ran out or not
  pub record PhaseRan (all : History) (stop : Option ℕ) (broke : Bool) (from to : ℕ) (sessions : List SessionScript)
      (parts : List Part) : Type 0 where
    pub order : from ≤ to
    pub took : AllTookPart all stop from to sessions parts
    pub some : one_broke parts ≡ broke

  -- ---- phases

  -- phases ran in order, up to the one that ran out of memory, if one did
  abbrev pub PhasesRan : History → Option ℕ → ℕ → ℕ → List (List SessionScript) → List (List Part) → Type 0
  PhasesRan all stop from to [] [] = from ≡ to
  PhasesRan all stop from to [] (parts ∷ more) = ⊥
  PhasesRan all stop from to (sessions ∷ later) [] = ⊥
  PhasesRan all stop from to (sessions ∷ later) (parts ∷ more) =
      (PhaseRan all stop true from to sessions parts × (more ≡ []))
      ⊎ Upto (λ mid. PhaseRan all stop false from mid sessions parts)
      (λ mid. PhasesRan all stop mid to later more)

  -- the same, or no phase began
  abbrev pub PhasesBegan : History → Option ℕ → ℕ → ℕ → List (List SessionScript) → List (List Part) → Type 0
  PhasesBegan all stop from to phases [] = from ≡ to
  PhasesBegan all stop from to phases (parts ∷ more) = PhasesRan all stop from to phases (parts ∷ more)

  -- over an opening history phases ran until memory ran out, if it did. The sessions that took part appended all events
  -- since then, and read all rows. Those of later phases did nothing
  pub record RanAsFar (opening : History) (phases : List (List SessionScript)) (new : State) (count : ℕ) : Type 0 where
    pub parts : List (List Part)
    pub begins : Begins opening new.history
    pub ran : PhasesBegan new.history (stop_of new) (position opening) (position new.history) phases parts
    pub made : IsPermutation (all_made parts) (positions_between (position opening) (position new.history))
    pub reads : count ≡ raised_by (all_reads parts) 0

  -- ---- workers, by the session whose lines they execute, its replies, and whether they ran out of memory

  module _ {W : Type 0} (session_of : W → SessionScript) (replies_of : W → SessionReplies) (ran_out : W → Bool) where
    -- the session of a worker broke off, if the worker ran out of memory
    abbrev pub Broke : Bool → W → State → W → State → Type 0
    Broke alone old s new t = ran_out new ≡ true → BrokeOff alone (session_of old) s (replies_of new).reads t

    -- a worker's session broke off if the worker ran out of memory, and otherwise executed all its lines
    abbrev pub WorkedOrBroke : Bool → W → State → W → State → Type 0
    WorkedOrBroke alone old s new t =
        Worked within does p session_of replies_of ran_out alone old s new t × Broke alone old s new t
