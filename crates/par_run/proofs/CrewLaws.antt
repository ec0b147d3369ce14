-- How workers are created in order.
use Rattle.std.proofs.Common.{◌≡◌, ℕ, ◌≤◌, Bool, List, [], ◌∷◌, ◌++◌, All, filter, length, map, Option, Some, None, ap, refl, sym, ◌∙◌, subst, arith}
use Rattle.std.specs.Option.{IfSome, option_to_list}
use Rattle.std.proofs.lemmas.List.{map-append}
use Rattle.std.proofs.lemmas.List.Elements.{All-cons, All-filter, All-head, All-nil, All-push, All-same, All-tail}
use Rattle.par_workers.specs.Slots.{Slot, workers_of}
use Rattle.par_lines.specs.declared.sessions.SessionLines.{SessionLines}
use Rattle.par_lines.specs.declared.sorting.SortedLines.{SortedLines}
use Rattle.par_lines.specs.Places.{script_of, scripts_of, sorted_of, IsWithin}
use Rattle.par_lines.specs.Sorted.{sorted_lines, HasNumber}
use Rattle.ts_sessions.specs.Script.{SessionScript}
use Rattle.par_run.specs.declared.workers.SessionWorker.{SessionWorker}
use Rattle.par_run.specs.Workers.{number_of, worker_script, IsNumbered, IsReady}
use Rattle.par_run.specs.Crews.{scripts_in, IsCrew}
use Rattle.ts_sessions.specs.declared.actors.Actor.{Ghosts as Actor}

module _ {A G T J B : Type 0} (actors : Actor A T J) (input : List ℕ) where
  -- no worker yet
  pub crew_begun : (crew : List (Slot (SessionWorker A G) B)) → crew ≡ [] → IsCrew {B = B} actors (scripts_of input []) crew
  crew_begun crew none = subst (λ c. IsCrew {B = B} actors (scripts_of input []) c) (sym none) (record { scripts = refl; ready = All-nil (IsReady actors) })

  -- one more worker
  pub crew_more : (sessions : List SessionLines) (crew : List (Slot (SessionWorker A G) B)) (session : SessionLines) (slot : Slot (SessionWorker A G) B) (now : List (Slot (SessionWorker A G) B))
      → IsCrew {B = B} actors (scripts_of input sessions) crew → worker_script actors.named slot.0 ≡ script_of input session → IsReady actors slot.0
      → now ≡ crew ++ slot ∷ [] → IsCrew {B = B} actors (scripts_of input (sessions ++ session ∷ [])) now
  crew_more sessions crew session slot now is script ready same =
      subst (λ c. IsCrew {B = B} actors (scripts_of input (sessions ++ session ∷ [])) c) (sym same)
      (record {
        scripts = ap (map (worker_script actors.named)) (map-append (λ s. s.0) crew (slot ∷ []))
            ∙ map-append (worker_script actors.named) (workers_of crew) (slot.0 ∷ [])
            ∙ ap (λ xs. xs ++ worker_script actors.named slot.0 ∷ []) is.scripts
            ∙ ap (λ x. scripts_of input sessions ++ x ∷ []) script
            ∙ sym (map-append (script_of input) sessions (session ∷ []));
        ready = subst (All (IsReady actors)) (sym (map-append (λ s. s.0) crew (slot ∷ []))) (All-push (IsReady actors) (workers_of crew) slot.0 is.ready ready);
      })

-- the numbers with one more worker
pub numbers_more : {A G B : Type 0} (numbered : A → ℕ) (sessions : List SessionLines) (crew : List (Slot (SessionWorker A G) B)) (session : SessionLines) (slot : Slot (SessionWorker A G) B) (now : List (Slot (SessionWorker A G) B))
    → map (number_of numbered) (workers_of crew) ≡ map (λ s. s.number) sessions → number_of numbered slot.0 ≡ session.number → now ≡ crew ++ slot ∷ []
    → map (number_of numbered) (workers_of now) ≡ map (λ s. s.number) (sessions ++ session ∷ [])
numbers_more numbered sessions crew session slot now so_far number same =
    ap (λ slots. map (number_of numbered) (workers_of slots)) same ∙ ap (map (number_of numbered)) (map-append (λ s. s.0) crew (slot ∷ []))
    ∙ map-append (number_of numbered) (workers_of crew) (slot.0 ∷ []) ∙ (λ i. so_far i ++ number i ∷ []) ∙ sym (map-append (λ (s : SessionLines). s.number) sessions (session ∷ []))

-- ---- the sessions of an input

-- if there is a session, its lines are within the input
pub within_listed : (n : ℕ) (session : Option SessionLines) (sessions : List SessionLines) → sessions ≡ option_to_list session → IfSome session (IsWithin n) → All (IsWithin n) sessions
within_listed n None sessions same within = subst (All (IsWithin n)) (sym same) (All-nil (IsWithin n))
within_listed n (Some s) sessions same within = subst (All (IsWithin n)) (sym same) (All-cons (IsWithin n) s [] within (All-nil (IsWithin n)))

-- there is at most one session
pub one_listed : (session : Option SessionLines) (sessions : List SessionLines) → sessions ≡ option_to_list session → length sessions ≤ 1
one_listed None sessions same = let none = ap length same in omega arith
one_listed (Some s) sessions same = let one = ap length same in omega arith

-- workers for the sessions of a phase have those of the sorted lines
pub of_phase : {A G B : Type 0} (named : A → List ℕ) (input : List ℕ) (lines : SortedLines) (phase : List SessionScript → List SessionScript) (sessions listed : List SessionLines) (crew : List (Slot (SessionWorker A G) B))
    → scripts_in named crew ≡ scripts_of input listed → listed ≡ sessions → scripts_of input sessions ≡ phase (scripts_of input lines.sessions.items) → sorted_of input lines ≡ sorted_lines input → scripts_in named crew ≡ phase (sorted_lines input).sessions
of_phase named input lines phase sessions listed crew have same in_phase sorted_so = have ∙ ap (scripts_of input) same ∙ in_phase ∙ ap (λ s. phase s.sessions) sorted_so

-- ---- their numbers

-- a session has its number among those that have appeared
abbrev HasOwn : List ℕ → List SessionScript → SessionLines → Type 0
HasOwn input appeared session = HasNumber appeared (script_of input session) session.number

module _ {A G : Type 0} (named : A → List ℕ) (numbered : A → ℕ) (input : List ℕ) (appeared : List SessionScript) where
  -- workers with the scripts and the numbers of sessions
  numbered_as : (sessions : List SessionLines) (workers : List (SessionWorker A G)) → map (worker_script named) workers ≡ scripts_of input sessions → map (number_of numbered) workers ≡ map (λ session. session.number) sessions
      → All (HasOwn input appeared) sessions → All (IsNumbered named numbered appeared) workers
  numbered_as [] [] scripts numbers all = All-nil (IsNumbered named numbered appeared)
  numbered_as [] (w ∷ workers) scripts numbers all = absurd cc
  numbered_as (s ∷ sessions) [] scripts numbers all = absurd cc
  numbered_as (s ∷ sessions) (w ∷ workers) scripts numbers all =
      let script : script_of input s ≡ worker_script named w = cc in
      let number : s.number ≡ number_of numbered w = cc in
      let scripts_left : map (worker_script named) workers ≡ scripts_of input sessions = cc in
      let numbers_left : map (number_of numbered) workers ≡ map (λ session. session.number) sessions = cc in
      All-cons (IsNumbered named numbered appeared) w workers
      (subst (λ n. HasNumber appeared (worker_script named w) n) number (subst (λ x. HasNumber appeared x s.number) script (All-head (HasOwn input appeared) s sessions all)))
      (numbered_as sessions workers scripts_left numbers_left (All-tail (HasOwn input appeared) s sessions all))

  -- the workers of a phase, whose sessions pass a test
  pub numbered_phase : {B : Type 0} (test : SessionLines → Bool) (sessions listed : List SessionLines) (crew : List (Slot (SessionWorker A G) B)) → All (HasOwn input appeared) sessions → listed ≡ filter test sessions
      → scripts_in named crew ≡ scripts_of input listed → map (number_of numbered) (workers_of crew) ≡ map (λ session. session.number) listed → All (IsNumbered named numbered appeared) (workers_of crew)
  numbered_phase test sessions listed crew all passed scripts numbers = numbered_as listed (workers_of crew) scripts numbers (All-same (HasOwn input appeared) listed (filter test sessions) passed (All-filter test (HasOwn input appeared) sessions all))
