-- How a run ends.
use Rattle.std.proofs.Common.{◌≡◌, ℕ, suc, Bool, true, false, not, List, [], ◌∷◌, ◌++◌, All, length, map, sum_by, Result, Ok, Err, ap, refl, sym, ◌∙◌, subst, arith}
use Rattle.std.proofs.lemmas.List.{length-map, map-append}
use Rattle.std.proofs.lemmas.List.Elements.{All-head, All-tail}
use Rattle.std.proofs.lemmas.List.Sums.{sum_by-cons}
use Rattle.std.specs.Prelude.{IfOk, IsTrue, MatchResult, OnOk}
use Rattle.std.specs.List.{list_any}
use Rattle.ts_schema.specs.declared.memory.NoMemory.{NoMemory}
use Rattle.ts_model.specs.Calls.{Looked}
use Rattle.ts_model.specs.History.{History}
use Rattle.ts_model.specs.States.{State}
use Rattle.shared_store.specs.Wrapped.{GoesOn}
use Rattle.par_workers.specs.Outcomes.{AllOutcomes, Ran}
use Rattle.par_workers.specs.Slots.{Slot, workers_of}
use Rattle.shared_store.specs.Stores.{Shared, Ticket}
use Rattle.par_run.specs.declared.workers.SessionWorker.{SessionWorker}
use Rattle.par_run.specs.Workers.{IsReady, ran_out, replies_of}
use Rattle.ts_sessions.specs.declared.actors.Actor.{Ghosts as Actor}
use Rattle.ts_sessions.specs.Places.{Turn}
use Rattle.ts_sessions.specs.Procedures.{Procedure}
use Rattle.ts_sessions.specs.Script.{SessionScript}
use Rattle.par_run.specs.declared.outputs.Output.{Output as OutputMade}
use Rattle.par_run.specs.Crews.{RanTo}
use Rattle.par_run.specs.Ends.{is_disk_fault, stop_by}
use Rattle.par_run.specs.Outputs.{Output}
use Rattle.par_laws.specs.Parallel.{RanInParallel, SessionReplies}
use Rattle.par_laws.proofs.NamedLaws.{explained_names}
use Rattle.par_laws.proofs.OneHistory.{snapped_same}

-- the run has all replies, of which these facts are then true
pub record HasReplied (A B C S : Type 0) (R E : OutputMade → Type 0) : Type 0 where
  pub output : OutputMade
  pub setup : A
  pub at_once : B
  pub last : C
  pub stop : S
  pub are : R output
  pub ends : E output

pub has_replied : (A B C S : Type 0) (R E : OutputMade → Type 0) (Q : Type 0) (result : Result OutputMade NoMemory) → OnOk result A → OnOk result B → OnOk result C → MatchResult result (λ _. S) (λ _. Q) → IfOk result R → IfOk result E → (Q → ⊥) → HasReplied A B C S R E
has_replied A B C S R E Q (Ok output) a b c s r e other = record { output = output; setup = a; at_once = b; last = c; stop = s; are = r; ends = e }
has_replied A B C S R E Q (Err failed) a b c s r e other = absurd (other s)

-- as many workers came out of a crew as went in
same_many : {B W : Type 0} (state : B → State) (store : Shared B) (did : Bool → W → State → W → State → Type 0) (start end : Ticket B) (olds news : List W) (made : List ℕ) → AllOutcomes state store did start end olds news made → length olds ≡ length news
same_many state store did start end [] [] made os = refl
same_many state store did start end [] (new ∷ news) made os = absurd os
same_many state store did start end (old ∷ olds) [] made os = absurd os
same_many state store did start end (old ∷ olds) (new ∷ news) made os = ap suc (same_many state store did start end olds news os.others os.rest)

pub slots_stay : {B W : Type 0} (state : B → State) (store : Shared B) (did : Bool → W → State → W → State → Type 0) (start end : Ticket B) (olds news : List (Slot W B)) → Ran state store did start end (workers_of olds) (workers_of news) → length news ≡ length olds
slots_stay state store did start end olds news ran =
    sym (sym (length-map olds (λ s. s.0)) ∙ same_many state store did start end (workers_of olds) (workers_of news) ran.made ran.outcomes ∙ length-map news (λ s. s.0))

-- no line of a crew ran out of memory
pub enough_is : {A G B : Type 0} (slice items : List (Slot (SessionWorker A G) B)) (b : Bool) → b ≡ not (list_any ran_out (workers_of slice)) → slice ≡ items → list_any ran_out (workers_of items) ≡ false → b ≡ true
enough_is slice items b had same enough = had ∙ ap (λ s. not (list_any ran_out (workers_of s))) same ∙ ap not enough

pub stop_is : (b : Bool) → is_disk_fault (stop_by b) ≡ b
stop_is true = refl
stop_is false = refl

pub goes_on_looked : {P : History → Type 0} (alone : Bool) (first old new : State) → IsTrue alone → Looked alone old P new → GoesOn first old → GoesOn first new
goes_on_looked alone first old new is_alone looked goes = subst (GoesOn first) (sym (snapped_same alone old new is_alone looked)) goes

-- ---- the names of the sessions

pub names_of_three : {P : Type 0} (reply : P → List ℕ → ℕ → Procedure (Turn P)) (p : P) (opening : History) (setup others final : List SessionScript) (new : State) (before between after : List SessionReplies) (names : List (List ℕ)) → RanInParallel reply p opening setup others final new before between after → names ≡ map (λ r. r.name) (before ++ between ++ after) → names ≡ map (λ s. s.name) (setup ++ others ++ final)
names_of_three reply p opening setup others final new before between after names ran are =
    let name : SessionReplies → List ℕ = λ r. r.name in
    let own : SessionScript → List ℕ = λ s. s.name in
    let one : map name before ≡ map own setup = explained_names reply _ _ _ _ _ setup before _ ran.setup_ran.phase.explained in
    let two : map name between ≡ map own others = explained_names reply _ _ _ _ _ others between _ ran.others_ran.phase.explained in
    let three : map name after ≡ map own final = explained_names reply _ _ _ _ _ final after _ ran.final_ran.phase.explained in
    are ∙ map-append name (before ++ between) after ∙ ap (λ l. l ++ map name after) (map-append name before between)
    ∙ (λ i. (one i ++ two i) ++ three i)
    ∙ sym (map-append own (setup ++ others) final ∙ ap (λ l. l ++ map own final) (map-append own setup others))

-- ---- a run over the lines of an input

-- a run of some refusals and sessions is a run of equal ones
pub ran_of_same : {P : Type 0} (reply : P → List ℕ → ℕ → Procedure (Turn P)) (p : P) (opening : History) (refusals refusals_too : List ℕ) (setup setup_too others others_too final final_too : List SessionScript) (new : State) (out : Output) (reads : ℕ)
    → refusals ≡ refusals_too → setup ≡ setup_too → others ≡ others_too → final ≡ final_too
    → RanTo reply p opening refusals setup others final new out reads → RanTo reply p opening refusals_too setup_too others_too final_too new out reads
ran_of_same reply p opening refusals refusals_too setup setup_too others others_too final final_too new out reads r s o f ran =
    subst (λ x. RanTo reply p opening refusals_too setup_too others_too x new out reads) f
    (subst (λ x. RanTo reply p opening refusals_too setup_too x final new out reads) o
    (subst (λ x. RanTo reply p opening refusals_too x others final new out reads) s
    (subst (λ x. RanTo reply p opening x setup others final new out reads) r ran)))

-- ---- out of memory

-- a worker that is ready has read nothing
pub unread : {A G T J : Type 0} (actors : Actor A T J) (workers : List (SessionWorker A G)) → All (IsReady actors) workers → sum_by (λ w. (replies_of actors.named w).reads) workers ≡ 0
unread actors [] ready = refl
unread actors (w ∷ workers) ready =
    let more = sum_by-cons (λ x. (replies_of actors.named x).reads) w workers in
    let first : (replies_of actors.named w).reads ≡ 0 = ap (λ replies. replies.reads) (All-head (IsReady actors) w workers ready).unanswered in
    let rest = unread actors workers (All-tail (IsReady actors) w workers ready) in
    omega (arith, more, first, rest)

-- a crew that did nothing has the workers that it had
pub idle_workers : {B W : Type 0} (enough : Bool) (start end : Ticket B) (olds news : List (Slot W B)) → (enough ≡ false → (end ≡ start) × (news ≡ olds)) → enough ≡ false → (end ≡ start) × (workers_of news ≡ workers_of olds)
idle_workers enough start end olds news idle none = ((idle none).0, ap workers_of (idle none).1)
