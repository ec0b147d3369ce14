-- The replies of several sessions are E24 only at stops, name the events of their lines, and have the names of the
-- sessions.
use Rattle.std.proofs.Common.{◌≡◌, ℕ, ◌≤◌, List, [], ◌∷◌, map, Option, refl, arith}
use Rattle.std.specs.List.{AllByRecursion}
use Rattle.ts_model.specs.History.{History, base_position}
use Rattle.ts_sessions.specs.Gives.{Gives}
use Rattle.ts_sessions.specs.Named.{RepliesNameTheirEvents}
use Rattle.ts_sessions.specs.Places.{Turn}
use Rattle.ts_sessions.specs.Procedures.{Procedure}
use Rattle.ts_sessions.specs.Script.{SessionLine, SessionScript}
use Rattle.ts_sessions.specs.Stopped.{OnlyStopsAreReported, ReplyStopsAt}
use Rattle.ts_sessions.proofs.GivesLaws.{gives_on}
use Rattle.par_laws.specs.Answered.{LineAnswer, Answered}
use Rattle.par_laws.specs.Named.{NamesEvents, RepliesNameEvents}
use Rattle.par_laws.specs.Parallel.{AreReplies, SessionReplies, lines_in, places_after}
use Rattle.par_laws.specs.Phases.{AllExplained}
use Rattle.par_laws.specs.Stopped.{RepliesStopAt}

-- ---- each reply

-- a property of each reply, by the result of its line
module _ {P : Type 0} (reply : P → List ℕ → ℕ → Procedure (Turn P)) (N : Option ℕ → LineAnswer (Turn P) → Type 0)
    (holds : (all : History) (stop : Option ℕ) (at : ℕ) (p : P) (text : List ℕ) (skip : ℕ) (a : LineAnswer (Turn P)) → base_position all ≤ at → Gives all stop at [] (reply p text skip) a.looks a.last a.given a.end → N stop a) where
  answered_each : (all : History) (stop : Option ℕ) (at : ℕ) (p : P) (lines : List SessionLine) (answers : List (LineAnswer (Turn P))) → base_position all ≤ at → Answered reply places_after all stop at p lines answers → AllByRecursion (N stop) answers
  answered_each all stop at p [] [] low t = tt
  answered_each all stop at p [] (a ∷ answers) low t = absurd t
  answered_each all stop at p (line ∷ lines) [] low t = absurd t
  answered_each all stop at p (line ∷ lines) (a ∷ answers) low t =
      let on : at ≤ a.last = gives_on all stop at (reply p line.text line.skip) a.looks a.last a.given a.end t.0 in
      (holds all stop at p line.text line.skip a low t.0, answered_each all stop a.last (places_after a.end) lines answers (omega (arith, low, on)) t.1)

  -- the same for all replies of several sessions
  explained_each : (all : History) (stop : Option ℕ) (from to : ℕ) (p : P) (sessions : List SessionScript) (replies : List SessionReplies) (answers : List (List (LineAnswer (Turn P)))) → base_position all ≤ from → AllExplained lines_in AreReplies reply places_after all stop from to p sessions replies answers → AllByRecursion (λ each. AllByRecursion (N stop) each) answers
  explained_each all stop from to p [] [] [] low x = tt
  explained_each all stop from to p [] [] (a ∷ answers) low x = absurd x
  explained_each all stop from to p [] (r ∷ replies) answers low x = absurd x
  explained_each all stop from to p (v ∷ sessions) [] answers low x = absurd x
  explained_each all stop from to p (v ∷ sessions) (r ∷ replies) [] low x = absurd x
  explained_each all stop from to p (v ∷ sessions) (r ∷ replies) (a ∷ answers) low x = (answered_each all stop from p v.lines a low x.0.answered, explained_each all stop from to p sessions replies answers low x.1)

-- a reply is E24 only if the store had stopped
pub explained_stop : {P : Type 0} (reply : P → List ℕ → ℕ → Procedure (Turn P)) → OnlyStopsAreReported reply → (all : History) (stop : Option ℕ) (from to : ℕ) (p : P) (sessions : List SessionScript) (replies : List SessionReplies) (answers : List (List (LineAnswer (Turn P)))) → base_position all ≤ from → AllExplained lines_in AreReplies reply places_after all stop from to p sessions replies answers → RepliesStopAt stop answers
explained_stop reply only_stops all stop from to p sessions replies answers low x =
    explained_each reply (λ stop a. ReplyStopsAt stop a.end) (λ all stop at p text skip a low g. only_stops all stop at p text skip a.looks a.last a.given a.end low g) all stop from to p sessions replies answers low x

-- it names the events of its line
pub explained_named : {P : Type 0} (reply : P → List ℕ → ℕ → Procedure (Turn P)) → RepliesNameTheirEvents reply → (all : History) (stop : Option ℕ) (from to : ℕ) (p : P) (sessions : List SessionScript) (replies : List SessionReplies) (answers : List (List (LineAnswer (Turn P)))) → base_position all ≤ from → AllExplained lines_in AreReplies reply places_after all stop from to p sessions replies answers → RepliesNameEvents answers
explained_named reply names_events all stop from to p sessions replies answers low x =
    explained_each reply (λ stop a. NamesEvents a) (λ all stop at p text skip a low g. names_events all stop at p text skip a.looks a.last a.given a.end low g) all stop from to p sessions replies answers low x

-- ---- names

-- the replies of sessions have their names
pub explained_names : {P : Type 0} (reply : P → List ℕ → ℕ → Procedure (Turn P)) (all : History) (stop : Option ℕ) (from to : ℕ) (p : P) (sessions : List SessionScript) (replies : List SessionReplies) (answers : List (List (LineAnswer (Turn P)))) → AllExplained lines_in AreReplies reply places_after all stop from to p sessions replies answers → map (λ r. r.name) replies ≡ map (λ s. s.name) sessions
explained_names reply all stop from to p [] [] [] x = refl
explained_names reply all stop from to p [] [] (a ∷ answers) x = absurd x
explained_names reply all stop from to p [] (r ∷ replies) answers x = absurd x
explained_names reply all stop from to p (v ∷ sessions) [] answers x = absurd x
explained_names reply all stop from to p (v ∷ sessions) (r ∷ replies) [] x = absurd x
explained_names reply all stop from to p (v ∷ sessions) (r ∷ replies) (a ∷ answers) x =
    let others = explained_names reply all stop from to p sessions replies answers x.1 in
    λ i. x.0.replied.name i ∷ others i
