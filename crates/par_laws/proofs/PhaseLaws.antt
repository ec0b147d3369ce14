-- What workers did is answered over the history of the store in which they all ended.
use Rattle.std.proofs.Common.{◌≡◌, ℕ, ◌≤◌, Bool, true, false, List, [], ◌∷◌, ◌++◌, map, Option, Some, None, sym, refl, ap, ◌∙◌, subst, arith}
use Rattle.std.specs.Prelude.{is_some, cond}
use Rattle.ts_model.specs.declared.events.Event.{Event}
use Rattle.ts_model.specs.History.{History, ◌▸▸◌, position, Begins}
use Rattle.ts_model.specs.States.{State, stop_of}
use Rattle.ts_model.specs.Allowed.{all_allowed}
use Rattle.ts_model.proofs.HistoryLaws.{begins_trans, position_begins}
use Rattle.ts_sessions.specs.Actors.{IsGivenOver}
use Rattle.ts_sessions.specs.Procedures.{Procedure}
use Rattle.ts_sessions.specs.Gives.{StopsLater}
use Rattle.ts_sessions.specs.Script.{SessionLine}
use Rattle.ts_sessions.specs.Walks.{Walks}
use Rattle.turn_lock.specs.Pass.{closed_of}
use Rattle.shared_store.specs.Stores.{Shared, Ticket, history_of}
use Rattle.par_workers.specs.Slots.{Knows}
use Rattle.par_workers.specs.Outcomes.{begun_at, Outcome, AllOutcomes}
use Rattle.par_workers.proofs.OutcomeLaws.{begins_seen}
use Rattle.par_laws.specs.Answered.{LineAnswer, numbers_of, last_in}
use Rattle.par_laws.specs.Phases.{Executed, Explained, AllExplained, all_numbers}
use Rattle.par_laws.proofs.WalkedLaws.{walked_is_answered}

-- a store in which another ended stopped at the position at which that one had stopped
pub stops_there : (left new : State) → ((e : Event) → left.failed ≡ Some e → (new.failed ≡ Some e) × (new.history ≡ left.history)) → StopsLater (stop_of left) (stop_of new)
stops_there left new stops = by_failed left.failed stops
  where
    by_failed : (failed : Option Event) → ((e : Event) → failed ≡ Some e → (new.failed ≡ Some e) × (new.history ≡ left.history)) → StopsLater (cond (is_some failed) (Some (position left.history)) None) (stop_of new)
    by_failed None f = tt
    by_failed (Some e) f =
        let now = f e refl in
        ap (λ o. cond (is_some o) (Some (position new.history)) None) now.0 ∙ ap (λ h. Some (position h)) now.1

before : (a b c : ℕ) → a ≤ b → b ≤ c → a ≤ c
before a b c l m = omega arith

module _ {B : Type 0} (state : B → State) (store : Shared B) where
  -- the end of a backend: all its events were allowed, and the last pass has seen them
  pub record EndsAt (new : State) (last : Ticket B) : Type 0 where
    pub ok : all_allowed new.history ≡ true
    pub whole : new.history ≡ history_of state store last
    pub shut : new.failed ≡ closed_of last

-- workers of a store: their sessions with their lines, and their replies; what lines do, and the replies to them. A
-- reply gives any walk of its line over each longer history that is allowed
module _ {B : Type 0} (state : B → State) (store : Shared B) {X V W P A : Type 0} (session_of : X → V) (replies_of : X → W) (lines_of : V → List SessionLine) (AreReplies : V → W → List A → Type 0)
    (does reply : P → List ℕ → ℕ → Procedure A) (next : A → P) (Fits : P → History → Type 0)
    (told : (alone failed : Bool) (all : History) (stop : Option ℕ) (at : ℕ) (old : State) (p : P) (text : List ℕ) (skip : ℕ) (new : State) (y : A) → Fits p old.history → at ≤ position old.history → all_allowed all ≡ true → Begins new.history all → StopsLater (stop_of new) stop → Walks alone failed old (does p text skip) new y → IsGivenOver all stop old new at (reply p text skip) y) where
  record Answers (all : History) (stop : Option ℕ) (from to : ℕ) (p : P) (old new : X) (made : List ℕ) : Type 0 where
    answers : List (LineAnswer A)
    explained : Explained lines_of AreReplies reply next all stop from to p (session_of old) (replies_of new) answers
    makes : numbers_of answers ≡ made

  outcome_explained : (new : State) (start end last : Ticket B) (p : P) (old now : X) (made : List ℕ) → EndsAt state store new last → Knows last end → Outcome state store (λ s t. Executed lines_of AreReplies does next Fits false p (session_of old) s (replies_of now) t) start end made → Answers new.history (stop_of new) (position (history_of state store start)) (position (history_of state store end)) p old now made
  outcome_explained new start end last p old now made ends knows o =
      let begins = subst (λ h. Begins o.left.history h) (sym ends.whole) (begins_trans o.begins (begins_seen state store end last knows.0)) in
      let stop = stops_there o.left new (λ e is.
      let was = o.stops e is in
      let later = knows.1 e was.0 in
      (ends.shut ∙ later.0, ends.whole ∙ ap (λ es. (state store.opened.value).history ▸▸ es) later.1 ∙ was.1)) in
      let did = o.did in
      let t = walked_is_answered does next Fits reply told false new.history (stop_of new) (begun_at state store start) p (lines_of (session_of old)) did.to.turns o.left did.places ends.ok begins stop did.to.walked in
      record {
        answers = t.answers;
        explained = record {
          answered = t.answered;
          within = before (last_in (position (history_of state store start)) t.answers) (position o.left.history) (position (history_of state store end)) t.within (position_begins o.begins);
          replied = subst (AreReplies (session_of old) (replies_of now)) (sym t.ends) did.to.replied;
        };
        makes = sym t.made ∙ o.makes;
      }

  -- sessions whose lines are answered between two positions, with the events of these numbers
  pub record PhaseMade (all : History) (stop : Option ℕ) (from to : ℕ) (p : P) (sessions : List V) (more : List W) (made : List ℕ) : Type 0 where
    pub answers : List (List (LineAnswer A))
    pub explained : AllExplained lines_of AreReplies reply next all stop from to p sessions more answers
    pub makes : all_numbers answers ≡ made

  -- what workers did by the end of their phase is answered over the history of a backend. The last pass has seen this
  -- history to its end
  pub outcomes_explained : (new : State) (start end last : Ticket B) (p : P) (olds news : List X) (made : List ℕ) → EndsAt state store new last → Knows last end → AllOutcomes state store (λ alone old s now t. Executed lines_of AreReplies does next Fits alone p (session_of old) s (replies_of now) t) start end olds news made → PhaseMade new.history (stop_of new) (position (history_of state store start)) (position (history_of state store end)) p (map session_of olds) (map replies_of news) made
  outcomes_explained new start end last p [] [] made ends knows os = record { answers = []; explained = tt; makes = sym os }
  outcomes_explained new start end last p [] (now ∷ news) made ends knows os = absurd os
  outcomes_explained new start end last p (old ∷ olds) [] made ends knows os = absurd os
  outcomes_explained new start end last p (old ∷ olds) (now ∷ news) made ends knows os =
      let one = outcome_explained new start end last p old now os.mine ends knows os.one in
      let rest = outcomes_explained new start end last p olds news os.others ends knows os.rest in
      record {
        answers = one.answers ∷ rest.answers;
        explained = (one.explained, rest.explained);
        makes = ap (λ ns. ns ++ all_numbers rest.answers) one.makes ∙ ap (λ ns. os.mine ++ ns) rest.makes ∙ sym os.all;
      }
