-- Lines that were walked in order are answered over each longer history.
use Rattle.std.proofs.Common.{◌≡◌, ℕ, ◌≤◌, Bool, true, List, [], ◌∷◌, ◌++◌, append_assoc, append-nil, Option, sym, refl, ap, ◌∙◌, subst, arith}
use Rattle.std.specs.Prelude.{IsTrue}
use Rattle.ts_model.specs.History.{History, position, Begins}
use Rattle.ts_model.specs.States.{State, stands_still, stop_of}
use Rattle.ts_model.specs.Allowed.{all_allowed}
use Rattle.ts_model.proofs.AllowedLaws.{allowed_begins}
use Rattle.ts_model.proofs.HistoryLaws.{begins_trans}
use Rattle.ts_sessions.specs.Actors.{IsGivenOver}
use Rattle.ts_sessions.specs.Procedures.{Procedure}
use Rattle.ts_sessions.specs.Gives.{StopsLater, numbers}
use Rattle.ts_sessions.specs.Held.{GoesOn}
use Rattle.ts_sessions.specs.Script.{SessionLine}
use Rattle.ts_sessions.specs.Walks.{Walks}
use Rattle.ts_sessions.proofs.StateLaws.{goes_same, goes_trans}
use Rattle.ts_sessions.proofs.WalkLaws.{goes_walks}
use Rattle.ts_sessions.proofs.GivenWalks.{given_over, history_stays}
use Rattle.ts_sessions.proofs.TogetherLaws.{stops_on}
use Rattle.par_laws.specs.Walked.{WalkedOne, Walked}
use Rattle.par_laws.specs.Laws.{AreSteady, WalkedLinesAreAnswered}
use Rattle.par_laws.specs.Answered.{LineAnswer, ends_of, numbers_of, last_in, Answered, IsAnswered}

module _ {P A : Type 0} (does : P → List ℕ → ℕ → Procedure A) (next : A → P) (Fits : P → History → Type 0) where
  -- ---- a walk of lines continues from the state at which it began

  pub goes_walked : (alone : Bool) (s : State) (p : P) (lines : List SessionLine) (ys : List A) (new : State) (q : P) → Walked does next Fits alone s p lines ys new q → GoesOn s new
  goes_walked alone s p [] [] new q w = goes_same s new w.0
  goes_walked alone s p [] (y ∷ ys) new q w = absurd w
  goes_walked alone s p (line ∷ lines) [] new q w = absurd w
  goes_walked alone s p (line ∷ lines) (y ∷ ys) new q w =
      goes_trans s w.mid new
      (goes_walks alone w.first.failed s (does p line.text line.skip) w.mid y w.first.walks)
      (goes_walked alone w.mid (next y) lines ys new q w.rest)

  walked_stays : (alone : Bool) (s : State) (p : P) (lines : List SessionLine) (ys : List A) (new : State) (q : P) → IsTrue (stands_still s) → Walked does next Fits alone s p lines ys new q → new.history ≡ s.history
  walked_stays alone s p [] [] new q still w = ap (λ x. x.history) w.0
  walked_stays alone s p [] (y ∷ ys) new q still w = absurd w
  walked_stays alone s p (line ∷ lines) [] new q still w = absurd w
  walked_stays alone s p (line ∷ lines) (y ∷ ys) new q still w =
      walked_stays alone w.mid (next y) lines ys new q ((goes_walks alone w.first.failed s (does p line.text line.skip) w.mid y w.first.walks).still still) w.rest
      ∙ history_stays alone w.first.failed s (does p line.text line.skip) w.mid y still w.first.walks

  -- ---- one line more

  pub walked_more : (alone : Bool) (s : State) (p : P) (lines : List SessionLine) (ys : List A) (mid : State) (q : P) (line : SessionLine) (y : A) (new : State) → Walked does next Fits alone s p lines ys mid q → WalkedOne does next Fits alone mid q line y new → Walked does next Fits alone s p (lines ++ line ∷ []) (ys ++ y ∷ []) new (next y)
  walked_more alone s p [] [] mid q line y new w one = record {
    mid = new;
    first = subst (λ x. WalkedOne does next Fits alone s x line y new) w.1 (subst (λ x. WalkedOne does next Fits alone x q line y new) w.0 one);
    rest = (refl, refl);
  }
  walked_more alone s p [] (z ∷ ys) mid q line y new w one = absurd w
  walked_more alone s p (l ∷ lines) [] mid q line y new w one = absurd w
  walked_more alone s p (l ∷ lines) (z ∷ ys) mid q line y new w one = record {
    mid = w.mid;
    first = w.first;
    rest = walked_more alone w.mid (next z) lines ys mid q line y new w.rest one;
  }

  -- ---- answered lines

  -- replies, which give any walk of a line over each longer history that is allowed
  module _ (reply : P → List ℕ → ℕ → Procedure A)
      (told : (alone failed : Bool) (all : History) (stop : Option ℕ) (at : ℕ) (old : State) (p : P) (text : List ℕ) (skip : ℕ) (new : State) (y : A) → Fits p old.history → at ≤ position old.history → all_allowed all ≡ true → Begins new.history all → StopsLater (stop_of new) stop → Walks alone failed old (does p text skip) new y → IsGivenOver all stop old new at (reply p text skip) y) where
    -- the same for a session that had last read at a position
    record AnsweredFrom (all : History) (later : Option ℕ) (at : ℕ) (s new : State) (p : P) (lines : List SessionLine) (ys : List A) : Type 0 where
      answers : List (LineAnswer A)
      answered : Answered reply next all later at p lines answers
      ends : ends_of answers ≡ ys
      made : new.made ≡ s.made ++ numbers_of answers
      within : last_in at answers ≤ position new.history

    answered_from : (alone : Bool) (all : History) (later : Option ℕ) (at : ℕ) (s : State) (p : P) (lines : List SessionLine) (ys : List A) (new : State) (q : P) → at ≤ position s.history → all_allowed all ≡ true → Begins new.history all → StopsLater (stop_of new) later → Walked does next Fits alone s p lines ys new q → AnsweredFrom all later at s new p lines ys
    answered_from alone all later at s p [] [] new q le ok on stop w = record {
      answers = [];
      answered = tt;
      ends = refl;
      made = ap (λ x. x.made) w.0 ∙ sym (append-nil s.made);
      within = subst (λ x. at ≤ position x.history) (sym w.0) le;
    }
    answered_from alone all later at s p [] (y ∷ ys) new q le ok on stop w = absurd w
    answered_from alone all later at s p (line ∷ lines) [] new q le ok on stop w = absurd w
    answered_from alone all later at s p (line ∷ lines) (y ∷ ys) new q le ok on stop w =
        let mid = w.mid in
        let goes = goes_walked alone mid (next y) lines ys new q w.rest in
        let halt = stops_on mid new later goes (λ still. walked_stays alone mid (next y) lines ys new q still w.rest) stop in
        let one = told alone w.first.failed all later at s p line.text line.skip mid y w.first.fits le ok (begins_trans goes.begins on) halt w.first.walks in
        let rest = answered_from alone all later one.last mid (next y) lines ys new q one.within ok on stop w.rest in
        record {
          answers = record { looks = one.looks; last = one.last; given = one.given; end = y } ∷ rest.answers;
          answered = (one.gives, rest.answered);
          ends = ap (λ es. y ∷ es) rest.ends;
          made = rest.made ∙ ap (λ m. m ++ numbers_of rest.answers) one.made ∙ append_assoc s.made (numbers one.given) (numbers_of rest.answers);
          within = rest.within;
        }

    pub walked_is_answered : (alone : Bool) (all : History) (later : Option ℕ) (s : State) (p : P) (lines : List SessionLine) (ys : List A) (new : State) (q : P) → all_allowed all ≡ true → Begins new.history all → StopsLater (stop_of new) later → Walked does next Fits alone s p lines ys new q → IsAnswered reply next all later s new p lines ys
    walked_is_answered alone all later s p lines ys new q ok on stop w =
        let t = answered_from alone all later (position s.history) s p lines ys new q at_end ok on stop w in
        record { answers = t.answers; answered = t.answered; ends = t.ends; made = t.made; within = t.within }
      where
        at_end : position s.history ≤ position s.history
        at_end = omega arith

pub walked_lines_are_answered : {P A : Type 0} → WalkedLinesAreAnswered P A
walked_lines_are_answered {P} {A} does reply next alone all later s p lines ys new q replies ok on stop w =
    walked_is_answered does next (AreSteady reply) reply
    (λ alone failed all stop at old p text skip new y steady le ok on st v. given_over alone failed all stop at old (reply p text skip) new y (steady text skip) le on st (replies alone failed old p text skip new y (allowed_begins on ok) v))
    alone all later s p lines ys new q ok on stop w
