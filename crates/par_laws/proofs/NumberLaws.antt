-- The read positions and events of lines are in order, and lie between the positions at which the lines began and
-- ended.
use Rattle.std.proofs.Common.{ℕ, suc, ◌≤◌, ◌<◌, List, [], ◌∷◌, ◌++◌, Option, Some, None, inl, inr, arith}
use Rattle.std.specs.List.{AllByRecursion}
use Rattle.ts_model.specs.declared.events.Event.{Event}
use Rattle.ts_model.specs.History.{History, prefix}
use Rattle.ts_sessions.specs.Gives.{Gives, AreEvents, numbers, printed_looks}
use Rattle.ts_sessions.specs.Procedures.{Procedure, sees, adds, ends}
use Rattle.ts_sessions.specs.Script.{SessionLine}
use Rattle.ts_sessions.proofs.GivesLaws.{gives_events}
use Rattle.par_laws.specs.Answered.{LineAnswer, looks_of, given_by, numbers_of, last_in, NeverFall, Answered}
use Rattle.par_laws.specs.Laws.{AnswersGiveEvents, LooksNeverFall}
use Rattle.par_laws.specs.Phases.{AllExplained, all_numbers}

-- the numbers of events are after one position and up to another
abbrev pub AreWithin : ℕ → ℕ → List ℕ → Type 0
AreWithin from to ns = AllByRecursion (λ n. (from < n) × (n ≤ to)) ns

-- numbers between two positions, the first of which isn't above the second
record Within (from to : ℕ) (ns : List ℕ) : Type 0 where
  order : from ≤ to
  lie : AreWithin from to ns

within_wider : (a b c d : ℕ) (ns : List ℕ) → c ≤ a → b ≤ d → AreWithin a b ns → AreWithin c d ns
within_wider a b c d [] low high w = tt
within_wider a b c d (n ∷ ns) low high w = ((omega (arith, low, w.0.0), omega (arith, high, w.0.1)), within_wider a b c d ns low high w.1)

within_both : (a b : ℕ) (ns ms : List ℕ) → AreWithin a b ns → AreWithin a b ms → AreWithin a b (ns ++ ms)
within_both a b [] ms v w = w
within_both a b (n ∷ ns) ms v w = (v.0, within_both a b ns ms v.1 w)

-- two parts in order
within_then : (a b c : ℕ) (ns ms : List ℕ) → Within a b ns → Within b c ms → Within a c (ns ++ ms)
within_then a b c ns ms v w = record {
  order = omega (arith, v.order, w.order);
  lie = within_both a c ns ms (within_wider a b a c ns (omega arith) w.order v.lie) (within_wider b c a c ms v.order (omega arith) w.lie);
}

events_within : (all : History) (at last : ℕ) (es : List (ℕ × Event)) → AreEvents all at es last → Within at last (numbers es)
events_within all at last [] es_are = record { order = es_are; lie = tt }
events_within all at last (e ∷ es) es_are =
    let rest = events_within all e.0 last es es_are.2 in
    let up = es_are.0 in
    let on = rest.order in
    record {
      order = omega (arith, up, on);
      lie = ((up, on), within_wider e.0 last at last (numbers es) (omega (arith, up)) (omega arith) rest.lie);
    }

-- ---- events and read positions of lines in order

events_from : (all : History) (a b c : ℕ) (es : List (ℕ × Event)) → a ≤ b → AreEvents all b es c → AreEvents all a es c
events_from all a b c [] le w = omega (arith, le, w)
events_from all a b c (e ∷ es) le w = let up = w.0 in (omega (arith, le, up), w.1, w.2)

events_then : (all : History) (a b c : ℕ) (es fs : List (ℕ × Event)) → AreEvents all a es b → AreEvents all b fs c → AreEvents all a (es ++ fs) c
events_then all a b c [] fs v w = events_from all a b c fs v w
events_then all a b c (e ∷ es) fs v w = (v.0, v.1, events_then all e.0 b c es fs v.2 w)

looks_from : (a b c : ℕ) (ps : List ℕ) → a ≤ b → NeverFall b ps c → NeverFall a ps c
looks_from a b c [] le w = omega (arith, le, w)
looks_from a b c (p ∷ ps) le w = let up = w.0 in (omega (arith, le, up), w.1)

looks_then : (a b c : ℕ) (ps qs : List ℕ) → NeverFall a ps b → NeverFall b qs c → NeverFall a (ps ++ qs) c
looks_then a b c [] qs v w = looks_from a b c qs v w
looks_then a b c (p ∷ ps) qs v w = (v.0, looks_then p b c ps qs v.1 w)

gives_looks : {A : Type 0} (all : History) (stop : Option ℕ) (at : ℕ) (so_far : List (ℕ × Event)) (procedure : Procedure A) (looks : List (Option ℕ)) (last : ℕ) (given : List (ℕ × Event)) (y : A) → Gives all stop at so_far procedure looks last given y → NeverFall at (printed_looks looks) last
gives_looks all stop at so_far (sees shown f) [] last given y g = absurd g
gives_looks all stop at so_far (sees shown f) (None ∷ ps) last given y g = gives_looks all stop at so_far (f all) ps last given y g.1
gives_looks all stop at so_far (sees shown f) (Some p ∷ ps) last given y g = (g.0, gives_looks all stop p so_far (f (prefix all p)) ps last given y g.3)
gives_looks all stop at so_far (adds e next stop_next) ps last given y (inl g) = gives_looks all stop at so_far stop_next ps last given y g.1
gives_looks all stop at so_far (adds e next stop_next) ps last given y (inr g) =
    looks_from at (suc at) last (printed_looks ps) (omega arith) (gives_looks all stop (suc at) (so_far ++ (suc at, e) ∷ []) next ps last given y g.1)
gives_looks all stop at so_far (ends a) [] last given y g = let same = g.0 in omega (arith, same)
gives_looks all stop at so_far (ends a) (p ∷ ps) last given y g = absurd g

module _ {P A : Type 0} (reply : P → List ℕ → ℕ → Procedure A) (next : A → P) where
  answered_within : (all : History) (stop : Option ℕ) (at : ℕ) (p : P) (lines : List SessionLine) (answers : List (LineAnswer A)) → Answered reply next all stop at p lines answers → Within at (last_in at answers) (numbers_of answers)
  answered_within all stop at p [] [] t = record { order = omega arith; lie = tt }
  answered_within all stop at p [] (a ∷ answers) t = absurd t
  answered_within all stop at p (line ∷ lines) [] t = absurd t
  answered_within all stop at p (line ∷ lines) (a ∷ answers) t =
      within_then at a.last (last_in a.last answers) (numbers a.given) (numbers_of answers)
      (events_within all at a.last a.given (gives_events all stop at (reply p line.text line.skip) a.looks a.last a.given a.end t.0))
      (answered_within all stop a.last (next a.end) lines answers t.1)

  events_answered : (all : History) (stop : Option ℕ) (at : ℕ) (p : P) (lines : List SessionLine) (answers : List (LineAnswer A)) → Answered reply next all stop at p lines answers → AreEvents all at (given_by answers) (last_in at answers)
  events_answered all stop at p [] [] t = omega arith
  events_answered all stop at p [] (a ∷ answers) t = absurd t
  events_answered all stop at p (line ∷ lines) [] t = absurd t
  events_answered all stop at p (line ∷ lines) (a ∷ answers) t =
      events_then all at a.last (last_in a.last answers) a.given (given_by answers)
      (gives_events all stop at (reply p line.text line.skip) a.looks a.last a.given a.end t.0)
      (events_answered all stop a.last (next a.end) lines answers t.1)

  looks_answered : (all : History) (stop : Option ℕ) (at : ℕ) (p : P) (lines : List SessionLine) (answers : List (LineAnswer A)) → Answered reply next all stop at p lines answers → NeverFall at (looks_of answers) (last_in at answers)
  looks_answered all stop at p [] [] t = omega arith
  looks_answered all stop at p [] (a ∷ answers) t = absurd t
  looks_answered all stop at p (line ∷ lines) [] t = absurd t
  looks_answered all stop at p (line ∷ lines) (a ∷ answers) t =
      looks_then at a.last (last_in a.last answers) (printed_looks a.looks) (looks_of answers)
      (gives_looks all stop at [] (reply p line.text line.skip) a.looks a.last a.given a.end t.0)
      (looks_answered all stop a.last (next a.end) lines answers t.1)

  -- the numbers of sessions whose lines are answered between two positions
  pub explained_within : {V W : Type 0} (lines_of : V → List SessionLine) (AreReplies : V → W → List A → Type 0) (all : History) (stop : Option ℕ) (from to : ℕ) (p : P) (sessions : List V) (replies : List W) (answers : List (List (LineAnswer A))) → AllExplained lines_of AreReplies reply next all stop from to p sessions replies answers → AreWithin from to (all_numbers answers)
  explained_within lines_of AreReplies all stop from to p [] [] [] x = tt
  explained_within lines_of AreReplies all stop from to p [] [] (a ∷ answers) x = absurd x
  explained_within lines_of AreReplies all stop from to p [] (r ∷ replies) answers x = absurd x
  explained_within lines_of AreReplies all stop from to p (v ∷ sessions) [] answers x = absurd x
  explained_within lines_of AreReplies all stop from to p (v ∷ sessions) (r ∷ replies) [] x = absurd x
  explained_within lines_of AreReplies all stop from to p (v ∷ sessions) (r ∷ replies) (a ∷ answers) x =
      let one = answered_within all stop from p (lines_of v) a x.0.answered in
      within_both from to (numbers_of a) (all_numbers answers)
      (within_wider from (last_in from a) from to (numbers_of a) (omega arith) x.0.within one.lie)
      (explained_within lines_of AreReplies all stop from to p sessions replies answers x.1)

pub answers_give_events : {P A : Type 0} → AnswersGiveEvents P A
answers_give_events reply next all stop at p lines answers t = events_answered reply next all stop at p lines answers t

pub looks_never_fall : {P A : Type 0} → LooksNeverFall P A
looks_never_fall reply next all stop at p lines answers t = looks_answered reply next all stop at p lines answers t
