-- Sessions that ran on one store result in what their lines mean over its one history.
use Rattle.std.proofs.Common.{◌≡◌, ℕ, ◌≤◌, Bool, true, false, List, [], ◌∷◌, ◌++◌, map, sym, refl, ap, ◌∙◌, subst}
use Rattle.std.specs.Prelude.{◌||◌, IsPermutation, IsTrue}
use Rattle.std.proofs.lemmas.Bool.{true≢false}
use Rattle.std.specs.List.{list_any}
use Rattle.ts_model.specs.Allowed.{all_allowed}
use Rattle.ts_model.specs.Calls.{Looked}
use Rattle.ts_model.specs.History.{History, ◌▸▸◌, base_position, position, Begins}
use Rattle.ts_model.specs.States.{State, stop_of}
use Rattle.ts_model.proofs.HistoryLaws.{base_begins, base_below, begins_trans, position_begins}
use Rattle.turn_lock.specs.Pass.{seen_of, made_of}
use Rattle.turn_lock.specs.Positions.{positions_between}
use Rattle.turn_lock.proofs.Lists.{prefix_self, prefix_then}
use Rattle.shared_store.specs.Stores.{Shared, Ticket, history_of}
use Rattle.par_workers.specs.Outcomes.{AllOutcomes}
use Rattle.par_workers.specs.Slots.{Knows}
use Rattle.par_workers.proofs.OutcomeLaws.{begins_seen}
use Rattle.ts_sessions.specs.Actors.{HadBegun, TellsReplies}
use Rattle.ts_sessions.specs.Places.{Block, Turn}
use Rattle.ts_sessions.specs.Procedures.{Procedure}
use Rattle.ts_sessions.specs.Script.{SessionScript}
use Rattle.ts_sessions.proofs.TogetherLaws.{none_first}
use Rattle.par_laws.specs.Answered.{LineAnswer}
use Rattle.par_laws.specs.Calls.{Worked, CrewRan, RanOverStore}
use Rattle.par_laws.specs.Laws.{ParallelRunsHaveOneHistory}
use Rattle.par_laws.specs.Parallel.{SessionReplies, AreReplies, lines_in, places_after, SessionExecuted, SessionsRan, RanInParallel}
use Rattle.par_laws.specs.Phases.{AllExplained, all_numbers}
use Rattle.par_laws.proofs.NamedLaws.{explained_named, explained_stop}
use Rattle.par_laws.proofs.NumberLaws.{AreWithin, explained_within}
use Rattle.par_laws.proofs.PartLaws.{three_parts}
use Rattle.par_laws.proofs.PhaseLaws.{EndsAt, outcomes_explained}
use Rattle.turn_lock.proofs.Gathering.{stays_then}

-- if none of several is true, none of the later ones is
none_later : (a b : Bool) → (a || b) ≡ false → b ≡ false
none_later true b e = absurd (true≢false e)
none_later false b e = e

-- an earlier history ends at the base of a history or above
low_from : {g h : History} → Begins g h → base_position h ≤ position g
low_from {g} {h} b = subst (λ n. n ≤ position g) (sym (base_begins b)) (base_below g)

-- ---- what a snapshot leaves of a backend that nobody else uses

pub snapped_same : {P : History → Type 0} (alone : Bool) (old new : State) → IsTrue alone → Looked alone old P new → new ≡ old
snapped_same alone old new is_alone looked =
    let k = looked.keeps in
    let f = looked.found in
    state_same new f k.history k.failed k.faults k.made k.origin ∙ looked.finds.alone_found is_alone
  where
    state_same : (a b : State) → a.history ≡ b.history → a.failed ≡ b.failed → a.faults ≡ b.faults → a.made ≡ b.made → a.origin ≡ b.origin → a ≡ b
    state_same a b h f n m o =
        ap (λ x. record a { history = x }) h ∙ ap (λ x. record a { history = b.history; failed = x }) f
        ∙ ap (λ x. record a { history = b.history; failed = b.failed; faults = x }) n
        ∙ ap (λ x. record a { history = b.history; failed = b.failed; faults = b.faults; made = x }) m
        ∙ ap (λ x. record b { origin = x }) o

-- a snapshot is one of an allowed history, whatever else it reports
pub looked_allowed : {P : History → Type 0} (alone : Bool) (old new : State) → Looked alone old (λ h. IsTrue (all_allowed h) × P h) new → Looked alone old (λ h. IsTrue (all_allowed h)) new
looked_allowed alone old new looked = record { found = looked.found; finds = looked.finds; keeps = looked.keeps; tells = looked.tells.0 }

-- what lines do, and the replies that report it
module _ {P : Type 0} (within : P → Block) (does reply : P → List ℕ → ℕ → Procedure (Turn P)) (p : P) (tells : TellsReplies within does reply)
    {W : Type 0} (session_of : W → SessionScript) (replies_of : W → SessionReplies) (ran_out : W → Bool) {B : Type 0} (state : B → State) (store : Shared B) where
  -- ---- one crew

  -- workers that didn't run out of memory executed all their lines
  executed : (start end : Ticket B) (olds news : List W) (made : List ℕ) → list_any ran_out news ≡ false → AllOutcomes state store (Worked within does p session_of replies_of ran_out) start end olds news made → AllOutcomes state store (λ alone old s new t. SessionExecuted within does p alone (session_of old) s (replies_of new) t) start end olds news made
  executed start end [] [] made none os = os
  executed start end [] (new ∷ news) made none os = os
  executed start end (old ∷ olds) [] made none os = os
  executed start end (old ∷ olds) (new ∷ news) made none os = record {
    mine = os.mine;
    others = os.others;
    one = record {
      left = os.one.left;
      did = os.one.did (none_first (ran_out new) (list_any ran_out news) none);
      begins = os.one.begins;
      stops = os.one.stops;
      makes = os.one.makes;
    };
    rest = executed start end olds news os.others (none_later (ran_out new) (list_any ran_out news) none) os.rest;
    all = os.all;
  }

  -- the results of a crew's sessions over the history of a backend in which all ended, and the numbers of their events
  record CrewExplained (new : State) (start end : Ticket B) (sessions : List SessionScript) (replies : List SessionReplies) (made : List ℕ) : Type 0 where
    answers : List (List (LineAnswer (Turn P)))
    explained : AllExplained lines_in AreReplies reply places_after new.history (stop_of new) (position (history_of state store start)) (position (history_of state store end)) p sessions replies answers
    makes : all_numbers answers ≡ made
    inside : AreWithin (position (history_of state store start)) (position (history_of state store end)) made
    order : position (history_of state store start) ≤ position (history_of state store end)
    low : base_position new.history ≤ position (history_of state store start)

  crew_explained : (new : State) (start end last : Ticket B) (olds news : List W) (sessions : List SessionScript) → EndsAt state store new last → Knows last end → (ran : CrewRan within does p session_of replies_of ran_out state store start end olds news sessions) → CrewExplained new start end sessions (map replies_of news) ran.ran.made
  crew_explained new start end last olds news sessions ends knows ran =
      let phase = outcomes_explained state store session_of replies_of lines_in AreReplies does reply places_after (HadBegun within) tells.answered new start end last p olds news ran.ran.made ends knows (executed start end olds news ran.ran.made ran.sufficed ran.ran.outcomes) in
      let from = position (history_of state store start) in
      let to = position (history_of state store end) in
      record {
        answers = phase.answers;
        explained = subst (λ sessions. AllExplained lines_in AreReplies reply places_after new.history (stop_of new) from to p sessions (map replies_of news) phase.answers) ran.are phase.explained;
        makes = phase.makes;
        inside = subst (AreWithin from to) phase.makes (explained_within reply places_after lines_in AreReplies new.history (stop_of new) from to p (map session_of olds) (map replies_of news) phase.answers phase.explained);
        order = position_begins (begins_seen state store start end ran.begins);
        low = low_from (begins_trans (begins_seen state store start end ran.begins) (subst (λ h. Begins (history_of state store end) h) (sym ends.whole) (begins_seen state store end last knows.0)));
      }

  -- a phase whose crew added the positions between its ends
  sessions_ran : (new : State) (start end : Ticket B) (sessions : List SessionScript) (replies : List SessionReplies) (made : List ℕ) → (c : CrewExplained new start end sessions replies made) → IsPermutation made (positions_between (position (history_of state store start)) (position (history_of state store end))) → SessionsRan reply p new.history (stop_of new) (position (history_of state store start)) (position (history_of state store end)) sessions replies
  sessions_ran new start end sessions replies made c all =
      let from = position (history_of state store start) in
      let to = position (history_of state store end) in
      record {
        phase = record {
          order = c.order;
          answers = c.answers;
          explained = c.explained;
          numbers = subst (λ ns. IsPermutation ns (positions_between from to)) (sym c.makes) all;
        };
        stops = explained_stop reply tells.stops new.history (stop_of new) from to p sessions replies c.answers c.low c.explained;
        named = explained_named reply tells.named new.history (stop_of new) from to p sessions replies c.answers c.low c.explained;
      }

  -- ---- three crews in order

  -- a pass has seen what it has seen
  knows_itself : (pass : Ticket B) → Knows pass pass
  knows_itself pass = (prefix_self (seen_of pass), λ e is. (is, refl))

  pub par_laws : (alone : Bool) (setup others final : List SessionScript) (new : State) (before between after : List SessionReplies) → RanOverStore within does p session_of replies_of ran_out state store alone setup others final new before between after → RanInParallel reply p (state store.opened.value).history setup others final new before between after
  par_laws alone setup others final new before between after r =
      let same = snapped_same alone r.closed new r.is_alone r.looked in
      let opening = (state store.opened.value).history in
      let all = r.closed.history in
      let stop = stop_of r.closed in
      let ends : EndsAt state store r.closed r.last = record {
        ok = subst (λ x. all_allowed x.history ≡ true) (r.looked.finds.alone_found r.is_alone) r.looked.tells;
        whole = r.history;
        shut = r.failed;
      } in
      let one = r.setup_ran in
      let two = r.others_ran in
      let three = r.final_ran in
      let first = crew_explained r.closed r.start r.middle r.last r.setup_old r.setup_new setup ends (prefix_then (seen_of r.middle) (seen_of r.later) (seen_of r.last) two.begins three.begins, stays_then r.last r.later r.middle two.stays three.stays) one in
      let second = crew_explained r.closed r.middle r.later r.last r.others_old r.others_new others ends (three.begins, three.stays) two in
      let third = crew_explained r.closed r.later r.last r.last r.final_old r.final_new final ends (knows_itself r.last) three in
      let from = ap (λ es. position (opening ▸▸ es)) r.start_seen in
      let to = ap position (sym r.history) in
      let p0 = position (history_of state store r.start) in
      let p1 = position (history_of state store r.middle) in
      let p2 = position (history_of state store r.later) in
      let p3 = position (history_of state store r.last) in
      let made = three.ran.all ∙ ap (λ ns. ns ++ three.ran.made) (two.ran.all ∙ ap (λ ns. ns ++ two.ran.made) (one.ran.all ∙ ap (λ ns. ns ++ one.ran.made) r.start_made)) in
      let numbers = subst (λ n. IsPermutation (made_of r.last) (positions_between n p3)) (sym from) (subst (λ n. IsPermutation (made_of r.last) (positions_between (position opening) n)) (sym to) r.made) in
      let parts = three_parts p0 p1 p2 p3 one.ran.made two.ran.made three.ran.made first.order second.order third.order first.inside second.inside third.inside (subst (λ ns. IsPermutation ns (positions_between p0 p3)) made numbers) in
      let begun = begins_trans (begins_seen state store r.start r.middle one.begins) (begins_trans (begins_seen state store r.middle r.later two.begins) (begins_seen state store r.later r.last three.begins)) in
      subst (λ x. RanInParallel reply p opening setup others final x before between after) (sym same)
      (record {
        first = p1;
        second = p2;
        begins = subst (λ h. Begins opening h) (sym r.history) (subst (λ es. Begins (opening ▸▸ es) (history_of state store r.last)) r.start_seen begun);
        setup_ran = subst (λ n. SessionsRan reply p all stop n p1 setup before) from (subst (λ rs. SessionsRan reply p all stop p0 p1 setup rs) r.before_is (sessions_ran r.closed r.start r.middle setup (map replies_of r.setup_new) one.ran.made first parts.first));
        others_ran = subst (λ rs. SessionsRan reply p all stop p1 p2 others rs) r.between_is (sessions_ran r.closed r.middle r.later others (map replies_of r.others_new) two.ran.made second parts.second);
        final_ran = subst (λ n. SessionsRan reply p all stop p2 n final after) to (subst (λ rs. SessionsRan reply p all stop p2 p3 final rs) r.after_is (sessions_ran r.closed r.later r.last final (map replies_of r.final_new) three.ran.made third parts.third));
      })

pub runs_have_one_history : {P W B : Type 0} {alone : Bool} {state : B → State} → ParallelRunsHaveOneHistory P W alone state
runs_have_one_history {P} {W} {B} {alone} {state} within does reply p session_of replies_of ran_out store setup others final new before between after tells r = par_laws within does reply p tells session_of replies_of ran_out state store alone setup others final new before between after r
