-- The effect of a store's calls on its state.
use Rattle.std.proofs.Common.{◌≡◌, ℕ, suc, ◌≤◌, true, List, [], ◌∷◌, ◌++◌, Option, Some, None, refl, sym, ◌∙◌, ap, subst}
use Rattle.std.specs.Prelude.{IsTrue, is_some}
use Rattle.std.proofs.lemmas.Bool.{le-ltb, cond-false, cond-true}
use Rattle.ts_schema.specs.Faults.{Rose}
use Rattle.ts_model.specs.declared.events.Event.{Event}
use Rattle.ts_model.specs.declared.outcomes.Committed.{Committed}
use Rattle.ts_model.specs.declared.outcomes.Outcome.{Outcome}
use Rattle.ts_model.specs.declared.outcomes.Outcome.TheVariants.{Done, DiskFault, NoMemory, Refused}
use Rattle.ts_model.specs.declared.outcomes.Refusal.{Refusal}
use Rattle.ts_model.specs.Allowed.{allowed}
use Rattle.ts_model.specs.Calls.{Act, Answered, Looked, act_of_event, makes, refusal, refuses, returns}
use Rattle.ts_model.specs.Numbers.{stopped, history_full}
use Rattle.ts_model.specs.History.{History, ◌▸◌, position, prefix, same}
use Rattle.ts_model.specs.Timely.{has_room}
use Rattle.ts_model.specs.States.{State, Found, Keeps, Makes, Fails, stands_still}
use Rattle.ts_model.proofs.HistoryLaws.{prefix_further}
use Rattle.event_check.specs.Checks.{call_refusal}
use Rattle.engine_core.specs.Acts.{making_event, unless}
use Rattle.engine_core.specs.Effects.{effect_of}
use Rattle.engine_core.specs.Histories.{history_of, with_event}
use Rattle.engine_core.proofs.ActLaws.{free_where_allowed, room_where_free}
use Rattle.engine_core.proofs.StoreLaws.{kept_by_any, history_push}
use Rattle.ts_store.specs.Stores.{StoreValue, StoreDoes, IsKept, numbers_above, history_seen, state_of}

-- a store that is alone finds what it saw
finds_itself : (s : State) → s.origin.faults ≤ s.faults → (IsTrue (stands_still s) → Rose s.origin.faults s.faults) → Found true s s
finds_itself s counted fell = record {
  alone_found = λ _. refl;
  begins = same;
  still_there = λ _. refl;
  still_failed = λ _. refl;
  made = refl;
  origin = refl;
  counted = counted;
  fell = fell;
}

-- the number after one more event
number_push : (p : ℕ) (h : History) (e : Event) → p ≤ position h → numbers_above p (h ▸ e) ≡ numbers_above p h ++ (suc (position h) ∷ [])
number_push p h e le = cond-false _ [] (numbers_above p h ++ (suc (position h) ∷ [])) (le-ltb (position h) p le)

-- two stores that differ at most in the state of their journal and their room
pub record Same {D : Type 0} (faults : D → ℕ) (old new : StoreValue D) : Type 0 where
  pub past : new.engine.past ≡ old.engine.past
  pub failed : new.failed ≡ old.failed
  pub counted : faults new.journal.disk ≡ faults old.journal.disk
  pub begun : new.begun ≡ old.begun
  pub opened : new.opened ≡ old.opened

module _ {D : Type 0} (bytes : D → Option (List ℕ)) (may_leave : D → List ℕ → Type 0) (moment : D → ℕ) (left_since : D → ℕ → List ℕ → Type 0) (faults : D → ℕ) where
  abbrev Kept : StoreValue D → Type 0
  Kept s = IsKept bytes may_leave moment left_since faults s

  abbrev state : StoreValue D → State
  state s = state_of faults moment s

  -- ---- states

  pub keeps_state : (old new : StoreValue D) → Same faults old new → Keeps (state old) (state new)
  keeps_state old new is = record {
    history = ap history_of is.past;
    failed = is.failed;
    faults = is.counted;
    made = λ k. numbers_above (is.opened k) (history_of (is.past k));
    origin = λ k. record { faults = faults (is.begun k); opening = prefix (history_of (is.past k)) (is.opened k); moment = moment (is.begun k) };
  }

  pub makes_state : (old new : StoreValue D) (e : Event) → Kept old → old.failed ≡ None → new.failed ≡ None → new.engine.past ≡ with_event old.engine.past e
      → faults new.journal.disk ≡ faults old.journal.disk → new.begun ≡ old.begun → new.opened ≡ old.opened → Makes e (state old) (state new)
  makes_state old new e kept going goes with count begun opened =
      let now : history_seen new ≡ (history_seen old ▸ e) = ap history_of with ∙ history_push old.engine.past e in
      let within : old.opened ≤ position (history_seen old) = kept.from in
      record {
        went_on = going;
        history = now;
        failed = goes;
        faults = count;
        made = (λ k. numbers_above (opened k) (now k)) ∙ number_push old.opened (history_seen old) e within;
        origin = (λ k. record { faults = faults (begun k); opening = prefix (now k) (opened k); moment = moment (begun k) })
            ∙ ap (λ (h : History). record { faults = faults old.begun; opening = h; moment = moment old.begun }) (prefix_further (history_seen old) e old.opened within);
      }

  pub fails_state : (old new : StoreValue D) (e : Event) → old.failed ≡ None → new.failed ≡ Some e → new.engine.past ≡ old.engine.past
      → Rose (faults old.journal.disk) (faults new.journal.disk) → new.begun ≡ old.begun → new.opened ≡ old.opened → Fails e (state old) (state new)
  fails_state old new e going failed events rose begun opened = record {
    went_on = going;
    history = ap history_of events;
    failed = failed;
    faults = rose;
    made = λ k. numbers_above (opened k) (history_of (events k));
    origin = λ k. record { faults = faults (begun k); opening = prefix (history_of (events k)) (opened k); moment = moment (begun k) };
  }

  -- ---- calls

  does_of : {A : Type 0} (act : History → Act A) (old new : StoreValue D) (outcome : Outcome A) → Kept old → Answered (act (history_seen old)) (state old) outcome (state new) → StoreDoes faults moment act old outcome new
  does_of act old new outcome kept answered = record { found = state old; finds = finds_itself (state old) kept.counted kept.fell; answered = answered }

  does_by : {A : Type 0} (act : History → Act A) (a : Act A) (old new : StoreValue D) (outcome : Outcome A) → Kept old → act (history_seen old) ≡ a → Answered a (state old) outcome (state new) → StoreDoes faults moment act old outcome new
  does_by act a old new outcome kept is answered = does_of act old new outcome kept (subst (λ x. Answered x (state old) outcome (state new)) (sym is) answered)

  -- no call refuses an event that is allowed
  makes_allowed : (h : History) (e : Event) → allowed h e ≡ true → making_event e h ≡ makes e (effect_of h e)
  makes_allowed h e fits =
      let free = free_where_allowed h e fits in
      ap (λ o. unless o (act_of_event h e (effect_of h e))) free
      ∙ cond-true (has_room h) (makes e (effect_of h e)) (refuses (refusal history_full h 0)) (room_where_free h e free)

  pub does_made : (old new : StoreValue D) (e : Event) (effect : Committed) → Kept old → allowed (history_seen old) e ≡ true → effect ≡ effect_of (history_seen old) e → Makes e (state old) (state new)
      → StoreDoes faults moment (making_event e) old (Done effect) new
  does_made old new e effect kept fits told made = does_by (making_event e) (makes e (effect_of (history_seen old) e)) old new (Done effect) kept (makes_allowed (history_seen old) e fits) (told, made)

  pub does_failed : (old new : StoreValue D) (e : Event) → Kept old → allowed (history_seen old) e ≡ true → Fails e (state old) (state new) → StoreDoes faults moment (making_event e) old DiskFault new
  does_failed old new e kept fits failed = does_by (making_event e) (makes e (effect_of (history_seen old) e)) old new DiskFault kept (makes_allowed (history_seen old) e fits) failed

  pub does_stopped : (old new : StoreValue D) (e : Event) (q : Refusal) → Kept old → allowed (history_seen old) e ≡ true → is_some old.failed ≡ true → q ≡ refusal stopped (history_seen old) 0 → Same faults old new
      → StoreDoes faults moment (making_event e) old (Refused q) new
  does_stopped old new e q kept fits still told is = does_by (making_event e) (makes e (effect_of (history_seen old) e)) old new (Refused q) kept (makes_allowed (history_seen old) e fits) (still, told, keeps_state old new is)

  pub does_refused : (old new : StoreValue D) (e : Event) (r : Refusal) → Kept old → call_refusal (history_seen old) e ≡ Some r → Same faults old new → StoreDoes faults moment (making_event e) old (Refused r) new
  does_refused old new e r kept refused is =
      does_by (making_event e) (refuses r) old new (Refused r) kept (ap (λ o. unless o (act_of_event (history_seen old) e (effect_of (history_seen old) e))) refused) (refl, keeps_state old new is)

  pub does_without_memory : {A : Type 0} (act : History → Act A) (old new : StoreValue D) → Kept old → Same faults old new → StoreDoes faults moment act old NoMemory new
  does_without_memory act old new kept is = does_of act old new NoMemory kept (kept_by_any (act (history_seen old)) (state old) (state new) (keeps_state old new is))

  -- a call returned something, or was refused, and nothing changed
  pub does_say : {A : Type 0} (act : History → Act A) (old new : StoreValue D) (a b : A) → Kept old → act (history_seen old) ≡ returns a → b ≡ a → Same faults old new → StoreDoes faults moment act old (Done b) new
  does_say act old new a b kept is told same_state = does_by act (returns a) old new (Done b) kept is (told, keeps_state old new same_state)

  pub does_refuse : {A : Type 0} (act : History → Act A) (old new : StoreValue D) (r q : Refusal) → Kept old → act (history_seen old) ≡ refuses r → q ≡ r → Same faults old new → StoreDoes faults moment act old (Refused q) new
  does_refuse act old new r q kept is told same_state = does_by act (refuses r) old new (Refused q) kept is (told, keeps_state old new same_state)

  -- what is read if nothing changed
  pub looks : (Tells : History → Type 0) (old new : StoreValue D) → Kept old → Same faults old new → Tells (history_seen old) → Looked true (state old) Tells (state new)
  looks Tells old new kept is told = record { found = state old; finds = finds_itself (state old) kept.counted kept.fell; keeps = keeps_state old new is; tells = told }
