-- The effect of a call of a store that is alone.
use Rattle.std.proofs.Common.{◌≡◌, true, Some, None, sym, refl, ap, ◌∙◌, subst, arith}
use Rattle.std.proofs.lemmas.Bool.{true≢false, cond-true}
use Rattle.ts_model.specs.declared.events.Event.{Event}
use Rattle.ts_model.specs.declared.outcomes.Committed.{Committed}
use Rattle.ts_model.specs.declared.outcomes.Outcome.{Outcome}
use Rattle.ts_model.specs.declared.outcomes.Outcome.TheVariants.{Done, DiskFault, NoMemory, Refused}
use Rattle.ts_model.specs.declared.outcomes.Refusal.{Refusal}
use Rattle.ts_model.specs.History.{History, ◌▸◌, same}
use Rattle.ts_model.specs.States.{State, Found, Keeps, Makes}
use Rattle.ts_model.specs.Calls.{Act, refusal, makes, act_of_event, refuses, returns, Answered, Called, Looked}
use Rattle.ts_model.specs.Numbers.{history_full}
use Rattle.ts_model.specs.Timely.{has_room}
use Rattle.ts_model.proofs.HistoryLaws.{followed_push}
use Rattle.engine_core.proofs.ActLaws.{room_where_free}
use Rattle.event_check.specs.Checks.{call_refusal}
use Rattle.engine_core.specs.Acts.{unless, making_event, with_answer, outcome_as}
use Rattle.engine_core.specs.Effects.{effect_of}
use Rattle.engine_core.specs.Histories.{begun_by, history_of, with_event}
use Rattle.engine_core.specs.Values.{Past}
use Rattle.engine_core.specs.Stores.{EngineDoes, state_of}

pub history_push : (past : Past) (e : Event) → history_of (with_event past e) ≡ (history_of past ▸ e)
history_push past e = followed_push (begun_by past.base) past.events e

-- nothing changed
keeps_all : (s : State) → Keeps s s
keeps_all s = record { history = refl; failed = refl; faults = refl; made = refl; origin = refl }

-- an event was appended
makes_event : (h : History) (e : Event) → Makes e (state_of h) (state_of (h ▸ e))
makes_event h e = record { went_on = refl; history = refl; failed = refl; faults = refl; made = refl; origin = refl }

-- a store that is alone finds what it saw
finds_seen : (h : History) → Found true (state_of h) (state_of h)
finds_seen h = record {
  alone_found = λ _. refl;
  begins = same;
  still_there = λ _. refl;
  still_failed = λ _. refl;
  made = refl;
  origin = refl;
  counted = omega arith;
  fell = λ failed. absurd (true≢false (sym failed));
}

called_where_seen : {A : Type 0} (act : History → Act A) (h : History) (outcome : Outcome A) (new : State) → Answered (act h) (state_of h) outcome new → Called true (state_of h) act outcome new
called_where_seen act h outcome new answered = record { found = state_of h; finds = finds_seen h; answered = answered }

-- ---- what a call does

-- an event was appended, and its effect returned
pub does_made : (old new : Past) (e : Event) (effect : Committed) → call_refusal (history_of old) e ≡ None → new ≡ with_event old e → effect ≡ effect_of (history_of old) e → EngineDoes (making_event e) old (Done effect) new
does_made old new e effect free with told =
    let h = history_of old in
    let new_is : history_of new ≡ (history_of old ▸ e) = ap history_of with ∙ history_push old e in
    let act_is : making_event e (history_of old) ≡ makes e (effect_of (history_of old) e) = ap (λ o. unless o (act_of_event (history_of old) e (effect_of (history_of old) e))) free ∙ cond-true (has_room (history_of old)) (makes e (effect_of (history_of old) e)) (refuses (refusal history_full (history_of old) 0)) (room_where_free (history_of old) e free) in
    let made : Answered (makes e (effect_of (history_of old) e)) (state_of (history_of old)) (Done effect) (state_of (history_of new)) =
    (told, subst (λ g. Makes e (state_of (history_of old)) (state_of g)) (sym new_is) (makes_event (history_of old) e)) in
    called_where_seen (making_event e) h (Done effect) (state_of (history_of new)) (subst (λ a. Answered a (state_of (history_of old)) (Done effect) (state_of (history_of new))) (sym act_is) made)

-- a call was refused, and nothing changed
pub does_refuse : {A : Type 0} (act : History → Act A) (old : Past) (r q : Refusal) → act (history_of old) ≡ refuses r → q ≡ r → EngineDoes act old (Refused q) old
does_refuse act old r q is told =
    called_where_seen act (history_of old) (Refused q) (state_of (history_of old)) (subst (λ a. Answered a (state_of (history_of old)) (Refused q) (state_of (history_of old))) (sym is) (told, keeps_all (state_of (history_of old))))

-- an event was refused
pub does_refused : (old new : Past) (e : Event) (r : Refusal) → call_refusal (history_of old) e ≡ Some r → new ≡ old → EngineDoes (making_event e) old (Refused r) new
does_refused old new e r refused kept =
    let act_is : making_event e (history_of old) ≡ refuses r = ap (λ o. unless o (act_of_event (history_of old) e (effect_of (history_of old) e))) refused in
    subst (λ past. EngineDoes (making_event e) old (Refused r) past) (sym kept) (does_refuse (making_event e) old r r act_is refl)

-- memory ran out, and nothing changed
pub kept_by_any : {A : Type 0} (a : Act A) (old new : State) → Keeps old new → Answered a old NoMemory new
kept_by_any (refuses r) old new keeps = keeps
kept_by_any (returns x) old new keeps = keeps
kept_by_any (makes e x) old new keeps = keeps

pub does_without_memory : {A : Type 0} (act : History → Act A) (old new : Past) → new ≡ old → EngineDoes act old NoMemory new
does_without_memory act old new kept =
    subst (λ past. EngineDoes act old NoMemory past) (sym kept) (called_where_seen act (history_of old) NoMemory (state_of (history_of old)) (kept_by_any (act (history_of old)) (state_of (history_of old)) (state_of (history_of old)) (keeps_all (state_of (history_of old)))))

-- a call returned something, and nothing changed
pub does_return : {A : Type 0} (act : History → Act A) (old : Past) (a b : A) → act (history_of old) ≡ returns a → b ≡ a → EngineDoes act old (Done b) old
does_return act old a b is told =
    called_where_seen act (history_of old) (Done b) (state_of (history_of old)) (subst (λ x. Answered x (state_of (history_of old)) (Done b) (state_of (history_of old))) (sym is) (told, keeps_all (state_of (history_of old))))

-- ---- the same call, with another answer

answered_as : {A B : Type 0} (f : A → B) (a : Act A) (found : State) (outcome : Outcome A) (new : State) → Answered a found outcome new → Answered (with_answer f a) found (outcome_as f outcome) new
answered_as f (refuses r) found (Done b) new x = x
answered_as f (refuses r) found (Refused q) new x = x
answered_as f (refuses r) found DiskFault new x = x
answered_as f (refuses r) found NoMemory new x = x
answered_as f (returns a) found (Done b) new x = (ap f x.0, x.1)
answered_as f (returns a) found (Refused q) new x = x
answered_as f (returns a) found DiskFault new x = x
answered_as f (returns a) found NoMemory new x = x
answered_as f (makes e a) found (Done b) new x = (ap f x.0, x.1)
answered_as f (makes e a) found (Refused q) new x = x
answered_as f (makes e a) found DiskFault new x = x
answered_as f (makes e a) found NoMemory new x = x

pub called_as : {A B : Type 0} (f : A → B) (act : History → Act A) (other : History → Act B) (old : State) (outcome : Outcome A) (new : State) → other old.history ≡ with_answer f (act old.history) → Called true old act outcome new → Called true old other (outcome_as f outcome) new
called_as f act other old outcome new is called =
    let found_is : called.found ≡ old = called.finds.alone_found refl in
    let same_act : other called.found.history ≡ with_answer f (act called.found.history) = subst (λ s. other s.history ≡ with_answer f (act s.history)) (sym found_is) is in
    record {
      found = called.found;
      finds = called.finds;
      answered = subst (λ a. Answered a called.found (outcome_as f outcome) new) (sym same_act) (answered_as f (act called.found.history) called.found outcome new called.answered);
    }

pub does_as : {A B : Type 0} (f : A → B) (act : History → Act A) (other : History → Act B) (old : Past) (outcome : Outcome A) (new : Past) → other (history_of old) ≡ with_answer f (act (history_of old)) → EngineDoes act old outcome new → EngineDoes other old (outcome_as f outcome) new
does_as f act other old outcome new is does = called_as f act other (state_of (history_of old)) outcome (state_of (history_of new)) is does

-- what is read if nothing changed
pub looked_where_seen : (Tells : History → Type 0) (h : History) → Tells h → Looked true (state_of h) Tells (state_of h)
looked_where_seen Tells h told = record { found = state_of h; finds = finds_seen h; keeps = keeps_all (state_of h); tells = told }
