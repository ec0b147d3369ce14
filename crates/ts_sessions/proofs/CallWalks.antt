-- A call of a store is the walk of its procedure, whatever the call returns.
use Rattle.std.proofs.Common.{Bool, true, false, sym, refl, ap, subst, inl, inr}
use Rattle.std.specs.Prelude.{Result, Ok, Err}
use Rattle.ts_schema.specs.declared.memory.NoMemory.{NoMemory}
use Rattle.ts_model.specs.declared.outcomes.Outcome.{Outcome}
use Rattle.ts_model.specs.declared.outcomes.Outcome.TheVariants as outcomes
use Rattle.ts_model.specs.declared.outcomes.Refusal.{Refusal}
use Rattle.ts_model.specs.History.{History, position}
use Rattle.ts_model.specs.States.{State}
use Rattle.ts_model.specs.Calls.{Act, refuses, returns, makes, Answered, Called}
use Rattle.ts_sessions.specs.declared.call_outcomes.Attempt.{Attempt}
use Rattle.ts_sessions.specs.Procedures.{tries, tries_at}
use Rattle.ts_sessions.specs.Sessions.{Tries, result_of, has_failed}
use Rattle.ts_sessions.specs.CallOutcomes.{IsTried, stopped_at}
use Rattle.ts_sessions.specs.Walks.{Walks, Breaks}
use Rattle.ts_sessions.proofs.StateLaws.{kept}

-- ---- at the history that was found

tries_done : {A : Type 0} (alone : Bool) (act : Act A) (found : State) (a : A) (new : State) → Answered act found (outcomes.Done a) new → Walks alone false found (tries_at found.history act) new (Ok a)
tries_done alone (refuses r) found a new w = absurd w
tries_done alone (returns b) found a new w = (refl, kept found new w.1, ap Ok w.0)
tries_done alone (makes e b) found a new w = inr (inl (record { mid = new; first = w.1; rest = (refl, refl, ap Ok w.0) }))

tries_refused : {A : Type 0} (alone : Bool) (act : Act A) (found : State) (q : Refusal) (new : State) → Answered act found (outcomes.Refused q) new → Walks alone false found (tries_at found.history act) new (Err q)
tries_refused alone (refuses r) found q new w = (refl, kept found new w.1, ap Err w.0)
tries_refused alone (returns b) found q new w = absurd w
tries_refused alone (makes e b) found q new w = inl (w.0, (refl, kept found new w.2, ap Err w.1))

tries_failed : {A : Type 0} (alone : Bool) (act : Act A) (found new : State) → Answered act found outcomes.DiskFault new → Walks alone true found (tries_at found.history act) new (Err (stopped_at (position new.history)))
tries_failed alone (refuses r) found new w = absurd w
tries_failed alone (returns b) found new w = absurd w
tries_failed alone (makes e b) found new w = inr (inr (refl, record { mid = new; first = w; rest = (refl, refl, ap (λ h. Err (stopped_at (position h))) w.history) }))

tries_broken : {A : Type 0} (alone : Bool) (act : Act A) (found new : State) → Answered act found outcomes.NoMemory new → Breaks alone found (tries_at found.history act) new
tries_broken alone (refuses r) found new w = kept found new w
tries_broken alone (returns b) found new w = kept found new w
tries_broken alone (makes e b) found new w = inl (kept found new w)

pub answered_tries : {A : Type 0} (alone : Bool) (act : Act A) (found : State) (outcome : Outcome A) (new : State) (result : Result (Attempt A) NoMemory) → Answered act found outcome new → IsTried (position new.history) outcome result → Tries alone found (tries_at found.history act) result new
answered_tries alone act found (outcomes.Done a) new (Ok t) w i = subst (λ x. Walks alone (has_failed x) found (tries_at found.history act) new (result_of x)) (sym i) (tries_done alone act found a new w)
answered_tries alone act found (outcomes.Done a) new (Err e) w i = absurd i
answered_tries alone act found (outcomes.Refused r) new (Ok t) w i = subst (λ x. Walks alone (has_failed x) found (tries_at found.history act) new (result_of x)) (sym i) (tries_refused alone act found r new w)
answered_tries alone act found (outcomes.Refused r) new (Err e) w i = absurd i
answered_tries alone act found outcomes.DiskFault new (Ok t) w i = subst (λ x. Walks alone (has_failed x) found (tries_at found.history act) new (result_of x)) (sym i) (tries_failed alone act found new w)
answered_tries alone act found outcomes.DiskFault new (Err e) w i = absurd i
answered_tries alone act found outcomes.NoMemory new (Ok t) w i = absurd i
answered_tries alone act found outcomes.NoMemory new (Err e) w i = tries_broken alone act found new w

-- ---- over the call

pub called_tries : {A : Type 0} (alone : Bool) (old : State) (act : History → Act A) (outcome : Outcome A) (new : State) (result : Result (Attempt A) NoMemory) → Called alone old act outcome new → IsTried (position new.history) outcome result → Tries alone old (tries act) result new
called_tries alone old act outcome new (Ok t) c i = record { mid = c.found; first = inr c.finds; rest = answered_tries alone (act c.found.history) c.found outcome new (Ok t) c.answered i }
called_tries alone old act outcome new (Err e) c i = record { mid = c.found; first = inr c.finds; rest = answered_tries alone (act c.found.history) c.found outcome new (Err e) c.answered i }

-- ---- the reply to it
