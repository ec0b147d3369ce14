-- Laws of calls: the history after a call begins with the one seen; a store that is alone finds what it saw; a
-- stopped store stays stopped.
use Rattle.std.specs.Prelude.{Bool, true}
use Rattle.std.proofs.Common.{sym, refl, subst}
use Rattle.ts_model.specs.declared.outcomes.Outcome.{Outcome}
use Rattle.ts_model.specs.declared.outcomes.Outcome.TheVariants.{Done, Refused, DiskFault, NoMemory}
use Rattle.ts_model.specs.History.{History, Begins, same, further}
use Rattle.ts_model.specs.States.{State, Keeps}
use Rattle.ts_model.specs.Calls.{Act, refuses, returns, makes, Answered, Called, Looked}
use Rattle.ts_model.proofs.HistoryLaws.{begins_trans}

-- the history after a call is the one that it found, or that with one event
begins_kept : {found new : State} → Keeps found new → Begins found.history new.history
begins_kept {found = found} k = subst (λ g. Begins found.history g) (sym k.history) same

pub begins_answered : {A : Type 0} (act : Act A) (found : State) (outcome : Outcome A) (new : State) → Answered act found outcome new → Begins found.history new.history
begins_answered (refuses r) found (Done a) new w = absurd w
begins_answered (refuses r) found (Refused q) new w = begins_kept w.1
begins_answered (refuses r) found DiskFault new w = absurd w
begins_answered (refuses r) found NoMemory new w = begins_kept w
begins_answered (returns a) found (Done b) new w = begins_kept w.1
begins_answered (returns a) found (Refused q) new w = absurd w
begins_answered (returns a) found DiskFault new w = absurd w
begins_answered (returns a) found NoMemory new w = begins_kept w
begins_answered (makes e a) found (Done b) new w = subst (λ g. Begins found.history g) (sym w.1.history) (further same)
begins_answered (makes e a) found (Refused q) new w = begins_kept w.2
begins_answered (makes e a) found DiskFault new w = subst (λ g. Begins found.history g) (sym w.history) same
begins_answered (makes e a) found NoMemory new w = begins_kept w

-- the history after a call begins with the one seen before
pub begins_called : {A : Type 0} {alone : Bool} {old : State} {act : History → Act A} {outcome : Outcome A} {new : State} → Called alone old act outcome new → Begins old.history new.history
begins_called {act = act} {outcome = outcome} {new = new} c = begins_trans c.finds.begins (begins_answered (act c.found.history) c.found outcome new c.answered)

pub begins_looked : {alone : Bool} {old : State} {Tells : History → Type 0} {new : State} → Looked alone old Tells new → Begins old.history new.history
begins_looked c = begins_trans c.finds.begins (begins_kept c.keeps)

-- a store that is alone answers at the history seen
pub answered_alone : {A : Type 0} {act : History → Act A} {old : State} {outcome : Outcome A} {new : State} → Called true old act outcome new → Answered (act old.history) old outcome new
answered_alone {act = act} {outcome = outcome} {new = new} c = subst (λ s. Answered (act s.history) s outcome new) (c.finds.alone_found refl) c.answered
