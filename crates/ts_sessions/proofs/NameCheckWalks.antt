-- Reads by calls that only read, and snapshots for refreshes.
use Rattle.std.proofs.Common.{◌≡◌, ℕ, ◌<◌, ◌^◌, Bool, true, false, sym, refl, ap, ◌∙◌, arith}
use Rattle.std.specs.Prelude.{Result, Ok, Err}
use Rattle.ts_schema.specs.declared.memory.NoMemory.{NoMemory}
use Rattle.ts_schema.specs.Counts.{raised_by}
use Rattle.ts_model.specs.declared.refreshes.Pending.TheVariants.{Waiting, Finished, Unknown}
use Rattle.ts_model.specs.History.{History, position}
use Rattle.ts_model.specs.States.{State}
use Rattle.ts_model.specs.Pending.{pending}
use Rattle.ts_model.specs.Calls.{Looked}
use Rattle.ts_model.specs.Numbers.{no_refresh}
use Rattle.ts_model.specs.Reads.{job_reads}
use Rattle.ts_sessions.specs.declared.refreshes.SnapOutcome.{SnapOutcome}
use Rattle.ts_sessions.specs.declared.refreshes.SnapOutcome.TheVariants as snapped
use Rattle.ts_sessions.specs.Procedures.{Procedure, sees, ends}
use Rattle.ts_sessions.specs.Sessions.{IsTakenAs, SnapEnds, TakenAs, read_by, taken_as}
use Rattle.ts_sessions.specs.Step.{snapshot_taken, taken_of}
use Rattle.ts_sessions.specs.Walks.{Walks, Breaks}
use Rattle.ts_sessions.proofs.StateLaws.{sees_looked}
use Rattle.ts_sessions.proofs.WalkLaws.{not_begun}

-- a read by a call that only reads, and the rest of the procedure
pub looked_walks : {A : Type 0} (alone failed : Bool) (old : State) (Reports : History → Type 0) (mid : State) (shown : History → Bool) (f : History → Procedure A) (new : State) (y : A) → Looked alone old Reports mid → Walks alone failed mid (f mid.history) new y → Walks alone failed old (sees shown f) new y
looked_walks alone failed old Reports mid shown f new y l w = record { mid = mid; first = sees_looked alone old Reports mid l; rest = w }

pub looked_breaks : {A : Type 0} (alone : Bool) (old : State) (Reports : History → Type 0) (mid : State) (shown : History → Bool) (f : History → Procedure A) (new : State) → Looked alone old Reports mid → Breaks alone mid (f mid.history) new → Breaks alone old (sees shown f) new
looked_breaks alone old Reports mid shown f new l b = record { mid = mid; first = sees_looked alone old Reports mid l; rest = b }

-- a read after which nothing follows
pub looked_only : {A : Type 0} (alone : Bool) (old : State) (Reports : History → Type 0) (mid : State) (shown : History → Bool) (f : History → Procedure A) → Looked alone old Reports mid → Breaks alone old (sees shown f) mid
looked_only alone old Reports mid shown f l = looked_breaks alone old Reports mid shown f mid l (not_begun alone mid (f mid.history))

-- a count that nothing raised
pub unraised : (n : ℕ) → n < 2 ^ 64 → n ≡ raised_by 0 n
unraised n short = omega arith

-- ---- snapshots for refreshes

pub looked_snaps : {J : Type 0} (alone : Bool) (old : State) (Reports : History → Type 0) (new : State) (c : ℕ) (result : Result (SnapOutcome J) NoMemory) (before after : ℕ) → Looked alone old Reports new → TakenAs new.history c result before after → SnapEnds alone old c result new before after
looked_snaps alone old Reports new c (Ok s) before after l k = record {
  read = k.read;
  walks = looked_walks alone false old Reports new (λ h. true) (λ h. ends (snapshot_taken c h)) new (taken_as k.read s) l (refl, refl, k.is);
  counted = k.counted;
}
looked_snaps alone old Reports new c (Err e) before after l k = (looked_only alone old Reports new (λ h. true) (λ h. ends (snapshot_taken c h)) l, k)

pub taken_waiting : {J : Type 0} (h : History) (c n at : ℕ) (job : J) (before after : ℕ) → pending h c ≡ Waiting n → at ≡ position h → after ≡ raised_by (job_reads h c) before → IsTakenAs h c (snapped.Taken at job) before after
taken_waiting h c n at job before after w p counted = record {
  read = job_reads h c;
  is = ap (λ x. Ok (record { at = x; reads = job_reads h c })) p ∙ sym (ap (taken_of h c) w);
  counted = counted;
}

pub taken_finished : {J : Type 0} (h : History) (c f pos : ℕ) (before : ℕ) → pending h c ≡ Finished f → pos ≡ position h → before < 2 ^ 64 → IsTakenAs {J = J} h c (snapped.Refused (record { code = no_refresh; pos = pos; mark = f })) before before
taken_finished h c f pos before w p short = record {
  read = 0;
  is = ap (λ x. Err (record { code = no_refresh; pos = x; mark = f })) p ∙ sym (ap (taken_of h c) w);
  counted = unraised before short;
}

pub taken_unknown : {J : Type 0} (h : History) (c pos : ℕ) (before : ℕ) → pending h c ≡ Unknown → pos ≡ position h → before < 2 ^ 64 → IsTakenAs {J = J} h c (snapped.Refused (record { code = no_refresh; pos = pos; mark = 0 })) before before
taken_unknown h c pos before w p short = record {
  read = 0;
  is = ap (λ x. Err (record { code = no_refresh; pos = x; mark = 0 })) p ∙ sym (ap (taken_of h c) w);
  counted = unraised before short;
}
