-- Policies that are added, and those that a tick marks.
use Rattle.std.proofs.Common.{◌≡◌, ℕ, suc, ◌<◌, ◌^◌, ℤ, Bool, true, false, List, [], ◌∷◌, ◌++◌, length, Option, Some, None, sym, refl, subst}
use Rattle.std.specs.Prelude.{◌&&◌, not, nat_le}
use Rattle.std.proofs.lemmas.Bool.{and_parts, true≢false}
use Rattle.ts_model.specs.declared.outcomes.Refusal.{Refusal}
use Rattle.ts_model.specs.declared.rosters.Roster.{Roster}
use Rattle.ts_model.specs.History.{History, position}
use Rattle.ts_model.specs.Roster.{roster}
use Rattle.ts_model.specs.States.{State}
use Rattle.stmt_check.specs.Refusals.{◌⊳◌, marked_refusal, refusal_if}
use Rattle.ts_model.specs.Numbers.{bad_policy, too_many_policies}
use Rattle.result_text.specs.declared.replies.Said.TheVariants as said
use Rattle.ts_sessions.specs.Procedures.{ends}
use Rattle.ts_sessions.specs.Sessions.{AnswersSo, IfAnswered, Reports, Stepped}
use Rattle.ts_sessions.specs.declared.replies.StepEnd.{StepEnd}
use Rattle.ts_sessions.specs.declared.replies.StepEnd.TheVariants as steps
use Rattle.policy_jobs.specs.Adding.{AreKept, adding_refusal, fits_step, has_offsets, is_interval, most_policies, relation_refusal}
use Rattle.policy_jobs.specs.Policies.{policies_after_tick}
use Rattle.policy_jobs.specs.Turns.{PolicyPlaces, turn_of_adding}
use Rattle.policy_jobs.specs.declared.jobs.Job.{Job}
use Rattle.policy_jobs.specs.declared.policies.Policy.{Policy}
use Rattle.policy_jobs.proofs.TurnLaws.{line_stepped}

-- ---- refusals

-- a snapshot refuses a policy exactly as its history does
pub adding_at : (h : History) (pos : ℕ) (r : Roster) (many : ℕ) (job : Job) (every : ℤ) (o : Option Refusal) → pos ≡ position h → r ≡ roster h → o ≡ adding_refusal pos r many job every → adding_refusal (position h) (roster h) many job every ≡ o
adding_at h pos r many job every o at same e =
    subst (λ x. adding_refusal x (roster h) many job every ≡ o) at (subst (λ x. adding_refusal pos x many job every ≡ o) same (sym e))

second_none : (a b : Option Refusal) → (a ⊳ b) ≡ None → b ≡ None
second_none None b e = e
second_none (Some r) b e = absurd cc

first_none : (a b : Option Refusal) → (a ⊳ b) ≡ None → a ≡ None
first_none None b e = refl
first_none (Some r) b e = absurd cc

not_wrong : (at code : ℕ) (b : Bool) → refusal_if at code (not b) ≡ None → b ≡ true
not_wrong at code true e = refl
not_wrong at code false e = absurd cc

-- the numbers of a policy that passed are within bounds
numbers_passed : (at : ℕ) (r : Roster) (many : ℕ) (job : Job) (every : ℤ) → adding_refusal at r many job every ≡ None → (has_offsets job ≡ true) × (is_interval every ≡ true)
numbers_passed at r many job every e =
    let wrong = refusal_if at bad_policy (not (has_offsets job && is_interval every && fits_step r job)) in
    let full = marked_refusal at too_many_policies (suc most_policies) (nat_le most_policies many) in
    let passed = first_none wrong full (second_none (relation_refusal at r job) (wrong ⊳ full) e) in
    let good = not_wrong at bad_policy (has_offsets job && is_interval every && fits_step r job) passed in
    and_parts (has_offsets job) (is_interval every) (and_parts (has_offsets job && is_interval every) (fits_step r job) good).0

pub offsets_passed : (at : ℕ) (r : Roster) (many : ℕ) (job : Job) (every : ℤ) → adding_refusal at r many job every ≡ None → has_offsets job ≡ true
offsets_passed at r many job every e = (numbers_passed at r many job every e).0

pub interval_passed : (at : ℕ) (r : Roster) (many : ℕ) (job : Job) (every : ℤ) → adding_refusal at r many job every ≡ None → is_interval every ≡ true
interval_passed at r many job every e = (numbers_passed at r many job every e).1

-- ---- policies that are kept

pub kept_push : (ps : List Policy) (p : Policy) → AreKept ps → has_offsets p.job ≡ true → AreKept (ps ++ p ∷ [])
kept_push [] p k e = (e, tt)
kept_push (q ∷ qs) p k e = (k.0, kept_push qs p k.1 e)

pub kept_ticked : (now : ℤ) (ps : List Policy) → AreKept ps → AreKept (policies_after_tick now ps)
kept_ticked now [] k = tt
kept_ticked now (p ∷ ps) k = (k.0, kept_ticked now ps k.1)

-- ---- replies

pub if_answered : (end : StepEnd) (X Y : Type 0) → (X → Y) → IfAnswered end X → IfAnswered end Y
if_answered (steps.Reply r) X Y f x = f x
if_answered (steps.DiskFault r) X Y f x = f x
if_answered steps.NoMemory X Y f x = tt

pub always : (end : StepEnd) (X : Type 0) → X → IfAnswered end X
always (steps.Reply r) X x = x
always (steps.DiskFault r) X x = x
always steps.NoMemory X x = tt

-- a policy was added if no check refuses it
pub added_stepped : {P : Type 0} (alone : Bool) (s : State) (name : List ℕ) (p q : PolicyPlaces P) (at : ℕ) (policy : Policy) (end : StepEnd) (n : ℕ) → n < 2 ^ 64
    → AnswersSo name (said.Policy (suc (length p.policies)) at ∷ []) false end → IfAnswered end (q ≡ record p { policies = p.policies ++ policy ∷ [] })
    → Stepped alone s (ends (turn_of_adding p at policy None)) name end s q n n
added_stepped alone s name p q at policy (steps.Reply r) n short a e =
    subst (λ x. Reports alone false s (ends (turn_of_adding p at policy None)) name r s x n n) (sym e)
    (line_stepped alone s name (record p { policies = p.policies ++ policy ∷ [] }) (said.Policy (suc (length p.policies)) at) (steps.Reply r) n short refl a)
added_stepped alone s name p q at policy (steps.DiskFault r) n short a e = absurd (true≢false (sym a.0))
added_stepped alone s name p q at policy steps.NoMemory n short a e =
    line_stepped alone s name p (said.Policy (suc (length p.policies)) at) steps.NoMemory n short refl a
