-- What the lines of a session with policies mean, by what those of the actor in it do.
use Rattle.std.specs.Prelude.{ℕ, suc, ◌+◌, ℤ, cond, List, [], ◌∷◌, ◌++◌, length, Option, Some, None, Result, Ok, Err}
use Rattle.ts_bucket.specs.Bucket.{is_time}
use Rattle.ts_model.specs.declared.outcomes.Refusal.{Refusal}
use Rattle.ts_model.specs.Calls.{refusal}
use Rattle.ts_model.specs.History.{position}
use Rattle.ts_model.specs.Roster.{roster}
use Rattle.stmt_reader.specs.declared.faults.Fault.{Fault}
use Rattle.stmt_tokens.specs.Streams.{Stream, stream}
use Rattle.ts_model.specs.Numbers.{bad_time}
use Rattle.result_text.specs.declared.replies.Said.TheVariants as said
use Rattle.ts_sessions.specs.declared.kinds.StatementKind.TheVariants.{Defines}
use Rattle.ts_sessions.specs.Places.{Block, Turn, turns, refuses}
use Rattle.ts_sessions.specs.Procedures.{Procedure, ends, looks, followed_by, ending_as}
use Rattle.ts_sessions.specs.Script.{Semantics}
use Rattle.ts_sessions.specs.Step.{block_refusal, misread}
use Rattle.policy_jobs.specs.declared.policies.Policy.{Policy}
use Rattle.policy_jobs.specs.declared.jobs.Job.{Job}
use Rattle.policy_jobs.specs.declared.statements.PolicyStmt.{PolicyStmt}
use Rattle.policy_jobs.specs.declared.statements.PolicyStmt.TheVariants as stmts
use Rattle.policy_jobs.specs.Adding.{adding_refusal}
use Rattle.policy_jobs.specs.Policies.{due, due_texts, policies_after_tick}
use Rattle.policy_jobs.specs.Reading.{statement}
use Rattle.policy_jobs.specs.Words.{begins}

-- the state of a session with policies: the state of the actor in it, and its policies in the order in which they were
-- added
pub record PolicyPlaces (P : Type 0) : Type 0 where
  pub inner : P
  pub policies : List Policy

-- a turn with these policies in its session state
abbrev pub beside : {P : Type 0} → List Policy → Turn P → Turn (PolicyPlaces P)
beside policies y = record { places = record { inner = y.places; policies = policies }; said = y.said; reads = y.reads }

-- the lines and the rows read of two turns in order
abbrev pub behind : {P : Type 0} → Turn P → Turn P → Turn P
behind y z = record { places = z.places; said = y.said ++ z.said; reads = y.reads + z.reads }

-- ---- adding

-- a policy was added at a position, or refused
abbrev pub turn_of_adding : {P : Type 0} → PolicyPlaces P → ℕ → Policy → Option Refusal → Turn (PolicyPlaces P)
turn_of_adding p at policy (Some r) = refuses p r
turn_of_adding p at policy None =
    turns (record p { policies = p.policies ++ policy ∷ [] }) (said.Policy (suc (length p.policies)) at)

-- a policy is added by one read, unless it is refused there. It has not run yet
abbrev pub adds_policy : {P : Type 0} → PolicyPlaces P → Job → ℤ → Procedure (Turn (PolicyPlaces P))
adds_policy p job every =
    looks (λ h. ends (turn_of_adding p (position h) (record { job = job; every = every; ran = None })
    (adding_refusal (position h) (roster h) (length p.policies) job every)))

-- a time out of range is refused
abbrev pub misses_time : {P : Type 0} → PolicyPlaces P → Procedure (Turn (PolicyPlaces P))
misses_time p = looks (λ h. ends (refuses p (refusal bad_time h 0)))

-- what the lines of the actor do
module _ {P : Type 0} (does : P → List ℕ → ℕ → Procedure (Turn P)) where
  -- ---- statements in order

  -- a procedure, and then the statement with this text, in the session state that the procedure left
  abbrev pub and_then : Procedure (Turn P) → List ℕ → Procedure (Turn P)
  and_then first text = followed_by first (λ y. ending_as (behind y) (does y.places text 0))

  -- a procedure, and then the statements with these texts, in order
  abbrev pub and_all : Procedure (Turn P) → List (List ℕ) → Procedure (Turn P)
  and_all first [] = first
  and_all first (text ∷ texts) = and_all (and_then first text) texts

  -- ---- ticks

  -- the line of a tick at this time, and then the statements that are due
  abbrev pub runs_due : ℤ → P → List Policy → Procedure (Turn P)
  runs_due now p policies =
      and_all (ends (turns p (said.Tick now (length (due now policies))))) (due_texts now policies)

  -- a tick at a time: the due policies run and are marked, whatever the outcome
  abbrev pub ticks : PolicyPlaces P → ℤ → Procedure (Turn (PolicyPlaces P))
  ticks p now =
      cond (is_time now) (ending_as (beside (policies_after_tick now p.policies)) (runs_due now p.inner p.policies)) (misses_time p)

  -- ---- lines

  -- a statement on policies
  abbrev pub performs : PolicyPlaces P → PolicyStmt → Procedure (Turn (PolicyPlaces P))
  performs p (stmts.Add job every) = adds_policy p job every
  performs p (stmts.Tick now) = ticks p now

  -- a statement on policies that a block refuses, or lets pass
  abbrev pub lets_pass : PolicyPlaces P → PolicyStmt → Option Refusal → Procedure (Turn (PolicyPlaces P))
  lets_pass p stmt (Some r) = ends (refuses p r)
  lets_pass p stmt None = performs p stmt

  -- what was read as a statement on policies. A block refuses it like a statement that creates a relation
  abbrev pub reads_as : PolicyPlaces P → Block → Result (PolicyStmt × Stream) Fault → Procedure (Turn (PolicyPlaces P))
  reads_as p b (Ok read) = lets_pass p read.0 (block_refusal b Defines)
  reads_as p b (Err f) = ends (refuses p (misread f))

  -- a line, by the block of the actor: one on policies, or any other, which the actor executes
  abbrev pub policy_does : (P → Block) → PolicyPlaces P → List ℕ → ℕ → Procedure (Turn (PolicyPlaces P))
  policy_does within p text skip =
      cond (begins (stream text skip)) (reads_as p (within p.inner) (statement (stream text skip)))
      (ending_as (beside p.policies) (does p.inner text skip))

-- what the lines of a session with policies mean, by what those of the actor in it mean. The session begins without
-- policies
abbrev pub policy_semantics : {P : Type 0} → (P → Block) → Semantics P → Semantics (PolicyPlaces P)
policy_semantics within s = record {
  opening = λ number. record { inner = s.opening number; policies = [] };
  does = policy_does s.does within;
}
