-- Laws of policies and ticks, each in one sentence.
use Rattle.std.specs.Prelude.{◌≡◌, ℕ, ◌*◌, ℤ, ◌≤◌, Bool, true, false, List, [], ◌∷◌, ◌++◌, codes, length, map, take, Option, Some, None, Result, Ok, Err, IsTrue}
use Rattle.std.specs.List.{AllByRecursion}
use Rattle.ts_schema.specs.Names.{is_name}
use Rattle.ts_bucket.specs.Bucket.{is_time}
use Rattle.ts_model.specs.declared.outcomes.Refusal.{Refusal}
use Rattle.ts_model.specs.Roster.{same_name}
use Rattle.ts_model.specs.States.{State}
use Rattle.stmt_reader.specs.Grammar.{statement as any_statement}
use Rattle.stmt_tokens.specs.Lines.{line_kind, session_name}
use Rattle.stmt_reader.specs.Refusals.{IsSaid}
use Rattle.stmt_tokens.specs.Streams.{Stream, stream}
use Rattle.stmt_reader.specs.declared.faults.Fault.{Fault}
use Rattle.stmt_tokens.specs.declared.lines.LineKind.{LineKind}
use Rattle.stmt_tokens.specs.declared.lines.LineKind.TheVariants.{Stmt as LineOf}
use Rattle.stmt_syntax.specs.declared.statements.Stmt.{Stmt}
use Rattle.stmt_syntax.specs.declared.statements.Stmt.TheVariants as statements
use Rattle.stmt_syntax.specs.Limits.{longest_line}
use Rattle.result_text.specs.Replies.{reply_text}
use Rattle.result_text.specs.declared.replies.Said.TheVariants as said
use Rattle.ts_sessions.specs.Made.{made_in}
use Rattle.ts_sessions.specs.Places.{Block, Places, Turn, none, turns}
use Rattle.ts_sessions.specs.Procedures.{Procedure, ends}
use Rattle.ts_sessions.specs.Script.{LineResult, ScriptState, Semantics, executes, final_script_state, is_refused, output, places_of, reads_in, session_semantics, with_places}
use Rattle.ts_sessions.specs.Step.{step}
use Rattle.ts_sessions.specs.Walks.{Walks}
use Rattle.policy_jobs.specs.Adding.{has_offsets, is_interval}
use Rattle.policy_jobs.specs.Policies.{due, due_text, due_texts, end_of, policies_after_tick}
use Rattle.policy_jobs.specs.Reading.{statement}
use Rattle.policy_jobs.specs.Turns.{PolicyPlaces, policy_does, policy_semantics, ticks}
use Rattle.policy_jobs.specs.Words.{begins}
use Rattle.policy_jobs.specs.declared.jobs.Job.{Job}
use Rattle.policy_jobs.specs.declared.jobs.Job.TheVariants as jobs
use Rattle.policy_jobs.specs.declared.policies.Policy.{Policy}
use Rattle.policy_jobs.specs.declared.statements.PolicyStmt.{PolicyStmt}
use Rattle.policy_jobs.specs.declared.statements.PolicyStmt.TheVariants as stmts

-- ---- what is due

-- an end of a window, if it has one
abbrev pub bound_of : ℤ → Option ℤ → Option ℤ
bound_of now None = None
bound_of now (Some before) = Some (end_of now before)

-- the statement that a job runs at a time
abbrev pub due_statement : ℤ → Job → Stmt
due_statement now (jobs.Refresh view from to) = statements.Refresh view (bound_of now from) (bound_of now to)
due_statement now (jobs.Drop table after) = statements.Drop table (end_of now after)

-- the relation of a job
abbrev pub relation_in : Job → List ℕ
relation_in (jobs.Refresh view from to) = view
relation_in (jobs.Drop table after) = table

-- a valid policy: its relation is a name, and its numbers are within bounds
pub record IsPolicy (p : Policy) : Type 0 where
  pub named : IsTrue (is_name (relation_in p.job))
  pub offsets : has_offsets p.job ≡ true
  pub interval : is_interval p.every ≡ true

abbrev pub ArePolicies : List Policy → Type 0
ArePolicies policies = AllByRecursion IsPolicy policies

-- policies that never ran
abbrev pub NeverRan : List Policy → Type 0
NeverRan policies = AllByRecursion (λ p. p.ran ≡ None) policies

-- the text that a policy runs is its statement, by the grammar of all statements
abbrev pub DueTextsAreStatements : Type 0
DueTextsAreStatements =
    (now : ℤ) (p : Policy) → is_time now ≡ true → IsPolicy p
    → IsSaid any_statement (stream (due_text now p.job) 0) (due_statement now p.job)

-- after a tick, the policies that are due at another tick at the same time are those that were added since
abbrev pub OnlyNewOnesAreDue : Type 0
OnlyNewOnesAreDue =
    (now : ℤ) (old new : List Policy) → ArePolicies old → NeverRan new → due now (policies_after_tick now old ++ new) ≡ new

-- ---- what lines leave of the policies

-- the time of a tick
abbrev pub tick_time : PolicyStmt → Option ℤ
tick_time (stmts.Add job every) = None
tick_time (stmts.Tick now) = Some now

-- the time of a statement that was read, if it is a tick
abbrev pub tick_read : Result (PolicyStmt × Stream) Fault → Option ℤ
tick_read (Ok read) = tick_time read.0
tick_read (Err f) = None

-- the same policies, and then others that never ran
pub record IsLonger (old new : List Policy) : Type 0 where
  pub added : List Policy
  pub whole : new ≡ old ++ added
  pub never : NeverRan added

-- on any store, a line leaves valid policies. A line that isn't a tick keeps those that existed, and may append new
-- ones. A tick marks those that were due, whatever the outcome of its statements
pub record LinesKeepPolicies (P : Type 0) : Type 0 where
  pub policies :
      (within : P → Block) (does : P → List ℕ → ℕ → Procedure (Turn P)) (alone failed : Bool) (old : State)
      (p : PolicyPlaces P) (text : List ℕ) (skip : ℕ) (new : State) (y : Turn (PolicyPlaces P))
      → ArePolicies p.policies → skip ≤ length text
      → Walks alone failed old (policy_does does within p text skip) new y
      → ArePolicies y.places.policies
  pub others :
      (within : P → Block) (does : P → List ℕ → ℕ → Procedure (Turn P)) (alone failed : Bool) (old : State)
      (p : PolicyPlaces P) (text : List ℕ) (skip : ℕ) (new : State) (y : Turn (PolicyPlaces P))
      → tick_read (statement (stream text skip)) ≡ None → Walks alone failed old (policy_does does within p text skip) new y
      → IsLonger p.policies y.places.policies
  pub marks :
      (does : P → List ℕ → ℕ → Procedure (Turn P)) (alone failed : Bool) (old : State) (p : PolicyPlaces P) (now : ℤ)
      (new : State) (y : Turn (PolicyPlaces P))
      → is_time now ≡ true → Walks alone failed old (ticks does p now) new y → y.places.policies ≡ policies_after_tick now p.policies
  -- if the reply is only a refusal, all policies stay as they were
  pub refused :
      (within : P → Block) (does : P → List ℕ → ℕ → Procedure (Turn P)) (alone failed : Bool) (old : State)
      (p : PolicyPlaces P) (text : List ℕ) (skip : ℕ) (new : State) (y : Turn (PolicyPlaces P)) (r : Refusal)
      → Walks alone failed old (policy_does does within p text skip) new y → y.said ≡ said.Fault r ∷ []
      → y.places.policies ≡ p.policies

-- a tick of a session appends at most three events for each policy that is due
abbrev pub TicksMakeFewEvents : Type 0
TicksMakeFewEvents =
    (alone failed : Bool) (old : State) (p : PolicyPlaces Places) (now : ℤ) (new : State)
    (y : Turn (PolicyPlaces Places))
    → Walks alone failed old (ticks step p now) new y
    → length (made_in y.said) ≤ 3 * length (due now p.policies)

-- a second tick at the same time, on any store, is only its line, and the session stays as it is. The outcome of the
-- first tick's statements doesn't matter
abbrev pub SecondTicksAreIdle : Type 0 → Type 0
SecondTicksAreIdle P =
    (does : P → List ℕ → ℕ → Procedure (Turn P)) (alone failed : Bool) (old : State) (p : PolicyPlaces P) (now : ℤ)
    (new : State) (y : Turn (PolicyPlaces P))
    → is_time now ≡ true → ArePolicies p.policies → Walks alone failed old (ticks does p now) new y
    → ticks does y.places now ≡ ends (turns y.places (said.Tick now 0))

-- ---- a tick and the lines that it represents

-- a statement as a line of the session with a name
abbrev pub line_of : List ℕ → List ℕ → List ℕ
line_of name text = name ++ (codes ": " ++ text)

-- the statements that are due, as lines of the session with a name
abbrev pub due_lines : List ℕ → ℤ → List Policy → List (List ℕ)
due_lines name now policies = map (line_of name) (due_texts now policies)

-- a line is a tick at a time, of the session with a name
pub record IsTickLine (name : List ℕ) (now : ℤ) (line : List ℕ) : Type 0 where
  pub len : ℕ
  pub skip : ℕ
  pub end : ℕ
  pub kind : line_kind line ≡ LineOf len skip end
  pub session : session_name line len skip ≡ name
  pub short : length line ≤ longest_line
  pub begun : begins (stream (take end line) skip) ≡ true
  pub left : Stream
  pub read : statement (stream (take end line) skip) ≡ Ok (stmts.Tick now, left)

-- a script in which a session has this state
abbrev pub with_session : {P : Type 0} → ScriptState P → List ℕ → P → ScriptState P
with_session s name p = record s { sessions = with_places name p s.sessions }

-- the result of a line is one line of text and then what a script writes, from a state on, with any line number
pub record IsLineAndScript {P : Type 0} (semantics : Semantics P) (result : LineResult P) (first : List ℕ)
    (s : ScriptState P) (n : ℕ) (lines : List (List ℕ)) : Type 0 where
  pub text : result.text ≡ first ++ output semantics s n lines
  pub fault : result.fault ≡ is_refused semantics s n lines
  pub reads : result.reads ≡ reads_in semantics s n lines
  pub leaves : result.script_state ≡ final_script_state semantics s n lines

-- what sessions with policies mean
abbrev pub policy_sessions : Semantics (PolicyPlaces Places)
policy_sessions = policy_semantics (λ p. p.block) session_semantics

-- a tick of a session outside a block is its line, and then a script of the due statements as lines of that session.
-- The due policies are marked as run. Both have the same text, faults, reads, session states and history
abbrev pub TicksAreTheirLines : Type 0
TicksAreTheirLines =
    (s : ScriptState (PolicyPlaces Places)) (n k : ℕ) (name line : List ℕ) (now : ℤ) (p : PolicyPlaces Places)
    → IsTickLine name now line → places_of name s.sessions ≡ Some p → p.inner.block ≡ none → is_time now ≡ true
    → ArePolicies p.policies
    → IsLineAndScript policy_sessions (executes policy_sessions s n line)
    (reply_text name (said.Tick now (length (due now p.policies))))
    (with_session s name (record p { policies = policies_after_tick now p.policies })) k (due_lines name now p.policies)

-- ---- sessions and other sessions

-- a line of this kind is one of the session with a name
abbrev pub is_of_kind : List ℕ → List ℕ → LineKind → Bool
is_of_kind name line (LineOf len skip end) = same_name name (session_name line len skip)
is_of_kind name line other = false

-- a line is one of the session with a name
abbrev pub is_line_of : List ℕ → List ℕ → Bool
is_line_of name line = is_of_kind name line (line_kind line)

-- what lines of other sessions write, for any meaning of lines, is the same whatever a session carries: its block, its
-- queue, and its policies. These lines don't change what the session carries
pub record OthersSeeNoPlaces {P : Type 0} (semantics : Semantics P) (other : List ℕ) (p q : P) (s : ScriptState P)
    (n : ℕ) (lines : List (List ℕ)) : Type 0 where
  pub text : output semantics (with_session s other q) n lines ≡ output semantics s n lines
  pub fault : is_refused semantics (with_session s other q) n lines ≡ is_refused semantics s n lines
  pub reads : reads_in semantics (with_session s other q) n lines ≡ reads_in semantics s n lines
  pub leaves :
      final_script_state semantics (with_session s other q) n lines
      ≡ with_session (final_script_state semantics s n lines) other q
  pub keeps : places_of other (final_script_state semantics s n lines).sessions ≡ Some p

abbrev pub LinesSeeTheirOwnPlaces : Type 0 → Type 0
LinesSeeTheirOwnPlaces P =
    (semantics : Semantics P) (other : List ℕ) (p q : P) (s : ScriptState P) (n : ℕ) (lines : List (List ℕ))
    → AllByRecursion (λ line. is_line_of other line ≡ false) lines → places_of other s.sessions ≡ Some p
    → OthersSeeNoPlaces semantics other p q s n lines

-- ---- lines that are cut short

-- the first of some lines read at most as many stored rows as all of them, whatever the lines mean
abbrev pub CutLinesReadLess : Type 0 → Type 0
CutLinesReadLess P =
    (semantics : Semantics P) (s : ScriptState P) (n : ℕ) (done rest : List (List ℕ))
    → reads_in semantics s n done ≤ reads_in semantics s n (done ++ rest)
