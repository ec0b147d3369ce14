-- Scripts: lines of sessions in order, over a history that nobody else changes.
use Rattle.std.specs.Prelude.{ℕ, suc, ◌+◌, Bool, true, false, ◌||◌, cond, nat_lt, List, [], ◌∷◌, ◌++◌, length, take, Option, Some, None}
use Rattle.std.specs.List.{list_any}
use Rattle.ts_model.specs.History.{History}
use Rattle.ts_model.specs.Roster.{same_name}
use Rattle.stmt_tokens.specs.declared.lines.LineKind.{LineKind}
use Rattle.stmt_tokens.specs.declared.lines.LineKind.TheVariants.{Blank, NotAscii, NoSession, Stmt}
use Rattle.stmt_tokens.specs.Lines.{line_kind, session_name}
use Rattle.ts_model.specs.Limits.{most_sessions}
use Rattle.ts_model.specs.Numbers.{line_long, not_ascii, no_session, too_many_sessions}
use Rattle.stmt_syntax.specs.Limits.{longest_line}
use Rattle.result_text.specs.declared.replies.Said.{Said}
use Rattle.result_text.specs.declared.replies.Said.TheVariants as said
use Rattle.result_text.specs.Replies.{line_fault_text, reply_text}
use Rattle.ts_sessions.specs.Procedures.{Procedure}
use Rattle.ts_sessions.specs.Places.{Places, Turn, no_places}
use Rattle.ts_sessions.specs.Step.{bare, step}
use Rattle.ts_sessions.specs.Walks.{history_after, end_of_walk}

-- a line that a session executes: its bytes before the comment, and how many of them precede its statement
pub record SessionLine : Type 0 where
  pub text : List ℕ
  pub skip : ℕ

-- the part of a script that one session executes: its name, and its lines in order
pub record SessionScript : Type 0 where
  pub name : List ℕ
  pub lines : List SessionLine

-- what lines mean: the state of the session with a number at its first line, and what a line does by its session state.
-- Sessions are numbered from 0 in order of appearance
pub record Semantics (P : Type 0) : Type 0 where
  pub opening : ℕ → P
  pub does : P → List ℕ → ℕ → Procedure (Turn P)

-- the lines of a session mean their steps
abbrev pub session_semantics : Semantics Places
session_semantics = record { opening = λ number. no_places; does = step }

-- the state of a script: the history, and the sessions in order of appearance, each with its name and its state
pub record ScriptState (P : Type 0) : Type 0 where
  pub history : History
  pub sessions : List (List ℕ × P)

-- the result of a line: the state of the script after it, the text written, whether it is a FAULT, and how many stored
-- rows were read
pub record LineResult (P : Type 0) : Type 0 where
  pub script_state : ScriptState P
  pub text : List ℕ
  pub fault : Bool
  pub reads : ℕ

-- ---- sessions

-- the state of the session with a name, if it has appeared
abbrev pub places_of : {P : Type 0} → List ℕ → List (List ℕ × P) → Option P
places_of name [] = None
places_of name (entry ∷ sessions) = cond (same_name entry.0 name) (Some entry.1) (places_of name sessions)

-- the session with a name has this state now; a new session comes last
abbrev pub with_places : {P : Type 0} → List ℕ → P → List (List ℕ × P) → List (List ℕ × P)
with_places name p [] = (name, p) ∷ []
with_places name p (entry ∷ sessions) =
    cond (same_name entry.0 name) ((name, p) ∷ sessions) (entry ∷ with_places name p sessions)

-- ---- replies

-- the text of a reply
abbrev pub text_of : List ℕ → List Said → List ℕ
text_of name [] = []
text_of name (s ∷ lines) = reply_text name s ++ text_of name lines

-- a line of a reply is a FAULT
abbrev pub is_fault : Said → Bool
is_fault (said.Fault refusal) = true
is_fault other = false

-- one of the lines of a reply is a FAULT
abbrev pub has_fault : List Said → Bool
has_fault lines = list_any is_fault lines

-- ---- lines

-- the result of a line that changes nothing and writes this text
abbrev pub line_of_refusal : {P : Type 0} → ScriptState P → List ℕ → LineResult P
line_of_refusal s text = record { script_state = s; text = text; fault = true; reads = 0 }

-- a line without a session is refused with its number
abbrev pub refused_line : {P : Type 0} → ScriptState P → ℕ → ℕ → LineResult P
refused_line s n code = line_of_refusal s (line_fault_text n (bare code))

-- the result of a line after a turn of its session
abbrev pub line_of_turn : {P : Type 0} → ScriptState P → List ℕ → History → Turn P → LineResult P
line_of_turn s name h turn = record {
  script_state = record { history = h; sessions = with_places name turn.places s.sessions };
  text = text_of name turn.said;
  fault = has_fault turn.said;
  reads = turn.reads;
}

-- a session takes its turn
abbrev pub takes_turn : {P : Type 0} → ScriptState P → List ℕ → Procedure (Turn P) → LineResult P
takes_turn s name procedure = line_of_turn s name (history_after procedure s.history) (end_of_walk procedure s.history)

-- a line of the session with a name: of one that has appeared, or of a new one if there are fewer than 64
abbrev pub executes_as : {P : Type 0} → Semantics P → ScriptState P → List ℕ → List ℕ → ℕ → Option P → LineResult P
executes_as semantics s name text skip (Some p) = takes_turn s name (semantics.does p text skip)
executes_as semantics s name text skip None =
    cond (nat_lt (length s.sessions) most_sessions)
    (takes_turn s name (semantics.does (semantics.opening (length s.sessions)) text skip))
    (line_of_refusal s (reply_text name (said.Fault (bare too_many_sessions))))

-- a line of this kind, with this number
abbrev pub executes_kind : {P : Type 0} → Semantics P → ScriptState P → ℕ → List ℕ → LineKind → LineResult P
executes_kind semantics s n line Blank = record { script_state = s; text = []; fault = false; reads = 0 }
executes_kind semantics s n line NotAscii = refused_line s n not_ascii
executes_kind semantics s n line NoSession = refused_line s n no_session
executes_kind semantics s n line (Stmt len skip end) =
    executes_as semantics s (session_name line len skip) (take end line) skip
    (places_of (session_name line len skip) s.sessions)

-- a line with this number
abbrev pub executes : {P : Type 0} → Semantics P → ScriptState P → ℕ → List ℕ → LineResult P
executes semantics s n line =
    cond (nat_lt longest_line (length line)) (refused_line s n line_long)
    (executes_kind semantics s n line (line_kind line))

-- ---- a script: the lines from line n on, from a script state on

-- the text written
abbrev pub output : {P : Type 0} → Semantics P → ScriptState P → ℕ → List (List ℕ) → List ℕ
output semantics s n [] = []
output semantics s n (line ∷ lines) =
    (executes semantics s n line).text ++ output semantics (executes semantics s n line).script_state (suc n) lines

-- one of the replies is a FAULT
abbrev pub is_refused : {P : Type 0} → Semantics P → ScriptState P → ℕ → List (List ℕ) → Bool
is_refused semantics s n [] = false
is_refused semantics s n (line ∷ lines) =
    (executes semantics s n line).fault
    || is_refused semantics (executes semantics s n line).script_state (suc n) lines

-- how many stored rows are read
abbrev pub reads_in : {P : Type 0} → Semantics P → ScriptState P → ℕ → List (List ℕ) → ℕ
reads_in semantics s n [] = 0
reads_in semantics s n (line ∷ lines) =
    (executes semantics s n line).reads + reads_in semantics (executes semantics s n line).script_state (suc n) lines

-- the state of the script after its lines
abbrev pub final_script_state : {P : Type 0} → Semantics P → ScriptState P → ℕ → List (List ℕ) → ScriptState P
final_script_state semantics s n [] = s
final_script_state semantics s n (line ∷ lines) =
    final_script_state semantics (executes semantics s n line).script_state (suc n) lines

-- the state of a script before its first line: a history, and no session
abbrev pub opening_script_state : {P : Type 0} → History → ScriptState P
opening_script_state h = record { history = h; sessions = [] }
