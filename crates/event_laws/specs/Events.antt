-- The events that the replies to the lines of a script name.
use Rattle.std.specs.Prelude.{◌≡◌, ℕ, zero, suc, ◌+◌, Bool, true, false, cond, nat_lt, List, [], ◌∷◌, ◌++◌, length, take, Option, Some, None}
use Rattle.ts_model.specs.Allowed.{all_allowed}
use Rattle.ts_model.specs.History.{History, Begins, position}
use Rattle.ts_model.specs.Limits.{most_sessions}
use Rattle.ts_model.specs.Numbers.{too_many_sessions}
use Rattle.stmt_syntax.specs.Limits.{longest_line}
use Rattle.stmt_tokens.specs.Lines.{line_kind, session_name}
use Rattle.stmt_tokens.specs.declared.lines.LineKind.{LineKind}
use Rattle.stmt_tokens.specs.declared.lines.LineKind.TheVariants.{Blank, NotAscii, NoSession, Stmt as LineOf}
use Rattle.result_text.specs.declared.replies.Said.{Said}
use Rattle.result_text.specs.declared.replies.Said.TheVariants as said
use Rattle.ts_sessions.specs.Made.{made_in}
use Rattle.ts_sessions.specs.Script.{ScriptState, Semantics, executes, final_script_state, opening_script_state, places_of, text_of}
use Rattle.ts_sessions.specs.Step.{bare}
use Rattle.ts_sessions.specs.Walks.{end_of_walk}

-- this many numbers above a position, in order
abbrev pub numbers_above : ℕ → ℕ → List ℕ
numbers_above p zero = []
numbers_above p (suc n) = suc p ∷ numbers_above (suc p) n

-- a history begins with another, and these are the numbers of the events after that, in order
pub record TellsEvents (opening h : History) (numbers : List ℕ) : Type 0 where
  pub begins : Begins opening h
  pub many : position h ≡ position opening + length numbers
  pub each : numbers ≡ numbers_above (position opening) (length numbers)

module _ {P : Type 0} (semantics : Semantics P) where
  -- the lines of the reply to a line of a session: one that has appeared, with its state, or a new one
  abbrev pub said_as : ScriptState P → List ℕ → ℕ → Option P → List Said
  said_as s text skip (Some p) = (end_of_walk (semantics.does p text skip) s.history).said
  said_as s text skip None =
      cond (nat_lt (length s.sessions) most_sessions)
      (end_of_walk (semantics.does (semantics.opening (length s.sessions)) text skip) s.history).said
      (said.Fault (bare too_many_sessions) ∷ [])

  -- the lines of the reply to a line of this kind: only lines of sessions have replies
  abbrev pub said_kind : ScriptState P → List ℕ → LineKind → List Said
  said_kind s line Blank = []
  said_kind s line NotAscii = []
  said_kind s line NoSession = []
  said_kind s line (LineOf len skip end) =
      said_as s (take end line) skip (places_of (session_name line len skip) s.sessions)

  -- the lines of the reply to a line
  abbrev pub said_to : ScriptState P → List ℕ → List Said
  said_to s line = cond (nat_lt longest_line (length line)) [] (said_kind s line (line_kind line))

  -- the numbers of the events that the replies to the lines from line n on name, in order
  abbrev pub named_in : ScriptState P → ℕ → List (List ℕ) → List ℕ
  named_in s n [] = []
  named_in s n (line ∷ lines) =
      made_in (said_to s line) ++ named_in (executes semantics s n line).script_state (suc n) lines

  -- the history that a script leaves, if it is allowed, is the opening one and then the events that its replies name
  abbrev pub ScriptsTellTheirEvents : Type 0
  ScriptsTellTheirEvents =
      (h : History) (lines : List (List ℕ))
      → all_allowed (final_script_state semantics (opening_script_state h) 1 lines).history ≡ true
      → TellsEvents h (final_script_state semantics (opening_script_state h) 1 lines).history
      (named_in (opening_script_state h) 1 lines)

  -- the text written for a line of a session is the text of that reply
  abbrev pub RepliesAreWritten : Type 0
  RepliesAreWritten =
      (s : ScriptState P) (n : ℕ) (line : List ℕ) (len skip end : ℕ)
      → nat_lt longest_line (length line) ≡ false → line_kind line ≡ LineOf len skip end
      → (executes semantics s n line).text ≡ text_of (session_name line len skip) (said_to s line)
