-- The laws: each line of a demonstration is its statement, which no check refuses, and does its action.
use Rattle.std.specs.Prelude.{◌≡◌, ℕ, ◌≤◌, ◌⊎◌, List, [], ◌∷◌, length, codes, None, Ok}
use Rattle.ts_model.specs.Roster.{roster}
use Rattle.stmt_syntax.specs.Limits.{longest_line}
use Rattle.stmt_tokens.specs.Lines.{line_kind, session_name}
use Rattle.stmt_reader.specs.Reading.{statement}
use Rattle.stmt_tokens.specs.Streams.{Stream, stream}
use Rattle.stmt_tokens.specs.declared.lines.LineKind.TheVariants.{Stmt}
use Rattle.stmt_check.specs.Check.{action_of, refusal_of}
use Rattle.ts_sessions.specs.Places.{Places, none, no_places}
use Rattle.ts_sessions.specs.Script.{ScriptState, executes, session_semantics, takes_turn}
use Rattle.ts_sessions.specs.Step.{acts, kind_of, refusal_outside}
use Rattle.demo_script.specs.Lines.{IsInRound, text_of}
use Rattle.demo_script.specs.declared.lines.Line.{Line}
use Rattle.demo_laws.specs.Statements.{act_of, roster_before, stmt_of}

-- the session of the demonstration
abbrev pub demo_session : List ℕ
demo_session = codes "d"

-- ---- what lines are

-- a line belongs to the session, has no comment, and is read as the line's statement. Over the roster that it finds, no
-- check refuses the statement outside a block, and it asks for the line's action
pub record IsItsStatement (demo : ℕ) (line : Line) : Type 0 where
  pub kind : line_kind (text_of demo line) ≡ Stmt 1 2 (length (text_of demo line))
  pub session : session_name (text_of demo line) 1 2 ≡ demo_session
  pub within : length (text_of demo line) ≤ longest_line
  pub rest : Stream
  pub read : statement (stream (text_of demo line) 2) ≡ Ok (stmt_of demo line, rest)
  pub outside : refusal_outside (kind_of (stmt_of demo line)) ≡ None
  pub passes : (pos : ℕ) → refusal_of pos (roster_before line) (stmt_of demo line) ≡ None
  pub asks : action_of (roster_before line) (stmt_of demo line) ≡ act_of demo line

-- the same for each line
abbrev pub LinesAreStatements : Type 0
LinesAreStatements = (demo : ℕ) (line : Line) → IsInRound line → IsItsStatement demo line

-- ---- what lines do

-- the session has this state: it has not appeared yet, or only it has appeared
abbrev pub HasPlaces : Places → List (List ℕ × Places) → Type 0
HasPlaces p sessions = ((sessions ≡ []) × (p ≡ no_places)) ⊎ (sessions ≡ (demo_session, p) ∷ [])

-- outside a block, over the roster that the line needs, a line does its action, whatever its number
abbrev pub LinesAct : Type 0
LinesAct = (demo n : ℕ) (line : Line) (s : ScriptState Places) (p : Places)
    → IsInRound line → roster s.history ≡ roster_before line → HasPlaces p s.sessions → p.block ≡ none
    → executes session_semantics s n (text_of demo line)
    ≡ takes_turn s demo_session (acts p (length (text_of demo line)) s.history (act_of demo line))
