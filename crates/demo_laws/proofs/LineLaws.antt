-- Each line does its action.
use lib.Signed.{mag}
use Rattle.std.proofs.Common.{◌≡◌, ◌∙◌, refl, ap, inl, inr, ℕ, ◌+◌, ◌*◌, ◌<◌, ◌^◌, pos, ◌-ℤ◌, cond, List, length, None, arith}
use Rattle.std.proofs.Math.Seq.{take-length}
use Rattle.std.proofs.lemmas.Bool.{le-ltb}
use Rattle.ts_model.specs.declared.rosters.Roster.{Roster}
use Rattle.ts_model.specs.History.{position}
use Rattle.ts_model.specs.Roster.{roster}
use Rattle.stmt_tokens.specs.Lines.{line_kind, session_name}
use Rattle.stmt_syntax.specs.declared.statements.Stmt.{Stmt}
use Rattle.stmt_check.specs.Check.{action_of, refusal_of}
use Rattle.stmt_check.specs.declared.actions.Action.{Action}
use Rattle.hier_agg.specs.declared.reads.UpperRead.TheVariants.{NotUpper}
use Rattle.hier_agg.specs.Reads.{upper_read}
use Rattle.ts_model.specs.Numbers.{line_long}
use Rattle.stmt_syntax.specs.Limits.{longest_line}
use Rattle.ts_sessions.specs.Places.{Places, Turn, none}
use Rattle.ts_sessions.specs.Procedures.{Procedure, looks}
use Rattle.ts_sessions.specs.Script.{LineResult, ScriptState, executes, executes_as, executes_kind, places_of, refused_line, session_semantics, takes_turn}
use Rattle.ts_sessions.specs.Step.{acts, block_refusal, kind_of, turn_of_names, named_as, named_first, named_here, read_at, refusal_outside, step, as_read, passes_block, performs, unless}
use Rattle.ts_sessions.proofs.NamedLaws.{performs_holds}
use Rattle.demo_laws.specs.ActLaws.{HasPlaces, IsItsStatement, LinesAct, LinesAreStatements, demo_session}
use Rattle.demo_laws.specs.Statements.{act_of, roster_before, stmt_of}
use Rattle.demo_script.specs.Lines.{text_of}
use Rattle.demo_script.specs.declared.lines.Line.{Line}
use Rattle.demo_script.specs.declared.lines.Line.TheVariants as lines
use Rattle.demo_laws.proofs.Bounds.{less_5000, rows_small}
use Rattle.demo_laws.proofs.CleanTexts.{IsSaid, aggregate_said, answer_said, hypertable_said, insert_said, late_said, refresh_said, table_said}
use Rattle.demo_laws.proofs.ClosedLines.{Reads, aggregate_reads, answer_reads, hypertable_reads, table_reads}
use Rattle.demo_laws.proofs.NumberedLines.{insert_line_reads, late_line_reads, refresh_line_reads}
use Rattle.demo_laws.proofs.Rows.{IsSmall}
use Rattle.demo_laws.proofs.PassLaws.{refresh_passes, values_act, values_pass}

-- ---- a statement that no check refuses

-- the session takes its turn
abbrev turn_of : ScriptState Places → Procedure (Turn Places) → LineResult Places
turn_of s procedure = takes_turn s demo_session procedure

-- a statement with valid names, which asks for this action
record Asks (r : Roster) (stmt : Stmt) (action : Action) : Type 0 where
  checked : (at : ℕ) → upper_read at r stmt ≡ NotUpper
  passes : (at : ℕ) → refusal_of at r stmt ≡ None
  asks : action_of r stmt ≡ action

module _ (s : ScriptState Places) (p : Places) (bytes : ℕ) (stmt : Stmt) (action : Action) (asks : Asks (roster s.history) stmt action) where
  first_turn : turn_of s (named_first p bytes stmt) ≡ turn_of s (acts p bytes s.history action)
  first_turn =
      ap (λ r. turn_of s (unless p r (looks (λ h. acts p bytes h (action_of (roster s.history) stmt))))) (asks.passes (position s.history))
      ∙ ap (λ a. turn_of s (acts p bytes s.history a)) asks.asks

  here_turn : p.block ≡ none → turn_of s (named_here p bytes stmt) ≡ turn_of s (acts p bytes s.history action)
  here_turn outside =
      ap (λ b. turn_of s (turn_of_names p bytes stmt (read_at b s.history))) outside
      ∙ ap (λ u. turn_of s (named_as p bytes s.history stmt u)) (asks.checked (position s.history))
      ∙ ap (λ r. turn_of s (unless p r (acts p bytes s.history (action_of (roster s.history) stmt)))) (asks.passes (position s.history))
      ∙ ap (λ a. turn_of s (acts p bytes s.history a)) asks.asks

  -- the same outside a block
  statement_turn : p.block ≡ none → refusal_outside (kind_of stmt) ≡ None → turn_of s (passes_block p bytes stmt) ≡ turn_of s (acts p bytes s.history action)
  statement_turn outside fits =
      ap (λ b. turn_of s (unless p (block_refusal b (kind_of stmt)) (performs p bytes stmt))) outside
      ∙ ap (λ r. turn_of s (unless p r (performs p bytes stmt))) fits
      ∙ performs_holds (λ procedure. turn_of s procedure ≡ turn_of s (acts p bytes s.history action)) p bytes stmt (λ twice. first_turn) (λ once. here_turn outside)

-- no line is a roll-up
no_roll_up : (demo at : ℕ) (line : Line) → upper_read at (roster_before line) (stmt_of demo line) ≡ NotUpper
no_roll_up demo at lines.Table = refl
no_roll_up demo at lines.Hypertable = refl
no_roll_up demo at lines.Aggregate = refl
no_roll_up demo at (lines.Insert round part) = refl
no_roll_up demo at (lines.Refresh round) = refl
no_roll_up demo at lines.Answer = refl
no_roll_up demo at lines.LateRow = refl

-- ---- a line of the session

-- the session of the demonstration takes its turn, whether it has appeared or not
turn_taken : (s : ScriptState Places) (p : Places) (text : List ℕ) (skip : ℕ) → HasPlaces p s.sessions
    → executes_as session_semantics s demo_session text skip (places_of demo_session s.sessions) ≡ turn_of s (step p text skip)
turn_taken s p text skip (inl new) = rw (new.0, new.1) refl
turn_taken s p text skip (inr alone) = ap (λ sessions. executes_as session_semantics s demo_session text skip (places_of demo_session sessions)) alone

-- a line that is its statement, over the roster that it finds
line_acts : (demo n : ℕ) (line : Line) (s : ScriptState Places) (p : Places) → IsItsStatement demo line → roster s.history ≡ roster_before line → HasPlaces p s.sessions → p.block ≡ none
    → executes session_semantics s n (text_of demo line) ≡ turn_of s (acts p (length (text_of demo line)) s.history (act_of demo line))
line_acts demo n line s p is finds here outside =
    let text : List ℕ = text_of demo line in
    let asks : Asks (roster s.history) (stmt_of demo line) (act_of demo line) =
    record {
      checked = λ at. ap (λ r. upper_read at r (stmt_of demo line)) finds ∙ no_roll_up demo at line;
      passes = λ at. ap (λ r. refusal_of at r (stmt_of demo line)) finds ∙ is.passes at;
      asks = ap (λ r. action_of r (stmt_of demo line)) finds ∙ is.asks;
    }
    in
    ap (λ t. cond t (refused_line s n line_long) (executes_kind session_semantics s n text (line_kind text))) (le-ltb longest_line (length text) is.within)
    ∙ ap (executes_kind session_semantics s n text) is.kind
    ∙ ap (λ t. executes_as session_semantics s (session_name text 1 2) t 2 (places_of (session_name text 1 2) s.sessions)) (take-length text)
    ∙ ap (λ name. executes_as session_semantics s name text 2 (places_of name s.sessions)) is.session
    ∙ turn_taken s p text 2 here
    ∙ ap (λ read. turn_of s (as_read p (passes_block p (length text)) read)) is.read
    ∙ statement_turn s p (length text) (stmt_of demo line) (act_of demo line) asks outside is.outside

-- ---- the lines

-- the text of a line, and the statement that it is read as
is_statement : (demo : ℕ) (line : Line) → IsSaid (text_of demo line) → Reads (text_of demo line) (stmt_of demo line)
    → refusal_outside (kind_of (stmt_of demo line)) ≡ None → ((at : ℕ) → refusal_of at (roster_before line) (stmt_of demo line) ≡ None) → action_of (roster_before line) (stmt_of demo line) ≡ act_of demo line
    → IsItsStatement demo line
is_statement demo line said reads outside passes asks =
    record { kind = said.kind; session = said.session; within = said.bytes; rest = reads.left; read = reads.is; outside = outside; passes = passes; asks = asks }

pub lines_are_statements : LinesAreStatements
lines_are_statements demo lines.Table in_round = is_statement demo lines.Table table_said (table_reads demo) refl (λ at. refl) refl
lines_are_statements demo lines.Hypertable in_round = is_statement demo lines.Hypertable hypertable_said (hypertable_reads demo) refl (λ at. refl) refl
lines_are_statements demo lines.Aggregate in_round = is_statement demo lines.Aggregate aggregate_said (aggregate_reads demo) refl (λ at. refl) refl
lines_are_statements demo (lines.Insert round part) in_round =
    let small : (place : ℕ) → place < 100 * part + 100 → IsSmall demo round place = λ place below. rows_small demo round place in_round.0 (omega (arith, in_round.1)) in
    is_statement demo (lines.Insert round part) (insert_said demo round part small) (insert_line_reads demo round part small) refl
    (λ at. values_pass demo round (100 * part) 100 at (omega arith) (λ place low high. small place high)) (values_act demo round (100 * part) 100)
lines_are_statements demo (lines.Refresh round) in_round =
    let start : mag (pos (5000 * round) -ℤ pos 5000) < 2 ^ 62 = less_5000 (5000 * round) (omega arith) in
    is_statement demo (lines.Refresh round) (refresh_said round start (omega arith)) (refresh_line_reads demo round (omega (arith, start)) (omega arith)) refl
    (λ at. refresh_passes demo round at start (omega arith)) refl
lines_are_statements demo lines.Answer in_round = is_statement demo lines.Answer answer_said (answer_reads demo) refl (λ at. refl) refl
lines_are_statements demo lines.LateRow in_round = is_statement demo lines.LateRow (late_said demo) (late_line_reads demo) refl (λ at. refl) refl

pub lines_act : LinesAct
lines_act demo n line s p in_round finds here outside = line_acts demo n line s p (lines_are_statements demo line in_round) finds here outside
