-- What a line of a session does to a history and to its image.
use Rattle.std.proofs.Common.{◌≡◌, ℕ, ◌+◌, ◌≤◌, true, List, length, Option, Some, None, sym, refl, ap, ◌∙◌, subst, arith}
use Rattle.std.specs.Prelude.{Result, Ok, Err, is_some}
use Rattle.std.proofs.lemmas.Bool.{true≢false}
use Rattle.ts_model.specs.declared.images.Image.{Image}
use Rattle.ts_model.specs.declared.outcomes.Refusal.{Refusal}
use Rattle.ts_model.specs.declared.queries.Query.{Query}
use Rattle.ts_model.specs.declared.views.Fold.{Fold}
use Rattle.ts_model.specs.Allowed.{all_allowed}
use Rattle.ts_model.specs.History.{History, position, prefix, same}
use Rattle.ts_model.specs.Roster.{roster}
use Rattle.image_laws.specs.Alike.{Alike}
use Rattle.image_laws.specs.Images.{IsImage}
use Rattle.stmt_syntax.specs.Limits.{longest_input}
use Rattle.stmt_reader.specs.Reading.{statement}
use Rattle.stmt_tokens.specs.Streams.{Stream, stream}
use Rattle.stmt_reader.specs.declared.faults.Fault.{Fault}
use Rattle.stmt_syntax.specs.declared.statements.Stmt.{Stmt}
use Rattle.stmt_syntax.specs.declared.statements.Stmt.TheVariants as stmts
use Rattle.stmt_reader.proofs.WrittenLaws.{statements_are_written}
use Rattle.stmt_check.specs.declared.actions.Action.{Action}
use Rattle.stmt_check.specs.declared.actions.Action.TheVariants as actions
use Rattle.stmt_check.specs.Check.{action_of, refusal_of}
use Rattle.hier_agg.specs.declared.reads.UpperRead.{UpperRead}
use Rattle.hier_agg.specs.declared.reads.UpperRead.TheVariants as uppers
use Rattle.hier_agg.specs.Reads.{upper_read}
use Rattle.result_text.specs.declared.replies.Said.TheVariants as said
use Rattle.ts_sessions.specs.Places.{Block, none, writing, reading, Places, Turn, enters, refuses, turns}
use Rattle.ts_sessions.specs.Procedures.{Procedure, ends, looks as looks_at}
use Rattle.ts_sessions.specs.Script.{session_semantics}
use Rattle.ts_sessions.specs.Sound.{AsksSoundly}
use Rattle.ts_sessions.specs.Step.{acts, answers, block_refusal, calendar_plan, closes, given_up, kind_of, misread, turn_of_names, named_as, named_first, named_here, plan_of, read_at, refusal_reading, roll_up_plan, step, unit_of, as_read, passes_block, performs, unless}
use Rattle.ts_sessions.proofs.NamedLaws.{performs_holds, unless_holds}
use Rattle.ts_sessions.proofs.SoundLaws.{asks_soundly}
use Rattle.image_runs.proofs.ActLaws.{acts_along}
use Rattle.image_runs.proofs.AskLaws.{answers_along}
use Rattle.image_runs.proofs.CallLaws.{SameTurn, TurnsAlong, same_said}
use Rattle.image_runs.proofs.PlaceLaws.{BlockFits, IsFrom, PlacesFit, places_on}
use Rattle.image_runs.proofs.ScriptLaws.{LinesGoOn}
use Rattle.image_runs.proofs.TwinLaws.{Twins, along_ends, along_sees, twins_alike, twins_allowed, twins_prefix}

module _ (h : History) (i : Image) (ok : all_allowed h ≡ true) (is : IsImage h i) (used bytes : ℕ) (few : used + bytes ≤ longest_input) (p : Places) (g k : History) (t : Twins h i g k) (fit : PlacesFit i.pos used k p) where
  -- the session has the same turn at both histories
  abbrev Along : Procedure (Turn Places) → Procedure (Turn Places) → Type 0
  Along d e = TurnsAlong i.pos (used + bytes) g k d e

  -- a turn without events
  quiet : (x y : Turn Places) → SameTurn i.pos (used + bytes) k x y → Along (ends x) (ends y)
  quiet x y same_turn = along_ends (SameTurn i.pos (used + bytes)) g k x y t.allowed same_turn

  same_now : PlacesFit i.pos (used + bytes) k p
  same_now = places_on i.pos used (used + bytes) k k p same (omega arith) (omega (arith, few)) fit

  refused : (r : Refusal) → Along (ends (refuses p r)) (ends (refuses p r))
  refused r = quiet _ _ (same_said i.pos (used + bytes) k p (said.Fault r) same_now)

  -- ---- a statement whose names are resolved in two histories that are alike

  module _ (stmt : Stmt) (l m : History) (there : Twins h i l m) (checked : refusal_of (position m) (roster m) stmt ≡ None → Along (acts p bytes l (action_of (roster l) stmt)) (acts p bytes m (action_of (roster m) stmt))) where
    looks : Alike l m
    looks = twins_alike h i ok is l m there

    same_refusals : refusal_of (position l) (roster l) stmt ≡ refusal_of (position m) (roster m) stmt
    same_refusals = ap (λ q. refusal_of q (roster l) stmt) looks.places ∙ ap (λ r. refusal_of (position m) r stmt) looks.relations

    passed_along : (r : Option Refusal) → refusal_of (position m) (roster m) stmt ≡ r → Along (unless p r (acts p bytes l (action_of (roster l) stmt))) (unless p r (acts p bytes m (action_of (roster m) stmt)))
    passed_along (Some r) e = refused r
    passed_along None e = checked e

    checked_along : Along (unless p (refusal_of (position l) (roster l) stmt) (acts p bytes l (action_of (roster l) stmt))) (unless p (refusal_of (position m) (roster m) stmt) (acts p bytes m (action_of (roster m) stmt)))
    checked_along = subst (λ r. Along (unless p r (acts p bytes l (action_of (roster l) stmt))) (unless p (refusal_of (position m) (roster m) stmt) (acts p bytes m (action_of (roster m) stmt)))) (sym same_refusals) (passed_along (refusal_of (position m) (roster m) stmt) refl)

    read_along : (u : UpperRead) → Along (named_as p bytes l stmt u) (named_as p bytes m stmt u)
    read_along (uppers.Plan plan) = quiet _ _ (answers_along i.pos (used + bytes) p (roll_up_plan plan) l m k looks (twins_allowed h i ok is l m there) there.allowed same_now)
    read_along (uppers.Refused r) = refused r
    read_along uppers.NotUpper = checked_along
    read_along uppers.NoMemory = checked_along

    named_along : Along (turn_of_names p bytes stmt l) (turn_of_names p bytes stmt m)
    named_along =
        subst (λ u. Along (named_as p bytes l stmt u) (turn_of_names p bytes stmt m))
        (sym (ap (λ q. upper_read q (roster l) stmt) looks.places ∙ ap (λ r. upper_read (position m) r stmt) looks.relations))
        (read_along (upper_read (position m) (roster m) stmt))

  -- ---- outside a block, and in a write block

  module _ (stmt : Stmt) (asks : AsksSoundly bytes stmt) where
    acting : refusal_of (position k) (roster k) stmt ≡ None → Along (acts p bytes g (action_of (roster g) stmt)) (acts p bytes k (action_of (roster k) stmt))
    acting e =
        subst (λ r. Along (acts p bytes g (action_of r stmt)) (acts p bytes k (action_of (roster k) stmt))) (sym (twins_alike h i ok is g k t).relations)
        (acts_along h i ok is used bytes few p g k t fit (action_of (roster k) stmt) (asks k t.allowed e))

    -- the event, by the names of a history
    abbrev event_at : History → Procedure (Turn Places)
    event_at x = looks_at (λ y. acts p bytes y (action_of (roster x) stmt))

    first_as : (r : Option Refusal) → refusal_of (position k) (roster k) stmt ≡ r → Along (unless p r (event_at g)) (unless p r (event_at k))
    first_as (Some r) e = refused r
    first_as None e = along_sees (SameTurn i.pos (used + bytes)) g k _ _ (λ x. acts p bytes x (action_of (roster g) stmt)) (λ x. acts p bytes x (action_of (roster k) stmt)) (acting e)

    first_along : Along (named_first p bytes stmt) (named_first p bytes stmt)
    first_along =
        along_sees (SameTurn i.pos (used + bytes)) g k _ _ (λ x. unless p (refusal_of (position x) (roster x) stmt) (event_at x)) (λ x. unless p (refusal_of (position x) (roster x) stmt) (event_at x))
        (subst (λ r. Along (unless p r (event_at g)) (unless p (refusal_of (position k) (roster k) stmt) (event_at k)))
        (sym (same_refusals stmt g k t acting))
        (first_as (refusal_of (position k) (roster k) stmt) refl))

    -- at the current read position
    here_along : (b : Block) → p.block ≡ b → Along (turn_of_names p bytes stmt (read_at b g)) (turn_of_names p bytes stmt (read_at b k)) → Along (named_here p bytes stmt) (named_here p bytes stmt)
    here_along b e a = along_sees (SameTurn i.pos (used + bytes)) g k _ _ (λ x. turn_of_names p bytes stmt (read_at p.block x)) (λ x. turn_of_names p bytes stmt (read_at p.block x)) (subst (λ c. Along (turn_of_names p bytes stmt (read_at c g)) (turn_of_names p bytes stmt (read_at c k))) (sym e) a)

    now_along : Along (turn_of_names p bytes stmt g) (turn_of_names p bytes stmt k)
    now_along = named_along stmt g k t acting

  -- ---- in a read block

  left : (s : _) → Along (ends (turns (enters none p) s)) (ends (turns (enters none p) s))
  left s = quiet _ _ (same_said i.pos (used + bytes) k (enters none p) s (record { block = tt; held = same_now.held }))

  module _ (at : ℕ) (e : p.block ≡ reading at) (l m : History) (there : Twins h i l m) where
    looks_there : Alike l m
    looks_there = twins_alike h i ok is l m there

    asked : (a : Action) (q : Query) → a ≡ actions.Ask q → Along (acts p bytes l a) (acts p bytes m a)
    asked a q e =
        subst (λ b. Along (acts p bytes l b) (acts p bytes m b)) (sym e)
        (quiet _ _
        (subst (λ r. SameTurn i.pos (used + bytes) k (answers p l (plan_of r q)) (answers p m (plan_of (roster m) q))) (sym looks_there.relations)
        (answers_along i.pos (used + bytes) p (plan_of (roster m) q) l m k looks_there (twins_allowed h i ok is l m there) there.allowed same_now)))

    asked_calendar : (a : Action) (n number : ℕ) (unit : List ℕ) (at : ℕ) (fold : Fold) → a ≡ actions.Calendar n number unit at fold → Along (acts p bytes l a) (acts p bytes m a)
    asked_calendar a n number unit at fold e =
        subst (λ b. Along (acts p bytes l b) (acts p bytes m b)) (sym e)
        (quiet _ _
        (answers_along i.pos (used + bytes) p (calendar_plan n (record { number = number; unit = unit_of unit; at = at; fold = fold })) l m k looks_there (twins_allowed h i ok is l m there) there.allowed same_now))

    by_roster : (stmt : Stmt) → Along (acts p bytes l (action_of (roster m) stmt)) (acts p bytes m (action_of (roster m) stmt)) → Along (acts p bytes l (action_of (roster l) stmt)) (acts p bytes m (action_of (roster m) stmt))
    by_roster stmt a = subst (λ r. Along (acts p bytes l (action_of r stmt)) (acts p bytes m (action_of (roster m) stmt))) (sym looks_there.relations) a

    refused_there : (C : Type 0) (r : Refusal) → Some r ≡ None → C
    refused_there C r is_none = absurd (true≢false (ap is_some is_none))

    reads_along : (stmt : Stmt) → refusal_reading (kind_of stmt) ≡ None → Along (acts p bytes l (action_of (roster l) stmt)) (acts p bytes m (action_of (roster m) stmt))
    reads_along (stmts.Table name cols) pass = refused_there _ _ pass
    reads_along (stmts.Hyper table col interval) pass = refused_there _ _ pass
    reads_along (stmts.View name only filled fold) pass = refused_there _ _ pass
    reads_along (stmts.Mode view only) pass = refused_there _ _ pass
    reads_along (stmts.Insert table cols rows) pass = refused_there _ _ pass
    reads_along (stmts.Delete table tests) pass = refused_there _ _ pass
    reads_along (stmts.Drop table below) pass = refused_there _ _ pass
    reads_along (stmts.Refresh view lo hi) pass = refused_there _ _ pass
    reads_along (stmts.Cut view lo hi) pass = refused_there _ _ pass
    reads_along (stmts.Snap number) pass = refused_there _ _ pass
    reads_along (stmts.Finish number) pass = refused_there _ _ pass
    reads_along stmts.Begin pass = refused_there _ _ pass
    reads_along stmts.BeginRead pass = refused_there _ _ pass
    reads_along stmts.Commit pass = subst (λ b. Along (closes p l b) (closes p m b)) (sym e) (left said.End)
    reads_along stmts.Rollback pass = left (given_up p.block)
    reads_along (stmts.Buckets fold) pass = by_roster (stmts.Buckets fold) (asked (action_of (roster m) (stmts.Buckets fold)) _ refl)
    reads_along (stmts.Calendar number unit fold) pass = by_roster (stmts.Calendar number unit fold) (asked_calendar (action_of (roster m) (stmts.Calendar number unit fold)) _ _ _ _ _ refl)
    reads_along (stmts.Rows table tests) pass = by_roster (stmts.Rows table tests) (asked (action_of (roster m) (stmts.Rows table tests)) _ refl)

  -- ---- lines

  now_or_then : (stmt : Stmt) (b : Block) → AsksSoundly bytes stmt → p.block ≡ b → block_refusal b (kind_of stmt) ≡ None → Along (turn_of_names p bytes stmt (read_at b g)) (turn_of_names p bytes stmt (read_at b k))
  now_or_then stmt none asks e pass = now_along stmt asks
  now_or_then stmt (writing ops n) asks e pass = now_along stmt asks
  now_or_then stmt (reading at) asks e pass =
      let began : IsFrom i.pos k at = subst (BlockFits i.pos used k) e fit.block in
      let there = twins_prefix h i ok is g k t at began.above in
      named_along stmt (prefix g at) (prefix k at) there (λ _. reads_along at e (prefix g at) (prefix k at) there stmt pass)

  performs_along : (stmt : Stmt) → AsksSoundly bytes stmt → block_refusal p.block (kind_of stmt) ≡ None → Along (performs p bytes stmt) (performs p bytes stmt)
  performs_along stmt asks pass =
      performs_holds (λ d. Along d d) p bytes stmt (λ twice. first_along stmt asks) (λ once. here_along stmt asks p.block refl (now_or_then stmt p.block asks refl pass))

  passes_along : (stmt : Stmt) → AsksSoundly bytes stmt → Along (passes_block p bytes stmt) (passes_block p bytes stmt)
  passes_along stmt asks = unless_holds (λ d. Along d d) p (block_refusal p.block (kind_of stmt)) (performs p bytes stmt) (λ r e. refused r) (λ pass. performs_along stmt asks pass)

  said_along : (r : Result (Stmt × Stream) Fault) → ((stmt : Stmt) (rest : Stream) → r ≡ Ok (stmt, rest) → AsksSoundly bytes stmt) → Along (as_read p (passes_block p bytes) r) (as_read p (passes_block p bytes) r)
  said_along (Ok read) asks = passes_along read.0 (asks read.0 read.1 refl)
  said_along (Err f) asks = refused (misread f)

-- a line of a session, of at most 65,536 bytes
pub step_along : (h : History) (i : Image) (ok : all_allowed h ≡ true) (is : IsImage h i) (used : ℕ) (p : Places) (g k : History) (t : Twins h i g k) (text : List ℕ) (skip : ℕ) → used + length text ≤ longest_input → length text ≤ 65536 → skip ≤ length text → PlacesFit i.pos used k p → TurnsAlong i.pos (used + length text) g k (step p text skip) (step p text skip)
step_along h i ok is used p g k t text skip few short within fit =
    said_along h i ok is used (length text) few p g k t fit (statement (stream text skip))
    (λ stmt rest e. asks_soundly (length text) stmt short (statements_are_written.read text skip stmt rest within e))

-- so the law is true of sessions without policies
pub session_lines : LinesGoOn session_semantics PlacesFit
session_lines = record {
  opening = λ base used h n. record { block = tt; held = tt };
  fits_on = places_on;
  lines = step_along;
}
