-- A statement that appends an event outside a block leaves its session outside.
use Rattle.std.proofs.Common.{◌≡◌, ℕ, true, [], ◌∷◌, length, sym, ap, ◌∙◌, subst}
use Rattle.std.specs.Prelude.{Result, Ok, Err}
use Rattle.std.proofs.lemmas.Bool.{true≢false}
use Rattle.ts_model.specs.Calls.{act_of_cut, making_hyper, making_table, making_view, setting_mode}
use Rattle.ts_model.specs.History.{History, position, same}
use Rattle.ts_model.specs.Roster.{roster, view_of}
use Rattle.stmt_reader.specs.declared.faults.Fault.{Fault}
use Rattle.stmt_syntax.specs.declared.statements.Stmt.{Stmt}
use Rattle.stmt_reader.specs.Reading.{statement}
use Rattle.stmt_tokens.specs.Streams.{Stream, stream}
use Rattle.stmt_check.specs.declared.actions.Action.{Action}
use Rattle.stmt_check.specs.declared.actions.Action.TheVariants as actions
use Rattle.stmt_check.specs.Check.{action_of, refusal_of}
use Rattle.result_text.specs.declared.replies.Said.TheVariants as said
use Rattle.ts_sessions.specs.Actors.{ReadsEvent, StaysOutside}
use Rattle.ts_sessions.specs.Places.{Block, none, Places, Turn}
use Rattle.ts_sessions.specs.Procedures.{looks}
use Rattle.ts_sessions.specs.Sound.{kind_of_action}
use Rattle.ts_sessions.specs.Step.{acts, after_cut, after_view, block_refusal, changes, cut_turn, kind_of, least_start, makes_event, named_first, turn_of_line, step, as_read, passes_block, performs}
use Rattle.ts_sessions.proofs.NamedLaws.{once_outside, performs_holds, unless_holds}
use Rattle.ts_sessions.proofs.SoundLaws.{kinds_agree}
use Rattle.ts_sessions.proofs.TurnBlocks.{EndsBy, InTurn, by_commits, by_cut, by_cut_turn, by_reported, by_view, call_by, one_by, walks_by}

-- the session is outside a block
abbrev IsOutside : Block → Type 0
IsOutside b = b ≡ none

module _ (all : History) where
  -- the session is outside a block after a turn
  abbrev IsOut : Turn Places → Type 0
  IsOut y = InTurn IsOutside all y

  -- the state before it
  module _ (p : Places) (out : p.block ≡ none) where
    out_acts : (bytes : ℕ) (h : History) (a : Action) → makes_event (kind_of_action a) ≡ true → EndsBy IsOut all (acts p bytes h a)
    out_acts bytes h (actions.Table def) e = one_by IsOut all h (making_table def h) (turn_of_line p said.Table) (by_reported IsOutside all p out said.Table)
    out_acts bytes h (actions.Hyper t hyper) e = one_by IsOut all h (making_hyper t hyper h) (turn_of_line p said.Hypertable) (by_reported IsOutside all p out said.Hypertable)
    out_acts bytes h (actions.View def filled) e = let k = length (roster h).views in call_by IsOut all h (making_view def h) (after_view p k def filled) (by_view IsOutside all p out k def filled)
    out_acts bytes h (actions.Mode k only) e = one_by IsOut all h (setting_mode k only h) (turn_of_line p said.Mode) (by_reported IsOutside all p out said.Mode)
    out_acts bytes h (actions.Change op) e = subst (λ b. EndsBy IsOut all (changes p bytes h op b)) (sym out) (by_commits IsOutside all p out p out h (op ∷ []))
    out_acts bytes h (actions.Refresh k lo hi) e = let min = least_start (view_of (roster h) k) in call_by IsOut all h (act_of_cut k lo hi h) (after_cut p min) (by_cut IsOutside all p out min)
    out_acts bytes h (actions.Cut k lo hi) e = let min = least_start (view_of (roster h) k) in one_by IsOut all h (act_of_cut k lo hi h) (cut_turn p min) (by_cut_turn IsOutside all p out min)
    out_acts bytes h (actions.Snap cut) e = absurd (true≢false (sym e))
    out_acts bytes h (actions.Finish cut) e = absurd (true≢false (sym e))
    out_acts bytes h actions.Begin e = absurd (true≢false (sym e))
    out_acts bytes h actions.BeginRead e = absurd (true≢false (sym e))
    out_acts bytes h actions.Commit e = absurd (true≢false (sym e))
    out_acts bytes h actions.Rollback e = absurd (true≢false (sym e))
    out_acts bytes h (actions.Calendar table number unit at fold) e = absurd (true≢false (sym e))
    out_acts bytes h (actions.Ask q) e = absurd (true≢false (sym e))

    out_first : (bytes : ℕ) (stmt : Stmt) → makes_event (kind_of stmt) ≡ true → EndsBy IsOut all (named_first p bytes stmt)
    out_first bytes stmt e = λ g _.
        unless_holds (EndsBy IsOut all) p (refusal_of (position g) (roster g) stmt) (looks (λ h. acts p bytes h (action_of (roster g) stmt))) (λ r f. out) (λ f h on. out_acts bytes h (action_of (roster g) stmt) (ap makes_event (kinds_agree (roster g) stmt) ∙ e))

    out_statement : (bytes : ℕ) (stmt : Stmt) → makes_event (kind_of stmt) ≡ true → EndsBy IsOut all (passes_block p bytes stmt)
    out_statement bytes stmt e =
        unless_holds (EndsBy IsOut all) p (block_refusal p.block (kind_of stmt)) (performs p bytes stmt) (λ r f. out)
        (λ f. performs_holds (EndsBy IsOut all) p bytes stmt (λ twice. out_first bytes stmt e) (λ once. absurd (true≢false (sym e ∙ once_outside p.block (kind_of stmt) once out))))

    out_read : (bytes : ℕ) (r : Result (Stmt × Stream) Fault) → ReadsEvent r → EndsBy IsOut all (as_read p (passes_block p bytes) r)
    out_read bytes (Ok read) e = out_statement bytes read.0 e
    out_read bytes (Err f) e = absurd e

pub stays_outside : StaysOutside (λ (p : Places). p.block) step
stays_outside alone failed old p text skip new y out e w =
    let all = new.history in
    walks_by (IsOut all) all alone failed old (step p text skip) new y same
    (out_read all p out (length text) (statement (stream text skip)) e) w
