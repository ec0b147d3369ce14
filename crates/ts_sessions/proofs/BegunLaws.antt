-- The block of a session after a line had begun by the end of the line.
use Rattle.std.proofs.Common.{◌≡◌, ◌∙◌, ℕ, suc, true, List, [], ◌∷◌, ◌++◌, length, Option, Some, None, inl, inr, refl, sym, subst, arith}
use Rattle.std.specs.Prelude.{Result}
use Rattle.std.proofs.lemmas.Bool.{and_from}
use Rattle.std.proofs.lemmas.List.Folds.{list_all-append}
use Rattle.ts_model.specs.declared.events.Event.{Event}
use Rattle.ts_model.specs.declared.events.Op.{Op}
use Rattle.ts_model.specs.Calls.{act_of_cut, making_hyper, making_table, making_view, setting_mode}
use Rattle.ts_model.specs.History.{History, Begins, position, prefix, same}
use Rattle.ts_model.specs.Roster.{roster, view_of}
use Rattle.ts_model.proofs.HistoryLaws.{begins_prefix, begins_trans, position_begins}
use Rattle.stmt_reader.specs.declared.faults.Fault.{Fault}
use Rattle.stmt_syntax.specs.declared.statements.Stmt.{Stmt}
use Rattle.stmt_reader.specs.Reading.{statement}
use Rattle.stmt_tokens.specs.Streams.{Stream, stream}
use Rattle.stmt_check.specs.declared.actions.Action.{Action}
use Rattle.stmt_check.specs.declared.actions.Action.TheVariants as actions
use Rattle.stmt_check.specs.Check.{action_of, refusal_of}
use Rattle.result_text.specs.declared.replies.Said.TheVariants as said
use Rattle.ts_sessions.specs.Actors.{BlocksBegin}
use Rattle.ts_sessions.specs.CutRefreshes.{GivenBlocksBegin}
use Rattle.ts_sessions.specs.Gives.{Gives}
use Rattle.ts_sessions.specs.LineLaws.{BegunBy}
use Rattle.ts_sessions.specs.Places.{Block, none, writing, reading, Places, Turn, enters}
use Rattle.ts_sessions.specs.Procedures.{Procedure, sees, adds, ends, looks}
use Rattle.ts_sessions.specs.Replies.{reply_to, replies}
use Rattle.ts_sessions.specs.Step.{acts, after_cut, after_view, block_refusal, changes, closes, cut_turn, is_on_hypertable, kind_of, least_start, named_first, named_here, read_at, refresh_meant, turn_of_line, step, as_read, passes_block, performs}
use Rattle.ts_sessions.proofs.HypertableLaws.{ChangesHypertable, on_hypertable_stays, on_hypertables_stay, passed_changes}
use Rattle.ts_sessions.proofs.NamedLaws.{named_holds, performs_holds, read_holds, unless_holds}
use Rattle.ts_sessions.proofs.WalkLaws.{goes_walks}
use Rattle.ts_sessions.proofs.TurnBlocks.{EndsBy, InTurn, by_commits, by_cut, by_cut_turn, by_finishes, by_reported, by_snaps, by_view, call_by, one_by, walks_by}

-- ---- blocks

-- a block that had begun by the end of a history had begun by the end of a longer one
pub begun_later : (b : Block) (g h : History) → Begins g h → BegunBy b g → BegunBy b h
begun_later none g h on begun = tt
begun_later (writing ops bytes) g h on begun = on_hypertables_stay g h ops on begun
begun_later (reading at) g h on begun = let le = position_begins on in omega (arith, le, begun)

read_begins : (b : Block) (h all : History) → Begins h all → Begins (read_at b h) all
read_begins none h all on = on
read_begins (writing ops bytes) h all on = on
read_begins (reading at) h all on = begins_trans (begins_prefix h at) on

-- ---- statements

module _ (all : History) where
  -- a block had begun by the end of the history
  abbrev Begun : Block → Type 0
  Begun b = BegunBy b all

  -- so had the block after a turn
  abbrev InBegun : Turn Places → Type 0
  InBegun y = InTurn Begun all y

  -- the state before a turn, whose block had begun by then
  module _ (p : Places) (begun : BegunBy p.block all) where
    by_changes : (bytes : ℕ) (h : History) (op : Op) (b : Block) → BegunBy b all → is_on_hypertable (roster all) op ≡ true → EndsBy InBegun all (changes p bytes h op b)
    by_changes bytes h op none before there = by_commits Begun all p begun p begun h (op ∷ [])
    by_changes bytes h op (writing ops k) before there = list_all-append (is_on_hypertable (roster all)) ops (op ∷ []) ∙ and_from _ _ before (and_from _ _ there refl)
    by_changes bytes h op (reading at) before there = by_commits Begun all p begun p begun h (op ∷ [])

    by_closes : (h : History) (b : Block) → EndsBy InBegun all (closes p h b)
    by_closes h none = tt
    by_closes h (writing [] k) = tt
    by_closes h (writing (op ∷ ops) k) = by_commits Begun all p begun (enters none p) tt h (op ∷ ops)
    by_closes h (reading at) = tt

    -- an action of a statement whose names were resolved in one history, at another
    by_acts : (bytes : ℕ) (g h : History) (a : Action) → Begins g all → Begins h all → ChangesHypertable (roster g) a → EndsBy InBegun all (acts p bytes h a)
    by_acts bytes g h (actions.Table def) there on c = one_by InBegun all h (making_table def h) (turn_of_line p said.Table) (by_reported Begun all p begun said.Table)
    by_acts bytes g h (actions.Hyper t hyper) there on c = one_by InBegun all h (making_hyper t hyper h) (turn_of_line p said.Hypertable) (by_reported Begun all p begun said.Hypertable)
    by_acts bytes g h (actions.View def filled) there on c = let k = length (roster h).views in call_by InBegun all h (making_view def h) (after_view p k def filled) (by_view Begun all p begun k def filled)
    by_acts bytes g h (actions.Mode k only) there on c = one_by InBegun all h (setting_mode k only h) (turn_of_line p said.Mode) (by_reported Begun all p begun said.Mode)
    by_acts bytes g h (actions.Change op) there on c = by_changes bytes h op p.block begun (on_hypertable_stays g all op there c)
    by_acts bytes g h (actions.Refresh k lo hi) there on c = let min = least_start (view_of (roster h) k) in call_by InBegun all h (act_of_cut k lo hi h) (after_cut p min) (by_cut Begun all p begun min)
    by_acts bytes g h (actions.Cut k lo hi) there on c = let min = least_start (view_of (roster h) k) in one_by InBegun all h (act_of_cut k lo hi h) (cut_turn p min) (by_cut_turn Begun all p begun min)
    by_acts bytes g h (actions.Snap cut) there on c = by_snaps Begun all p begun h (refresh_meant p cut)
    by_acts bytes g h (actions.Finish cut) there on c = by_finishes Begun all p begun h (refresh_meant p cut)
    by_acts bytes g h actions.Begin there on c = refl
    by_acts bytes g h actions.BeginRead there on c = position_begins on
    by_acts bytes g h actions.Commit there on c = by_closes h p.block
    by_acts bytes g h actions.Rollback there on c = tt
    by_acts bytes g h (actions.Calendar table number unit at fold) there on c = begun
    by_acts bytes g h (actions.Ask q) there on c = begun

    by_here : (bytes : ℕ) (stmt : Stmt) → EndsBy InBegun all (named_here p bytes stmt)
    by_here bytes stmt = λ h on.
        let at = read_at p.block h in
        let there = read_begins p.block h all on in
        named_holds (EndsBy InBegun all) p bytes at stmt (λ r e. begun) (λ plan. begun) (λ r e. begun) (λ e. by_acts bytes at at (action_of (roster at) stmt) there there (passed_changes (roster at) (position at) stmt e))

    by_first : (bytes : ℕ) (stmt : Stmt) → EndsBy InBegun all (named_first p bytes stmt)
    by_first bytes stmt = λ g there.
        unless_holds (EndsBy InBegun all) p (refusal_of (position g) (roster g) stmt) (looks (λ h. acts p bytes h (action_of (roster g) stmt))) (λ r e. begun)
        (λ e h on. by_acts bytes g h (action_of (roster g) stmt) there on (passed_changes (roster g) (position g) stmt e))

    by_statement : (bytes : ℕ) (stmt : Stmt) → EndsBy InBegun all (passes_block p bytes stmt)
    by_statement bytes stmt =
        unless_holds (EndsBy InBegun all) p (block_refusal p.block (kind_of stmt)) (performs p bytes stmt) (λ r e. begun)
        (λ e. performs_holds (EndsBy InBegun all) p bytes stmt (λ twice. by_first bytes stmt) (λ once. by_here bytes stmt))

    by_read : (bytes : ℕ) (r : Result (Stmt × Stream) Fault) → EndsBy InBegun all (as_read p (passes_block p bytes) r)
    by_read bytes r = read_holds (EndsBy InBegun all) p (passes_block p bytes) r (λ f. begun) (by_statement bytes)

pub blocks_begin : BlocksBegin (λ (p : Places). p.block) step
blocks_begin alone failed old p text skip new y begun w =
    let all = new.history in
    let goes = goes_walks alone failed old (step p text skip) new y w in
    walks_by (InBegun all) all alone failed old (step p text skip) new y same
    (by_read all p (begun_later p.block old.history all goes.begins begun) (length text) (statement (stream text skip))) w

-- ---- what lines give

gives_by : {A : Type 0} (N : A → Type 0) (all : History) (stop : Option ℕ) (at : ℕ) (so_far : List (ℕ × Event)) (procedure : Procedure A) (looks : List (Option ℕ)) (last : ℕ) (given : List (ℕ × Event)) (y : A) → EndsBy N all procedure → Gives all stop at so_far procedure looks last given y → N y
gives_by N all stop at so_far (sees shown f) [] last given y t g = absurd g
gives_by N all stop at so_far (sees shown f) (None ∷ ps) last given y t g = gives_by N all stop at so_far (f all) ps last given y (t all same) g.1
gives_by N all stop at so_far (sees shown f) (Some p ∷ ps) last given y t g =
    gives_by N all stop p so_far (f (prefix all p)) ps last given y (t (prefix all p) (begins_prefix all p)) g.3
gives_by N all stop at so_far (adds e next stop_next) ps last given y t (inl g) = gives_by N all stop at so_far stop_next ps last given y t.1 g.1
gives_by N all stop at so_far (adds e next stop_next) ps last given y t (inr g) = gives_by N all stop (suc at) (so_far ++ (suc at, e) ∷ []) next ps last given y t.0 g.1
gives_by N all stop at so_far (ends a) [] last given y t g = subst N (sym g.2) t
gives_by N all stop at so_far (ends a) (p ∷ ps) last given y t g = absurd g

reply_by : (all : History) (p : Places) → BegunBy p.block all → (bytes : ℕ) (stmt : Stmt) → EndsBy (InBegun all) all (replies p bytes stmt)
reply_by all p begun bytes stmt = unless_holds (EndsBy (InBegun all) all) p (block_refusal p.block (kind_of stmt)) (named_here p bytes stmt) (λ r e. begun) (λ e. by_here all p begun bytes stmt)

pub given_blocks_begin : GivenBlocksBegin (λ (p : Places). p.block) reply_to
given_blocks_begin all stop at p text skip looks last given y begun g =
    let ends_so = read_holds (EndsBy (InBegun all) all) p (replies p (length text)) (statement (stream text skip)) (λ f. begun) (reply_by all p begun (length text)) in
    gives_by (InBegun all) all stop at [] (reply_to p text skip) looks last given y ends_so g
