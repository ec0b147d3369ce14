-- What the reply to a line says is the same over each longer history.
use Rattle.std.proofs.Common.{◌≡◌, ℕ, ◌+◌, ◌≤◌, Bool, true, false, List, [], ◌∷◌, ◌++◌, length, Option, Some, None, sym, refl, ap, ◌∙◌, subst, arith}
use Rattle.std.specs.Prelude.{Result, Ok, Err, ℤ, is_some, not}
use Rattle.std.proofs.lemmas.Bool.{true≢false}
use Rattle.ts_bucket.specs.declared.spans.Span.{Span}
use Rattle.ts_model.specs.declared.events.Op.{Op}
use Rattle.ts_model.specs.declared.outcomes.CutDone.{CutDone}
use Rattle.ts_model.specs.declared.outcomes.CutDone.TheVariants.{Cut as CutMade, Nothing as NothingDone}
use Rattle.ts_model.specs.declared.outcomes.Refusal.{Refusal}
use Rattle.ts_model.specs.declared.rosters.Roster.{Roster}
use Rattle.ts_model.specs.declared.views.ViewDef.{ViewDef}
use Rattle.ts_model.specs.Calls.{Act, refuses as is_refused, returns, makes, act_of_commit, act_of_cut, act_of_finish, making_hyper, making_table, making_view, setting_mode}
use Rattle.ts_model.specs.History.{History, position, prefix, Begins}
use Rattle.ts_model.specs.Roster.{roster, view_of}
use Rattle.ts_model.proofs.HistoryLaws.{position_begins, prefix_stays}
use Rattle.stmt_syntax.specs.declared.statements.Stmt.{Stmt}
use Rattle.stmt_syntax.specs.declared.statements.Stmt.TheVariants as stmts
use Rattle.stmt_reader.specs.Reading.{statement}
use Rattle.stmt_tokens.specs.Streams.{stream}
use Rattle.stmt_check.specs.declared.actions.Action.{Action}
use Rattle.stmt_check.specs.declared.actions.Action.TheVariants as actions
use Rattle.stmt_check.specs.Check.{action_of, refusal_of}
use Rattle.stmt_check.proofs.LaterLaws.{Stays, delete_later, drop_later, insert_later}
use Rattle.result_text.specs.declared.replies.Said.TheVariants as said
use Rattle.ts_sessions.specs.declared.kinds.StatementKind.TheVariants as kinds
use Rattle.ts_sessions.specs.Procedures.{Procedure, sees, adds, ends, followed_by, ending_as, tries, tries_at}
use Rattle.ts_sessions.specs.LineLaws.{BegunBy, RepliesAreSteady}
use Rattle.ts_sessions.specs.Places.{Block, none, writing, reading, Places, Turn, cuts, enters, held_for, turns}
use Rattle.ts_sessions.specs.Replies.{replies}
use Rattle.ts_sessions.specs.Steady.{IsEnded, SameLater, Steady}
use Rattle.ts_sessions.specs.Step.{Taken, acts, begins, turn_of_commit, cut_turn, finish_turn, turn_of_refresh, turn_of_line, after_cut, after_line, after_snapshot, after_view, block_refusal, changes, closes, commits, finishes, finishes_held, kind_of, least_start, makes_event, turn_of_names, named_here, on_hypertables, prints, prints_writing, read_at, refresh_meant, refreshes, snapshot_taken, view_made, unless}
use Rattle.ts_sessions.proofs.BlockWalks.{block_is}
use Rattle.ts_sessions.proofs.HypertableLaws.{on_hypertables_stay}
use Rattle.ts_sessions.proofs.NamedLaws.{event_named, named_holds, read_holds, unless_holds}
use Rattle.ts_sessions.proofs.ReplyLaws.{stays_named}

-- ---- procedures in order

-- a call after a read, or after an event, and what follows
steady_tries : {A B : Type 0} (base h : History) (act : Act A) (then : Result A Refusal → Procedure B) → ((r : Result A Refusal) → Steady true base (then r)) → Steady true base (followed_by (tries_at h act) then)
steady_tries base h (is_refused r) then s = s (Err r)
steady_tries base h (returns a) then s = s (Ok a)
steady_tries base h (makes e a) then s = (refl, s (Ok a), s (Err _))

-- a call with a function of its outcome
steady_said : {A B : Type 0} (base h : History) (act : Act A) (g : Result A Refusal → B) → Steady true base (ending_as g (tries_at h act))
steady_said base h (is_refused r) g = tt
steady_said base h (returns a) g = tt
steady_said base h (makes e a) g = (refl, tt, tt)

-- a call with a separate read
steady_call : {A B : Type 0} (fresh : Bool) (base : History) (act : History → Act A) (then : Result A Refusal → Procedure B) → ((h : History) (r : Result A Refusal) → Steady true h (then r)) → Steady fresh base (followed_by (tries act) then)
steady_call fresh base act then s = λ h b. (λ _. steady_tries h h (act h) then (s h), λ no_look. absurd (true≢false no_look))

ended_as : {A B : Type 0} (g : A → B) (procedure : Procedure A) → IsEnded procedure → IsEnded (ending_as g procedure)
ended_as g (sees shown f) i = absurd i
ended_as g (adds e next stop) i = absurd i
ended_as g (ends a) i = tt

-- a procedure with any function of its result
steady_as : {A B : Type 0} (g : A → B) (fresh : Bool) (base : History) (procedure : Procedure A) → Steady fresh base procedure → Steady fresh base (ending_as g procedure)
steady_as g fresh base (sees shown f) s = λ h b. (λ look. steady_as g true h (f h) ((s h b).0 look), λ hidden. (λ l c. ((((s h b).1 hidden).0 l c).0, ap (ending_as g) (((s h b).1 hidden).0 l c).1), ended_as g (f h) ((s h b).1 hidden).1))
steady_as g fresh base (adds e next stop) s = (s.0, steady_as g true base next s.1, steady_as g fresh base stop s.2)
steady_as g fresh base (ends a) s = tt

-- ---- refreshes

steady_snapshot : (h : History) (p : Places) (c : ℕ) (span : Span) (min : ℤ) (t : Result Taken Refusal) → Steady true h (after_snapshot p c span min t)
steady_snapshot h p c span min (Ok t) = λ l b. (λ _. steady_said l l (act_of_finish c t.at l) (turn_of_refresh p c span min t), λ no_look. absurd (true≢false no_look))
steady_snapshot h p c span min (Err r) = tt

steady_cut : (h : History) (p : Places) (min : ℤ) (r : Result CutDone Refusal) → Steady true h (after_cut p min r)
steady_cut h p min (Ok (CutMade c span)) = λ l b. (λ _. steady_snapshot l (cuts c p) c span min (snapshot_taken c l), λ no_look. absurd (true≢false no_look))
steady_cut h p min (Ok (NothingDone at)) = tt
steady_cut h p min (Err r) = tt

steady_refresh : (h : History) (p : Places) (n : ℕ) (lo hi : Option ℤ) (min : ℤ) → Steady true h (refreshes p n lo hi min)
steady_refresh h p n lo hi min = steady_call true h (act_of_cut n lo hi) (after_cut p min) (λ l r. steady_cut l p min r)

steady_filled : (h : History) (p : Places) (n : ℕ) (min : ℤ) (k : ℕ) (filled : Bool) → Steady true h (view_made p n min k filled)
steady_filled h p n min k false = tt
steady_filled h p n min k true = steady_as (after_line (said.View k)) true h (refreshes p n None None min) (steady_refresh h p n None None min)

steady_view : (h : History) (p : Places) (n : ℕ) (def : ViewDef) (filled : Bool) (r : Result ℕ Refusal) → Steady true h (after_view p n def filled r)
steady_view h p n def filled (Ok k) = steady_filled h p n _ k filled
steady_view h p n def filled (Err r) = tt

-- ---- actions

steady_commits : (h l : History) (p after : Places) (ops : List Op) → Steady true h (commits p after l ops)
steady_commits h l p after ops = steady_said h l (act_of_commit ops l) (turn_of_commit p after)

steady_changes : (h l : History) (p : Places) (bytes : ℕ) (op : Op) (b : Block) → Steady true h (changes p bytes l op b)
steady_changes h l p bytes op none = steady_commits h l p p (op ∷ [])
steady_changes h l p bytes op (writing ops n) = tt
steady_changes h l p bytes op (reading at) = steady_commits h l p p (op ∷ [])

steady_closes : (h l : History) (p : Places) (b : Block) → Steady true h (closes p l b)
steady_closes h l p none = tt
steady_closes h l p (writing [] n) = tt
steady_closes h l p (writing (op ∷ ops) n) = steady_commits h l p (enters none p) (op ∷ ops)
steady_closes h l p (reading at) = tt

steady_held : (h l : History) (p : Places) (c : ℕ) (o : Option ℕ) → Steady true h (finishes_held p l c o)
steady_held h l p c None = tt
steady_held h l p c (Some at) = steady_said h l (act_of_finish c at l) (finish_turn p c at)

steady_finishes : (h l : History) (p : Places) (o : Option ℕ) → Steady true h (finishes p l o)
steady_finishes h l p None = tt
steady_finishes h l p (Some c) = steady_held h l p c (held_for c p.held)

steady_acts : (h l : History) (p : Places) (bytes : ℕ) (a : Action) → Steady true h (acts p bytes l a)
steady_acts h l p bytes (actions.Table def) = steady_said h l (making_table def l) (turn_of_line p said.Table)
steady_acts h l p bytes (actions.Hyper t hyper) = steady_said h l (making_hyper t hyper l) (turn_of_line p said.Hypertable)
steady_acts h l p bytes (actions.View def filled) = steady_tries h l (making_view def l) (after_view p (length (roster l).views) def filled) (λ r. steady_view h p (length (roster l).views) def filled r)
steady_acts h l p bytes (actions.Mode n only) = steady_said h l (setting_mode n only l) (turn_of_line p said.Mode)
steady_acts h l p bytes (actions.Change op) = steady_changes h l p bytes op p.block
steady_acts h l p bytes (actions.Refresh n lo hi) = steady_tries h l (act_of_cut n lo hi l) (after_cut p (least_start (view_of (roster l) n))) (λ r. steady_cut h p (least_start (view_of (roster l) n)) r)
steady_acts h l p bytes (actions.Cut n lo hi) = steady_said h l (act_of_cut n lo hi l) (cut_turn p (least_start (view_of (roster l) n)))
steady_acts h l p bytes (actions.Snap cut) = tt
steady_acts h l p bytes (actions.Finish cut) = steady_finishes h l p (refresh_meant p cut)
steady_acts h l p bytes actions.Begin = tt
steady_acts h l p bytes actions.BeginRead = tt
steady_acts h l p bytes actions.Commit = steady_closes h l p p.block
steady_acts h l p bytes actions.Rollback = tt
steady_acts h l p bytes (actions.Calendar table number unit at fold) = tt
steady_acts h l p bytes (actions.Ask q) = tt

steady_named : (h l : History) (p : Places) (bytes : ℕ) (stmt : Stmt) → Steady true h (turn_of_names p bytes stmt l)
steady_named h l p bytes stmt = named_holds (λ d. Steady true h d) p bytes l stmt (λ r e. tt) (λ plan. tt) (λ r e. tt) (λ e. steady_acts h l p bytes (action_of (roster l) stmt))

-- ---- reads

-- a statement with one read is steady if a read that isn't printed stays so and ends it
hidden : (base : History) (p : Places) (bytes : ℕ) (stmt : Stmt) → ((h : History) → Begins base h → prints p.block (kind_of stmt) (roster h) (refusal_of (position h) (roster h) stmt) ≡ false → SameLater (λ l. prints p.block (kind_of stmt) (roster l) (refusal_of (position l) (roster l) stmt)) (λ l. turn_of_names p bytes stmt (read_at p.block l)) h × IsEnded (turn_of_names p bytes stmt (read_at p.block h))) → Steady false base (named_here p bytes stmt)
hidden base p bytes stmt stays = λ h on. (λ _. steady_named h (read_at p.block h) p bytes stmt, stays h on)

-- or if each read is printed
shown : (base : History) (p : Places) (bytes : ℕ) (stmt : Stmt) → ((h : History) → Begins base h → prints p.block (kind_of stmt) (roster h) (refusal_of (position h) (roster h) stmt) ≡ true) → Steady false base (named_here p bytes stmt)
shown base p bytes stmt all = hidden base p bytes stmt (λ h on e. absurd (true≢false (sym (all h on) ∙ e)))

-- or if no read is printed, and it says the same at each position
unshown : (base : History) (p : Places) (bytes : ℕ) (stmt : Stmt) (y : Turn Places) → ((r : Roster) (refused : Option Refusal) → prints p.block (kind_of stmt) r refused ≡ false) → ((h : History) → turn_of_names p bytes stmt h ≡ ends y) → Steady false base (named_here p bytes stmt)
unshown base p bytes stmt y no_look is =
    hidden base p bytes stmt
    (λ h on e. (λ l c. (no_look (roster l) (refusal_of (position l) (roster l) stmt), is (read_at p.block l) ∙ sym (is (read_at p.block h))), subst IsEnded (sym (is (read_at p.block h))) tt))

-- ---- outside a block

pub only_begins : (stmt : Stmt) → begins (kind_of stmt) ≡ true → stmt ≡ stmts.Begin
only_begins (stmts.Table name cols) e = absurd (true≢false (sym e))
only_begins (stmts.Hyper table col interval) e = absurd (true≢false (sym e))
only_begins (stmts.View name only filled fold) e = absurd (true≢false (sym e))
only_begins (stmts.Mode view only) e = absurd (true≢false (sym e))
only_begins (stmts.Insert table cols rows) e = absurd (true≢false (sym e))
only_begins (stmts.Delete table tests) e = absurd (true≢false (sym e))
only_begins (stmts.Drop table below) e = absurd (true≢false (sym e))
only_begins (stmts.Refresh view lo hi) e = absurd (true≢false (sym e))
only_begins (stmts.Cut view lo hi) e = absurd (true≢false (sym e))
only_begins (stmts.Snap number) e = absurd (true≢false (sym e))
only_begins (stmts.Finish number) e = absurd (true≢false (sym e))
only_begins stmts.Begin e = refl
only_begins stmts.BeginRead e = absurd (true≢false (sym e))
only_begins stmts.Commit e = absurd (true≢false (sym e))
only_begins stmts.Rollback e = absurd (true≢false (sym e))
only_begins (stmts.Buckets fold) e = absurd (true≢false (sym e))
only_begins (stmts.Calendar number unit fold) e = absurd (true≢false (sym e))
only_begins (stmts.Rows table tests) e = absurd (true≢false (sym e))

steady_outside : (base : History) (p : Places) (bytes : ℕ) (stmt : Stmt) → Steady false base (named_here (enters none p) bytes stmt)
steady_outside base p bytes stmt =
    let q = enters none p in
    elim (begins (kind_of stmt)) as (λ b. begins (kind_of stmt) ≡ b → Steady false base (named_here q bytes stmt)) [
      | true ↦ λ e. subst (λ s. Steady false base (named_here q bytes s)) (sym (only_begins stmt e)) (unshown base q bytes stmts.Begin (turns (enters (writing [] 0) q) said.Begin) (λ r refused. refl) (λ h. refl))
      | false ↦ λ e. shown base q bytes stmt (λ h on. ap not e)
    ] refl

-- ---- in a write block

pub none_there : (o : Option Refusal) → is_some o ≡ false → o ≡ None
none_there None e = refl
none_there (Some r) e = absurd (true≢false e)

-- an operation that is queued
steady_queue : (base : History) (p : Places) (bytes : ℕ) (stmt : Stmt) (ops : List Op) (n : ℕ) (op : Roster → Op) → kind_of stmt ≡ kinds.Changes → ((r : Roster) → action_of r stmt ≡ actions.Change (op r)) → ((h l : History) → Begins h l → refusal_of (position h) (roster h) stmt ≡ None → Stays h l stmt) → Steady false base (named_here (enters (writing ops n) p) bytes stmt)
steady_queue base p bytes stmt ops n op kind is later =
    let q = enters (writing ops n) p in
    let y : Roster → Turn Places = λ r. turns (enters (writing (ops ++ op r ∷ []) (n + bytes)) q) said.Queued in
    let waits : (l : History) (r : Roster) → acts q bytes l (action_of r stmt) ≡ ends (y r) = λ l r. ap (acts q bytes l) (is r) in
    hidden base q bytes stmt (λ h on e.
    let none_now : refusal_of (position h) (roster h) stmt ≡ None = none_there _ (ap (λ k. prints_writing ops k (roster h) (refusal_of (position h) (roster h) stmt)) (sym kind) ∙ e) in
    let makes : makes_event (kind_of stmt) ≡ true = ap makes_event kind in
    let here : turn_of_names q bytes stmt h ≡ ends (y (roster h)) = event_named q bytes h stmt makes ∙ ap (λ o. unless q o (acts q bytes h (action_of (roster h) stmt))) none_now ∙ waits h (roster h) in (
      λ l c.
          let s = later h l c none_now in
          (ap (λ k. prints_writing ops k (roster l) (refusal_of (position l) (roster l) stmt)) kind ∙ ap is_some (s.passes (position l)), sym (stays_named q bytes stmt h l makes s) ∙ waits l (roster h) ∙ sym here),
      subst IsEnded (sym here) tt,
    ))

-- the end of the block
steady_commit : (base : History) (p : Places) (bytes : ℕ) (ops : List Op) (n : ℕ) → Steady false base (named_here (enters (writing ops n) p) bytes stmts.Commit)
steady_commit base p bytes [] n = let q = enters (writing [] n) p in unshown base q bytes stmts.Commit (turns (enters none q) said.CommitEmpty) (λ r refused. refl) (λ h. refl)
steady_commit base p bytes (op ∷ ops) n = shown base (enters (writing (op ∷ ops) n) p) bytes stmts.Commit (λ h on. refl)

pub refused_here : {X : Type 0} (r : Refusal) → Some r ≡ None → X
refused_here r e = absurd cc

steady_writing : (base : History) (p : Places) (bytes : ℕ) (stmt : Stmt) (ops : List Op) (n : ℕ) → on_hypertables (roster base) ops ≡ true → block_refusal (writing ops n) (kind_of stmt) ≡ None → Steady false base (named_here (enters (writing ops n) p) bytes stmt)
steady_writing base p bytes (stmts.Table name cols) ops n begun e = refused_here _ e
steady_writing base p bytes (stmts.Hyper table col interval) ops n begun e = refused_here _ e
steady_writing base p bytes (stmts.View name only filled fold) ops n begun e = refused_here _ e
steady_writing base p bytes (stmts.Mode view only) ops n begun e = refused_here _ e
steady_writing base p bytes (stmts.Insert table cols rows) ops n begun e = steady_queue base p bytes (stmts.Insert table cols rows) ops n _ refl (λ r. refl) (λ h l b i. insert_later h l (position h) table cols rows b i)
steady_writing base p bytes (stmts.Delete table tests) ops n begun e = steady_queue base p bytes (stmts.Delete table tests) ops n _ refl (λ r. refl) (λ h l b i. delete_later h l (position h) table tests b i)
steady_writing base p bytes (stmts.Drop table below) ops n begun e = steady_queue base p bytes (stmts.Drop table below) ops n _ refl (λ r. refl) (λ h l b i. drop_later h l (position h) table below b i)
steady_writing base p bytes (stmts.Refresh view lo hi) ops n begun e = refused_here _ e
steady_writing base p bytes (stmts.Cut view lo hi) ops n begun e = refused_here _ e
steady_writing base p bytes (stmts.Snap number) ops n begun e = refused_here _ e
steady_writing base p bytes (stmts.Finish number) ops n begun e = refused_here _ e
steady_writing base p bytes stmts.Begin ops n begun e = refused_here _ e
steady_writing base p bytes stmts.BeginRead ops n begun e = refused_here _ e
steady_writing base p bytes stmts.Commit ops n begun e = steady_commit base p bytes ops n
steady_writing base p bytes stmts.Rollback ops n begun e = let q = enters (writing ops n) p in unshown base q bytes stmts.Rollback (turns (enters none q) said.Rollback) (λ r refused. refl) (λ h. refl)
steady_writing base p bytes (stmts.Buckets fold) ops n begun e = shown base (enters (writing ops n) p) bytes (stmts.Buckets fold) (λ h on. on_hypertables_stay base h ops on begun)
steady_writing base p bytes (stmts.Calendar number unit fold) ops n begun e = shown base (enters (writing ops n) p) bytes (stmts.Calendar number unit fold) (λ h on. on_hypertables_stay base h ops on begun)
steady_writing base p bytes (stmts.Rows table tests) ops n begun e = shown base (enters (writing ops n) p) bytes (stmts.Rows table tests) (λ h on. on_hypertables_stay base h ops on begun)

-- ---- in a read block

-- a statement reads at the position at which the block began
steady_read : (base : History) (p : Places) (bytes : ℕ) (stmt : Stmt) (at : ℕ) → at ≤ position base → ((h : History) → IsEnded (turn_of_names (enters (reading at) p) bytes stmt h)) → Steady false base (named_here (enters (reading at) p) bytes stmt)
steady_read base p bytes stmt at le ended =
    let q = enters (reading at) p in
    hidden base q bytes stmt (λ h on e. (λ l c. (refl, ap (turn_of_names q bytes stmt) (prefix_stays at c (omega (arith, le, position_begins on)))), ended (prefix h at)))

pub ended_named : (p : Places) (bytes : ℕ) (stmt : Stmt) (h : History) → IsEnded (acts p bytes h (action_of (roster h) stmt)) → IsEnded (turn_of_names p bytes stmt h)
ended_named p bytes stmt h i = named_holds IsEnded p bytes h stmt (λ r e. tt) (λ plan. tt) (λ r e. tt) (λ e. i)

steady_reading : (base : History) (p : Places) (bytes : ℕ) (stmt : Stmt) (at : ℕ) → at ≤ position base → block_refusal (reading at) (kind_of stmt) ≡ None → Steady false base (named_here (enters (reading at) p) bytes stmt)
steady_reading base p bytes (stmts.Table name cols) at le e = refused_here _ e
steady_reading base p bytes (stmts.Hyper table col interval) at le e = refused_here _ e
steady_reading base p bytes (stmts.View name only filled fold) at le e = refused_here _ e
steady_reading base p bytes (stmts.Mode view only) at le e = refused_here _ e
steady_reading base p bytes (stmts.Insert table cols rows) at le e = refused_here _ e
steady_reading base p bytes (stmts.Delete table tests) at le e = refused_here _ e
steady_reading base p bytes (stmts.Drop table below) at le e = refused_here _ e
steady_reading base p bytes (stmts.Refresh view lo hi) at le e = refused_here _ e
steady_reading base p bytes (stmts.Cut view lo hi) at le e = refused_here _ e
steady_reading base p bytes (stmts.Snap number) at le e = refused_here _ e
steady_reading base p bytes (stmts.Finish number) at le e = refused_here _ e
steady_reading base p bytes stmts.Begin at le e = refused_here _ e
steady_reading base p bytes stmts.BeginRead at le e = refused_here _ e
steady_reading base p bytes stmts.Commit at le e = steady_read base p bytes stmts.Commit at le (λ h. ended_named (enters (reading at) p) bytes stmts.Commit h tt)
steady_reading base p bytes stmts.Rollback at le e = steady_read base p bytes stmts.Rollback at le (λ h. ended_named (enters (reading at) p) bytes stmts.Rollback h tt)
steady_reading base p bytes (stmts.Buckets fold) at le e = steady_read base p bytes (stmts.Buckets fold) at le (λ h. ended_named (enters (reading at) p) bytes (stmts.Buckets fold) h tt)
steady_reading base p bytes (stmts.Calendar number unit fold) at le e = steady_read base p bytes (stmts.Calendar number unit fold) at le (λ h. ended_named (enters (reading at) p) bytes (stmts.Calendar number unit fold) h tt)
steady_reading base p bytes (stmts.Rows table tests) at le e = steady_read base p bytes (stmts.Rows table tests) at le (λ h. ended_named (enters (reading at) p) bytes (stmts.Rows table tests) h tt)

-- ---- lines

in_block : (base : History) (p : Places) (bytes : ℕ) (stmt : Stmt) (b : Block) → BegunBy b base → block_refusal b (kind_of stmt) ≡ None → Steady false base (named_here (enters b p) bytes stmt)
in_block base p bytes stmt none begun e = steady_outside base p bytes stmt
in_block base p bytes stmt (writing ops n) begun e = steady_writing base p bytes stmt ops n begun e
in_block base p bytes stmt (reading at) begun e = steady_reading base p bytes stmt at begun e

reply_in : (base : History) (p : Places) (bytes : ℕ) (stmt : Stmt) → BegunBy p.block base → Steady false base (replies p bytes stmt)
reply_in base p bytes stmt begun =
    unless_holds (Steady false base) p (block_refusal p.block (kind_of stmt)) (named_here p bytes stmt) (λ r e. tt)
    (λ e. subst (λ q. Steady false base (named_here q bytes stmt)) (sym (block_is p p.block refl)) (in_block base p bytes stmt p.block begun e))

pub replies_are_steady : RepliesAreSteady
replies_are_steady p text skip base begun = read_holds (Steady false base) p (replies p (length text)) (statement (stream text skip)) (λ f. tt) (λ stmt. reply_in base p (length text) stmt begun)
