-- The step of a session: what a line does, by the session state.
use Rattle.std.specs.Prelude.{ℕ, ◌+◌, ℤ, pos as nonneg, negsuc, codes, if◌then◌else◌, Bool, true, false, not, cond, is_some, List, [], ◌∷◌, ◌++◌, length, Option, Some, None, Result, Ok, Err}
use Rattle.std.specs.List.{list_all}
use Rattle.ts_bucket.specs.Bucket.{first_of}
use Rattle.ts_bucket.specs.declared.spans.Span.{Span}
use Rattle.ts_model.specs.declared.events.Op.{Op}
use Rattle.ts_model.specs.declared.events.Op.TheVariants.{Insert, Delete}
use Rattle.ts_model.specs.declared.outcomes.CutDone.{CutDone}
use Rattle.ts_model.specs.declared.outcomes.CutDone.TheVariants.{Cut as CutMade, Nothing as NothingDone}
use Rattle.ts_model.specs.declared.outcomes.Committed.{Committed}
use Rattle.ts_model.specs.declared.outcomes.Refusal.{Refusal}
use Rattle.ts_model.specs.declared.queries.Answer.{Answer}
use Rattle.ts_model.specs.declared.queries.Query.{Query}
use Rattle.ts_model.specs.declared.queries.Query.TheVariants as queries
use Rattle.ts_model.specs.declared.refreshes.Pending.{Pending}
use Rattle.ts_model.specs.declared.refreshes.Pending.TheVariants.{Waiting, Finished, Unknown}
use Rattle.ts_model.specs.declared.rosters.Roster.{Roster}
use Rattle.ts_model.specs.declared.views.ViewDef.{ViewDef}
use Rattle.ts_model.specs.History.{History, position, prefix}
use Rattle.ts_model.specs.Roster.{hyper_of, roster, same_name, view_of}
use Rattle.ts_model.specs.Answers.{answer, with_queue}
use Rattle.ts_model.specs.Pending.{pending}
use Rattle.ts_model.specs.Reads.{reads as reads_of, job_reads}
use Rattle.ts_model.specs.Timely.{has_room}
use Rattle.ts_model.specs.Calls.{refusal, making_table, making_hyper, making_view, setting_mode, act_of_commit, act_of_cut, act_of_finish}
use Rattle.ts_model.specs.Numbers.{no_token, syntax, bad_number, in_write_block, in_read_block, no_block, no_refresh, no_snapshot, stopped, history_full}
use Rattle.stmt_reader.specs.declared.faults.Fault.{Fault}
use Rattle.stmt_reader.specs.declared.faults.Fault.TheVariants as faults
use Rattle.stmt_syntax.specs.declared.statements.Stmt.{Stmt}
use Rattle.stmt_syntax.specs.declared.statements.Stmt.TheVariants as stmts
use Rattle.stmt_reader.specs.Reading.{statement}
use Rattle.stmt_tokens.specs.Streams.{Stream, stream}
use Rattle.stmt_check.specs.declared.actions.Action.{Action}
use Rattle.stmt_check.specs.declared.actions.Action.TheVariants as actions
use Rattle.stmt_check.specs.Check.{action_of, refusal_of}
use Rattle.hier_agg.specs.declared.plans.UpperPlan.{UpperPlan}
use Rattle.hier_agg.specs.declared.reads.UpperRead.{UpperRead}
use Rattle.hier_agg.specs.declared.reads.UpperRead.TheVariants as uppers
use Rattle.hier_agg.specs.Plans.{lower_query}
use Rattle.hier_agg.specs.Reads.{upper_read}
use Rattle.hier_agg.specs.Upper.{upper_answer}
use Rattle.cal_bucket.specs.declared.plans.CalPlan.{CalPlan}
use Rattle.cal_bucket.specs.declared.plans.CalUnit.{CalUnit}
use Rattle.cal_bucket.specs.declared.plans.CalUnit.TheVariants as units
use Rattle.cal_bucket.specs.Answers.{plan_rows}
use Rattle.result_text.specs.declared.replies.Said.{Said}
use Rattle.result_text.specs.declared.replies.Said.TheVariants as said
use Rattle.ts_sessions.specs.declared.kinds.StatementKind.{StatementKind}
use Rattle.ts_sessions.specs.declared.kinds.StatementKind.TheVariants as kinds
use Rattle.ts_sessions.specs.declared.queries.Form.{Form}
use Rattle.ts_sessions.specs.declared.queries.Form.TheVariants as forms
use Rattle.ts_sessions.specs.declared.queries.Plan.{Plan}
use Rattle.ts_sessions.specs.Procedures.{Procedure, sees, looks, ends, followed_by, ending_as, tries_at, tries}
use Rattle.ts_sessions.specs.Places.{Block, none, writing, reading, Places, queue_in, queue_count, held_for, enters, cuts, holds, gives_up, Turn, turns, refuses}

-- ---- refusals of the text and of the block

-- a refusal without a position
abbrev pub bare : ℕ → Refusal
bare code = record { code = code; pos = 0; mark = 0 }

-- a refusal of the text at a place in the line
abbrev pub text_refusal_of : ℕ → ℕ → Refusal
text_refusal_of code place = record { code = code; pos = 0; mark = place }

-- the refusal of a text that can't be read, at the place of its first fault
abbrev pub misread : Fault → Refusal
misread (faults.NoToken place) = text_refusal_of no_token place
misread (faults.Syntax place) = text_refusal_of syntax place
misread (faults.BadNumber place) = text_refusal_of bad_number place

-- the kind of a statement, which decides what blocks let pass
abbrev pub kind_of : Stmt → StatementKind
kind_of (stmts.Table name cols) = kinds.Defines
kind_of (stmts.Hyper table col interval) = kinds.Defines
kind_of (stmts.View name only filled fold) = kinds.Defines
kind_of (stmts.Mode view only) = kinds.Defines
kind_of (stmts.Insert table cols rows) = kinds.Changes
kind_of (stmts.Delete table tests) = kinds.Changes
kind_of (stmts.Drop table below) = kinds.Changes
kind_of (stmts.Refresh view lo hi) = kinds.Defines
kind_of (stmts.Cut view lo hi) = kinds.Defines
kind_of (stmts.Snap cut) = kinds.Snaps
kind_of (stmts.Finish cut) = kinds.Finishes
kind_of stmts.Begin = kinds.Begins
kind_of stmts.BeginRead = kinds.BeginsRead
kind_of stmts.Commit = kinds.Commits
kind_of stmts.Rollback = kinds.RollsBack
kind_of (stmts.Buckets fold) = kinds.Asks
kind_of (stmts.Calendar number unit fold) = kinds.Asks
kind_of (stmts.Rows table tests) = kinds.Asks

-- the refusal of a statement of this kind outside a block, which has nothing to end
abbrev pub refusal_outside : StatementKind → Option Refusal
refusal_outside kinds.Commits = Some (bare no_block)
refusal_outside kinds.RollsBack = Some (bare no_block)
refusal_outside other = None

-- its refusal in a write block, which lets changes, queries, and its end pass
abbrev pub refusal_writing : StatementKind → Option Refusal
refusal_writing kinds.Changes = None
refusal_writing kinds.Asks = None
refusal_writing kinds.Commits = None
refusal_writing kinds.RollsBack = None
refusal_writing other = Some (bare in_write_block)

-- its refusal in a read block, which lets queries and its end pass
abbrev pub refusal_reading : StatementKind → Option Refusal
refusal_reading kinds.Asks = None
refusal_reading kinds.Commits = None
refusal_reading kinds.RollsBack = None
refusal_reading other = Some (bare in_read_block)

-- its refusal in any block
abbrev pub block_refusal : Block → StatementKind → Option Refusal
block_refusal none kind = refusal_outside kind
block_refusal (writing ops bytes) kind = refusal_writing kind
block_refusal (reading at) kind = refusal_reading kind

-- ---- events

-- the reply is one line with the outcome, and the session stays as it is
abbrev pub turn_of_line : {A : Type 0} → Places → (A → Said) → Result A Refusal → Turn Places
turn_of_line p line (Ok a) = turns p (line a)
turn_of_line p line (Err r) = refuses p r

-- ---- refreshes

-- the start of the first bucket of an aggregate
abbrev pub least_start : Option ViewDef → ℤ
least_start None = nonneg 0
least_start (Some def) = first_of def.fold.width

-- a snapshot for a refresh: its position, and how many stored rows were read for its job
pub record Taken : Type 0 where
  pub at : ℕ
  pub reads : ℕ

-- a snapshot of a history for a refresh, which must be pending there
abbrev pub taken_of : History → ℕ → Pending → Result Taken Refusal
taken_of h c (Waiting n) = Ok (record { at = position h; reads = job_reads h c })
taken_of h c (Finished f) = Err (refusal no_refresh h f)
taken_of h c Unknown = Err (refusal no_refresh h 0)

-- a snapshot of a history for a refresh
abbrev pub snapshot_taken : ℕ → History → Result Taken Refusal
snapshot_taken c h = taken_of h c (pending h c)

-- the three phases of a refresh, each with one read position: its cut
abbrev pub cuts_refresh : ℕ → Option ℤ → Option ℤ → Procedure (Result CutDone Refusal)
cuts_refresh n lo hi = tries (act_of_cut n lo hi)

-- its snapshot
abbrev pub takes_snapshot : ℕ → Procedure (Result Taken Refusal)
takes_snapshot c = looks (λ h. ends (snapshot_taken c h))

-- its finish, with the snapshot at a position
abbrev pub finishes_refresh : ℕ → ℕ → Procedure (Result ℕ Refusal)
finishes_refresh c at = tries (act_of_finish c at)

-- the result of a cut
abbrev pub cut_turn : Places → ℤ → Result CutDone Refusal → Turn Places
cut_turn p min (Ok (CutMade c span)) = turns (cuts c p) (said.Cut c span min)
cut_turn p min (Ok (NothingDone at)) = turns p (said.Nothing at)
cut_turn p min (Err r) = refuses p r

-- the result of a refresh that was cut and then refused, after this many rows were read
abbrev pub cut_refused : Places → ℕ → Span → ℤ → Refusal → ℕ → Turn Places
cut_refused p c span min r read = record { places = p; said = said.Cut c span min ∷ said.Fault r ∷ []; reads = read }

-- the result of the finish of a refresh that was cut, with a snapshot
abbrev pub turn_of_refresh : Places → ℕ → Span → ℤ → Taken → Result ℕ Refusal → Turn Places
turn_of_refresh p c span min t (Ok k) = record { places = p; said = said.Refresh c k t.at span min ∷ []; reads = t.reads }
turn_of_refresh p c span min t (Err r) = cut_refused p c span min r t.reads

-- the rest of a refresh after its snapshot
abbrev pub after_snapshot : Places → ℕ → Span → ℤ → Result Taken Refusal → Procedure (Turn Places)
after_snapshot p c span min (Ok t) = ending_as (turn_of_refresh p c span min t) (finishes_refresh c t.at)
after_snapshot p c span min (Err r) = ends (cut_refused p c span min r 0)

-- the rest of a refresh after its cut
abbrev pub after_cut : Places → ℤ → Result CutDone Refusal → Procedure (Turn Places)
after_cut p min (Ok (CutMade c span)) = followed_by (takes_snapshot c) (after_snapshot (cuts c p) c span min)
after_cut p min (Ok (NothingDone at)) = ends (turns p (said.Nothing at))
after_cut p min (Err r) = ends (refuses p r)

-- a whole refresh: its phases in order
abbrev pub refreshes : Places → ℕ → Option ℤ → Option ℤ → ℤ → Procedure (Turn Places)
refreshes p n lo hi min = followed_by (cuts_refresh n lo hi) (after_cut p min)

-- a turn with one more line, at the beginning of its reply
abbrev pub after_line : Said → Turn Places → Turn Places
after_line s t = record t { said = s ∷ t.said }

-- the rest after event k created the aggregate with number n. With data it is refreshed
abbrev pub view_made : Places → ℕ → ℤ → ℕ → Bool → Procedure (Turn Places)
view_made p n min k false = ends (turns p (said.View k))
view_made p n min k true = ending_as (after_line (said.View k)) (refreshes p n None None min)

-- the rest after the call that creates the aggregate with number n, by its definition
abbrev pub after_view : Places → ℕ → ViewDef → Bool → Result ℕ Refusal → Procedure (Turn Places)
after_view p n def filled (Ok k) = view_made p n (first_of def.fold.width) k filled
after_view p n def filled (Err r) = ends (refuses p r)

-- the number if it isn't negative
abbrev pub natural : ℤ → Option ℕ
natural (nonneg c) = Some c
natural (negsuc c) = None

-- the refresh that a statement names: the one with its number, or the last that the session cut
abbrev pub refresh_meant : Places → Option ℤ → Option ℕ
refresh_meant p None = p.cut
refresh_meant p (Some number) = natural number

-- a snapshot is taken for a refresh, and the session holds it
abbrev pub snap_turn : Places → ℕ → Result Taken Refusal → Turn Places
snap_turn p c (Ok t) = record { places = holds c t.at p; said = said.Snap c t.at ∷ []; reads = t.reads }
snap_turn p c (Err r) = refuses p r

-- a snapshot for the named refresh, if there is one
abbrev pub snaps : Places → History → Option ℕ → Turn Places
snaps p h None = refuses p (refusal no_refresh h 0)
snaps p h (Some c) = snap_turn p c (snapshot_taken c h)

-- the refusal code for a pending refresh whose job is gone
abbrev pub lost_code : History → ℕ
lost_code h = cond (has_room h) stopped history_full

-- the refusal of the finish of a refresh. The code applies if the refresh is pending
abbrev pub unfinished_refusal : ℕ → History → Pending → Refusal
unfinished_refusal code h (Waiting n) = refusal code h 0
unfinished_refusal code h (Finished f) = refusal no_refresh h f
unfinished_refusal code h Unknown = refusal no_refresh h 0

-- the result of a finish with the snapshot at a position, which the session then gives up
abbrev pub finish_turn : Places → ℕ → ℕ → Result ℕ Refusal → Turn Places
finish_turn p c at (Ok k) = turns (gives_up c p) (said.Finish c k at)
finish_turn p c at (Err r) = refuses p r

-- the finish of a refresh with the snapshot at this position, if the session holds one for it
abbrev pub finishes_held : Places → History → ℕ → Option ℕ → Procedure (Turn Places)
finishes_held p h c None = ends (refuses p (unfinished_refusal no_snapshot h (pending h c)))
finishes_held p h c (Some at) = ending_as (finish_turn p c at) (tries_at h (act_of_finish c at h))

-- the finish of the named refresh, if there is one
abbrev pub finishes : Places → History → Option ℕ → Procedure (Turn Places)
finishes p h None = ends (refuses p (refusal no_refresh h 0))
finishes p h (Some c) = finishes_held p h c (held_for c p.held)

-- ---- queries

-- the start of the first bucket of what a query asks for; it is 0 if nothing can be stale
abbrev pub asked_start : Roster → Query → ℤ
asked_start r (queries.Rows t tests) = nonneg 0
asked_start r (queries.Buckets t fold) = nonneg 0
asked_start r (queries.Aggregate n starts) = least_start (view_of r n)

-- the plan of a query: its answer as it is
abbrev pub plan_of : Roster → Query → Plan
plan_of r q = record { query = q; form = forms.Own; min = asked_start r q }

-- the plan of a roll-up: the answer of the aggregate in wider buckets. `min` is the start of the first of them
abbrev pub roll_up_plan : UpperPlan → Plan
roll_up_plan plan = record { query = lower_query plan; form = forms.RolledUp plan; min = first_of plan.width }

-- the calendar unit that a word names
abbrev pub unit_of : List ℕ → CalUnit
unit_of word =
    if same_name word (codes "day") then units.Day
    else if same_name word (codes "week") then units.Week
    else if same_name word (codes "month") then units.Month
    else units.Year

-- the plan of a grouping by calendar buckets: the rows that match its tests, grouped. None of them is stale
abbrev pub calendar_plan : ℕ → CalPlan → Plan
calendar_plan t cal = record { query = queries.Rows t cal.fold.tests; form = forms.Calendar cal; min = nonneg 0 }

-- an answer rolled up by a plan over an aggregate
abbrev pub rolled_up : Option ViewDef → UpperPlan → Answer → Answer
rolled_up None plan shown = shown
rolled_up (Some def) plan shown = upper_answer def.fold plan shown

-- the answer in this form
abbrev pub in_form : Roster → Form → Answer → Answer
in_form r forms.Own shown = shown
in_form r (forms.RolledUp plan) shown = rolled_up (view_of r plan.view) plan shown
in_form r (forms.Calendar cal) shown = record { rows = plan_rows cal shown.rows; stale = [] }

-- the history that a query in a block shows, if the store has this one: in a write block the queue is one commit on top
abbrev pub shown_in : Block → History → History
shown_in b h = with_queue (queue_in b) h

-- the answer by a plan at a history, which leaves the session as it is
abbrev pub answers : Places → History → Plan → Turn Places
answers p h plan =
    record {
      places = p;
      said =
          said.Answered (in_form (roster h) plan.form (answer plan.query (shown_in p.block h))) (position h)
          (queue_count p.block) plan.min ∷ [];
      reads = reads_of plan.query (shown_in p.block h);
    }

-- ---- blocks

-- the result of a commit. If it was refused, the session stays in its block
abbrev pub turn_of_commit : Places → Places → Result Committed Refusal → Turn Places
turn_of_commit p after (Ok done) = turns after (said.Commit done)
turn_of_commit p after (Err r) = refuses p r

-- the commit of operations at a history, after which the session has the new state
abbrev pub commits : Places → Places → History → List Op → Procedure (Turn Places)
commits p after h ops = ending_as (turn_of_commit p after) (tries_at h (act_of_commit ops h))

-- an operation from a text of this many bytes takes effect, or is queued in a write block
abbrev pub changes : Places → ℕ → History → Op → Block → Procedure (Turn Places)
changes p bytes h op none = commits p p h (op ∷ [])
changes p bytes h op (writing ops n) = ends (turns (enters (writing (ops ++ op ∷ []) (n + bytes)) p) said.Queued)
changes p bytes h op (reading at) = commits p p h (op ∷ [])

-- the end of a block: the queue of a write block takes effect as one commit, unless it is empty
abbrev pub closes : Places → History → Block → Procedure (Turn Places)
closes p h none = ends (turns (enters none p) said.End)
closes p h (writing [] n) = ends (turns (enters none p) said.CommitEmpty)
closes p h (writing (op ∷ ops) n) = commits p (enters none p) h (op ∷ ops)
closes p h (reading at) = ends (turns (enters none p) said.End)

-- the line for a block that is given up
abbrev pub given_up : Block → Said
given_up none = said.End
given_up (writing ops n) = said.Rollback
given_up (reading at) = said.End

-- ---- statements

-- an action from a text of this many bytes, at the history in which the names of the statement are resolved
abbrev pub acts : Places → ℕ → History → Action → Procedure (Turn Places)
acts p bytes h (actions.Table def) = ending_as (turn_of_line p said.Table) (tries_at h (making_table def h))
acts p bytes h (actions.Hyper t hyper) = ending_as (turn_of_line p said.Hypertable) (tries_at h (making_hyper t hyper h))
acts p bytes h (actions.View def filled) =
    followed_by (tries_at h (making_view def h)) (after_view p (length (roster h).views) def filled)
acts p bytes h (actions.Mode n only) = ending_as (turn_of_line p said.Mode) (tries_at h (setting_mode n only h))
acts p bytes h (actions.Change op) = changes p bytes h op p.block
acts p bytes h (actions.Refresh n lo hi) =
    followed_by (tries_at h (act_of_cut n lo hi h)) (after_cut p (least_start (view_of (roster h) n)))
acts p bytes h (actions.Cut n lo hi) =
    ending_as (cut_turn p (least_start (view_of (roster h) n))) (tries_at h (act_of_cut n lo hi h))
acts p bytes h (actions.Snap cut) = ends (snaps p h (refresh_meant p cut))
acts p bytes h (actions.Finish cut) = finishes p h (refresh_meant p cut)
acts p bytes h actions.Begin = ends (turns (enters (writing [] 0) p) said.Begin)
acts p bytes h actions.BeginRead = ends (turns (enters (reading (position h)) p) (said.BeginRead (position h)))
acts p bytes h actions.Commit = closes p h p.block
acts p bytes h actions.Rollback = ends (turns (enters none p) (given_up p.block))
acts p bytes h (actions.Ask q) = ends (answers p h (plan_of (roster h) q))
acts p bytes h (actions.Calendar t number unit at fold) =
    ends (answers p h (calendar_plan t (record { number = number; unit = unit_of unit; at = at; fold = fold })))

-- a procedure, unless this refuses it
abbrev pub unless : Places → Option Refusal → Procedure (Turn Places) → Procedure (Turn Places)
unless p (Some r) procedure = ends (refuses p r)
unless p None procedure = procedure

-- a statement, by what it asks of an aggregate: a roll-up is refused or answered, and any other is checked
abbrev pub named_as : Places → ℕ → History → Stmt → UpperRead → Procedure (Turn Places)
named_as p bytes h stmt (uppers.Plan plan) = ends (answers p h (roll_up_plan plan))
named_as p bytes h stmt (uppers.Refused r) = ends (refuses p r)
named_as p bytes h stmt other =
    unless p (refusal_of (position h) (roster h) stmt) (acts p bytes h (action_of (roster h) stmt))

-- a statement whose names are resolved in a history
abbrev pub turn_of_names : Places → ℕ → Stmt → History → Procedure (Turn Places)
turn_of_names p bytes stmt h = named_as p bytes h stmt (upper_read (position h) (roster h) stmt)

-- the history that a session reads. In a read block it is the history at which the block began
abbrev pub read_at : Block → History → History
read_at none h = h
read_at (writing ops n) h = h
read_at (reading at) h = prefix h at

-- ---- reads

-- statements of this kind append events by names
abbrev pub makes_event : StatementKind → Bool
makes_event kinds.Defines = true
makes_event kinds.Changes = true
makes_event other = false

-- outside a block their names are resolved first, and the event then has a separate read
abbrev pub looks_twice : Block → StatementKind → Bool
looks_twice none kind = makes_event kind
looks_twice (writing ops n) kind = false
looks_twice (reading at) kind = false

-- such a statement. Its reply prints the position at which its names were resolved only if they are refused
abbrev pub named_first : Places → ℕ → Stmt → Procedure (Turn Places)
named_first p bytes stmt =
    sees (λ g. is_some (refusal_of (position g) (roster g) stmt))
    (λ g. unless p (refusal_of (position g) (roster g) stmt)
    (looks (λ h. acts p bytes h (action_of (roster g) stmt))))

-- the reply to any other statement outside a block prints its read position, unless it only begins a block
abbrev pub begins : StatementKind → Bool
begins kinds.Begins = true
begins other = false

-- an operation is on a hypertable of a roster
abbrev pub is_on_hypertable : Roster → Op → Bool
is_on_hypertable r (Insert t new) = is_some (hyper_of r t)
is_on_hypertable r (Delete t tests) = is_some (hyper_of r t)

-- each of these operations is on a hypertable
abbrev pub on_hypertables : Roster → List Op → Bool
on_hypertables r ops = list_all (is_on_hypertable r) ops

-- whether the reply prints the read position in a write block with these operations. It does if names are refused, the
-- operations take effect, or a query reads. A query reads only if all operations are on hypertables
abbrev pub prints_writing : List Op → StatementKind → Roster → Option Refusal → Bool
prints_writing ops kinds.Changes r refused = is_some refused
prints_writing ops kinds.Asks r refused = on_hypertables r ops
prints_writing (op ∷ ops) kinds.Commits r refused = true
prints_writing ops other r refused = false

-- whether the reply prints the read position. In a read block it prints the position of the block instead
abbrev pub prints : Block → StatementKind → Roster → Option Refusal → Bool
prints none kind r refused = not (begins kind)
prints (writing ops n) kind r refused = prints_writing ops kind r refused
prints (reading at) kind r refused = false

-- any other statement: its one read, and what it does there
abbrev pub named_here : Places → ℕ → Stmt → Procedure (Turn Places)
named_here p bytes stmt =
    sees (λ h. prints p.block (kind_of stmt) (roster h) (refusal_of (position h) (roster h) stmt))
    (λ h. turn_of_names p bytes stmt (read_at p.block h))

-- ---- lines: the block of the session may refuse the statement that was read; otherwise its names are resolved, and it
-- acts

-- a statement that the block of its session lets pass, from a text of this many bytes
abbrev pub performs : Places → ℕ → Stmt → Procedure (Turn Places)
performs p bytes stmt =
    cond (looks_twice p.block (kind_of stmt)) (named_first p bytes stmt) (named_here p bytes stmt)

-- a statement, by whether the block of its session lets its kind pass
abbrev pub passes_block : Places → ℕ → Stmt → Procedure (Turn Places)
passes_block p bytes stmt = unless p (block_refusal p.block (kind_of stmt)) (performs p bytes stmt)

-- what was read: a statement, or a text that is refused
abbrev pub as_read : Places → (Stmt → Procedure (Turn Places)) → Result (Stmt × Stream) Fault → Procedure (Turn Places)
as_read p does (Ok read) = does read.0
as_read p does (Err f) = ends (refuses p (misread f))

-- a line of a session with this state: its text before the comment. Its statement begins after the first `skip` bytes
abbrev pub step : Places → List ℕ → ℕ → Procedure (Turn Places)
step p text skip = as_read p (passes_block p (length text)) (statement (stream text skip))
