-- Laws of what replies show, each in one sentence.
use Rattle.std.specs.Prelude.{◌≡◌, ℕ, ◌≤◌, Bool, true, false, ℤ, List, [], ◌∷◌, Option, Some, None, slice_get}
use Rattle.std.specs.List.{AllByRecursion}
use Rattle.ts_num.specs.declared.values.Datum.{Datum}
use Rattle.ts_num.specs.declared.values.Datum.TheVariants.{Int}
use Rattle.ts_bucket.specs.Bucket.{is_bucket}
use Rattle.ts_bucket.specs.Ranges.{is_asked, lies_in}
use Rattle.ts_bucket.specs.WholeSpans.{is_below}
use Rattle.ts_bucket.specs.declared.spans.Span.{Span}
use Rattle.ts_schema.specs.declared.rows.Row.{Row}
use Rattle.ts_schema.specs.Conditions.{passes_all}
use Rattle.ts_model.specs.declared.queries.Answer.{Answer}
use Rattle.ts_model.specs.declared.queries.Query.TheVariants.{Aggregate}
use Rattle.ts_model.specs.declared.views.Fold.{Fold}
use Rattle.ts_model.specs.declared.views.ViewDef.{ViewDef}
use Rattle.ts_model.specs.Allowed.{all_allowed, all_consistent}
use Rattle.ts_model.specs.Answers.{answer, left_by}
use Rattle.ts_model.specs.History.{History, position}
use Rattle.ts_model.specs.Refreshes.{invalid, last, touched, watermark}
use Rattle.ts_model.specs.Roster.{roster, view_of}
use Rattle.ts_model.specs.Rows.{rows}
use Rattle.ts_model.specs.Scratch.{scratch, scratch_of}
use Rattle.hier_agg.specs.declared.plans.UpperPlan.{UpperPlan}
use Rattle.hier_agg.specs.declared.reads.UpperRead.TheVariants.{NotUpper, Plan}
use Rattle.hier_agg.specs.Laws.{IsShownWhole}
use Rattle.hier_agg.specs.Plans.{composed_fold}
use Rattle.hier_agg.specs.Reads.{upper_read}
use Rattle.hier_agg.specs.Upper.{rows_within}
use Rattle.cal_bucket.specs.declared.plans.CalPlan.{CalPlan}
use Rattle.cal_bucket.specs.Answers.{rows_of_plan}
use Rattle.cal_bucket.specs.Buckets.{IsCalendarBucket}
use Rattle.stmt_syntax.specs.declared.statements.Stmt.{Stmt}
use Rattle.stmt_syntax.specs.Limits.{longest_line}
use Rattle.stmt_syntax.specs.Written.{IsWritten}
use Rattle.stmt_check.specs.declared.actions.Action.TheVariants as actions
use Rattle.stmt_check.specs.Check.{action_of, refusal_of}
use Rattle.result_text.specs.declared.replies.Said.TheVariants as said
use Rattle.ts_sessions.specs.Places.{Places, Turn}
use Rattle.ts_sessions.specs.Procedures.{Procedure, ends}
use Rattle.ts_sessions.specs.Step.{acts, shown_in, turn_of_names, unit_of}

-- ---- replies

-- the rest of a statement is its end, with a reply of one line: this answer, at the position of this history
pub record RepliesWith (procedure : Procedure (Turn Places)) (h : History) (shown : Answer) : Type 0 where
  pub turn : Turn Places
  pub ends_so : procedure ≡ ends turn
  pub queue : Option ℕ
  pub min : ℤ
  pub says : turn.said ≡ said.Answered shown (position h) queue min ∷ []

-- ---- aggregates

-- the answer to a query of an aggregate is what the aggregate shows, in a write block with the queue on top
abbrev pub AggregatesReply : Type 0
AggregatesReply =
    (p : Places) (bytes n : ℕ) (starts : Span) (h : History)
    → RepliesWith (acts p bytes h (actions.Ask (Aggregate n starts))) h (answer (Aggregate n starts) (shown_in p.block h))

-- a query of an aggregate asks for a bucket, at a consistent history
pub record AsksFor (n : ℕ) (def : ViewDef) (h : History) (starts : Span) (b : ℤ) : Type 0 where
  pub consistent : all_consistent h ≡ true
  pub there : view_of (roster h) n ≡ Some def
  pub asked : is_asked def.fold.width starts b ≡ true

-- the answer shows these rows of a bucket; the flag says whether it names the bucket stale
pub record ShowsAs (n : ℕ) (def : ViewDef) (h : History) (starts : Span) (b : ℤ) (shown : List (List Datum))
    (named : Bool) : Type 0 where
  pub rows : rows_within def.fold.width b (answer (Aggregate n starts) h).rows ≡ shown
  pub stale : lies_in (answer (Aggregate n starts) h).stale b ≡ named

-- each bucket that a query asks for shows the aggregation from scratch, or what its last refresh left and is named
-- stale, or nothing
pub record BucketsShow : Type 0 where
  -- from scratch if it was refreshed and no commit touched it since, in either mode
  pub refreshed :
      (n : ℕ) (def : ViewDef) (h : History) (starts : Span) (b : ℤ) (s : ℕ) → AsksFor n def h starts b
      → last n h b ≡ Some s → touched n def h b s ≡ false → ShowsAs n def h starts b (scratch def h b) false
  -- from scratch if it is at or above the watermark of a real-time aggregate
  pub real_time :
      (n : ℕ) (def : ViewDef) (h : History) (starts : Span) (b : ℤ) → AsksFor n def h starts b
      → def.only ≡ false → is_below b (watermark n def h) ≡ false → ShowsAs n def h starts b (scratch def h b) false
  -- any other one below the watermark shows what its last refresh left, or no row, and is named stale
  pub stale :
      (n : ℕ) (def : ViewDef) (h : History) (starts : Span) (b : ℤ) → AsksFor n def h starts b
      → is_below b (watermark n def h) ≡ true → invalid n def h b ≡ true
      → ShowsAs n def h starts b (left_by n def h b (last n h b)) true
  -- nothing at or above the watermark of an aggregate that shows only materialized groups
  pub nothing :
      (n : ℕ) (def : ViewDef) (h : History) (starts : Span) (b : ℤ) → AsksFor n def h starts b
      → def.only ≡ true → is_below b (watermark n def h) ≡ false → ShowsAs n def h starts b [] false

-- ---- roll-ups

-- a roll-up has an answer. Each wider bucket that it doesn't name stale and shows whole shows the composed fold of the
-- table's rows
pub record RollUpReply (p : Places) (bytes : ℕ) (stmt : Stmt) (h : History) (plan : UpperPlan)
    (def : ViewDef) : Type 0 where
  pub shown : Answer
  pub replies : RepliesWith (turn_of_names p bytes stmt h) h shown
  pub fresh :
      (b : ℤ) → is_bucket plan.width b ≡ true → lies_in shown.stale b ≡ false
      → IsShownWhole plan.view def (shown_in p.block h) plan.width b
      → rows_within plan.width b shown.rows
      ≡ scratch_of (composed_fold def.fold plan) b (rows def.table (shown_in p.block h))

-- the same for each statement that is a roll-up and isn't refused
abbrev pub RollUpsReply : Type 0
RollUpsReply =
    (p : Places) (bytes : ℕ) (stmt : Stmt) (h : History) (plan : UpperPlan) (def : ViewDef)
    → all_consistent (shown_in p.block h) ≡ true → upper_read (position h) (roster h) stmt ≡ Plan plan
    → view_of (roster h) plan.view ≡ Some def → RollUpReply p bytes stmt h plan def

-- ---- the calendar

-- a row of an answer is named by the calendar bucket of the time of one of these rows, which matches the tests
pub record IsOfARow (cal : CalPlan) (found : List Row) (cells : List Datum) : Type 0 where
  pub place : ℕ
  pub row : Row
  pub there : slice_get found place ≡ Some row
  pub passes : passes_all row cal.fold.tests ≡ true
  pub start : ℤ
  pub named : slice_get cells 0 ≡ Some (Int start)
  pub bucket : IsCalendarBucket cal.unit cal.number row.at start

-- a query by calendar buckets has an answer: it shows the table's rows grouped by the buckets, and names none stale
pub record CalendarReply (p : Places) (bytes : ℕ) (stmt : Stmt) (h : History) (t : ℕ) (cal : CalPlan) : Type 0 where
  pub shown : Answer
  pub replies : RepliesWith (turn_of_names p bytes stmt h) h shown
  pub grouped : shown.rows ≡ rows_of_plan cal (rows t (shown_in p.block h))
  pub named : AllByRecursion (IsOfARow cal (rows t (shown_in p.block h))) shown.rows
  pub fresh : shown.stale ≡ []

-- the same for each statement of that kind that isn't refused
abbrev pub CalendarsReply : Type 0
CalendarsReply =
    (p : Places) (bytes : ℕ) (stmt : Stmt) (h : History) (t number at : ℕ) (unit : List ℕ) (fold : Fold)
    → all_allowed h ≡ true → all_consistent (shown_in p.block h) ≡ true → IsWritten bytes stmt → bytes ≤ longest_line
    → upper_read (position h) (roster h) stmt ≡ NotUpper → refusal_of (position h) (roster h) stmt ≡ None
    → action_of (roster h) stmt ≡ actions.Calendar t number unit at fold
    → CalendarReply p bytes stmt h t (record { number = number; unit = unit_of unit; at = at; fold = fold })
