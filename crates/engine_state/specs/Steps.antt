-- The effect of each event on the parts of a state, without reference to a history.
use Rattle.std.specs.Prelude.{◌≡◌, ℕ, Bool, true, false, cond, ◌==◌, suc, ◌+◌, List, [], ◌∷◌, length, ℤ, Option, Some, None}
use Rattle.std.specs.Int.{int_max}
use Rattle.ts_num.specs.Aggregates.{greater}
use Rattle.ts_bucket.specs.Positions.{above, later}
use Rattle.ts_bucket.specs.Spans.{in_span}
use Rattle.ts_bucket.specs.declared.spans.Span.{Span}
use Rattle.mat_log.specs.Feeding.{AreWithin}
use Rattle.mat_log.specs.Logs.{LogValue as ViewLog, pending_at, last_at}
use Rattle.partial_agg.specs.declared.groups.Group.{Group}
use Rattle.engine_state.specs.Groups.{AreReplaced}
use Rattle.ts_schema.specs.declared.rows.Row.{Row}
use Rattle.chunk_catalog.specs.Chunks.{HaveTimes}
use Rattle.ts_model.specs.declared.events.Op.{Op}
use Rattle.ts_model.specs.Rows.{in_order}
use Rattle.ts_model.specs.Effect.{all_appended, all_taken, hull_of_ops}
use Rattle.coverage.specs.Notes.{log_after}
use Rattle.refresh_build.specs.declared.jobs.Job.{Job}
use Rattle.row_versions.specs.Tables.{Follows, IsUpTo, visible_rows}
use Rattle.engine_state.specs.Notes.{noted_in, IsFedTo}
use Rattle.engine_state.specs.Tables.{TableValue}
use Rattle.engine_state.specs.Views.{ViewValue}

-- ---- a commit

-- the rows that a table has before a commit with number pos
abbrev pub rows_before : ℕ → TableValue → List Row
rows_before pos table = in_order (visible_rows pos table.rows.versions)

-- operations at position pos on hypertable number t: its rows follow the operations, and their hull is noted
pub record TableGoes (ops : List Op) (pos t : ℕ) (old new : TableValue) : Type 0 where
  pub rows : Follows t ops pos old.rows new.rows
  pub threshold : new.log.threshold ≡ old.log.threshold
  pub entries :
      noted_in new.log.entries
      ≡ log_after (hull_of_ops t ops (rows_before pos old)) pos old.log.threshold (noted_in old.log.entries)

-- the same for a table that may not be a hypertable
abbrev pub GoesIf : List Op → ℕ → ℕ → Option TableValue → Option TableValue → Type 0
GoesIf ops pos t None None = Unit {0}
GoesIf ops pos t None (Some new) = ⊥
GoesIf ops pos t (Some old) None = ⊥
GoesIf ops pos t (Some old) (Some new) = TableGoes ops pos t old new

-- such operations may be applied
pub record TableAsks (ops : List Op) (pos t : ℕ) (table : TableValue) : Type 0 where
  pub up_to : IsUpTo pos table.rows.versions
  pub times : HaveTimes (all_appended t ops)

abbrev pub AsksIf : List Op → ℕ → ℕ → Option TableValue → Type 0
AsksIf ops pos t None = Unit {0}
AsksIf ops pos t (Some table) = TableAsks ops pos t table

-- the number of rows that they append to a hypertable, and the number that they remove
abbrev pub appended_to : List Op → ℕ → Option TableValue → ℕ
appended_to ops t None = 0
appended_to ops t (Some table) = length (all_appended t ops)

abbrev pub taken_from : List Op → ℕ → ℕ → Option TableValue → ℕ
taken_from ops pos t None = 0
taken_from ops pos t (Some table) = length (all_taken t ops (rows_before pos table))

-- the sum over all tables from number t on
abbrev pub sum_from : {A : Type 0} → (ℕ → A → ℕ) → ℕ → List A → ℕ
sum_from f t [] = 0
sum_from f t (x ∷ xs) = f t x + sum_from f (suc t) xs

-- this is true of each item, with its place, from place i on
abbrev pub AllFrom : {A : Type 0} → (ℕ → A → Type 0) → ℕ → List A → Type 0
AllFrom P i [] = Unit {0}
AllFrom P i (x ∷ xs) = P i x × AllFrom P (suc i) xs

-- ---- a cut

-- a table's log is emptied, and its threshold raised
pub record TableCut (hi : ℤ) (old new : TableValue) : Type 0 where
  pub rows : new.rows ≡ old.rows
  pub threshold : new.log.threshold ≡ int_max old.log.threshold hi
  pub entries : new.log.entries ≡ []

-- its entries were fed to an aggregate
pub record ViewFed (old_table : TableValue) (old new : ViewValue) : Type 0 where
  pub table : new.table ≡ old.table
  pub groups : new.groups ≡ old.groups
  pub mark : new.mark ≡ old.mark
  pub log : IsFedTo old.log.width (noted_in old_table.log.entries) old.log new.log

-- an aggregate is over the table or not
abbrev pub FedIf : Bool → TableValue → ViewValue → ViewValue → Type 0
FedIf true old_table old new = ViewFed old_table old new
FedIf false old_table old new = new ≡ old

-- an aggregate over the table can hold the entries of its log
abbrev pub TakesIf : Bool → TableValue → ViewValue → Type 0
TakesIf true table view = AreWithin table.log.entries view.log
TakesIf false table view = Unit {0}

abbrev pub FedAt : ℕ → TableValue → ℕ → ViewValue → ViewValue → Type 0
FedAt t old_table n old new = FedIf (old.table == t) old_table old new

-- ---- a finish

-- what is pending at b after a refresh of a span with a snapshot was settled, and the last refresh of b
abbrev pub pending_settled : Span → ℕ → ViewLog → ℤ → Option ℕ
pending_settled span snap log b = cond (in_span span b) (above snap (pending_at log b)) (pending_at log b)

abbrev pub last_settled : Span → ℕ → ViewLog → ℤ → Option ℕ
last_settled span snap log b = cond (in_span span b) (later (last_at log b) (Some snap)) (last_at log b)

-- the spans, the groups and the marks of an aggregate after a finish with a snapshot
pub record ViewFinished (span : Span) (snap : ℕ) (top : Option ℤ) (renewed : List Span) (put : List Group)
    (old new : ViewValue) : Type 0 where
  pub table : new.table ≡ old.table
  pub width : new.log.width ≡ old.log.width
  pub pending : (b : ℤ) → pending_at new.log b ≡ pending_settled span snap old.log b
  pub refreshed : (b : ℤ) → last_at new.log b ≡ last_settled span snap old.log b
  pub mark : new.mark ≡ greater old.mark top
  pub groups : AreReplaced renewed put old.groups new.groups

-- the same with the snapshot, the top and the groups of a job
abbrev pub JobFinished : Job → List Span → ViewValue → ViewValue → Type 0
JobFinished job renewed old new = ViewFinished job.span job.snap job.top renewed job.groups old new
