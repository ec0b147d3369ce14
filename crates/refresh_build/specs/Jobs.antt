-- Jobs of refreshes.
use Rattle.std.specs.Prelude.{◌≡◌, List}
use Rattle.ts_bucket.specs.declared.spans.Span.{Span}
use Rattle.ts_schema.specs.declared.rows.Row.{Row}
use Rattle.ts_model.specs.declared.views.Fold.{Fold}
use Rattle.ts_model.specs.Groups.{groups_of}
use Rattle.ts_model.specs.Jobs.{rows_of_spans}
use Rattle.ts_model.specs.Windows.{last_end}
use Rattle.refresh_build.specs.declared.jobs.Job.{Job}
use Rattle.refresh_build.specs.declared.jobs.Refresh.{Refresh}

-- a job for a refresh, which recomputes these spans
pub record IsFor (refresh : Refresh) (spans : List Span) (job : Job) : Type 0 where
  pub view : job.view ≡ refresh.view
  pub cut : job.cut ≡ refresh.cut
  pub snap : job.snap ≡ refresh.snap
  pub span : job.span ≡ refresh.span
  pub spans_are : job.spans ≡ spans

-- it is computed from these rows of the table: its groups are those of the rows of its spans, and its top is the
-- greatest end of a bucket with a group
pub record IsMadeOf (fold : Fold) (rows : List Row) (job : Job) : Type 0 where
  pub groups_are : job.groups ≡ groups_of fold (rows_of_spans fold job.spans rows)
  pub top_is : job.top ≡ last_end fold.width (rows_of_spans fold job.spans rows)
