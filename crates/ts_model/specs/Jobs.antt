-- Jobs: the groups computed for a refresh at its snapshot, and when a job fits a history.
use Rattle.std.specs.Prelude.{◌≡◌, ℕ, ◌≤◌, Bool, true, false, ◌&&◌, List, filter, ℤ, int_lt, int_le, Option, Some}
use Rattle.std.specs.List.{list_all}
use Rattle.ts_bucket.specs.Bucket.{bucket_of, is_bucket}
use Rattle.ts_bucket.specs.Positions.{is_above}
use Rattle.ts_bucket.specs.Ranges.{lies_in}
use Rattle.ts_bucket.specs.Spans.{in_span}
use Rattle.ts_bucket.specs.declared.spans.Span.{Span}
use Rattle.ts_bucket.specs.declared.widths.Width.{Width}
use Rattle.ts_schema.specs.declared.rows.Row.{Row}
use Rattle.ts_schema.specs.Conditions.{passes_all}
use Rattle.partial_agg.specs.declared.groups.Group.{Group}
use Rattle.ts_model.specs.declared.views.Fold.{Fold}
use Rattle.ts_model.specs.declared.views.ViewDef.{ViewDef}
use Rattle.ts_model.specs.History.{History, position, base_position}
use Rattle.ts_model.specs.Rows.{rows_at}
use Rattle.ts_model.specs.Groups.{groups_of}
use Rattle.ts_model.specs.Refreshes.{span_of_cut, last_touch_at, was_refreshed}
use Rattle.ts_model.specs.Windows.{last_end}

-- the rows that pass every test and whose buckets start in one of these spans
abbrev pub rows_of_spans : Fold → List Span → List Row → List Row
rows_of_spans fold spans rows =
    filter (λ row. lies_in spans (bucket_of fold.width row.at) && passes_all row fold.tests) rows

-- a range of whole buckets of a span
abbrev pub is_part_of : Width → Span → Span → Bool
is_part_of w whole part =
    is_bucket w part.lo && is_bucket w part.hi && int_le whole.lo part.lo && int_lt part.lo part.hi
    && int_le part.hi whole.hi

-- the rows of a job: those of its spans at its snapshot
abbrev pub job_rows : ViewDef → History → ℕ → List Span → List Row
job_rows def h snap spans = rows_of_spans def.fold spans (rows_at def.table h snap)

-- a job of a refresh of aggregate n fits a history
pub record Fits (n : ℕ) (def : ViewDef) (h : History) (cut snap : ℕ) (span : Span) (spans : List Span)
    (groups : List Group) (top : Option ℤ) : Type 0 where
  -- its cut is a cut of the history with the job's span
  pub cut_is : span_of_cut n h cut ≡ Some span
  -- its snapshot is at or after the cut and the base, and not after the history
  pub after_cut : cut ≤ snap
  pub above_base : base_position h ≤ snap
  pub taken : snap ≤ position h
  -- its spans are ranges of whole buckets of the span
  pub whole : list_all (is_part_of def.fold.width span) spans ≡ true
  -- its groups are those of its rows
  pub groups_are : groups ≡ groups_of def.fold (job_rows def h snap spans)
  -- its top is the greatest end of a bucket with a group
  pub top_is : top ≡ last_end def.fold.width (job_rows def h snap spans)
  -- each other bucket of the span is covered by a finished refresh, and no commit touched it between that
  -- refresh's snapshot and this one
  pub others : (b : ℤ) → is_bucket def.fold.width b ≡ true → in_span span b ≡ true → lies_in spans b ≡ false
      → (r : ℕ) × (r ≤ snap) × (was_refreshed n h b r ≡ true) × (is_above r (last_touch_at n def h snap b) ≡ false)
