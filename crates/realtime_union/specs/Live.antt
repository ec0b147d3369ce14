-- The live buckets of an aggregate: the requested ones at or above its mark, which it shows from rows.
use Rattle.std.specs.Prelude.{◌≡◌, ℕ, Bool, true, not, ◌&&◌, cond, List, [], ◌∷◌, ◌++◌, map, filter, ℤ, pos, ◌+ℤ◌, Option}
use Rattle.ts_num.specs.declared.values.Datum.{Datum}
use Rattle.ts_bucket.specs.Bucket.{WidthValue, is_bucket, min_time, max_time}
use Rattle.ts_bucket.specs.Ranges.{is_asked}
use Rattle.ts_bucket.specs.Spans.{SpanValue, in_span}
use Rattle.ts_bucket.specs.WholeSpans.{IsWholeSpan, is_below, whole_span}
use Rattle.ts_bucket.specs.declared.spans.Span.{Span}
use Rattle.ts_schema.specs.declared.rows.Row.{Row}
use Rattle.partial_agg.specs.declared.groups.Group.{Group}
use Rattle.ts_model.specs.declared.views.ViewDef.{ViewDef}
use Rattle.ts_model.specs.Groups.{cells_of, groups_of}
use Rattle.ts_model.specs.Reads.{rows_near}

-- a requested bucket at or above the mark
abbrev pub is_live : WidthValue → Option ℤ → SpanValue → ℤ → Bool
is_live w mark starts b = is_asked w starts b && not (is_below b mark)

-- a span of whole buckets that holds exactly the live ones of the range of buckets
pub record IsLiveSpan (w : WidthValue) (mark : Option ℤ) (starts live : SpanValue) : Type 0 where
  pub whole : IsWholeSpan w live
  pub exact : (b : ℤ) → is_bucket w b ≡ true
      → in_span live b ≡ (in_span (whole_span w) b && (in_span starts b && not (is_below b mark)))

-- the groups of the live buckets, or none if only materialized rows are shown
abbrev pub live_groups : ViewDef → Option ℤ → SpanValue → List Row → List Group
live_groups def mark starts rows =
    cond def.only [] (filter (λ g. is_live def.fold.width mark starts g.start) (groups_of def.fold rows))

-- what is shown: the materialized groups, and then the live ones
abbrev pub union_rows : ViewDef → List Group → Option ℤ → SpanValue → List Row → List (List Datum)
union_rows def kept mark starts rows = map (cells_of def.fold) (kept ++ live_groups def mark starts rows)

-- how many stored rows are read: those in chunks that meet the live span, or none if only materialized rows are shown
abbrev pub live_reads : ViewDef → ℤ → List Row → Span → ℕ
live_reads def interval stored live = cond def.only 0 (rows_near interval stored (live ∷ []))

-- all times
abbrev pub all_times : Span
all_times = record { lo = min_time; hi = max_time +ℤ pos 1 }
