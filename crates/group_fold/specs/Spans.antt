-- Rows of some spans, and what it takes to read them.
use Rattle.std.specs.Prelude.{◌≡◌, ℕ, ◌+◌, true, false, List, [], ◌∷◌, filter, ℤ}
use Rattle.std.specs.List.{list_all}
use Rattle.ts_bucket.specs.Bucket.{is_time}
use Rattle.ts_bucket.specs.Ranges.{lies_in}
use Rattle.ts_bucket.specs.Spans.{in_span}
use Rattle.ts_bucket.specs.declared.spans.Span.{Span}
use Rattle.ts_schema.specs.declared.rows.Row.{Row}
use Rattle.ts_model.specs.Reads.{rows_near}

-- no number lies in one of these spans and in a later one
abbrev pub AreApart : List Span → Type 0
AreApart [] = Unit {0}
AreApart (s ∷ ss) = ((t : ℤ) → in_span s t ≡ true → lies_in ss t ≡ false) × AreApart ss

-- each of these rows has a time
abbrev pub HaveTimes : List Row → Type 0
HaveTimes rows = list_all (λ row. is_time row.at) rows ≡ true

-- the rows whose times lie in these spans
abbrev pub rows_in : List Span → List Row → List Row
rows_in spans rows = filter (λ row. lies_in spans row.at) rows

-- how many stored rows are read: for each span, those in chunks that meet it
abbrev pub near_each : ℤ → List Row → List Span → ℕ
near_each interval stored [] = 0
near_each interval stored (s ∷ ss) = rows_near interval stored (s ∷ []) + near_each interval stored ss
