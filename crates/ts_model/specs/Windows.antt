-- Windows: the buckets that a refresh covers.
use Rattle.std.specs.Prelude.{ℕ, ◌+ℤ◌, List, [], ◌∷◌, ℤ, Option, Some, None}
use Rattle.ts_num.specs.Aggregates.{greater}
use Rattle.ts_bucket.specs.Bucket.{bucket_of}
use Rattle.ts_bucket.specs.Windows.{inscribed}
use Rattle.ts_bucket.specs.declared.spans.Span.{Span}
use Rattle.ts_bucket.specs.declared.widths.Width.{Width}
use Rattle.ts_schema.specs.declared.rows.Row.{Row}
use Rattle.ts_model.specs.declared.refreshes.Window.{Window}
use Rattle.ts_model.specs.declared.refreshes.Window.TheVariants.{Whole, NoBucket, Nothing}
use Rattle.ts_model.specs.declared.views.ViewDef.{ViewDef}
use Rattle.ts_model.specs.History.{History}
use Rattle.ts_model.specs.Rows.{rows}
use Rattle.ts_model.specs.Refreshes.{watermark}

-- the end of the bucket of the greatest time of these rows
abbrev pub last_end : Width → List Row → Option ℤ
last_end w [] = None
last_end w (row ∷ rows) = greater (Some (bucket_of w row.at +ℤ w.step)) (last_end w rows)

-- the whole buckets of a window, or the outcome of a refresh without one
abbrev pub whole_or : Window → Option Span → Window
whole_or other None = other
whole_or other (Some span) = Whole span

-- a window without a given end extends to this one, if there is one
abbrev pub window_up_to : Width → Option ℤ → Option ℤ → Window
window_up_to w lo None = Nothing
window_up_to w lo (Some hi) = whole_or Nothing (inscribed w lo hi)

-- the buckets that a refresh with this window covers: the whole buckets in it. A missing start is that of the
-- first bucket. A missing end is the greater of the watermark and the end of the bucket of the greatest time
abbrev pub window : ℕ → ViewDef → History → Option ℤ → Option ℤ → Window
window n def h lo (Some hi) = whole_or NoBucket (inscribed def.fold.width lo hi)
window n def h lo None =
    window_up_to def.fold.width lo (greater (watermark n def h) (last_end def.fold.width (rows def.table h)))
