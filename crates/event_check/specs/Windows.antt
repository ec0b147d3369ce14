-- The buckets that a refresh covers, by its table's rows and its aggregate.
use Rattle.std.specs.Prelude.{ℤ, ◌+ℤ◌, Option, Some, None}
use Rattle.std.specs.Option.{option_map}
use Rattle.ts_num.specs.Aggregates.{greater}
use Rattle.ts_bucket.specs.Bucket.{bucket_of}
use Rattle.ts_bucket.specs.Windows.{inscribed}
use Rattle.ts_bucket.specs.declared.widths.Width.{Width}
use Rattle.ts_model.specs.declared.refreshes.Window.{Window}
use Rattle.ts_model.specs.declared.refreshes.Window.TheVariants.{NoBucket}
use Rattle.ts_model.specs.Windows.{whole_or, window_up_to}

-- the end of the bucket of a time, if there is one
abbrev pub end_of : Width → Option ℤ → Option ℤ
end_of w latest = option_map (λ t. bucket_of w t +ℤ w.step) latest

-- the buckets that a refresh covers, by the watermark of its aggregate and the greatest time of a row of its table
abbrev pub window_by : Width → Option ℤ → Option ℤ → Option ℤ → Option ℤ → Window
window_by w mark latest lo (Some hi) = whole_or NoBucket (inscribed w lo hi)
window_by w mark latest lo None = window_up_to w lo (greater mark (end_of w latest))
