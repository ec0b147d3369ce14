-- A known wider bucket.
use Rattle.std.specs.Prelude.{◌≡◌, ℤ, ◌≤ℤ◌, ◌<ℤ◌}
use Rattle.ts_bucket.specs.Bucket.{WidthValue, bucket_of}
use Rattle.hier_agg.specs.declared.wides.WideBucket.{WideBucket}

-- it is the bucket of each number from its start on and below its end
abbrev pub HoldsItsNumbers : WidthValue → WideBucket → Type 0
HoldsItsNumbers w bucket = (t : ℤ) → bucket.start ≤ℤ t → t <ℤ bucket.end → bucket_of w t ≡ bucket.start
