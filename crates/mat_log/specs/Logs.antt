-- What is pending of an aggregate and what was refreshed, as two partial functions of its buckets.
use Rattle.std.specs.Prelude.{◌≡◌, ℕ, Bool, true, not, ◌||◌, ◌&&◌, ℤ, Option, is_some, is_none}
use Rattle.ts_bucket.specs.Bucket.{WidthValue, IsWidth, bucket_of}
use Rattle.ts_bucket.specs.Positions.{is_above}
use Rattle.ts_bucket.specs.Spans.{in_span}
use Rattle.span_map.specs.Maps.{MapValue, at}
use Rattle.ts_bucket.specs.WholeSpans.{whole_span, is_below}

-- the value of a `MatLog` in contracts: the width of its buckets, and its two maps
pub record LogValue : Type 0 where
  pub width : WidthValue
  pub pending : MapValue
  pub refreshed : MapValue

-- the position that is pending at b, if there is one
abbrev pub pending_at : LogValue → ℤ → Option ℕ
pending_at log b = at log.pending b

-- the last refresh of b, if there is one
abbrev pub last_at : LogValue → ℤ → Option ℕ
last_at log b = at log.refreshed b

-- the bucket that starts at b has no last refresh, or something is pending there
abbrev pub is_dirty : LogValue → ℤ → Bool
is_dirty log b = is_none (last_at log b) || is_some (pending_at log b)

-- the bucket that starts at b is dirty and below the mark
abbrev pub is_stale : LogValue → Option ℤ → ℤ → Bool
is_stale log mark b = is_below b mark && is_dirty log b

-- the last refresh of the bucket that starts at b is above a snapshot
abbrev pub is_refreshed_after : LogValue → ℕ → ℤ → Bool
is_refreshed_after log snap b = is_above snap (last_at log b)

-- a refresh with this snapshot updates the bucket that starts at b: its last refresh, if there is one, isn't
-- above the snapshot
abbrev pub is_renewed : LogValue → ℕ → ℤ → Bool
is_renewed log snap b = not (is_above snap (last_at log b))

-- the same for every bucket: what is pending there, and its last refresh
pub record IsSame (old new : LogValue) : Type 0 where
  pub width : new.width ≡ old.width
  pub pending : (b : ℤ) → pending_at new b ≡ pending_at old b
  pub refreshed : (b : ℤ) → last_at new b ≡ last_at old b

-- the invariant that keeps the two functions in step: each has one value for a whole bucket, and if nothing was
-- refreshed something is pending
pub record IsInStep (w : WidthValue) (pending refreshed : ℤ → Option ℕ) : Type 0 where
  pub bounds : IsWidth w
  pub one_pending : (t : ℤ) → pending t ≡ pending (bucket_of w t)
  pub one_refreshed : (t : ℤ) → refreshed t ≡ refreshed (bucket_of w t)
  pub marked : (t : ℤ) → in_span (whole_span w) t ≡ true → (is_some (refreshed t) || is_some (pending t)) ≡ true
