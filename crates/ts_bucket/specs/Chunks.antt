-- Chunks of time, which are a whole interval long and one of which starts at 0.
use Rattle.std.specs.Prelude.{◌^◌, ℤ, pos, ◌+ℤ◌, ◌-ℤ◌, ◌≤ℤ◌}
use Rattle.std.specs.Int.{int_rem_euclid}
use Rattle.ts_bucket.specs.Spans.{SpanValue}

-- the greatest interval, 2 ^ 50
abbrev pub max_interval : ℤ
max_interval = pos (2 ^ 50)

-- an interval is from 1 to 2 ^ 50
abbrev pub IsInterval : ℤ → Type 0
IsInterval interval = (pos 1 ≤ℤ interval) × (interval ≤ℤ max_interval)

-- the start of the chunk that holds t: the last whole multiple of the interval at or below t
abbrev pub chunk_start : ℤ → ℤ → ℤ
chunk_start interval t = t -ℤ int_rem_euclid t interval

-- the numbers of the chunk that holds t
abbrev pub chunk_of : ℤ → ℤ → SpanValue
chunk_of interval t = record { lo = chunk_start interval t; hi = chunk_start interval t +ℤ interval }
