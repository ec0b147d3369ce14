-- What is true of chunks: each version is in its chunk, and the count is right.
use Rattle.std.specs.Prelude.{◌≡◌, ℕ, ◌≤◌, ◌^◌, List, length, ℤ}
use Rattle.ts_bucket.specs.Chunks.{IsInterval}
use Rattle.chunk_catalog.specs.Places.{Placed, ArePlaced}

-- every version is kept by the chunk that holds its time, and the count is that of the versions and has 64 bits
pub record IsKept (interval : ℤ) (ps : List Placed) (count : ℕ) : Type 0 where
  pub wide : IsInterval interval
  pub placed : ArePlaced interval ps
  pub counted : count ≡ length ps
  pub few : count ≤ 2 ^ 62
