-- New rows in the chunks that hold their times.
use Rattle.std.specs.Prelude.{◌≡◌, ℕ, true, List, map, ℤ}
use Rattle.std.specs.List.{list_all}
use Rattle.std.specs.Ordering.{int_eq}
use Rattle.ts_schema.specs.declared.rows.Row.{Row}
use Rattle.seg_rows.specs.Versions.{newborn}
use Rattle.ts_bucket.specs.Bucket.{is_time}
use Rattle.ts_bucket.specs.Chunks.{chunk_start}
use Rattle.chunk_catalog.specs.Places.{Placed, place}

-- rows inserted at p, each in the chunk that holds its time
abbrev pub placed_row : ℤ → ℕ → Row → Placed
placed_row interval p row = place (chunk_start interval row.at) (newborn p row)

abbrev pub placed_rows : ℤ → ℕ → List Row → List Placed
placed_rows interval p rows = map (placed_row interval p) rows

-- the chunk with this start holds the time of every row
abbrev pub AreIn : ℤ → ℤ → List Row → Type 0
AreIn interval start rows = list_all (λ row. int_eq start (chunk_start interval row.at)) rows ≡ true

-- a chunk with this start holds some time
pub record IsStart (interval start : ℤ) : Type 0 where
  pub time : ℤ
  pub is : is_time time ≡ true
  pub begins : start ≡ chunk_start interval time
