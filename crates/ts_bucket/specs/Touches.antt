-- Hulls that were noted as touched, and the latest one that touched a bucket.
use Rattle.std.specs.Prelude.{ℕ, cond, List, [], ◌∷◌, ℤ, Option, Some, None}
use Rattle.ts_bucket.specs.Bucket.{WidthValue}
use Rattle.ts_bucket.specs.Positions.{later}
use Rattle.ts_bucket.specs.Spans.{HullValue, meets}

-- a hull that was noted, and the position of its commit
pub record Noted : Type 0 where
  pub hull : HullValue
  pub at : ℕ

-- the latest position of a noted hull that meets the bucket b
abbrev pub log_touch : WidthValue → ℤ → List Noted → Option ℕ
log_touch w b [] = None
log_touch w b (entry ∷ entries) = later (cond (meets w b entry.hull) (Some entry.at) None) (log_touch w b entries)
