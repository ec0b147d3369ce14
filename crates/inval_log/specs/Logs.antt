-- A log of invalidations: a threshold, and the hulls that were noted below it.
use Rattle.std.specs.Prelude.{ℕ, Bool, cond, ◌-◌, ℤ, int_lt, List, [], ◌∷◌, ◌++◌}
use Rattle.ts_bucket.specs.Spans.{HullValue}
use Rattle.inval_log.specs.declared.entries.Entry.{Entry}

-- the value of an `InvalLog` in contracts: its threshold, its entries in the order in which they were noted,
-- and how many more fit
pub record LogValue : Type 0 where
  pub threshold : ℤ
  pub entries : List Entry
  pub room : ℕ

-- the hull begins below the threshold
abbrev pub begins_below : HullValue → ℤ → Bool
begins_below hull threshold = int_lt hull.least threshold

-- the entries after a hull was noted at a position: it is logged if and only if it begins below the threshold
abbrev pub entries_noted : LogValue → HullValue → ℕ → List Entry
entries_noted log hull pos =
    cond (begins_below hull log.threshold) (log.entries ++ record { hull = hull; pos = pos } ∷ []) log.entries
