-- The effect of a commit: the rows that it appends and removes, and the hull of their times.
use Rattle.std.specs.Prelude.{ℕ, zero, suc, ◌+◌, cond, ◌==◌, List, [], ◌∷◌, ◌++◌, length, filter, ℤ, Option, Some, None}
use Rattle.std.specs.Int.{int_min, int_max}
use Rattle.ts_bucket.specs.declared.spans.Hull.{Hull}
use Rattle.ts_schema.specs.declared.rows.Row.{Row}
use Rattle.ts_schema.specs.Conditions.{passes_all}
use Rattle.ts_model.specs.declared.events.Op.{Op}
use Rattle.ts_model.specs.declared.events.Op.TheVariants.{Insert, Delete}
pub use Rattle.ts_model.specs.Saved.{appended_by, all_appended}
use Rattle.ts_model.specs.Rows.{after_op}

-- the rows that an operation removes from table t, which has these rows
abbrev pub taken_by : ℕ → Op → List Row → List Row
taken_by t (Insert u new) rows = []
taken_by t (Delete u tests) rows = cond (u == t) (filter (λ row. passes_all row tests) rows) []

-- the rows that these operations remove from table t, each from the rows that it finds
abbrev pub all_taken : ℕ → List Op → List Row → List Row
all_taken t [] rows = []
all_taken t (op ∷ ops) rows = taken_by t op rows ++ all_taken t ops (after_op t op rows)

-- the least hull that holds a time and all of another hull
abbrev pub hull_with : ℤ → Option Hull → Hull
hull_with t None = record { least = t; most = t }
hull_with t (Some h) = record { least = int_min t h.least; most = int_max t h.most }

-- the least and the greatest time of these rows, if there are rows
abbrev pub hull_of : List Row → Option Hull
hull_of [] = None
hull_of (row ∷ rows) = Some (hull_with row.at (hull_of rows))

-- the hull of these operations on table t, which has these rows: that of all rows appended and removed
abbrev pub hull_of_ops : ℕ → List Op → List Row → Option Hull
hull_of_ops t ops rows = hull_of (all_appended t ops ++ all_taken t ops rows)

-- the sum of f over the numbers below n
abbrev pub sum_below : ℕ → (ℕ → ℕ) → ℕ
sum_below zero f = zero
sum_below (suc n) f = sum_below n f + f n

-- how many rows these operations append over the first n tables, and how many they remove from tables with
-- these rows
abbrev pub appended_count : ℕ → List Op → ℕ
appended_count n ops = sum_below n (λ t. length (all_appended t ops))

abbrev pub taken_count : ℕ → List Op → (ℕ → List Row) → ℕ
taken_count n ops rows_of = sum_below n (λ t. length (all_taken t ops (rows_of t)))
