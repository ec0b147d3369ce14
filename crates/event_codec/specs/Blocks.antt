-- Rows whose values are stored separately from their times.
use Rattle.std.specs.Prelude.{List, [], ◌∷◌, ℤ, Option, Result, Ok, Err}
use Rattle.ts_schema.specs.declared.rows.Row.{Row}

-- the rows of these times and these values, place by place
abbrev pub timed_rows : List ℤ → List (List (Option ℤ)) → List Row
timed_rows [] others = []
timed_rows (t ∷ ts) [] = []
timed_rows (t ∷ ts) (vals ∷ others) = record { at = t; vals = vals } ∷ timed_rows ts others

-- the result of a function of the code, mapped
abbrev pub seen_as : {X A E : Type 0} → (X → A) → Result X E → Result A E
seen_as view (Ok x) = Ok (view x)
seen_as view (Err e) = Err e
