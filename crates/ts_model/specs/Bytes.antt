-- The bytes that an event takes in a journal. A time, a bound, a number or a position takes 8. The number of a
-- table, an aggregate or a column takes 4, and so does a column's place. A kind, a flag, a function or a
-- comparison takes 1, and so does the mark of NULL before each value. The count before a list takes 4 for
-- tests, rows or operations, and 1 otherwise, such as for the length of a name.
use Rattle.std.specs.Prelude.{ℕ, ◌+◌, ◌*◌, List, length, sum_by, ℤ, Option, Some, None}
use Rattle.ts_schema.specs.declared.rows.Row.{Row}
use Rattle.ts_model.specs.declared.events.Event.{Event}
use Rattle.ts_model.specs.declared.events.Event.TheVariants.{Table, Hyper, View, Mode, Commit, Cut, Built}
use Rattle.ts_model.specs.declared.events.Op.{Op}
use Rattle.ts_model.specs.declared.events.Op.TheVariants.{Insert, Delete}
use Rattle.ts_model.specs.declared.views.Fold.{Fold}

abbrev pub name_bytes : List ℕ → ℕ
name_bytes name = 1 + length name

abbrev pub value_bytes : Option ℤ → ℕ
value_bytes None = 1
value_bytes (Some v) = 9

abbrev pub row_bytes : Row → ℕ
row_bytes row = 9 + sum_by value_bytes row.vals

abbrev pub op_bytes : Op → ℕ
op_bytes (Insert t new) = 9 + sum_by row_bytes new
op_bytes (Delete t tests) = 9 + 13 * length tests

abbrev pub fold_bytes : Fold → ℕ
fold_bytes fold = 22 + 4 * length fold.keys + 5 * length fold.aggs + 13 * length fold.tests

-- the bytes that an event takes in a journal
abbrev pub event_bytes : Event → ℕ
event_bytes (Table def) = 2 + name_bytes def.name + sum_by (λ c. name_bytes c.name + 1) def.cols
event_bytes (Hyper t hyper) = 17
event_bytes (View def) = 7 + name_bytes def.name + fold_bytes def.fold + sum_by name_bytes def.names
event_bytes (Mode v only) = 6
event_bytes (Commit ops) = 5 + sum_by op_bytes ops
event_bytes (Cut v span) = 21
event_bytes (Built cut snap) = 17
