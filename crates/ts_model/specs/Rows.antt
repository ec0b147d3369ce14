-- The rows of a table at a history: its commits' operations, applied in order.
use Rattle.std.specs.Prelude.{ℕ, cond, not, ◌==◌, List, [], ◌∷◌, filter}
use Rattle.std.specs.Ordering.{is_gt}
use Rattle.ts_schema.specs.declared.rows.Row.{Row}
use Rattle.ts_schema.specs.Rows.{row_cmp}
use Rattle.ts_schema.specs.Conditions.{passes_all}
use Rattle.ts_model.specs.declared.events.Event.TheVariants.{Commit}
use Rattle.ts_model.specs.declared.events.Op.{Op}
use Rattle.ts_model.specs.declared.events.Op.TheVariants.{Insert, Delete}
use Rattle.ts_model.specs.History.{History, start, resumed, ◌▸◌, prefix}
use Rattle.ts_model.specs.Saved.{appended_over}

-- rows in order, with one more row in its place
abbrev pub with_row : Row → List Row → List Row
with_row row [] = row ∷ []
with_row row (x ∷ xs) = cond (is_gt (row_cmp row x)) (x ∷ with_row row xs) (row ∷ x ∷ xs)

-- rows in order, with these rows in their places
abbrev pub with_rows : List Row → List Row → List Row
with_rows [] rows = rows
with_rows (x ∷ xs) rows = with_row x (with_rows xs rows)

-- these rows in row order
abbrev pub in_order : List Row → List Row
in_order rows = with_rows rows []

-- the rows of table t after an operation: an insert adds its rows, a delete keeps the rows that fail some test
abbrev pub after_op : ℕ → Op → List Row → List Row
after_op t (Insert u new) rows = cond (u == t) (with_rows new rows) rows
after_op t (Delete u tests) rows = cond (u == t) (filter (λ row. not (passes_all row tests)) rows) rows

-- the rows of table t after these operations, in order
abbrev pub after_ops : ℕ → List Op → List Row → List Row
after_ops t [] rows = rows
after_ops t (op ∷ ops) rows = after_ops t ops (after_op t op rows)

-- the rows of table t at a history, in row order
abbrev pub rows : ℕ → History → List Row
rows t start = []
rows t (resumed i) = in_order (appended_over t i.rows)
rows t (h ▸ Commit ops) = after_ops t ops (rows t h)
rows t (h ▸ e) = rows t h

-- the rows of table t at position s of a history
abbrev pub rows_at : ℕ → History → ℕ → List Row
rows_at t h s = rows t (prefix h s)
