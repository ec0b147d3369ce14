-- No check refuses a statement of a demonstration, and each asks for its action.
use lib.Signed.{mag}
use Rattle.std.proofs.Common.{◌≡◌, ◌∙◌, refl, ap, ℕ, zero, suc, ◌+◌, ◌-◌, ◌*◌, ◌%◌, ◌<◌, ◌≤◌, ◌^◌, ℤ, pos, negsuc, ◌-ℤ◌, true, ◌∷◌, length, map, Some, None, codes, arith}
use Rattle.std.specs.List.{range_with_len}
use Rattle.std.proofs.lemmas.Bool.{and_from, le-leb, lt-leb}
use Rattle.ts_bucket.specs.Bucket.{is_time}
use Rattle.stmt_check.specs.Check.{action_of, refusal_of}
use Rattle.stmt_check.specs.Refusals.{◌⊳◌}
use Rattle.stmt_check.specs.Rows.{row_of as row_by, row_refusal, rows_refusal, shape_of}
use Rattle.stmt_check.specs.declared.actions.Action.TheVariants.{Change}
use Rattle.ts_model.specs.declared.events.Op.TheVariants.{Insert as InsertOp}
use Rattle.stmt_syntax.specs.declared.statements.Stmt.TheVariants.{Insert as InsertStmt, Refresh as RefreshStmt}
use Rattle.demo_script.specs.Demo.{number_of, time_of, value_of}
use Rattle.demo_laws.specs.Acts.{demo_roster, demo_table, row_of, rows_of}
use Rattle.demo_laws.specs.Statements.{act_of, stmt_of, values_at, values_of, values_with}
use Rattle.demo_script.specs.declared.lines.Line.TheVariants as lines
use Rattle.demo_laws.proofs.Rows.{IsSmall}

-- ---- times

-- a number of 62 bits is a time
pub within_times : (z : ℤ) → mag z < 2 ^ 62 → is_time z ≡ true
within_times (pos n) small = le-leb n (2 ^ 62 - 1) (omega arith)
within_times (negsuc n) small = and_from _ _ (le-leb n (2 ^ 62 - 1) (omega arith)) refl

-- ---- rows

row_passes : (at count k : ℕ) (time : ℤ) (device amount : ℕ) → k < 1000 → is_time time ≡ true → row_refusal at (shape_of 0 demo_table.cols None count) k (values_with time device amount) ≡ None
row_passes at count k time device amount few good = rw (lt-leb 1000 k few, good) refl

module _ (demo round at count : ℕ) where
  rows_pass : (n first k : ℕ) → k + n ≤ 1000 → ((place : ℕ) → first ≤ place → place < first + n → IsSmall demo round place)
      → rows_refusal at (shape_of 0 demo_table.cols None count) k (map (values_at demo round) (range_with_len first n)) ≡ None
  rows_pass zero first k few small = refl
  rows_pass (suc n) first k few small =
      let time : ℤ = time_of (number_of round first) first in
      let here = row_passes at count k time (number_of round first % 8) (value_of demo (number_of round first)) (omega arith) (within_times time (small first (omega arith) (omega arith)).time) in
      ap (λ r. r ⊳ rows_refusal at (shape_of 0 demo_table.cols None count) (k + 1) (map (values_at demo round) (range_with_len (first + 1) n))) here
      ∙ rows_pass n (first + 1) (k + 1) (omega arith) (λ place low high. small place (omega arith) (omega arith))

-- the rows that values stand for
rows_given : (demo round n first count : ℕ)
    → map (row_by (shape_of 0 demo_table.cols None count).time (shape_of 0 demo_table.cols None count).others) (map (values_at demo round) (range_with_len first n))
    ≡ map (row_of demo round) (range_with_len first n)
rows_given demo round zero first count = refl
rows_given demo round (suc n) first count = ap (λ rows. row_of demo round first ∷ rows) (rows_given demo round n (first + 1) count)

pub values_pass : (demo round first n at : ℕ) → n ≤ 1000 → ((place : ℕ) → first ≤ place → place < first + n → IsSmall demo round place)
    → refusal_of at demo_roster (InsertStmt (codes "m") None (values_of demo round first n)) ≡ None
unfolding values_of
values_pass demo round first n at few small = rows_pass demo round at (length (map (values_at demo round) (range_with_len first n))) n first 0 (omega arith) small

pub values_act : (demo round first n : ℕ) → action_of demo_roster (InsertStmt (codes "m") None (values_of demo round first n)) ≡ Change (InsertOp 0 (rows_of demo round first n))
unfolding values_of rows_of
values_act demo round first n = ap (λ rows. Change (InsertOp 0 rows)) (rows_given demo round n first (length (map (values_at demo round) (range_with_len first n))))

-- ---- bounds

bounds_pass : (at : ℕ) (lo hi : ℤ) → is_time lo ≡ true → is_time hi ≡ true → refusal_of at demo_roster (RefreshStmt (codes "m100") (Some lo) (Some hi)) ≡ None
bounds_pass at lo hi l h = rw (l, h) refl

pub refresh_passes : (demo round at : ℕ) → mag (pos (5000 * round) -ℤ pos 5000) < 2 ^ 62 → 5000 * round < 2 ^ 62 → refusal_of at demo_roster (stmt_of demo (lines.Refresh round)) ≡ None
refresh_passes demo round at s t =
    bounds_pass at (pos (5000 * round) -ℤ pos 5000) (pos (5000 * round)) (within_times (pos (5000 * round) -ℤ pos 5000) s) (within_times (pos (5000 * round)) t)

-- ---- a late row

pub late_passes : (demo at : ℕ) → refusal_of at demo_roster (stmt_of demo lines.LateRow) ≡ None
late_passes demo at = refl

pub late_acts : (demo : ℕ) → action_of demo_roster (stmt_of demo lines.LateRow) ≡ act_of demo lines.LateRow
late_acts demo = refl
