-- A roll-up is refused with the read position, and never because the store has stopped.
use Rattle.std.proofs.Common.{◌≡◌, ℕ, Bool, true, false, List, [], ◌∷◌, length, Option, Some, None, refl, subst}
use Rattle.std.specs.Prelude.{not, nat_le, is_none, unwrap_or, ◌-ℤ◌, ⊤}
use Rattle.ts_num.specs.declared.values.Fun.{Fun}
use Rattle.ts_schema.specs.Counts.{raised_by}
use Rattle.ts_model.specs.Numbers.{no_column, bad_width, too_many, bad_rollup}
use Rattle.ts_model.specs.Limits.{most_columns}
use Rattle.ts_model.specs.declared.outcomes.Refusal.{Refusal}
use Rattle.ts_model.specs.declared.rosters.Roster.{Roster}
use Rattle.ts_model.specs.declared.views.ViewDef.{ViewDef}
use Rattle.ts_catalog.specs.Columns.{view_column_of}
use Rattle.ts_catalog.specs.Relations.{found_in}
use Rattle.ts_catalog.specs.declared.relations.Found.{Found}
use Rattle.ts_catalog.specs.declared.relations.Found.TheVariants as found
use Rattle.stmt_syntax.specs.declared.statements.NamedAgg.{NamedAgg}
use Rattle.stmt_syntax.specs.declared.statements.NamedFold.{NamedFold}
use Rattle.stmt_syntax.specs.declared.statements.NamedTest.{NamedTest}
use Rattle.stmt_syntax.specs.declared.statements.Stmt.{Stmt}
use Rattle.stmt_syntax.specs.declared.statements.Stmt.TheVariants as stmts
use Rattle.stmt_check.specs.Folds.{columns_before, is_shift, is_step, output_count}
use Rattle.stmt_check.specs.Queries.{is_bucket_column}
use Rattle.stmt_check.specs.Refusals.{◌⊳◌, marked_refusal, refusal_if_none, refusal_if}
use Rattle.hier_agg.specs.declared.plans.UpperPlan.{UpperPlan}
use Rattle.hier_agg.specs.declared.reads.UpperRead.{UpperRead}
use Rattle.hier_agg.specs.declared.reads.UpperRead.TheVariants as uppers
use Rattle.hier_agg.specs.Plans.{agg_at}
use Rattle.hier_agg.specs.Reads.{fold_read, plan_of, read_as, upper_read, view_numbered}
use Rattle.hier_agg.specs.Refusals.{agg_named, agg_refusal, aggs_refusal, argument_refusal, divides_evenly, fits, key_named, key_refusal, keys_refusal, tests_refusal, upper_refusal, width_refusal}
use Rattle.ts_sessions.proofs.RefusalCodes.{IsLooked, IsOther, Looked, looked, marked_looked, then_looked}

-- ---- parts

misfit_looked : (pos : ℕ) → IsLooked pos (record { code = bad_rollup; pos = pos; mark = 0 })
misfit_looked pos = looked pos bad_rollup 0 refl

fits_looked : (pos : ℕ) (wrong : Bool) → Looked pos (refusal_if pos bad_rollup wrong)
fits_looked pos true = misfit_looked pos
fits_looked pos false = tt

lost_looked : {T : Type 0} (pos : ℕ) (o : Option T) → Looked pos (refusal_if_none pos no_column o)
lost_looked pos o = marked_looked pos no_column 0 (is_none o) refl

wide_looked : (pos : ℕ) (wrong : Bool) → Looked pos (refusal_if pos bad_width wrong)
wide_looked pos wrong = marked_looked pos bad_width 0 wrong refl

many_looked : (pos count others : ℕ) → Looked pos (marked_refusal pos too_many count (nat_le most_columns others))
many_looked pos count others = marked_looked pos too_many count (nat_le most_columns others) refl

-- ---- a roll-up

keys_looked : (pos : ℕ) (def : ViewDef) (count others : ℕ) (keys : List (List ℕ)) → Looked pos (keys_refusal pos def count others keys)
keys_looked pos def count others [] = tt
keys_looked pos def count others (k ∷ ks) =
    then_looked pos (key_refusal pos def count others k) (keys_refusal pos def count (raised_by 1 others) ks)
    (then_looked pos (refusal_if_none pos no_column (key_named def k)) (marked_refusal pos too_many count (nat_le most_columns others)) (lost_looked pos (key_named def k)) (many_looked pos count others))
    (keys_looked pos def count (raised_by 1 others) ks)

argument_looked : (pos : ℕ) (def : ViewDef) (fun : Fun) (col : Option (List ℕ)) → Looked pos (argument_refusal pos def fun col)
argument_looked pos def fun None = misfit_looked pos
argument_looked pos def fun (Some name) =
    let misfits = not (fits fun (agg_at def.fold (unwrap_or (agg_named def name) 0)).fun) in
    then_looked pos (refusal_if_none pos no_column (agg_named def name)) (refusal_if pos bad_rollup misfits) (lost_looked pos (agg_named def name)) (fits_looked pos misfits)

aggs_looked : (pos : ℕ) (def : ViewDef) (count others : ℕ) (aggs : List NamedAgg) → Looked pos (aggs_refusal pos def count others aggs)
aggs_looked pos def count others [] = tt
aggs_looked pos def count others (a ∷ left) =
    then_looked pos (agg_refusal pos def count others a) (aggs_refusal pos def count (raised_by 1 others) left)
    (then_looked pos (marked_refusal pos too_many count (nat_le most_columns others)) (argument_refusal pos def a.fun a.col) (many_looked pos count others) (argument_looked pos def a.fun a.col))
    (aggs_looked pos def count (raised_by 1 others) left)

tests_looked : (pos : ℕ) (def : ViewDef) (tests : List NamedTest) → Looked pos (tests_refusal pos def tests)
tests_looked pos def [] = tt
tests_looked pos def (t ∷ ts) = then_looked pos (refusal_if_none pos no_column (key_named def t.col)) (tests_refusal pos def ts) (lost_looked pos (key_named def t.col)) (tests_looked pos def ts)

width_looked : (pos : ℕ) (def : ViewDef) (f : NamedFold) → Looked pos (width_refusal pos def f)
width_looked pos def f =
    let step = refusal_if pos bad_width (not (is_step f.step)) in
    let whole = refusal_if pos bad_width (not (divides_evenly f.step def.fold.width.step)) in
    let column = refusal_if pos no_column (not (is_bucket_column (view_column_of def f.at))) in
    let shift = refusal_if pos bad_width (not (is_shift f.step f.shift)) in
    let between = refusal_if pos bad_width (not (divides_evenly (f.shift -ℤ def.fold.width.shift) def.fold.width.step)) in
    then_looked pos step (whole ⊳ column ⊳ shift ⊳ between) (wide_looked pos (not (is_step f.step)))
    (then_looked pos whole (column ⊳ shift ⊳ between) (wide_looked pos (not (divides_evenly f.step def.fold.width.step)))
    (then_looked pos column (shift ⊳ between) (marked_looked pos no_column 0 (not (is_bucket_column (view_column_of def f.at))) refl)
    (then_looked pos shift between (wide_looked pos (not (is_shift f.step f.shift))) (wide_looked pos (not (divides_evenly (f.shift -ℤ def.fold.width.shift) def.fold.width.step))))))

upper_looked : (pos : ℕ) (def : ViewDef) (f : NamedFold) → Looked pos (upper_refusal pos def f)
upper_looked pos def f =
    let keys = keys_refusal pos def (output_count f) 1 f.keys in
    let others = columns_before (length f.keys) 0 in
    let aggs = aggs_refusal pos def (output_count f) others f.aggs in
    let tests = tests_refusal pos def f.tests in
    then_looked pos (width_refusal pos def f) (keys ⊳ aggs ⊳ tests) (width_looked pos def f)
    (then_looked pos keys (aggs ⊳ tests) (keys_looked pos def (output_count f) 1 f.keys)
    (then_looked pos aggs tests (aggs_looked pos def (output_count f) others f.aggs) (tests_looked pos def f.tests)))

-- ---- a statement

-- a refusal is at this read position
abbrev LookedRead : ℕ → UpperRead → Type 0
LookedRead pos (uppers.Refused r) = IsLooked pos r
LookedRead pos other = ⊤

read_as_looked : (pos : ℕ) (o : Option Refusal) (plan : UpperPlan) → Looked pos o → LookedRead pos (read_as o plan)
read_as_looked pos None plan x = tt
read_as_looked pos (Some r) plan x = x

fold_read_looked : (pos : ℕ) (roster : Roster) (f : NamedFold) (x : Found) → LookedRead pos (fold_read pos roster f x)
fold_read_looked pos roster f found.None = tt
fold_read_looked pos roster f (found.Plain n) = tt
fold_read_looked pos roster f (found.Hyper n) = tt
fold_read_looked pos roster f (found.View n) =
    let def = view_numbered roster n in
    read_as_looked pos (upper_refusal pos def f) (plan_of n def f) (upper_looked pos def f)

reads_looked : (pos : ℕ) (roster : Roster) (stmt : Stmt) → LookedRead pos (upper_read pos roster stmt)
reads_looked pos roster (stmts.Table name cols) = tt
reads_looked pos roster (stmts.Hyper table col interval) = tt
reads_looked pos roster (stmts.View name only filled fold) = tt
reads_looked pos roster (stmts.Mode view only) = tt
reads_looked pos roster (stmts.Insert table cols rows) = tt
reads_looked pos roster (stmts.Delete table tests) = tt
reads_looked pos roster (stmts.Drop table below) = tt
reads_looked pos roster (stmts.Refresh view lo hi) = tt
reads_looked pos roster (stmts.Cut view lo hi) = tt
reads_looked pos roster (stmts.Snap cut) = tt
reads_looked pos roster (stmts.Finish cut) = tt
reads_looked pos roster stmts.Begin = tt
reads_looked pos roster stmts.BeginRead = tt
reads_looked pos roster stmts.Commit = tt
reads_looked pos roster stmts.Rollback = tt
reads_looked pos roster (stmts.Buckets fold) = fold_read_looked pos roster fold (found_in roster fold.table)
reads_looked pos roster (stmts.Calendar number unit fold) = tt
reads_looked pos roster (stmts.Rows table tests) = tt

pub rolled_looked : (pos : ℕ) (roster : Roster) (stmt : Stmt) (r : Refusal) → upper_read pos roster stmt ≡ uppers.Refused r → IsLooked pos r
rolled_looked pos roster stmt r e = subst (LookedRead pos) e (reads_looked pos roster stmt)

pub rolled_other : (pos : ℕ) (roster : Roster) (stmt : Stmt) (r : Refusal) → upper_read pos roster stmt ≡ uppers.Refused r → IsOther r.code
rolled_other pos roster stmt r e = (rolled_looked pos roster stmt r e).other
