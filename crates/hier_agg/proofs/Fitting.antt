-- A roll-up that isn't refused fits, and adds up by the functions in the statement.
use Rattle.std.proofs.Common.{◌≡◌, ◌∙◌, refl, sym, subst, ap, ap₂, ℕ, zero, suc, ◌-◌, ◌<◌, ◌≤◌, Bool, true, false, cond, not, ◌&&◌, List, [], ◌∷◌, map, length, Option, Some, None, is_some, arith, ℤ, ◌-ℤ◌}
use Rattle.std.specs.Prelude.{nat_lt, nat_le, unwrap_or}
use Rattle.std.specs.List.{AllByRecursion}
use Rattle.std.proofs.lemmas.Bool.{and_parts, leb-true, ltb-true}
use Rattle.std.proofs.lemmas.Int.{ints}
use Rattle.std.proofs.lemmas.Option.{get_or_from_slice_get}
use Rattle.ts_num.specs.declared.values.Fun.{Fun}
use Rattle.ts_num.specs.declared.values.Fun.TheVariants.{CountAll, Count, Sum, Min, Max, Avg}
use Rattle.ts_bucket.specs.Bucket.{IsWidth}
use Rattle.ts_model.specs.declared.outcomes.Refusal.{Refusal}
use Rattle.ts_model.specs.declared.rosters.Roster.{Roster}
use Rattle.ts_model.specs.declared.views.ViewDef.{ViewDef}
use Rattle.ts_catalog.specs.Columns.{view_column_of}
use Rattle.ts_catalog.specs.Relations.{HasItem, found_in}
use Rattle.ts_catalog.specs.declared.relations.Found.{Found}
use Rattle.ts_catalog.specs.declared.relations.Found.TheVariants as found
use Rattle.stmt_syntax.specs.declared.statements.NamedAgg.{NamedAgg}
use Rattle.stmt_syntax.specs.declared.statements.NamedFold.{NamedFold}
use Rattle.stmt_syntax.specs.declared.statements.NamedTest.{NamedTest}
use Rattle.stmt_syntax.specs.declared.statements.Stmt.{Stmt}
use Rattle.stmt_syntax.specs.declared.statements.Stmt.TheVariants as stmts
use Rattle.stmt_check.specs.Check.{no_view}
use Rattle.stmt_check.specs.Folds.{columns_before, is_shift, is_step, output_count, width_of}
use Rattle.stmt_check.specs.Queries.{is_bucket_column}
use Rattle.stmt_check.specs.Refusals.{marked_refusal, refusal_if_none, refusal_if}
use Rattle.stmt_check.proofs.FoundLaws.{RelationAt, relation_at}
use Rattle.stmt_check.proofs.PassedLaws.{has_to_be, neither, not_missing}
use Rattle.hier_agg.specs.declared.plans.UpperPlan.{UpperPlan}
use Rattle.hier_agg.specs.declared.reads.UpperRead.TheVariants as reads
use Rattle.hier_agg.specs.Plans.{IsAdditive, PlanFits, added_by, agg_at, is_additive, lower_query, nests}
use Rattle.hier_agg.specs.ReadLaws.{FitsWhereSound}
use Rattle.ts_model.specs.Answers.{can_ask}
use Rattle.hier_agg.specs.Reads.{argument_of, fold_read, key_number, plan_of, read_as, test_of, upper_read, view_numbered}
use Rattle.hier_agg.specs.Refusals.{agg_named, agg_place, agg_refusal, aggs_refusal, argument_refusal, divides_evenly, fits, key_named, key_place, key_refusal, keys_refusal, tests_refusal, upper_refusal, width_refusal}
use Rattle.hier_agg.specs.Upper.{adds_up, upper_fold}
use Rattle.ts_schema.specs.Counts.{raised_by}

-- ---- functions

-- functions that fit add up
fits_adds : (f g : Fun) → fits f g ≡ true → (is_additive g ≡ true) × (f ≡ added_by g)
fits_adds CountAll g e = absurd (cc e)
fits_adds Count g e = absurd (cc e)
fits_adds Avg g e = absurd (cc e)
fits_adds Sum CountAll e = (refl, refl)
fits_adds Sum Count e = (refl, refl)
fits_adds Sum Sum e = (refl, refl)
fits_adds Sum Min e = absurd (cc e)
fits_adds Sum Max e = absurd (cc e)
fits_adds Sum Avg e = absurd (cc e)
fits_adds Min CountAll e = absurd (cc e)
fits_adds Min Count e = absurd (cc e)
fits_adds Min Sum e = absurd (cc e)
fits_adds Min Min e = (refl, refl)
fits_adds Min Max e = absurd (cc e)
fits_adds Min Avg e = absurd (cc e)
fits_adds Max CountAll e = absurd (cc e)
fits_adds Max Count e = absurd (cc e)
fits_adds Max Sum e = absurd (cc e)
fits_adds Max Min e = absurd (cc e)
fits_adds Max Max e = (refl, refl)
fits_adds Max Avg e = absurd (cc e)

-- ---- columns

-- a place that passes a test
passing_place : (t : Bool) (k : ℕ) → is_some (cond t (Some k) None) ≡ true → (t ≡ true) × (unwrap_or (cond t (Some k) None) 0 ≡ k)
passing_place true k e = (refl, refl)
passing_place false k e = absurd (cc e)

key_below : (def : ViewDef) (o : Option ℕ) → is_some (key_place def o) ≡ true → unwrap_or (key_place def o) 0 < length def.fold.keys
key_below def None e = absurd (cc e)
key_below def (Some zero) e = absurd (cc e)
key_below def (Some (suc k)) e =
    let place = passing_place (nat_lt k (length def.fold.keys)) k e in
    subst (λ n. n < length def.fold.keys) (sym place.1) (ltb-true _ _ place.0)

-- an aggregate's column is after the keys
record IsAgg (def : ViewDef) (c : ℕ) : Type 0 where
  pub behind : length def.fold.keys ≤ c
  pub within : c - length def.fold.keys < length def.fold.aggs

agg_there : (def : ViewDef) (o : Option ℕ) → is_some (agg_place def o) ≡ true → IsAgg def (unwrap_or (agg_place def o) 0)
agg_there def None e = absurd (cc e)
agg_there def (Some zero) e = absurd (cc e)
agg_there def (Some (suc k)) e =
    let n = length def.fold.keys in
    let place = passing_place (nat_le n k && nat_lt (k - n) (length def.fold.aggs)) k e in
    let parts = and_parts (nat_le n k) (nat_lt (k - n) (length def.fold.aggs)) place.0 in
    subst (IsAgg def) (sym place.1) (record { behind = leb-true _ _ parts.0; within = ltb-true _ _ parts.1 })

-- ---- keys, tests and aggregates

keys_fit : (p : ℕ) (def : ViewDef) (count others : ℕ) (keys : List (List ℕ)) → keys_refusal p def count others keys ≡ None → AllByRecursion (λ k. k < length def.fold.keys) (map (key_number def) keys)
keys_fit p def count others [] e = tt
keys_fit p def count others (k ∷ keys) e =
    let parts = neither (key_refusal p def count others k) _ e in
    let own = neither (refusal_if_none p 8 (key_named def k)) _ parts.0 in
    (key_below def (view_column_of def k) (not_missing p 8 (key_named def k) own.0), keys_fit p def count (raised_by 1 others) keys parts.1)

tests_fit : (p : ℕ) (def : ViewDef) (tests : List NamedTest) → tests_refusal p def tests ≡ None → AllByRecursion (λ t. t.col < length def.fold.keys) (map (test_of def) tests)
tests_fit p def [] e = tt
tests_fit p def (t ∷ tests) e =
    let parts = neither (refusal_if_none p 8 (key_named def t.col)) _ e in
    (key_below def (view_column_of def t.col) (not_missing p 8 (key_named def t.col) parts.0), tests_fit p def tests parts.1)

-- the argument of a function that isn't refused
argument_fits : (p : ℕ) (def : ViewDef) (fun : Fun) (col : Option (List ℕ)) → argument_refusal p def fun col ≡ None → IsAdditive def.fold (argument_of def col) × (fun ≡ added_by (agg_at def.fold (argument_of def col)).fun)
argument_fits p def fun None e = absurd (cc e)
argument_fits p def fun (Some name) e =
    let parts = neither (refusal_if_none p 8 (agg_named def name)) _ e in
    let there = agg_there def (view_column_of def name) (not_missing p 8 (agg_named def name) parts.0) in
    let adds = fits_adds fun (agg_at def.fold (argument_of def (Some name))).fun (has_to_be p 28 0 (fits fun (agg_at def.fold (argument_of def (Some name))).fun) parts.1) in
    (record { behind_keys = there.behind; within = there.within; additive = adds.0 }, adds.1)

aggs_fit : (p : ℕ) (def : ViewDef) (count others : ℕ) (aggs : List NamedAgg) → aggs_refusal p def count others aggs ≡ None → AllByRecursion (IsAdditive def.fold) (map (λ a. argument_of def a.col) aggs)
aggs_fit p def count others [] e = tt
aggs_fit p def count others (a ∷ aggs) e =
    let parts = neither (agg_refusal p def count others a) _ e in
    let own = neither (marked_refusal p 21 count (nat_le 16 others)) _ parts.0 in
    ((argument_fits p def a.fun a.col own.1).0, aggs_fit p def count (raised_by 1 others) aggs parts.1)

aggs_written : (p : ℕ) (def : ViewDef) (count others : ℕ) (aggs : List NamedAgg) → aggs_refusal p def count others aggs ≡ None → map (λ a. a.fun) aggs ≡ map (λ g. g.fun) (map (adds_up def.fold) (map (λ a. argument_of def a.col) aggs))
aggs_written p def count others [] e = refl
aggs_written p def count others (a ∷ aggs) e =
    let parts = neither (agg_refusal p def count others a) _ e in
    let own = neither (marked_refusal p 21 count (nat_le 16 others)) _ parts.0 in
    ap₂ (λ f fs. f ∷ fs) (argument_fits p def a.fun a.col own.1).1 (aggs_written p def count (raised_by 1 others) aggs parts.1)

-- ---- the width

in_range : (step shift : ℤ) → is_step step ≡ true → is_shift step shift ≡ true → IsWidth (record { step = step; shift = shift })
in_range step shift a b = record { positive = grind (arith, ints); bounded = grind (arith, ints); from_zero = grind (arith, ints); below_step = grind (arith, ints) }

width_fits : (p : ℕ) (def : ViewDef) (f : NamedFold) → width_refusal p def f ≡ None → IsWidth (width_of f) × (nests def.fold.width (width_of f) ≡ true)
width_fits p def f e =
    let low = def.fold.width in
    let one = neither (refusal_if p 14 (not (is_step f.step))) _ e in
    let two = neither (refusal_if p 14 (not (divides_evenly f.step low.step))) _ one.1 in
    let three = neither (refusal_if p 8 (not (is_bucket_column (view_column_of def f.at)))) _ two.1 in
    let four = neither (refusal_if p 14 (not (is_shift f.step f.shift))) _ three.1 in
    let steps = has_to_be p 14 0 (divides_evenly f.step low.step) two.0 in
    let shifts = has_to_be p 14 0 (divides_evenly (f.shift -ℤ low.shift) low.step) four.1 in
    (in_range f.step f.shift (has_to_be p 14 0 (is_step f.step) one.0) (has_to_be p 14 0 (is_shift f.step f.shift) four.0), rw (steps, shifts) refl)

-- ---- the plan

record Passes (p : ℕ) (def : ViewDef) (f : NamedFold) : Type 0 where
  pub width : width_refusal p def f ≡ None
  pub keys : keys_refusal p def (output_count f) 1 f.keys ≡ None
  pub aggs : aggs_refusal p def (output_count f) (columns_before (length f.keys) 0) f.aggs ≡ None
  pub tests : tests_refusal p def f.tests ≡ None

passes : (p : ℕ) (def : ViewDef) (f : NamedFold) → upper_refusal p def f ≡ None → Passes p def f
passes p def f e =
    let one = neither (width_refusal p def f) _ e in
    let two = neither (keys_refusal p def (output_count f) 1 f.keys) _ one.1 in
    let three = neither (aggs_refusal p def (output_count f) (columns_before (length f.keys) 0) f.aggs) _ two.1 in
    record { width = one.0; keys = two.0; aggs = three.0; tests = three.1 }

plan_fits : (p n : ℕ) (def : ViewDef) (f : NamedFold) → upper_refusal p def f ≡ None → IsWidth def.fold.width → PlanFits def.fold (plan_of n def f)
plan_fits p n def f e wide =
    let parts = passes p def f e in
    let width = width_fits p def f parts.width in
    record {
      lower_width = wide;
      width = width.0;
      nested = width.1;
      keys = keys_fit p def (output_count f) 1 f.keys parts.keys;
      cols = aggs_fit p def (output_count f) (columns_before (length f.keys) 0) f.aggs parts.aggs;
      tests = tests_fit p def f.tests parts.tests;
    }

pub functions_add_up : (p n : ℕ) (def : ViewDef) (f : NamedFold) → upper_refusal p def f ≡ None → map (λ a. a.fun) f.aggs ≡ map (λ g. g.fun) (upper_fold def.fold (plan_of n def f)).aggs
functions_add_up p n def f e = aggs_written p def (output_count f) (columns_before (length f.keys) 0) f.aggs (passes p def f e).aggs

-- ---- what was read

read_plan : (o : Option Refusal) (made plan : UpperPlan) → read_as o made ≡ reads.Plan plan → (o ≡ None) × (made ≡ plan)
read_plan None made plan e = (refl, cc e)
read_plan (Some r) made plan e = absurd (cc e)

fold_plan : (p : ℕ) (roster : Roster) (f : NamedFold) (plan : UpperPlan) (o : Found) → RelationAt roster o → fold_read p roster f o ≡ reads.Plan plan → HasItem roster.views plan.view (FitsWhereSound plan)
fold_plan p roster f plan found.None at e = absurd (cc e)
fold_plan p roster f plan (found.Plain n) at e = absurd (cc e)
fold_plan p roster f plan (found.Hyper n) at e = absurd (cc e)
fold_plan p roster f plan (found.View n) at e =
    let def = view_numbered roster n in
    let read = read_plan (upper_refusal p def f) (plan_of n def f) plan e in
    let same : def ≡ at.item = get_or_from_slice_get roster.views n at.item no_view at.at in
    subst (λ q. HasItem roster.views q.view (FitsWhereSound q)) read.1
    (record { item = def; at = at.at ∙ ap Some (sym same); is = plan_fits p n def f read.0 })

pub plans_fit : (p : ℕ) (roster : Roster) (stmt : Stmt) (plan : UpperPlan) → upper_read p roster stmt ≡ reads.Plan plan → HasItem roster.views plan.view (FitsWhereSound plan)
plans_fit p roster (stmts.Table name cols) plan e = absurd (cc e)
plans_fit p roster (stmts.Hyper table col interval) plan e = absurd (cc e)
plans_fit p roster (stmts.View name only filled fold) plan e = absurd (cc e)
plans_fit p roster (stmts.Mode view only) plan e = absurd (cc e)
plans_fit p roster (stmts.Insert table cols rows) plan e = absurd (cc e)
plans_fit p roster (stmts.Delete table tests) plan e = absurd (cc e)
plans_fit p roster (stmts.Drop table below) plan e = absurd (cc e)
plans_fit p roster (stmts.Refresh view lo hi) plan e = absurd (cc e)
plans_fit p roster (stmts.Cut view lo hi) plan e = absurd (cc e)
plans_fit p roster (stmts.Snap cut) plan e = absurd (cc e)
plans_fit p roster (stmts.Finish cut) plan e = absurd (cc e)
plans_fit p roster stmts.Begin plan e = absurd (cc e)
plans_fit p roster stmts.BeginRead plan e = absurd (cc e)
plans_fit p roster stmts.Commit plan e = absurd (cc e)
plans_fit p roster stmts.Rollback plan e = absurd (cc e)
plans_fit p roster (stmts.Buckets fold) plan e = fold_plan p roster fold plan (found_in roster fold.table) (relation_at roster fold.table) e
plans_fit p roster (stmts.Calendar number unit fold) plan e = absurd (cc e)
plans_fit p roster (stmts.Rows table tests) plan e = absurd (cc e)

pub plans_ask : (p : ℕ) (roster : Roster) (stmt : Stmt) (plan : UpperPlan) → upper_read p roster stmt ≡ reads.Plan plan → can_ask roster (lower_query plan) ≡ true
plans_ask p roster stmt plan e = ap is_some (plans_fit p roster stmt plan e).at
