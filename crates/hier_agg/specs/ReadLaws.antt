-- Laws of reading statements, each in one sentence.
use Rattle.std.specs.Prelude.{◌≡◌, ℕ, true, map, None}
use Rattle.ts_bucket.specs.Bucket.{IsWidth}
use Rattle.ts_model.specs.Answers.{can_ask}
use Rattle.ts_model.specs.declared.rosters.Roster.{Roster}
use Rattle.ts_model.specs.declared.views.ViewDef.{ViewDef}
use Rattle.ts_catalog.specs.Relations.{HasItem}
use Rattle.stmt_syntax.specs.declared.statements.NamedFold.{NamedFold}
use Rattle.stmt_syntax.specs.declared.statements.Stmt.{Stmt}
use Rattle.hier_agg.specs.declared.plans.UpperPlan.{UpperPlan}
use Rattle.hier_agg.specs.declared.reads.UpperRead.TheVariants.{Plan}
use Rattle.hier_agg.specs.Plans.{PlanFits, lower_query}
use Rattle.hier_agg.specs.Reads.{plan_of, upper_read}
use Rattle.hier_agg.specs.Refusals.{upper_refusal}
use Rattle.hier_agg.specs.Upper.{upper_fold}

-- a plan fits an aggregate with a valid width
abbrev pub FitsWhereSound : UpperPlan → ViewDef → Type 0
FitsWhereSound plan def = IsWidth def.fold.width → PlanFits def.fold plan

-- the aggregate of a plan that was read is in the roster, it can be queried, and the plan fits it
pub record PlansFit : Type 0 where
  pub fits :
      (pos : ℕ) (roster : Roster) (stmt : Stmt) (plan : UpperPlan) → upper_read pos roster stmt ≡ Plan plan
      → HasItem roster.views plan.view (FitsWhereSound plan)
  pub asks :
      (pos : ℕ) (roster : Roster) (stmt : Stmt) (plan : UpperPlan) → upper_read pos roster stmt ≡ Plan plan
      → can_ask roster (lower_query plan) ≡ true

-- if nothing is refused, the fold over the lower answer has the functions in the statement
abbrev pub FunctionsAddUp : Type 0
FunctionsAddUp =
    (pos n : ℕ) (def : ViewDef) (f : NamedFold) → upper_refusal pos def f ≡ None
    → map (λ a. a.fun) f.aggs ≡ map (λ agg. agg.fun) (upper_fold def.fold (plan_of n def f)).aggs
