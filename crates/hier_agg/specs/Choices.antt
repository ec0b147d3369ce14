-- Roll-ups that keep the groups of an aggregate: each row of its answer is alone in its group, so such a roll-up is the
-- answer with some of its cells chosen.
use Rattle.std.specs.Prelude.{ℕ, suc, ◌-◌, Bool, ◌&&◌, ◌==◌, nat_le, nat_lt, List, ◌∷◌, ◌++◌, length, map}
use Rattle.std.specs.List.{list_all}
use Rattle.ts_model.specs.declared.queries.Answer.{Answer}
use Rattle.ts_model.specs.declared.views.Fold.{Fold}
use Rattle.ts_model.specs.Chosen.{chosen_cells}
use Rattle.hier_agg.specs.declared.plans.UpperPlan.{UpperPlan}
use Rattle.hier_agg.specs.Plans.{agg_at, is_additive}
use Rattle.hier_agg.specs.Wholes.{are_all, same_width}

-- the total of this column shows a single cell unchanged: the column is an aggregate's, and not a mean
abbrev pub keeps_its_cell : Fold → ℕ → Bool
keeps_its_cell lower c =
    nat_le (length lower.keys) c && nat_lt (c - length lower.keys) (length lower.aggs)
    && is_additive (agg_at lower c).fun

-- a plan keeps the groups of a fold: its width, all its keys, and no test. It takes any aggregates except
-- means, in any order
abbrev pub takes_groups : Fold → UpperPlan → Bool
takes_groups lower plan =
    same_width plan.width lower.width && are_all 0 (length lower.keys) plan.keys && length plan.tests == 0
    && list_all (keeps_its_cell lower) plan.cols

-- the places of the cells that a plan takes from a row: its bucket, then its keys, then the columns that it
-- adds up
abbrev pub chosen_places : UpperPlan → List ℕ
chosen_places plan = 0 ∷ (map suc plan.keys ++ map suc plan.cols)

-- an answer with these cells of each row
abbrev pub chosen_answer : UpperPlan → Answer → Answer
chosen_answer plan shown = record {
  rows = map (chosen_cells (chosen_places plan)) shown.rows;
  stale = shown.stale;
}
