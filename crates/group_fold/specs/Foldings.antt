-- A fold of rows from several lists.
use Rattle.std.specs.Prelude.{◌≡◌, ℕ, ◌^◌, ◌<◌, List, length}
use Rattle.ts_schema.specs.declared.rows.Row.{Row}
use Rattle.ts_model.specs.declared.views.Fold.{Fold}
use Rattle.partial_agg.specs.declared.groups.Group.{Group}
use Rattle.group_fold.specs.Gathering.{IsGathered}

-- what contracts see of it: its groups so far in some order, and the number of rows added
pub record FoldingValue : Type 0 where
  pub groups : List Group
  pub count : ℕ

-- these rows were added by a plan
pub record HasTaken (plan : Fold) (rows : List Row) (folding : FoldingValue) : Type 0 where
  pub gathered : IsGathered plan rows folding.groups
  pub count_is : folding.count ≡ length rows
  pub few : length rows < 2 ^ 62
