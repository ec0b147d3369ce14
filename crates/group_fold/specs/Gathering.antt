-- Groups in any order, as rows are added.
use Rattle.std.specs.Prelude.{◌≡◌, ◌+◌, ◌^◌, ◌<◌, ◌≤◌, ℕ, suc, max, length, slice_index_or, ℤ, ◌≤ℤ◌, IsTrue, List, [], ◌∷◌, ◌++◌}
use Rattle.std.specs.List.{AllByRecursion}
use Rattle.std.specs.declared.cmp.Ordering.TheVariants.{Equal}
use Rattle.ts_schema.specs.declared.rows.Row.{Row}
use Rattle.ts_bucket.specs.Bucket.{WidthValue, is_bucket, max_time}
use Rattle.ts_model.specs.declared.views.Fold.{Fold}
use Rattle.partial_agg.specs.declared.groups.Group.{Group}
use Rattle.partial_agg.specs.Groups.{group_cmp}
use Rattle.partial_agg.specs.Summaries.{Summary}
use Rattle.group_fold.specs.Grouping.{row_group}
use Rattle.ts_model.specs.Groups.{groups_of}
use Rattle.group_fold.specs.Merging.{with_group, with_groups}

-- groups in any order put in order; those of the same bucket and keys are merged
abbrev pub in_group_order : List Group → List Group
in_group_order groups = with_groups groups []

-- the bucket of a time starts here, or one before all times
abbrev pub IsStart : WidthValue → ℤ → Type 0
IsStart w b = IsTrue (is_bucket w b) × (b ≤ℤ max_time)

-- a group of the same bucket and keys is at a place
pub record IsAt (g : Group) (groups : List Group) (at : ℕ) : Type 0 where
  pub within : at < length groups
  pub same : (d : Group) → group_cmp (slice_index_or groups at d) g ≡ Equal

-- a group has one part for each aggregate, and its counts are below a bound
abbrev pub IsBelow : ℕ → Fold → Group → Type 0
IsBelow bound fold g = (length g.parts ≡ length fold.aggs) × AllByRecursion (λ p. p.count < bound) g.parts

-- the greatest count of these parts
abbrev pub most_counted : List Summary → ℕ
most_counted [] = 0
most_counted (p ∷ ps) = max p.count (most_counted ps)

-- the total count of groups
abbrev pub total_rows : List Group → ℕ
total_rows [] = 0
total_rows (g ∷ gs) = most_counted g.parts + total_rows gs

-- every group has this many parts
abbrev pub HaveParts : ℕ → List Group → Type 0
HaveParts n groups = AllByRecursion (λ g. length g.parts ≡ n) groups

-- as many parts as the first group has
abbrev pub parts_each : List Group → ℕ
parts_each [] = 0
parts_each (g ∷ gs) = length g.parts

-- groups in any order can be put in order: they have equally many parts, and their counts can be added up
pub record CanOrder (groups : List Group) : Type 0 where
  pub alike : HaveParts (parts_each groups) groups
  pub few : total_rows groups < 2 ^ 62

-- groups of a plan, to which this many more rows can be added
pub record HasRoom (more : ℕ) (fold : Fold) (groups : List Group) : Type 0 where
  pub alike : HaveParts (length fold.aggs) groups
  pub few : total_rows groups + more < 2 ^ 62

-- these are, in some order, the groups of these rows
pub record IsGathered (fold : Fold) (rows : List Row) (groups : List Group) : Type 0 where
  pub groups_are : in_group_order groups ≡ groups_of fold rows
  pub alike : HaveParts (length fold.aggs) groups
  pub few : total_rows groups ≤ length rows

-- one row was added
pub record Takes (fold : Fold) (row : Row) (old new : List Group) : Type 0 where
  pub groups_are : in_group_order new ≡ with_group (row_group fold row) (in_group_order old)
  pub alike : HaveParts (length fold.aggs) new
  pub few : total_rows new ≤ suc (total_rows old)

-- these rows were added: the groups of some rows are now those of these rows as well
abbrev pub TakesAll : Fold → List Row → List Group → List Group → Type 0
TakesAll fold rows old new = (before : List Row) → IsGathered fold before old → IsGathered fold (before ++ rows) new
