-- Roll-ups that take all of an aggregate, and rows that show groups of its fold.
use Rattle.std.specs.Prelude.{◌≡◌, ℕ, suc, Bool, true, ◌&&◌, ◌==◌, List, [], ◌∷◌, length, map}
use Rattle.std.specs.List.{AllByRecursion, list_all}
use Rattle.std.specs.Ordering.{int_eq}
use Rattle.ts_num.specs.declared.values.Datum.{Datum}
use Rattle.ts_bucket.specs.Bucket.{WidthValue, is_bucket}
use Rattle.partial_agg.specs.declared.groups.Group.{Group}
use Rattle.partial_agg.specs.Groups.{AreInOrder}
use Rattle.ts_model.specs.declared.views.Fold.{Fold}
use Rattle.ts_model.specs.Groups.{cells_of}
use Rattle.hier_agg.specs.declared.plans.UpperPlan.{UpperPlan}
use Rattle.hier_agg.specs.Plans.{is_additive}

-- ---- plans

-- buckets of one width are those of the other: the same step, and the same offset
abbrev pub same_width : WidthValue → WidthValue → Bool
same_width v w = int_eq v.step w.step && int_eq v.shift w.shift

-- these are the numbers from one on
abbrev pub run_from : ℕ → List ℕ → Bool
run_from n [] = true
run_from n (k ∷ ks) = k == n && run_from (suc n) ks

-- these are this many columns from one on, each once and in their order
abbrev pub are_all : ℕ → ℕ → List ℕ → Bool
are_all first many cols = length cols == many && run_from first cols

-- a plan takes all of a fold: its width, all its keys and then all its aggregates, no test, and no aggregate is a mean
abbrev pub takes_all : Fold → UpperPlan → Bool
takes_all lower plan =
    same_width plan.width lower.width && are_all 0 (length lower.keys) plan.keys
    && are_all (length lower.keys) (length lower.aggs) plan.cols && length plan.tests == 0
    && list_all (λ a. is_additive a.fun) lower.aggs

-- ---- rows

-- a group of a fold starts one of its buckets, and has as many keys and parts as it has keys and aggregates
pub record IsGroupOf (fold : Fold) (group : Group) : Type 0 where
  pub start : is_bucket fold.width group.start ≡ true
  pub keys : length group.keys ≡ length fold.keys
  pub parts : length group.parts ≡ length fold.aggs

-- rows that show groups of a fold, in order
pub record AreRowsOf (fold : Fold) (rows : List (List Datum)) : Type 0 where
  pub groups : List Group
  pub order : AreInOrder groups
  pub each : AllByRecursion (IsGroupOf fold) groups
  pub shown : rows ≡ map (cells_of fold) groups
