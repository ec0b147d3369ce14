-- Groups grouped more coarsely.
use Rattle.std.specs.Prelude.{◌-◌, Bool, ℤ, List, [], map, filter, length, slice_index_or, Option, None}
use Rattle.std.specs.List.{list_all}
use Rattle.ts_bucket.specs.Bucket.{bucket_of}
use Rattle.ts_schema.specs.Conditions.{compares}
use Rattle.ts_schema.specs.declared.conditions.Test.{Test}
use Rattle.ts_model.specs.declared.views.Fold.{Fold}
use Rattle.partial_agg.specs.declared.groups.Group.{Group}
use Rattle.partial_agg.specs.Summaries.{summary}
use Rattle.group_fold.specs.Gathering.{in_group_order}
use Rattle.hier_agg.specs.declared.plans.UpperPlan.{UpperPlan}

-- keys pass every test
abbrev pub keys_pass : List Test → List (Option ℤ) → Bool
keys_pass tests keys = list_all (λ t. compares t.cmp (slice_index_or keys t.col None) t.num) tests

-- a group with the chosen keys and columns, in the wider bucket
abbrev pub coarse : Fold → UpperPlan → Group → Group
coarse lower plan g = record {
  start = bucket_of plan.width g.start;
  keys = map (λ k. slice_index_or g.keys k None) plan.keys;
  parts = map (λ c. slice_index_or g.parts (c - length lower.keys) (summary [])) plan.cols;
}

-- groups whose keys pass, grouped more coarsely
abbrev pub regroup : Fold → UpperPlan → List Group → List Group
regroup lower plan groups = in_group_order (map (coarse lower plan) (filter (λ g. keys_pass plan.tests g.keys) groups))
