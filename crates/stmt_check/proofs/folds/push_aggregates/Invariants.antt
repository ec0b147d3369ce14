use Rattle.std.proofs.Common.{◌≡◌, ◌++◌, map, take}
use Rattle.stmt_check.specs.Folds.{aggregate_name}
use Rattle.stmt_check.proofs.folds.push_aggregates.Given as goal

-- the names so far
abbrev pub invariant-loop-agg : goal.invariant-loop-agg
invariant-loop-agg l = l.names ≡ l.initial.names ++ map aggregate_name (take l.agg-index l.fn.aggs)
