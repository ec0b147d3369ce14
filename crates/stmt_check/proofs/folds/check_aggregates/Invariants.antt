use Rattle.std.proofs.Common.{◌≡◌, [], map, take, drop}
use Rattle.stmt_check.specs.Folds.{aggregate_of, aggregates_refusal, output_count}
use Rattle.stmt_check.proofs.folds.check_aggregates.Given as goal

-- what is left decides, and the aggregates so far are numbered
abbrev pub invariant-loop-place : goal.invariant-loop-place
invariant-loop-place l =
    (aggregates_refusal l.fn.pos l.fn.distinct (output_count l.fn.fold) l.fn.info l.fn.head l.fn.fold.keys [] l.fn.fold.aggs
    ≡ aggregates_refusal l.fn.pos l.fn.distinct (output_count l.fn.fold) l.fn.info l.fn.head l.fn.fold.keys (take l.place l.fn.fold.aggs) (drop l.place l.fn.fold.aggs))
    × (l.numbered ≡ map (aggregate_of l.fn.info) (take l.place l.fn.fold.aggs))
