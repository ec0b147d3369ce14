use Rattle.std.proofs.Common.{◌≡◌, map, take, drop}
use Rattle.hier_agg.specs.Reads.{argument_of}
use Rattle.hier_agg.specs.Refusals.{aggs_refusal}
use Rattle.hier_agg.proofs.columns.check_aggs.Given as goal

-- what is left decides, and the columns so far are numbered
abbrev pub invariant-loop-agg : goal.invariant-loop-agg
invariant-loop-agg l =
    (aggs_refusal l.fn.pos l.fn.def l.fn.count l.fn.before l.fn.aggs ≡ aggs_refusal l.fn.pos l.fn.def l.fn.count l.others (drop l.agg-index l.fn.aggs))
    × (l.cols ≡ map (λ a. argument_of l.fn.def a.col) (take l.agg-index l.fn.aggs))
