use Rattle.std.proofs.Common.{◌∙◌}
use Rattle.ts_num.specs.Aggregates.{greater}
use Rattle.engine_state.proofs.ResumedTables.{last_hi_more}
use Rattle.engine_state.proofs.image_tables.last_end.Goals as goal

pub loop-last-preserved : goal.loop-last-preserved
loop-last-preserved c =
    c.greater-end.ensures.value ∙ (λ i. greater (c.loop-last.invariant i) (c.end_of.ensures i))
    ∙ last_hi_more c.args.lasts.now c.loop-last.last-index c.last-item.result c.loop-last-test.true c.last-item.is
