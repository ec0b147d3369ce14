use Rattle.std.proofs.Common.{◌∙◌}
use Rattle.ts_num.specs.Aggregates.{greater}
use Rattle.engine_state.proofs.ResumedTables.{waiting_end_more}
use Rattle.engine_state.proofs.image_tables.waiting_end.Goals as goal

pub loop-refresh-preserved : goal.loop-refresh-preserved
loop-refresh-preserved c =
    c.greater-end.ensures.value ∙ (λ i. greater (c.loop-refresh.invariant i) (c.waiting_over.ensures i))
    ∙ waiting_end_more c.args.table c.args.roster.now c.args.waiting.now c.loop-refresh.refresh-index c.refresh-item.result c.loop-refresh-test.true c.refresh-item.is
