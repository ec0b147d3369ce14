use Rattle.par_run.proofs.OutputLaws.{reads_all, reads_more}
use Rattle.par_run.proofs.outputs.reads_of.Goals as goal

pub loop-slot-preserved : goal.loop-slot-preserved
loop-slot-preserved g c = reads_more c.args.crew.now c.loop-slot.slot-index c.slot-item.result c.loop-slot.reads _ c.loop-slot-test.true c.slot-item.is c.loop-slot.invariant cc

pub returns : goal.returns
returns g c = reads_all c.args.crew.now c.loop-slot.slot-index c.loop-slot.reads c.loop-slot-test.false c.loop-slot.invariant
