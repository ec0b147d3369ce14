use Rattle.hier_agg.proofs.Widening.{apart_whole}
use Rattle.hier_agg.proofs.answers.answer_upper.Goals as goal

pub widen-requires : goal.widen-requires
widen-requires c = apart_whole c.args.def.now.fold.width c.args.lower.stale c.requires
