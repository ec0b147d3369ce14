use Rattle.std.proofs.Common.{take}
use Rattle.engine_state.specs.Lists.{Each}
use Rattle.engine_state.specs.Steps.{FedAt}
use Rattle.engine_state.proofs.cuts.feed_all.Given as goal

abbrev pub invariant-loop-view : goal.invariant-loop-view
invariant-loop-view l = Each (FedAt l.fn.number l.table) (take l.view-index l.views) l.after
