use Rattle.std.proofs.Common.{arith}
use Rattle.engine_state.proofs.group_rebuilds.count.Goals as goal

pub returns : goal.returns
returns g c = omega (arith, c.loop-left.invariant, c.in_default.len_below, c.count-so_far.type_inv, c.count-so_far.ensures.count)
