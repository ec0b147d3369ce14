-- The rows were read before memory ran out.
use Rattle.std.proofs.Common.{◌<◌, ◌^◌, arith}
use Rattle.engine_state.specs.GroupRebuilds.{rows_refolded}
use Rattle.engine_state.proofs.RefoldLaws.{ticks_of}
use Rattle.engine_core.proofs.engines.Engine.from_image.Goals as goal

pub returns-in_err-state-clause-read : goal.returns-in_err-state-clause-read
returns-in_err-state-clause-read g c =
    let small : c.args.steps.now < 2 ^ 64 = omega (arith, c.count-so_far.type_inv, c.count-so_far.ensures.count) in
    ticks_of c.from_residual-in_err-state.result (rows_refolded c.args.image) c.args.steps.now c.from_image.new.steps small c.in_ok-from_image.ensures.read
