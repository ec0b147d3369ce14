use Rattle.std.proofs.Common.{refl}
use Rattle.engine_core.proofs.StoreLaws.{does_refused}
use Rattle.engine_core.proofs.event_calls.make.Goals as goal

pub returns-in-Err : goal.returns-in-Err
returns-in-Err c =
    does_refused c.args.engine.now.past c.args.engine.now.past c.args.event c.in-Err.refusal
    (c.in-Err.ensures {u = tt}).refused refl
