use Rattle.std.proofs.Common.{[], ◌∷◌}
use Rattle.std.proofs.lemmas.Result.{on_ok_weaker}
use Rattle.ts_model.specs.Saved.{appended_by, appended_over}
use Rattle.engine_state.proofs.RefoldLaws.{one_op, same_takes}
use Rattle.engine_state.proofs.group_rebuilds.take_event.Goals as goal

pub returns-in-len1-clause-taken : goal.returns-in-len1-clause-taken
returns-in-len1-clause-taken g c =
    let op = c.op-item.result in
    let event = c.args.event.now in
    on_ok_weaker c.take_op.result
    (same_takes (λ t. appended_by t op) (λ t. appended_over t (event ∷ [])) c.args.refolds.now c.take_op.new.refolds
    (one_op event c.in-Commit.ops c.items.result.now op c.in-Commit.is c.items.ensures.items c.in-len1.len_at_least c.in-len1.len_below c.op-item.is))
    c.take_op.ensures.taken
