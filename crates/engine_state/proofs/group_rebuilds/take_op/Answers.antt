use Rattle.std.proofs.Common.{◌≡◌, true, ap, ◌∙◌, subst}
use Rattle.std.specs.List.{list_all}
use Rattle.std.proofs.lemmas.Result.{on_ok_weaker}
use Rattle.base_image.specs.Held.{op_timed}
use Rattle.ts_bucket.specs.Bucket.{is_time}
use Rattle.ts_schema.specs.declared.rows.Row.{Row}
use Rattle.ts_model.specs.declared.events.Op.{Op}
use Rattle.ts_model.specs.declared.events.Op.TheVariants.{Insert}
use Rattle.engine_state.proofs.RefoldLaws.{are_times, same_table}
use Rattle.engine_state.proofs.group_rebuilds.take_op.Goals as goal

pub take_insert-requires-clause-times : goal.take_insert-requires-clause-times
take_insert-requires-clause-times g c =
    let timed : op_timed (Insert c.in-Insert.table c.in-Insert.rows) ≡ true = subst (λ (o : Op). op_timed o ≡ true) c.in-Insert.is c.requires.timed in
    are_times c.items.result.now (ap (list_all (λ (row : Row). is_time row.at)) c.items.ensures.items ∙ timed)

pub returns-in-Insert-clause-taken : goal.returns-in-Insert-clause-taken
returns-in-Insert-clause-taken g c =
    on_ok_weaker c.take_insert.result
    (same_table c.args.op.now c.in-Insert.table c.in-Insert.rows c.items.result.now c.args.refolds.now c.take_insert.new.refolds c.in-Insert.is c.items.ensures.items) c.take_insert.ensures.taken
