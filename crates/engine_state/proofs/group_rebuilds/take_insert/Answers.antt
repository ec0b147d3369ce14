use Rattle.std.proofs.Common.{sym, ◌∙◌}
use Rattle.engine_state.proofs.RefoldLaws.{others_taken}
use Rattle.engine_state.proofs.group_rebuilds.take_insert.Goals as goal

pub returns-clause-taken : goal.returns-clause-taken
returns-clause-taken g c = others_taken c.args.table c.args.rows.now c.args.refolds.now (sym c.are_over.ensures ∙ c.if-are_over.false)
