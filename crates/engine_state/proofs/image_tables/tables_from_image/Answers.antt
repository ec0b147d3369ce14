-- One more table has its state.
use Rattle.std.proofs.Common.{◌<◌, ◌+◌, length, take, sym, subst, arith}
use Rattle.engine_state.specs.Lists.{Each}
use Rattle.engine_state.specs.Resumed.{ResumedAt}
use Rattle.engine_state.proofs.CutFacts.{got}
use Rattle.engine_state.proofs.TakenLaws.{each_taken}
use Rattle.engine_state.proofs.image_tables.tables_from_image.Goals as goal

pub overflow_cast-table : goal.overflow_cast-table
overflow_cast-table c =
    let within : c.loop-table.table < length c.args.roster.now.tables = omega (arith, c.loop-table-test.true, c.len-table-end.ensures.len) in
    omega (arith, within, c.requires.few)

pub table_from_image-requires-clause-there : goal.table_from_image-requires-clause-there
table_from_image-requires-clause-there c =
    let within : c.loop-table.table < length c.args.roster.now.tables = omega (arith, c.loop-table-test.true, c.len-table-end.ensures.len) in
    got c.args.roster.now.tables c.loop-table.table c.get-info.result.now within c.get-info.ensures.item

pub loop-table-preserved : goal.loop-table-preserved
loop-table-preserved c =
    let within : c.loop-table.table < length c.args.roster.now.tables = omega (arith, c.loop-table-test.true, c.len-table-end.ensures.len) in
    subst (Each (ResumedAt c.args.image.now) (take (c.loop-table.table + 1) c.args.roster.now.tables)) (sym c.in_ok-push.ensures.pushed)
    (each_taken (ResumedAt c.args.image.now) c.args.roster.now.tables c.loop-table.tables c.loop-table.table c.get-info.result.now c.in_ok-table_from_image.field-0 within c.get-info.ensures.item c.loop-table.invariant
    (c.in_ok-table_from_image.ensures.state, c.in_ok-table_from_image.ensures.log))
