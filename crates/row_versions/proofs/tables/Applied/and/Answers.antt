use Rattle.row_versions.proofs.TableLaws.{delete_asked}
use Rattle.row_versions.proofs.tables.Applied.and.Goals as goal

pub returns-then-other-table-2-clause-table : goal.returns-then-other-table-2-clause-table
returns-then-other-table-2-clause-table c =
    delete_asked c.and_delete.result c.in-Delete.other c.args.table c.args.pos c.in-Delete.tests c.args.op.now c.args.self.table c.in-Delete.is c.if-other-table-2.true c.and_delete.ensures.table
