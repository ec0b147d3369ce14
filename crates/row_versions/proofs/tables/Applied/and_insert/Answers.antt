use Rattle.std.proofs.Common.{ap}
use Rattle.row_versions.proofs.TableLaws.{insert_follows}
use Rattle.row_versions.proofs.tables.Applied.and_insert.Goals as goal

pub returns-clause-table : goal.returns-clause-table
returns-clause-table c =
    insert_follows c.args.rows.now c.args.pos c.self.inside.0.0.chunks c.args.self.table c.in_ok-chunks.chunks (ap (λ a. a.table) c.self.view_is) c.in_ok-chunks.ensures.interval c.in_ok-chunks.ensures.versions c.requires.up_to
