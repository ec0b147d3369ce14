use Rattle.row_versions.proofs.TableLaws.{scan_rows, scan_read}
use Rattle.row_versions.proofs.tables.Table.scan.Goals as goal

pub returns-clause-rows : goal.returns-clause-rows
returns-clause-rows g c = scan_rows c.scan.result c.args.pos c.args.span c.self.inside.chunks c.args.self.now c.self.view_is c.scan.ensures.rows

pub returns-clause-read : goal.returns-clause-read
returns-clause-read g c =
    scan_read c.scan.result c.args.steps.now c.scan.new.steps c.args.span c.self.inside.chunks c.args.self.now c.self.view_is c.scan.ensures.wide c.scan.ensures.ticks c.scan.ensures.at_most
