use Rattle.row_versions.proofs.TableLaws.{scan_rows, scan_read}
use Rattle.row_versions.proofs.tables.Table.scan_part.Goals as goal

pub returns-clause-rows : goal.returns-clause-rows
returns-clause-rows g c = scan_rows c.scan_part.result c.args.pos c.args.part c.self.inside.chunks c.args.self.now c.self.view_is c.scan_part.ensures.rows

pub returns-clause-read : goal.returns-clause-read
returns-clause-read g c =
    scan_read c.scan_part.result c.args.steps.now c.scan_part.new.steps c.args.span c.self.inside.chunks c.args.self.now c.self.view_is c.scan_part.ensures.wide c.scan_part.ensures.ticks c.scan_part.ensures.at_most
