-- The columns of the row are a row of cells once the place of their end is recorded.
use Rattle.std.proofs.Common.{ap, length}
use Rattle.cell_rows.proofs.PartLaws.{row_ended}
use Rattle.ts_model.specs.Answers.{all_columns}
use Rattle.realtime_union.proofs.passing.show_row.Goals as goal

pub returns-clause-parts : goal.returns-clause-parts
returns-clause-parts c =
    (row_ended c.args.ends.now.items c.push.new.self.items c.args.cells.now.items c.put_columns.new.cells.items (all_columns c.args.at c.args.row.now) (length c.as_slice.result.now)
    c.requires.parts c.in_ok-put_columns.ensures (ap length c.as_slice.ensures.value) c.in_ok-push.ensures.items).0

pub returns-clause-shown : goal.returns-clause-shown
returns-clause-shown c =
    (row_ended c.args.ends.now.items c.push.new.self.items c.args.cells.now.items c.put_columns.new.cells.items (all_columns c.args.at c.args.row.now) (length c.as_slice.result.now)
    c.requires.parts c.in_ok-put_columns.ensures (ap length c.as_slice.ensures.value) c.in_ok-push.ensures.items).1
