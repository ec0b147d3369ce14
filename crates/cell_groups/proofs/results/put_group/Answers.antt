-- The cells of the group are a row once their end is stored.
use Rattle.std.proofs.Common.{ap, length}
use Rattle.cell_rows.proofs.PartLaws.{row_ended}
use Rattle.cell_groups.specs.Groups.{group_shown}
use Rattle.cell_groups.proofs.results.put_group.Goals as goal

pub returns-clause-parts : goal.returns-clause-parts
returns-clause-parts c =
    (row_ended c.args.ends.now.items c.push.new.self.items c.args.cells.now.items c.put_cells.new.cells.items (group_shown c.args.shape.now c.args.group.now) (length c.as_slice.result.now)
    c.requires.parts c.in_ok-put_cells.ensures (ap length c.as_slice.ensures.value) c.in_ok-push.ensures.items).0

pub returns-clause-shown : goal.returns-clause-shown
returns-clause-shown c =
    (row_ended c.args.ends.now.items c.push.new.self.items c.args.cells.now.items c.put_cells.new.cells.items (group_shown c.args.shape.now c.args.group.now) (length c.as_slice.result.now)
    c.requires.parts c.in_ok-put_cells.ensures (ap length c.as_slice.ensures.value) c.in_ok-push.ensures.items).1
