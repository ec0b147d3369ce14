-- There is an end for each row.
use Rattle.std.proofs.Common.{sym, ap, ◌∙◌, length}
use Rattle.cell_rows.proofs.PartLaws.{length_parts}
use Rattle.cell_rows.proofs.rows.CellRows.len.Goals as goal

pub returns : goal.returns
returns g c = record {
  len = ap length c.as_slice.ensures.value ∙ sym (length_parts 0 c.self.inside.ends.items c.self.inside.cells.items) ∙ ap length c.self.view_is;
}
