use Rattle.std.proofs.Common.{◌∙◌, None, refl}
use Rattle.cell_groups.proofs.Writing.{none_written, no_rows, no_rows_are}
use Rattle.cell_groups.proofs.written.WrittenGroups.with_room.Goals as goal

pub returns : goal.returns
returns c = record {
  none = none_written c.args.shape.now _ None (no_rows _ _ (c.in_ok-reserve-2.ensures.items ∙ c.new-ends.ensures.items)) refl;
  rows = no_rows_are _ _ (c.in_ok-reserve-2.ensures.items ∙ c.new-ends.ensures.items) (c.in_ok-reserve.ensures.items ∙ c.new-cells.ensures.items);
}
