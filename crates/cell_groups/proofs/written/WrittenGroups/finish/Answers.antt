use Rattle.std.proofs.Common.{◌∙◌}
use Rattle.cell_groups.specs.Written.{rows_written}
use Rattle.cell_groups.proofs.Writing.{all_written}
use Rattle.cell_groups.proofs.written.WrittenGroups.finish.Goals as goal

pub returns : goal.returns
returns c = record {
  rows = λ groups w. c.of.ensures.rows ∙ all_written c.args.shape.now groups (rows_written c.args.self) (rows_written c.end.new.self) c.args.self.last c.in_ok-end.ensures.rows w;
}
