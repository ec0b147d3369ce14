use Rattle.ts_io.proofs.LineEnds.{is_end, position_of_first}
use Rattle.ts_io.proofs.line_ends.first_end.Goals as goal

pub returns : goal.returns
returns c = position_of_first is_end c.args.text.now c.memchr.result c.memchr.ensures
