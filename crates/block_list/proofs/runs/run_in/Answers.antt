-- After the blocks the place is counted from their end.
use Rattle.std.proofs.Common.{◌++◌, arith}
use Rattle.block_list.proofs.RunLaws.{run_second}
use Rattle.block_list.proofs.runs.run_in.Goals as goal

pub returns-else-i-len : goal.returns-else-i-len
returns-else-i-len g c = run_second c.args.blocks.now (c.args.first.now ++ c.args.second.now) c.args.i c.len-len.result c.run_in_two.result.now c.len-len.ensures.len (omega arith) c.run_in_two.ensures
