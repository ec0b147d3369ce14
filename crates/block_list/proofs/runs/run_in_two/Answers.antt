-- In the second list the place is counted from its start.
use Rattle.std.proofs.Common.{refl, arith}
use Rattle.block_list.proofs.RunLaws.{run_second_rest}
use Rattle.block_list.proofs.runs.run_in_two.Goals as goal

pub returns-else-i-len : goal.returns-else-i-len
returns-else-i-len g c = run_second_rest c.args.first.now c.args.second.now c.args.i _ refl (omega arith) c.requires
