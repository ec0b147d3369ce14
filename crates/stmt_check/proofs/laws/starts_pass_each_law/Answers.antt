use Rattle.stmt_check.proofs.StartLaws.{starts_pass_each}
use Rattle.stmt_check.proofs.laws.starts_pass_each_law.Goals as goal

pub returns : goal.returns
returns c = starts_pass_each
