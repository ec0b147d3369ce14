use Rattle.policy_jobs.proofs.CutLaws.{cut_lines_read_less}
use Rattle.policy_jobs.proofs.laws.cut_lines_read_less.Goals as goal

pub returns : goal.returns
returns g c = cut_lines_read_less
