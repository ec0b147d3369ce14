use Rattle.stmt_check.proofs.ArrivalLaws.{values_arrive}
use Rattle.stmt_check.proofs.laws.values_arrive_law.Goals as goal

pub returns : goal.returns
returns c = values_arrive
