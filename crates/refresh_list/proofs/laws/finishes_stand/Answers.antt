use Rattle.refresh_list.proofs.StepLaws.{finishes_stand}
use Rattle.refresh_list.proofs.laws.finishes_stand.Goals as goal

pub returns : goal.returns
returns c = finishes_stand
