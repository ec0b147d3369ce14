use Rattle.refresh_list.proofs.StepLaws.{others_stand}
use Rattle.refresh_list.proofs.laws.others_stand.Goals as goal

pub returns : goal.returns
returns c = others_stand
