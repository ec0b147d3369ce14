use Rattle.refresh_list.proofs.StepLaws.{cuts_stand}
use Rattle.refresh_list.proofs.laws.cuts_stand.Goals as goal

pub returns : goal.returns
returns c = cuts_stand
