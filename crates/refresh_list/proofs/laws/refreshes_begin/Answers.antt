use Rattle.refresh_list.proofs.StepLaws.{refreshes_begin}
use Rattle.refresh_list.proofs.laws.refreshes_begin.Goals as goal

pub returns : goal.returns
returns c = refreshes_begin
