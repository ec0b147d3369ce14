use Rattle.coverage.proofs.WholeLaws.{thresholds_reach as proved}
use Rattle.coverage.proofs.histories.thresholds_reach_each_cut.Goals as goal

pub returns : goal.returns
returns c = proved
