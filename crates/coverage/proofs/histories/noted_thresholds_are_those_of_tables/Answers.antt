use Rattle.coverage.proofs.WholeLaws.{thresholds_are as proved}
use Rattle.coverage.proofs.histories.noted_thresholds_are_those_of_tables.Goals as goal

pub returns : goal.returns
returns c = proved
