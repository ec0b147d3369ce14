use Rattle.coverage.proofs.StepLaws.{modes_keep as proved}
use Rattle.coverage.proofs.steps.modes_keep_coverage.Goals as goal

pub returns : goal.returns
returns c = proved
