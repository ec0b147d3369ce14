use Rattle.coverage.proofs.StepLaws.{finishes_keep as proved}
use Rattle.coverage.proofs.steps.finishes_keep_coverage.Goals as goal

pub returns : goal.returns
returns c = proved
