use Rattle.coverage.proofs.StepLaws.{feeds_keep as proved}
use Rattle.coverage.proofs.steps.feeds_keep_coverage.Goals as goal

pub returns : goal.returns
returns c = proved
