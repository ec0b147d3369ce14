use Rattle.coverage.proofs.StepLaws.{commits_keep as proved}
use Rattle.coverage.proofs.steps.commits_keep_coverage.Goals as goal

pub returns : goal.returns
returns c = proved
