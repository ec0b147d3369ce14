use Rattle.coverage.proofs.StepLaws.{cuts_keep as proved}
use Rattle.coverage.proofs.steps.cuts_keep_coverage.Goals as goal

pub returns : goal.returns
returns c = proved
