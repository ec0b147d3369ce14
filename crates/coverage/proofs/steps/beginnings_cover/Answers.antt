use Rattle.coverage.proofs.StepLaws.{beginnings_cover as proved}
use Rattle.coverage.proofs.steps.beginnings_cover.Goals as goal

pub returns : goal.returns
returns c = proved
