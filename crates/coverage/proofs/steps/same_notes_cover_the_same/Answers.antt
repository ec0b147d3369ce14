use Rattle.coverage.proofs.StepLaws.{same_cover as proved}
use Rattle.coverage.proofs.steps.same_notes_cover_the_same.Goals as goal

pub returns : goal.returns
returns c = proved
