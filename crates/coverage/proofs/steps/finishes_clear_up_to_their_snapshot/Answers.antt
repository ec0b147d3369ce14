use Rattle.coverage.proofs.StepLaws.{finishes_clear as proved}
use Rattle.coverage.proofs.steps.finishes_clear_up_to_their_snapshot.Goals as goal

pub returns : goal.returns
returns c = proved
