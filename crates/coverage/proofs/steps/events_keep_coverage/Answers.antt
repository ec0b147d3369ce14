use Rattle.coverage.proofs.WholeLaws.{events_keep as proved}
use Rattle.coverage.proofs.steps.events_keep_coverage.Goals as goal

pub returns : goal.returns
returns c = proved
