use Rattle.coverage.proofs.StepLaws.{quiet_keeps as proved}
use Rattle.coverage.proofs.steps.quiet_events_keep_coverage.Goals as goal

pub returns : goal.returns
returns c = proved
