use Rattle.coverage.proofs.TellLaws.{feeds_tell as proved}
use Rattle.coverage.proofs.steps.feeds_tell_what_is_noted.Goals as goal

pub returns : goal.returns
returns c = proved
