use Rattle.coverage.proofs.WholeLaws.{histories_tell as proved}
use Rattle.coverage.proofs.histories.histories_tell_what_is_pending.Goals as goal

pub returns : goal.returns
returns c = proved
