use Rattle.coverage.proofs.WholeLaws.{histories_covered as proved}
use Rattle.coverage.proofs.histories.histories_are_covered.Goals as goal

pub returns : goal.returns
returns c = proved
