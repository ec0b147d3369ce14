use Rattle.coverage.proofs.TimeLaws.{hulls_are_of_times as proved}
use Rattle.coverage.proofs.histories.hulls_are_of_times.Goals as goal

pub returns : goal.returns
returns c = proved
