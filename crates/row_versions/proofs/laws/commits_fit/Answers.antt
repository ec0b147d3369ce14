use Rattle.row_versions.proofs.FitLaws.{commits_fit as proved}
use Rattle.row_versions.proofs.laws.commits_fit.Goals as goal

pub returns : goal.returns
returns c = proved
