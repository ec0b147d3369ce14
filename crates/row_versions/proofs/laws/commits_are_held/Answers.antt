use Rattle.row_versions.proofs.HistoryLaws.{commits_are_held as proved}
use Rattle.row_versions.proofs.laws.commits_are_held.Goals as goal

pub returns : goal.returns
returns c = proved
