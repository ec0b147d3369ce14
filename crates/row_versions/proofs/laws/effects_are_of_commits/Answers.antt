use Rattle.row_versions.proofs.HistoryLaws.{effects_are_of_commits as proved}
use Rattle.row_versions.proofs.laws.effects_are_of_commits.Goals as goal

pub returns : goal.returns
returns c = proved
