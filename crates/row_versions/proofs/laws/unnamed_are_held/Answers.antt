use Rattle.row_versions.proofs.HistoryLaws.{unnamed_are_held as proved}
use Rattle.row_versions.proofs.laws.unnamed_are_held.Goals as goal

pub returns : goal.returns
returns c = proved
