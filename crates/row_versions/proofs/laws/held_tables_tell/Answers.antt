use Rattle.row_versions.proofs.HistoryLaws.{held_tables_tell as proved}
use Rattle.row_versions.proofs.laws.held_tables_tell.Goals as goal

pub returns : goal.returns
returns c = proved
