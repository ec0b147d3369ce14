use Rattle.row_versions.proofs.FitLaws.{tables_begin as proved}
use Rattle.row_versions.proofs.laws.tables_begin.Goals as goal

pub returns : goal.returns
returns c = proved
