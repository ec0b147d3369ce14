use Rattle.ts_model.proofs.FitLaws.{rows_have_columns as proved}
use Rattle.ts_model.proofs.laws.rows_have_columns.Goals as goal

pub returns : goal.returns
returns c = proved
