use Rattle.ts_model.proofs.FitLaws.{rows_fit_tables as proved}
use Rattle.ts_model.proofs.laws.rows_fit_their_tables.Goals as goal

pub returns : goal.returns
returns c = proved
