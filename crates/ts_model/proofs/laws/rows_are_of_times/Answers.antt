use Rattle.ts_model.proofs.FitLaws.{rows_are_times as proved}
use Rattle.ts_model.proofs.laws.rows_are_of_times.Goals as goal

pub returns : goal.returns
returns c = proved
