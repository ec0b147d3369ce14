use Rattle.ts_model.proofs.AllowedLaws.{answers_stay as proved}
use Rattle.ts_model.proofs.laws.answers_of_snapshots_stay.Goals as goal

pub returns : goal.returns
returns c = proved
