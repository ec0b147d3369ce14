use Rattle.ts_model.proofs.RosterLaws.{relations_stay as proved}
use Rattle.ts_model.proofs.laws.names_and_kinds_stay.Goals as goal

pub returns : goal.returns
returns c = proved
