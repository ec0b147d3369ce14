use Rattle.ts_model.proofs.CutLaws.{lasts_are_last as proved}
use Rattle.ts_model.proofs.laws.last_refreshes_are_last.Goals as goal

pub returns : goal.returns
returns c = proved
