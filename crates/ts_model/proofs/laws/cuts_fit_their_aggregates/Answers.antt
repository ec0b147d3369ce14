use Rattle.ts_model.proofs.CutLaws.{cuts_fit as proved}
use Rattle.ts_model.proofs.laws.cuts_fit_their_aggregates.Goals as goal

pub returns : goal.returns
returns c = proved
