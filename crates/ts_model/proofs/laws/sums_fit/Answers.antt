use Rattle.ts_model.proofs.SumLaws.{sums_fit as proved}
use Rattle.ts_model.proofs.laws.sums_fit.Goals as goal

pub returns : goal.returns
returns c = proved
