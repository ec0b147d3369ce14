use Rattle.ts_model.proofs.RefreshLaws.{threshold_never_falls as proved}
use Rattle.ts_model.proofs.laws.thresholds_never_fall.Goals as goal

pub returns : goal.returns
returns c = proved
