use Rattle.ts_model.proofs.RangeLaws.{ranges_are_maximal as proved}
use Rattle.ts_model.proofs.laws.stale_ranges_are_maximal.Goals as goal

pub returns : goal.returns
returns c = proved
