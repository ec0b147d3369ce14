use Rattle.ts_model.proofs.PositionLaws.{positions_count as proved}
use Rattle.ts_model.proofs.laws.positions_count_events.Goals as goal

pub returns : goal.returns
returns c = proved
