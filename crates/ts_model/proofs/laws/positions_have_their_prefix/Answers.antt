use Rattle.ts_model.proofs.PositionLaws.{at_positions as proved}
use Rattle.ts_model.proofs.laws.positions_have_their_prefix.Goals as goal

pub returns : goal.returns
returns c = proved
