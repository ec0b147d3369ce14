use Rattle.ts_model.proofs.ModeLaws.{mode_plays_no_part as proved}
use Rattle.ts_model.proofs.laws.modes_play_no_part.Goals as goal

pub returns : goal.returns
returns c = proved
