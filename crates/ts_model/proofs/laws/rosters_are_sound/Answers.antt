use Rattle.ts_model.proofs.SoundLaws.{rosters_are_sound as proved}
use Rattle.ts_model.proofs.laws.rosters_are_sound.Goals as goal

pub returns : goal.returns
returns c = proved
