use Rattle.ts_model.proofs.SoundLaws.{view_width as proved}
use Rattle.ts_model.proofs.laws.widths_are_sound.Goals as goal

pub returns : goal.returns
returns c = proved
