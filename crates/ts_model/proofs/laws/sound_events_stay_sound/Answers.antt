use Rattle.ts_model.proofs.AllowedLaws.{sound_stays as proved}
use Rattle.ts_model.proofs.laws.sound_events_stay_sound.Goals as goal

pub returns : goal.returns
returns c = proved
