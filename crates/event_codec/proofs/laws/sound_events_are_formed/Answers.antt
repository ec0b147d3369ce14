use Rattle.event_codec.proofs.SoundFormed.{sound_formed}
use Rattle.event_codec.proofs.laws.sound_events_are_formed.Goals as goal

pub returns : goal.returns
returns c = sound_formed
