use Rattle.par_run.proofs.SoundLaws.{runs_sound}
use Rattle.par_run.proofs.laws.runs_are_sound.Goals as goal

pub returns : goal.returns
returns g c = runs_sound
