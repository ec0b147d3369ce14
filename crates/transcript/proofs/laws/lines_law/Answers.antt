use Rattle.transcript.proofs.Lines.{lines_sound}
use Rattle.transcript.proofs.laws.lines_law.Goals as goal

pub returns : goal.returns
returns c = lines_sound
