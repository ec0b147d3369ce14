use Rattle.demo_laws.proofs.LineLaws.{lines_act}
use Rattle.demo_laws.proofs.acts.lines_act.Goals as goal

pub returns : goal.returns
returns c = lines_act
