use Rattle.demo_script.proofs.TextLaws.{lines, within}
use Rattle.demo_script.proofs.laws.script_law.Goals as goal

pub returns-clause-within : goal.returns-clause-within
returns-clause-within c = within

pub returns-clause-lines : goal.returns-clause-lines
returns-clause-lines c = lines
