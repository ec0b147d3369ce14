use Rattle.demo_laws.proofs.LineLaws.{lines_are_statements}
use Rattle.demo_laws.proofs.acts.lines_are_statements.Goals as goal

pub returns : goal.returns
returns c = lines_are_statements
