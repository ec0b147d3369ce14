use Rattle.demo_laws.proofs.TurnLaws.{definitions_read_nothing as proved}
use Rattle.demo_laws.proofs.reads.definitions_read_nothing.Goals as goal

pub returns : goal.returns
returns c = proved
