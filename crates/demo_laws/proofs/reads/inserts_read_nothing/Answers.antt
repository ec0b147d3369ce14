use Rattle.demo_laws.proofs.TurnLaws.{inserts_read_nothing as proved}
use Rattle.demo_laws.proofs.reads.inserts_read_nothing.Goals as goal

pub returns : goal.returns
returns c = proved
