use Rattle.demo_laws.proofs.TurnLaws.{queries_read_a_round as proved}
use Rattle.demo_laws.proofs.reads.queries_read_a_round.Goals as goal

pub returns : goal.returns
returns c = proved
