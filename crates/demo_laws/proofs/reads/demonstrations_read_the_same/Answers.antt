use Rattle.demo_laws.proofs.ScriptLaws.{demonstrations_read_the_same as proved}
use Rattle.demo_laws.proofs.reads.demonstrations_read_the_same.Goals as goal

pub returns : goal.returns
returns c = proved
