use Rattle.demo_laws.proofs.RefreshSteps.{refreshes_read_a_chunk as proved}
use Rattle.demo_laws.proofs.reads.refreshes_read_a_chunk.Goals as goal

pub returns : goal.returns
returns c = proved
