use Rattle.stmt_check.proofs.StartLaws.{drops_whole_chunks}
use Rattle.stmt_check.proofs.laws.drops_whole_chunks_law.Goals as goal

pub returns : goal.returns
returns c = drops_whole_chunks
