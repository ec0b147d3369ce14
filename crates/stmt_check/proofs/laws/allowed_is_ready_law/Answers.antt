use Rattle.stmt_check.proofs.ReadyLaws.{allowed_is_ready}
use Rattle.stmt_check.proofs.laws.allowed_is_ready_law.Goals as goal

pub returns : goal.returns
returns c = allowed_is_ready
