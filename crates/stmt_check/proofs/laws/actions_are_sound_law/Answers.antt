use Rattle.stmt_check.proofs.ActionLaws.{actions_are_sound}
use Rattle.stmt_check.proofs.laws.actions_are_sound_law.Goals as goal

pub returns : goal.returns
returns c = actions_are_sound
