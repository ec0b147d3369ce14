use Rattle.stmt_check.proofs.QueueLaws.{queues_are_sound}
use Rattle.stmt_check.proofs.laws.queues_are_sound_law.Goals as goal

pub returns : goal.returns
returns c = queues_are_sound
