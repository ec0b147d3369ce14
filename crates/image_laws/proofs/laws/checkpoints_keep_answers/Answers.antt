use Rattle.image_laws.proofs.CheckpointLaws.{checkpoints_keep as proved}
use Rattle.image_laws.proofs.laws.checkpoints_keep_answers.Goals as goal

pub returns : goal.returns
returns c = proved
