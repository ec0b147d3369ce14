use Rattle.ts_store.proofs.CheckpointLaws.{one_length}
use Rattle.ts_store.proofs.laws.images_have_one_length.Goals as goal

pub returns : goal.returns
returns c = one_length c.a_history_has_one_image.ensures
