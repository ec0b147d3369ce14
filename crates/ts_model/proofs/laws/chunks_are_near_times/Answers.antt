use Rattle.ts_model.proofs.ClipLaws.{chunks_are_within as proved}
use Rattle.ts_model.proofs.laws.chunks_are_near_times.Goals as goal

pub returns : goal.returns
returns c = proved
