use Rattle.ts_model.proofs.ClipLaws.{clipping_keeps_near as proved}
use Rattle.ts_model.proofs.laws.clipped_spans_are_near_the_same.Goals as goal

pub returns : goal.returns
returns c = proved
