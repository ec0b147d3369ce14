use Rattle.ts_model.proofs.FinishLaws.{finishes_mark as proved}
use Rattle.ts_model.proofs.laws.finishes_raise_the_watermark.Goals as goal

pub returns : goal.returns
returns c = proved
