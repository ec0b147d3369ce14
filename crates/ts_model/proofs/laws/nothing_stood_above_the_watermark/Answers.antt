use Rattle.ts_model.proofs.RefreshLaws.{nothing_above_watermark as proved}
use Rattle.ts_model.proofs.laws.nothing_stood_above_the_watermark.Goals as goal

pub returns : goal.returns
returns c = proved
