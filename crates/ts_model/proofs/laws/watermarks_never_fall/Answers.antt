use Rattle.ts_model.proofs.RefreshLaws.{watermark_never_falls as proved}
use Rattle.ts_model.proofs.laws.watermarks_never_fall.Goals as goal

pub returns : goal.returns
returns c = proved
