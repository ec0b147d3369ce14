use Rattle.ts_model.proofs.CutLaws.{buckets_were_cut as proved}
use Rattle.ts_model.proofs.laws.refreshed_buckets_were_cut.Goals as goal

pub returns : goal.returns
returns c = proved
