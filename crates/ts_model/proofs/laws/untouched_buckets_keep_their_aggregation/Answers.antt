use Rattle.ts_model.proofs.UntouchedLaws.{untouched_keeps as proved}
use Rattle.ts_model.proofs.laws.untouched_buckets_keep_their_aggregation.Goals as goal

pub returns : goal.returns
returns c = proved
