use Rattle.ts_model.proofs.UntouchedLaws.{untouched_groups as proved}
use Rattle.ts_model.proofs.laws.untouched_buckets_keep_their_groups.Goals as goal

pub returns : goal.returns
returns c = proved
