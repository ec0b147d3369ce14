use Rattle.ts_model.proofs.UntouchedLaws.{untouched_rows as proved}
use Rattle.ts_model.proofs.laws.untouched_buckets_keep_their_rows.Goals as goal

pub returns : goal.returns
returns c = proved
