use Rattle.ts_model.proofs.UntouchedLaws.{untouched_between as proved}
use Rattle.ts_model.proofs.laws.untouched_buckets_are_the_same_at_both_positions.Goals as goal

pub returns : goal.returns
returns c = proved
