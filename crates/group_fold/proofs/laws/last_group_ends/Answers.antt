use Rattle.group_fold.proofs.BucketGroups.{last_group_ends}
use Rattle.group_fold.proofs.laws.last_group_ends.Goals as goal

pub returns : goal.returns
returns c = last_group_ends
