use Rattle.group_fold.proofs.BucketGroups.{groups_of_some_buckets}
use Rattle.group_fold.proofs.laws.groups_of_some_buckets.Goals as goal

pub returns : goal.returns
returns c = groups_of_some_buckets
