use Rattle.group_fold.proofs.BucketGroups.{groups_of_asked}
use Rattle.group_fold.proofs.laws.groups_of_asked.Goals as goal

pub returns : goal.returns
returns c = groups_of_asked
