use Rattle.group_fold.proofs.BucketGroups.{spans_keep_groups}
use Rattle.group_fold.proofs.laws.spans_keep_groups.Goals as goal

pub returns : goal.returns
returns c = spans_keep_groups
