use Rattle.group_fold.proofs.BucketGroups.{groups_of_spans}
use Rattle.group_fold.proofs.laws.groups_of_spans.Goals as goal

pub returns : goal.returns
returns c = groups_of_spans
