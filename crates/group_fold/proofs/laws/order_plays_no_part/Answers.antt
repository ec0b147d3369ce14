use Rattle.group_fold.proofs.BucketGroups.{order_plays_no_part}
use Rattle.group_fold.proofs.laws.order_plays_no_part.Goals as goal

pub returns : goal.returns
returns c = order_plays_no_part
