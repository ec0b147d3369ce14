use Rattle.cal_bucket.proofs.BucketLaws.{each_has_one_bucket}
use Rattle.cal_bucket.proofs.laws.each_has_one_bucket.Goals as goal

pub returns : goal.returns
returns c = each_has_one_bucket
