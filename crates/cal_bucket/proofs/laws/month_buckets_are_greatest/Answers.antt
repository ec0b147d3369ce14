use Rattle.cal_bucket.proofs.BucketLaws.{month_buckets_are_greatest}
use Rattle.cal_bucket.proofs.laws.month_buckets_are_greatest.Goals as goal

pub returns : goal.returns
returns c = month_buckets_are_greatest
