use Rattle.cal_bucket.proofs.BucketLaws.{each_has_one_month}
use Rattle.cal_bucket.proofs.PlaceLaws.{each_has_a_month}
use Rattle.cal_bucket.proofs.laws.months_part_the_times.Goals as goal

pub returns-clause-some : goal.returns-clause-some
returns-clause-some c = each_has_a_month

pub returns-clause-one : goal.returns-clause-one
returns-clause-one c = each_has_one_month
