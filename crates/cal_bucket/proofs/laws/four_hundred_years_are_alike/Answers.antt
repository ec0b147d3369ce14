use Rattle.cal_bucket.proofs.BucketLaws.{four_hundred_years}
use Rattle.cal_bucket.proofs.laws.four_hundred_years_are_alike.Goals as goal

pub returns : goal.returns
returns c = four_hundred_years
