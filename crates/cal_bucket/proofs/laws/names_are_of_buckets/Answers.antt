use Rattle.cal_bucket.proofs.PlaceLaws.{names_are_of_buckets}
use Rattle.cal_bucket.proofs.laws.names_are_of_buckets.Goals as goal

pub returns : goal.returns
returns c = names_are_of_buckets
