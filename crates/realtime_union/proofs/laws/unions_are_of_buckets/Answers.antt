use Rattle.realtime_union.proofs.UnionLaws.{unions_are_of_buckets}
use Rattle.realtime_union.proofs.laws.unions_are_of_buckets.Goals as goal

pub returns : goal.returns
returns c = unions_are_of_buckets
