use Rattle.realtime_union.proofs.NearLaws.{live_reads_are_of_buckets}
use Rattle.realtime_union.proofs.laws.live_reads_are_of_buckets.Goals as goal

pub returns : goal.returns
returns c = live_reads_are_of_buckets
