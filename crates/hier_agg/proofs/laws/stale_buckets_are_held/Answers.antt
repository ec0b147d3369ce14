use Rattle.hier_agg.proofs.Held.{stale_is_held, stale_is_there}
use Rattle.hier_agg.proofs.laws.stale_buckets_are_held.Goals as goal

pub returns : goal.returns
returns c = record { there = stale_is_there; held = stale_is_held }
