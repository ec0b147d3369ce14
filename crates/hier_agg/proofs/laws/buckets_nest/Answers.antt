use Rattle.hier_agg.proofs.Nesting.{buckets_nest, first_nests}
use Rattle.hier_agg.proofs.laws.buckets_nest.Goals as goal

pub returns : goal.returns
returns c = record { buckets = buckets_nest; first = first_nests }
