use Rattle.hier_agg.proofs.Fresh.{fresh_buckets_show_the_composed_fold}
use Rattle.hier_agg.proofs.laws.fresh_buckets_show_the_composed_fold.Goals as goal

pub returns : goal.returns
returns c = fresh_buckets_show_the_composed_fold
