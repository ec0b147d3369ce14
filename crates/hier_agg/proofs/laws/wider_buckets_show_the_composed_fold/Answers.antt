use Rattle.hier_agg.proofs.Showing.{wider_buckets_show_the_composed_fold}
use Rattle.hier_agg.proofs.laws.wider_buckets_show_the_composed_fold.Goals as goal

pub returns : goal.returns
returns c = wider_buckets_show_the_composed_fold
