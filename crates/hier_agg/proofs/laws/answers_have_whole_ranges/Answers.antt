use Rattle.hier_agg.proofs.Held.{answers_have_whole_ranges}
use Rattle.hier_agg.proofs.laws.answers_have_whole_ranges.Goals as goal

pub returns : goal.returns
returns c = answers_have_whole_ranges
