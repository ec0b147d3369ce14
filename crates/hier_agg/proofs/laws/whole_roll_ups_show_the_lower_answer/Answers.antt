use Rattle.hier_agg.proofs.Held.{same_stale}
use Rattle.hier_agg.proofs.Showing.{whole_roll_ups_show_the_lower_rows}
use Rattle.hier_agg.proofs.laws.whole_roll_ups_show_the_lower_answer.Goals as goal

pub returns : goal.returns
returns c = record { rows = whole_roll_ups_show_the_lower_rows; stale = same_stale }
