use Rattle.hier_agg.proofs.Alone.{whole_roll_ups_are_the_lower_answer}
use Rattle.hier_agg.proofs.laws.whole_roll_ups_are_the_lower_answer.Goals as goal

pub returns : goal.returns
returns c = whole_roll_ups_are_the_lower_answer
