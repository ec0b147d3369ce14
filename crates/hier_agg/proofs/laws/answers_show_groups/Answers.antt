use Rattle.hier_agg.proofs.AnswerGroups.{answers_show_groups}
use Rattle.hier_agg.proofs.laws.answers_show_groups.Goals as goal

pub returns : goal.returns
returns c = answers_show_groups
