use Rattle.answer_laws.proofs.AggregateReplies.{buckets_show}
use Rattle.answer_laws.proofs.laws.buckets_show.Goals as goal

pub returns : goal.returns
returns c = buckets_show
