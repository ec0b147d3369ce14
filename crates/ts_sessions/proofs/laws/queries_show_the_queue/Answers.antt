use Rattle.ts_sessions.proofs.QueueLaws.{queries_show_the_queue}
use Rattle.ts_sessions.proofs.laws.queries_show_the_queue.Goals as goal

pub returns : goal.returns
returns c = queries_show_the_queue
