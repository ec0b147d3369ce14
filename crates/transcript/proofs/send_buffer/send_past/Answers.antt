use Rattle.std.proofs.Common.{[]}
use Rattle.ts_io.proofs.Writing.{AppendsPart-longer}
use Rattle.transcript.proofs.Sequel.{emptied, then_sent}
use Rattle.transcript.proofs.send_buffer.send_past.Goals as goal

pub returns-in-Ok-clause-sent : goal.returns-in-Ok-clause-sent
returns-in-Ok-clause-sent g c = then_sent _ _ _ _ _ _ [] _ c.send_first.result (emptied _ _ _ _ c.in-Ok.ensures.empty c.in-Ok.ensures.all) c.send_first.ensures.sent

pub returns-in-Err-clause-sent : goal.returns-in-Err-clause-sent
returns-in-Err-clause-sent g c = AppendsPart-longer _ _ _ _ c.in-Err.ensures.part
