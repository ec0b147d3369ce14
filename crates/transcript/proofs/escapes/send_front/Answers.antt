use Rattle.transcript.proofs.EscapeLaws.{plain_failed, plain_sent}
use Rattle.transcript.proofs.escapes.send_front.Goals as goal

pub returns-in-Ok-clause-sent : goal.returns-in-Ok-clause-sent
returns-in-Ok-clause-sent g c = plain_sent _ _ _ _ c.args.text.now c.plain_len-plain.result c.plain_len-plain.ensures c.in-Ok.ensures.sent

pub returns-in-Err-clause-sent : goal.returns-in-Err-clause-sent
returns-in-Err-clause-sent g c = plain_failed _ _ _ c.args.text.now c.plain_len-plain.result c.plain_len-plain.ensures c.in-Err.ensures.sent
