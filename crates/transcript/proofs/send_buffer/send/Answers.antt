use Rattle.std.proofs.Common.{subst}
use Rattle.transcript.specs.Sending.{Sends}
use Rattle.transcript.proofs.Sequel.{waits_whole}
use Rattle.transcript.proofs.send_buffer.send.Goals as goal

pub returns-in-Ok-clause-sent : goal.returns-in-Ok-clause-sent
returns-in-Ok-clause-sent g c = waits_whole _ _ _ _ c.in-Ok.ensures.ok

pub returns-in-Err-clause-sent : goal.returns-in-Err-clause-sent
returns-in-Err-clause-sent g c =
    subst (λ page. Sends c.send_past.result (g.K.Sink.written c.args.sink.now) (g.K.Sink.written c.send_past.new.sink) page.items c.send_past.new.page.items c.args.piece.now) c.in-Err.ensures.err c.send_past.ensures.sent
