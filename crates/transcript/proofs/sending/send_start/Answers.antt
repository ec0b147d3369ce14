use Rattle.std.proofs.Common.{◌++◌, ◌∙◌, ap, codes, subst}
use Rattle.transcript.specs.Sending.{Sends}
use Rattle.transcript.proofs.sending.send_start.Goals as goal

pub returns-clause-sent : goal.returns-clause-sent
returns-clause-sent g c =
    subst (Sends c.send_pieces.result (g.K.Sink.written c.args.sink.now) (g.K.Sink.written c.send_pieces.new.sink) c.args.page.now.items c.send_pieces.new.page.items)
    (ap (λ number. codes ",\"start\":" ++ (number ++ codes "}\n")) (c.as_bytes-number.ensures.value ∙ c.format.ensures.text)) c.send_pieces.ensures.sent
