use Rattle.std.proofs.Common.{codes, false}
use Rattle.serde_json.specs.Written.{items_text}
use Rattle.transcript.specs.Text.{exchanges_data}
use Rattle.transcript.proofs.Sequel.{first_failed, then_sent}
use Rattle.transcript.proofs.sending.send_session_rest.Goals as goal

pub returns-in-Err-clause-sent : goal.returns-in-Err-clause-sent
returns-in-Err-clause-sent g c =
    first_failed (g.K.Sink.written c.args.sink.now) (g.K.Sink.written c.send_exchanges.new.sink) c.args.page.now.items (items_text false (exchanges_data c.args.exchanges.now)) (codes "}") c.in-Err.ensures.sent

pub returns-in-Ok-clause-sent : goal.returns-in-Ok-clause-sent
returns-in-Ok-clause-sent g c = then_sent _ _ _ _ _ _ _ _ c.send.result c.in-Ok.ensures.sent c.send.ensures.sent
