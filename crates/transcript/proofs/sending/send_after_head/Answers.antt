use Rattle.std.proofs.Common.{false, subst, ◌++◌}
use Rattle.serde_json.specs.Written.{items_text}
use Rattle.transcript.specs.Pieces.{start_text}
use Rattle.transcript.specs.Text.{talks_data}
use Rattle.ts_io.specs.Whole.{AppendsPart}
use Rattle.transcript.specs.Sending.{Sends}
use Rattle.transcript.proofs.SendingParts.{sessions_parts}
use Rattle.transcript.proofs.Sequel.{first_failed, then_sent}
use Rattle.transcript.proofs.sending.send_after_head.Goals as goal

pub returns-in-Err-clause-sent : goal.returns-in-Err-clause-sent
returns-in-Err-clause-sent g c =
    subst (λ text. AppendsPart (g.K.Sink.written c.args.sink.now) (g.K.Sink.written c.send_sessions.new.sink) (c.args.page.now.items ++ text)) (sessions_parts c.args.transcript.now c.items.result.now c.items.ensures.items)
    (first_failed (g.K.Sink.written c.args.sink.now) (g.K.Sink.written c.send_sessions.new.sink) c.args.page.now.items (items_text false (talks_data c.items.result.now)) (start_text c.args.transcript.now.start) c.in-Err.ensures.sent)

pub returns-in-Ok-clause-sent : goal.returns-in-Ok-clause-sent
returns-in-Ok-clause-sent g c = subst (Sends c.send_start.result _ _ _ _) (sessions_parts c.args.transcript.now _ c.items.ensures.items) (then_sent _ _ _ _ _ _ _ _ c.send_start.result c.in-Ok.ensures.sent c.send_start.ensures.sent)
