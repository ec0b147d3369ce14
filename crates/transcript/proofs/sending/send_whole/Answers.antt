use Rattle.std.proofs.Common.{codes, false, subst, ◌++◌}
use Rattle.serde_json.specs.Written.{items_text}
use Rattle.transcript.specs.Pieces.{start_text}
use Rattle.transcript.specs.Text.{talks_data}
use Rattle.ts_io.specs.Whole.{AppendsPart}
use Rattle.transcript.specs.Sending.{Sends}
use Rattle.transcript.proofs.SendingParts.{transcript_parts}
use Rattle.transcript.proofs.Sequel.{first_failed, then_sent}
use Rattle.transcript.proofs.sending.send_whole.Goals as goal

pub returns-in-Err-clause-sent : goal.returns-in-Err-clause-sent
returns-in-Err-clause-sent g c =
    subst (λ text. AppendsPart (g.K.Sink.written c.args.sink.now) (g.K.Sink.written c.send.new.sink) (c.args.page.now.items ++ text)) (transcript_parts c.args.transcript.now)
    (first_failed (g.K.Sink.written c.args.sink.now) (g.K.Sink.written c.send.new.sink) c.args.page.now.items (codes "{\"sessions\":[") (items_text false (talks_data c.args.transcript.now.sessions) ++ start_text c.args.transcript.now.start) c.in-Err.ensures.sent)

pub returns-in-Ok-clause-sent : goal.returns-in-Ok-clause-sent
returns-in-Ok-clause-sent g c = subst (Sends c.send_after_head.result _ _ _ _) (transcript_parts c.args.transcript.now) (then_sent _ _ _ _ _ _ _ _ c.send_after_head.result c.in-Ok.ensures.sent c.send_after_head.ensures.sent)
