use Rattle.std.proofs.Common.{ap, ◌∙◌}
use Rattle.transcript.proofs.Sequel.{waits_whole, written_at_once}
use Rattle.transcript.proofs.send_buffer.send_first.Goals as goal

pub returns-in-Ok-clause-sent : goal.returns-in-Ok-clause-sent
returns-in-Ok-clause-sent g c = waits_whole _ _ _ _ c.in-Ok.ensures.ok

pub returns-in-Err-clause-sent : goal.returns-in-Err-clause-sent
returns-in-Err-clause-sent g c =
    written_at_once _ _ _ _ _ c.write_whole.result c.requires.empty (ap (λ page. page.items) c.in-Err.ensures.err ∙ c.requires.empty) c.write_whole.ensures.all c.write_whole.ensures.part
