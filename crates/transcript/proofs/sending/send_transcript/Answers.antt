use Rattle.transcript.proofs.Sequel.{wrote, wrote_some, wrote_front}
use Rattle.transcript.proofs.sending.send_transcript.Goals as goal

pub returns-in-Ok-clause-all : goal.returns-in-Ok-clause-all
returns-in-Ok-clause-all g c = wrote _ _ _ _ _ _ c.flush.result c.new-page.ensures c.in-Ok.ensures.sent c.flush.ensures.all

pub returns-in-Ok-clause-part : goal.returns-in-Ok-clause-part
returns-in-Ok-clause-part g c = wrote_some _ _ _ _ _ _ c.flush.result c.new-page.ensures c.in-Ok.ensures.sent c.flush.ensures.part

pub returns-in-Err-clause-part : goal.returns-in-Err-clause-part
returns-in-Err-clause-part g c = wrote_front _ _ _ _ c.new-page.ensures c.in-Err.ensures.sent
