use Rattle.std.proofs.Common.{sym, ◌∙◌}
use Rattle.transcript.proofs.Values.{answers_some, answers_none}
use Rattle.transcript.proofs.reading.sound_transcript.Goals as goal

pub returns-in-Ok-Some : goal.returns-in-Ok-Some
returns-in-Ok-Some c = record { answers = answers_some _ _ _ (sym c.in-Ok-Some.ensures.read ∙ c.in-Ok-Some.field-0-is) c.if_sound.ensures.answers }

pub returns-in-Ok-None : goal.returns-in-Ok-None
returns-in-Ok-None c = record { answers = answers_none _ (sym c.in-Ok-None.ensures.read ∙ c.in-Ok-None.field-0-is) }
