use Rattle.answer_laws.proofs.CalendarReplies.{calendars_reply}
use Rattle.answer_laws.proofs.laws.calendars_reply.Goals as goal

pub returns : goal.returns
returns c = calendars_reply c.names_are_of_buckets.ensures
