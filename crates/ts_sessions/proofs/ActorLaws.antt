-- What the replies of sessions say about what their lines do.
use Rattle.ts_model.proofs.AllowedLaws.{allowed_begins}
use Rattle.ts_sessions.specs.Actors.{LinesAreAnswered, TellsReplies}
use Rattle.ts_sessions.specs.Places.{Places}
use Rattle.ts_sessions.specs.Replies.{reply_to}
use Rattle.ts_sessions.specs.Step.{step}
use Rattle.ts_sessions.proofs.BegunLaws.{blocks_begin}
use Rattle.ts_sessions.proofs.GivenNames.{replies_named}
use Rattle.ts_sessions.proofs.GivenWalks.{given_over}
use Rattle.ts_sessions.proofs.ReplyLaws.{steps_are_replies}
use Rattle.ts_sessions.proofs.SteadyLaws.{replies_are_steady}
use Rattle.ts_sessions.proofs.StopLaws.{reply_stops}

lines_are_answered : LinesAreAnswered (λ (p : Places). p.block) step reply_to
lines_are_answered alone failed all stop at old p text skip new y begun le ok on st w =
    given_over alone failed all stop at old (reply_to p text skip) new y (replies_are_steady p text skip old.history begun) le on st
    (steps_are_replies.walks alone failed old p text skip new y (allowed_begins on ok) w)

pub sessions_tell : TellsReplies (λ (p : Places). p.block) step reply_to
sessions_tell = record { answered = lines_are_answered; began = blocks_begin; stops = reply_stops; named = replies_named }
