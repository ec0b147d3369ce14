use Rattle.ts_sessions.proofs.StopLaws.{reply_stops}
use Rattle.ts_sessions.proofs.laws.only_stops_are_reported.Goals as goal

pub returns : goal.returns
returns c = reply_stops
