use Rattle.ts_sessions.specs.Deeds.{left_next}
use Rattle.audit_past.proofs.deed_replays.+go_on.Given as goal

abbrev pub decreases-go_on : goal.decreases-go_on
decreases-go_on g l = left_next l.next
