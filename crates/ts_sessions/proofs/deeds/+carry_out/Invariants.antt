use Rattle.ts_sessions.specs.Deeds.{left_next}
use Rattle.ts_sessions.proofs.deeds.+carry_out.Given as goal

abbrev pub decreases-carry_out : goal.decreases-carry_out
decreases-carry_out g l = left_next l.next
