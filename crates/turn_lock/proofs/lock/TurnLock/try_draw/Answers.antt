use Rattle.std.proofs.Common.{rules}
use Rattle.turn_lock.proofs.Turning.{draws}
use Rattle.turn_lock.proofs.lock.TurnLock.try_draw.Goals as goal

pub compare_exchange-requires : goal.compare_exchange-requires
compare_exchange-requires g c = (search rules, search rules, draws _ _ _ _ _ _ _ _ c.args.ticket c.requires.idle.0 c.requires.idle.1)
