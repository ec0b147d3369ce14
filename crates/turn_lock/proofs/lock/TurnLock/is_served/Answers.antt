use Rattle.std.proofs.Common.{rules}
use Rattle.turn_lock.proofs.Turning.{looks}
use Rattle.turn_lock.proofs.lock.TurnLock.is_served.Goals as goal

pub load-requires : goal.load-requires
load-requires g c = (search rules, search rules, looks _ g.V.Grown.first _ _ _ _ _ _ c.args.ticket c.requires.waiting.0 c.requires.waiting.1)
