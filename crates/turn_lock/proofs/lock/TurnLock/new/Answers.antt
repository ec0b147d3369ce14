use Rattle.std.proofs.Common.{rules}
use Rattle.turn_lock.proofs.Ends.{opens_with}
use Rattle.turn_lock.proofs.lock.TurnLock.new.Goals as goal

pub new-requires : goal.new-requires
new-requires g c = opens_with g.V.Grown.base g.V.Grown.first g.V.Grown.events g.V.Grown.closed _ c.args.value c.position-position.result _ c.in-Ok.ensures c.of.ensures c.position-position.ensures c.requires (search rules)
