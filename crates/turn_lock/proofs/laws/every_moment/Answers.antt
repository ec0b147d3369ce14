use Rattle.turn_lock.proofs.Always.{moment}
use Rattle.turn_lock.proofs.laws.every_moment.Goals as goal

pub returns : goal.returns
returns g c = λ key s r. moment g.V.Grown.base g.V.Grown.first g.V.Grown.events g.V.Grown.closed key s r
