use Rattle.std.proofs.Common.{rules}
use Rattle.turn_lock.proofs.Shares.{joins, counts}
use Rattle.turn_lock.proofs.lock.TurnLock.join.Goals as goal

pub join_seat-requires : goal.join_seat-requires
join_seat-requires g c = (search rules, search rules, search rules, search rules, joins _ _ _ _ _ _ _ _ _ (search rules) (search rules) (search rules) (search rules))

pub load-requires : goal.load-requires
load-requires g c = (search rules, search rules, counts _ g.V.Grown.first _ _ _ _ _ _ (search rules))
