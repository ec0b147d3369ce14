use Rattle.std.proofs.Common.{rules}
use Rattle.turn_lock.proofs.Shares.{splits}
use Rattle.turn_lock.proofs.lock.TurnLock.cut.Goals as goal

pub split_seat-requires : goal.split_seat-requires
split_seat-requires g c = (search rules, search rules, splits _ _ _ _ c.self.inside.table.shared.key _ c.args.seat.now.me.0 g.C.Cutting.count (search rules) (search rules))
