use Rattle.std.proofs.Common.{rules, sym, ap, ◌∙◌, ◌∷◌, Some}
use Rattle.atomic_table.specs.Table.{rest}
use Rattle.turn_lock.proofs.lock.TurnLock.fetch.Goals as goal

pub exchange-requires : goal.exchange-requires
exchange-requires g c = let out = c.requires.out in (search rules, (Some out.0, out.1 ∙ λ i. (0, Some out.0) ∷ sym (ap rest out.1) i))
