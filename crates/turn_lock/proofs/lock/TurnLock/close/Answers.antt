use Rattle.std.proofs.Common.{rules, ap, sym, subst, ◌∙◌, ◌≡◌, Some, None}
use Rattle.std.specs.Prelude.{IsPermutation}
use Rattle.turn_lock.specs.Positions.{positions_between, end_of}
use Rattle.turn_lock.proofs.Ends.{Closes, closes, closes_value}
use Rattle.turn_lock.proofs.lock.TurnLock.close.Given as given
use Rattle.turn_lock.proofs.lock.TurnLock.close.Goals as goal

pub unreachable-requires : goal.unreachable-requires
unreachable-requires g c =
    let got = closes g.V.Grown.base g.V.Grown.first g.V.Grown.events g.V.Grown.closed c.self.inside.table.shared.key _ _ c.args.pass.knows _ _ _ _ c.into_parts-seat.ensures.me c.requires.idle.0 (search rules) (search rules) c.close_with-closed.ensures.values.2 c.take-slot.ensures.value in
    let e : None ≡ Some got.0 = sym c.in-None.is ∙ got.1 in cc

closing : (g : given.Over) (c : goal.In-Some g) → Closes g.V.Grown.base g.V.Grown.first g.V.Grown.events g.V.Grown.closed c.self.inside.table.shared.key c.args.pass.knows c.in-Some.value
closing g c = closes_value g.V.Grown.base g.V.Grown.first g.V.Grown.events g.V.Grown.closed c.self.inside.table.shared.key _ _ c.args.pass.knows _ _ _ _ c.in-Some.value c.into_parts-seat.ensures.me c.requires.idle.0 (search rules) (search rules)
    c.close_with-closed.ensures.values.2 c.take-slot.ensures.value c.in-Some.is

pub returns-clause-base : goal.returns-clause-base
returns-clause-base g c = let k = closing g c in (k.opened ∙ ap (λ l. g.V.Grown.base l.opened) c.self.view_is, k.one_base ∙ ap Some (sym k.opened))

pub returns-clause-seen : goal.returns-clause-seen
returns-clause-seen g c = (closing g c).seen

pub returns-clause-closed : goal.returns-clause-closed
returns-clause-closed g c = (closing g c).closed_is

pub returns-clause-made : goal.returns-clause-made
returns-clause-made g c =
    let k = closing g c in let v = c.args.pass.knows in let x = c.in-Some.value in let o = c.self.inside.table.shared.key.value.value in let first = g.V.Grown.first in let events = g.V.Grown.events in
    let at_base = subst (λ b. IsPermutation v.made (positions_between (end_of (first b) (events o)) (end_of (first b) (events x)))) (sym k.opened) k.made in
    subst (λ l. IsPermutation v.made (positions_between (end_of (first (g.V.Grown.base x)) (events l.opened)) (end_of (first (g.V.Grown.base x)) (events x)))) c.self.view_is at_base
