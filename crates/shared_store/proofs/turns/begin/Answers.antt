use Rattle.std.proofs.Common.{ap, subst}
use Rattle.shared_store.specs.Wrapped.{IsKept}
use Rattle.shared_store.specs.Stores.{shared_of}
use Rattle.shared_store.proofs.TurnLaws.{begun}
use Rattle.shared_store.proofs.turns.begin.Goals as goal

pub returns : goal.returns
returns g c =
    let alone = g.B.Backend.alone in
    let state = g.B.Backend.state in
    let kin = g.B.Backend.kin in
    let took = c.take-held.ensures in
    begun alone state kin (shared_of c.args.lock.now) c.args.pass.now c.take-held.new.pass c.take-held.result c.requires took.same took.turn took.found took.base (subst (IsKept alone state kin) (ap (λ h. h.value) c.held.view_is) c.held.invariant) took.begins took.stays
