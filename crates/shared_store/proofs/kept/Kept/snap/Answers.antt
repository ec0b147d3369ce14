use Rattle.std.proofs.Common.{ap, subst}
use Rattle.shared_store.specs.Wrapped.{IsKept}
use Rattle.shared_store.proofs.GoesOnLaws.{looked_kept}
use Rattle.shared_store.proofs.kept.Kept.snap.Goals as goal

pub invariant_of-self : goal.invariant_of-self
invariant_of-self g c = looked_kept c.self.invariant c.snap.ensures.looked c.snap.ensures.kin

pub returns-clause-kept : goal.returns-clause-kept
returns-clause-kept g c = record {
  opened = ap (λ k. k.opened) c.self.view_is;
  before = subst (IsKept g.B.Backend.alone g.B.Backend.state g.B.Backend.kin) c.self.view_is c.self.invariant;
  after = looked_kept c.self.invariant c.snap.ensures.looked c.snap.ensures.kin;
}
