use Rattle.std.proofs.Common.{ap, subst}
use Rattle.shared_store.specs.Wrapped.{IsKept}
use Rattle.shared_store.proofs.GoesOnLaws.{called_kept}
use Rattle.shared_store.proofs.kept.Kept.commit.Goals as goal

pub invariant_of-self : goal.invariant_of-self
invariant_of-self g c = called_kept c.self.invariant c.commit.ensures.called c.commit.ensures.kin

pub returns-clause-kept : goal.returns-clause-kept
returns-clause-kept g c = record {
  opened = ap (λ k. k.opened) c.self.view_is;
  before = subst (IsKept g.B.Backend.alone g.B.Backend.state g.B.Backend.kin) c.self.view_is c.self.invariant;
  after = called_kept c.self.invariant c.commit.ensures.called c.commit.ensures.kin;
}
