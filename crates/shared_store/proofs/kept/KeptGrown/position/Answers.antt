use Rattle.std.proofs.Common.{ap, subst, ◌∙◌}
use Rattle.ts_model.specs.History.{position}
use Rattle.shared_store.specs.Wrapped.{IsKept}
use Rattle.shared_store.proofs.AfterLaws.{end_after}
use Rattle.shared_store.proofs.kept.KeptGrown.position.Goals as goal

pub returns : goal.returns
returns g c =
    let kept = subst (IsKept g.B.Backend.alone g.B.Backend.state g.B.Backend.kin) c.self.view_is c.self.invariant in
    c.position.ensures ∙ ap (λ k. position (g.B.Backend.state k.backend).history) c.self.view_is ∙ end_after kept.goes_on.begins
