use Rattle.std.proofs.Common.{ap, ◌∙◌}
use Rattle.shared_store.proofs.StoreLaws.{history_out, made_out}
use Rattle.shared_store.proofs.store.SharedStore.close.Goals as goal

pub returns-clause-history : goal.returns-clause-history
returns-clause-history g c =
    let out = c.into_backend.ensures in
    history_out g.B.Backend.state c.args.self c.into_backend.result c.close.result _ (c.close.ensures.base.0 ∙ ap (λ s. s.opened) c.self.view_is) out.backend out.kept.goes_on.begins c.close.ensures.seen

pub returns-clause-made : goal.returns-clause-made
returns-clause-made g c =
    let out = c.into_backend.ensures in
    made_out g.B.Backend.state c.args.self c.into_backend.result c.self.inside.lock.opened c.close.result _ (ap (λ s. s.opened) c.self.view_is) out.backend c.self.invariant c.close.ensures.base.0 out.kept.goes_on.begins c.close.ensures.made
