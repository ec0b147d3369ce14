use Rattle.std.proofs.Common.{subst, sym}
use Rattle.engine_state.specs.Afters.{IsNextFinish}
use Rattle.engine_state.specs.Stands.{StandsFor}
use Rattle.engine_state.proofs.states.State.rebuild.Goals as goal

pub rebuild-requires-clause-next : goal.rebuild-requires-clause-next
rebuild-requires-clause-next g c κs within = subst (λ s. IsNextFinish s c.args.cut c.args.snap) (sym c.self.view_is) c.requires.next

pub returns : goal.returns
returns g c = record { job = λ h st next. c.rebuild.ensures.job h (subst (StandsFor h) (sym c.self.view_is) st) next }
