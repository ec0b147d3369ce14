use Rattle.std.proofs.Common.{subst}
use Rattle.ts_model.specs.Calls.{act_of_cut}
use Rattle.ts_sessions.specs.CallOutcomes.{IsTried}
use Rattle.ts_sessions.proofs.CallWalks.{called_tries}
use Rattle.ts_sessions.proofs.refreshes.cut.Goals as goal

pub returns-clause-tries : goal.returns-clause-tries
returns-clause-tries g c =
    called_tries g.B.Backend.alone (g.B.Backend.state c.args.backend.now) (act_of_cut c.args.view c.args.lo c.args.hi) c.cut-outcome.result (g.B.Backend.state c.cut-outcome.new.self) c.outcome_of.result
    c.cut-outcome.ensures.called (subst (λ p. IsTried p c.cut-outcome.result c.outcome_of.result) c.position.ensures c.outcome_of.ensures)
