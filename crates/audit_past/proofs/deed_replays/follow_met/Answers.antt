use Rattle.std.proofs.Common.{sym, subst}
use Rattle.ts_model.specs.History.{prefix}
use Rattle.audit_past.specs.ReplaySteps.{MeetsAt}
use Rattle.audit_past.proofs.TellWalks.{met_follows}
use Rattle.audit_past.proofs.deed_replays.follow_met.Goals as goal

pub returns-in-None : goal.returns-in-None
returns-in-None g c = λ all at before procedure met. subst (MeetsAt g.T.Shown all at before procedure) c.in-None.is met

pub returns-in_ok-next-in-Some : goal.returns-in_ok-next-in-Some
returns-in_ok-next-in-Some g c = λ all at before procedure met.
    let m = c.in-Some.met in
    let is = subst (MeetsAt g.T.Shown all at before procedure) c.in-Some.is met in
    met_follows g.T.Shown g.met.T.Shown.fits_on all at before procedure m c.in_ok-next-in-Some.next _ _ is (c.in_ok-next-in-Some.ensures (prefix all m.at) is.fits)
