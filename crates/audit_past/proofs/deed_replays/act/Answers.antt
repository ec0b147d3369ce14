use Rattle.ts_model.specs.History.{prefix}
use Rattle.ts_sessions.specs.Deeds.{left, rest}
use Rattle.audit_past.specs.ReplaySteps.{after_look}
use Rattle.audit_past.proofs.deed_replays.act.Goals as goal

pub returns : goal.returns
returns g c =
    let all = g.P.Past.all c.args.past.now in
    c.follow_met.ensures all c.args.at (left c.args.deed) (λ p read. after_look (prefix all c.args.at) (rest p read c.args.deed)) c.in_ok-met.ensures
