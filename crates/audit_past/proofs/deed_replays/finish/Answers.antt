use Rattle.std.proofs.Common.{None, arith, refl, subst}
use Rattle.ts_model.specs.Calls.{act_of_finish}
use Rattle.ts_model.specs.History.{prefix}
use Rattle.ts_sessions.specs.declared.calls.CallOutcome.TheVariants as outcomes_of
use Rattle.ts_sessions.specs.Deeds.{at_in, cut_in, turn_of_finish}
use Rattle.ts_sessions.specs.Procedures.{ends}
use Rattle.audit_past.specs.Pasts.{CameTo}
use Rattle.audit_past.proofs.TellWalks.{call_nothing, met_by}
use Rattle.audit_past.proofs.deed_replays.finish.Goals as goal

pub returns-in-None : goal.returns-in-None
returns-in-None g c = λ p read ps.
    let all = g.P.Past.all c.args.past.now in
    let f = c.args.finishing in
    let h = prefix all c.args.at in
    let came = subst (λ n. CameTo (act_of_finish (cut_in f) n h) all c.args.at c.finish.result) c.at.ensures (subst (λ n. CameTo (act_of_finish n c.at.result h) all c.args.at c.finish.result) c.cut.ensures c.finish.ensures) in
    call_nothing all c.args.at h (act_of_finish (cut_in f) (at_in f) h) c.finish.result (λ r. ends (turn_of_finish p read f r)) ps came c.in-None.is

pub returns-in-Some : goal.returns-in-Some
returns-in-Some g c =
    let all = g.P.Past.all c.args.past.now in
    let f = c.args.finishing in
    let h = prefix all c.args.at in
    let m = c.in-Some.met in
    let came = subst (λ n. CameTo (act_of_finish (cut_in f) n h) all c.args.at c.finish.result) c.at.ensures (subst (λ n. CameTo (act_of_finish n c.at.result h) all c.args.at c.finish.result) c.cut.ensures c.finish.ensures) in
    met_by g.P.Shot.Shown all c.args.at 1 (act_of_finish (cut_in f) (at_in f) h) c.finish.result m (λ p read r. ends (turn_of_finish p read f r)) None (outcomes_of.Finish f m.came) c.requires.within came c.in-Some.is (λ p read. refl) tt (omega arith)
