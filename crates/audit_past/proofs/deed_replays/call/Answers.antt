use Rattle.std.proofs.Common.{None, Some, ap, arith, refl, sym, subst}
use Rattle.ts_model.specs.Calls.{act_of_commit, act_of_cut}
use Rattle.ts_model.specs.History.{prefix}
use Rattle.ts_sessions.specs.declared.calls.CallOutcome.TheVariants as outcomes_of
use Rattle.ts_sessions.specs.declared.deeds.Deed.TheVariants as deeds
use Rattle.ts_sessions.specs.Deeds.{cut_left, cut_meets, left_by, line_of, look_left, look_meets, making_of, says}
use Rattle.ts_sessions.specs.Procedures.{ends}
use Rattle.ts_sessions.specs.Step.{turn_of_commit, turn_of_line}
use Rattle.ts_sessions.proofs.SoundLaws.{allowed_prefix}
use Rattle.audit_past.specs.ReplaySteps.{MeetsAt, does_at}
use Rattle.audit_past.proofs.TellDeeds.{deed_goes, deed_met}
use Rattle.audit_past.proofs.TellWalks.{call_nothing, met_by, met_here}
use Rattle.audit_past.proofs.deed_replays.call.Goals as goal

-- ---- calls that may append an event

pub returns-in-None : goal.returns-in-None
returns-in-None g c =
    let all = g.P.Past.all c.args.past.now in
    let m = c.in-Make.making in
    deed_met g.P.Shot.Shown all c.args.at c.args.deed (deeds.Make m) None c.in-Make.is (λ p read ps. call_nothing all c.args.at (prefix all c.args.at) (making_of m (prefix all c.args.at)) c.make.result (λ r. ends (turn_of_line p (says (line_of m)) r)) ps c.make.ensures c.in-None.is)

pub returns-in-Some : goal.returns-in-Some
returns-in-Some g c =
    let all = g.P.Past.all c.args.past.now in
    let m = c.in-Make.making in
    let met = c.in-Some.met in
    deed_met g.P.Shot.Shown all c.args.at c.args.deed (deeds.Make m) (Some c.number_outcome.result) c.in-Make.is
    (subst (λ o. MeetsAt g.P.Shot.Shown all c.args.at 1 (λ p read. does_at (prefix all c.args.at) (making_of m) (λ r. ends (turn_of_line p (says (line_of m)) r))) (Some o)) (sym c.number_outcome.ensures)
    (met_by g.P.Shot.Shown all c.args.at 1 (making_of m (prefix all c.args.at)) c.make.result met (λ p read r. ends (turn_of_line p (says (line_of m)) r)) None (outcomes_of.Number c.line-line.result met.came) c.requires.within c.make.ensures c.in-Some.is (λ p read. ap (λ l. ends (turn_of_line p (says l) met.came)) (sym c.line-line.ensures)) tt (omega arith)))

pub returns-in-None-commit : goal.returns-in-None-commit
returns-in-None-commit g c =
    let all = g.P.Past.all c.args.past.now in
    let ops = c.in-Commit.ops in
    let leaves = c.in-Commit.leaves in
    deed_met g.P.Shot.Shown all c.args.at c.args.deed (deeds.Commit ops leaves) None c.in-Commit.is (λ p read ps. call_nothing all c.args.at (prefix all c.args.at) (act_of_commit ops (prefix all c.args.at)) c.commit.result (λ r. ends (turn_of_commit p (left_by leaves p) r)) ps c.commit.ensures c.in-None-commit.is)

pub returns-in-Some-commit : goal.returns-in-Some-commit
returns-in-Some-commit g c =
    let all = g.P.Past.all c.args.past.now in
    let ops = c.in-Commit.ops in
    let leaves = c.in-Commit.leaves in
    let met = c.in-Some-commit.met in
    deed_met g.P.Shot.Shown all c.args.at c.args.deed (deeds.Commit ops leaves) (Some (record { said = None; outcome = outcomes_of.Commit leaves met.came; at = met.at })) c.in-Commit.is
    (met_by g.P.Shot.Shown all c.args.at 1 (act_of_commit ops (prefix all c.args.at)) c.commit.result met (λ p read r. ends (turn_of_commit p (left_by leaves p) r)) None (outcomes_of.Commit leaves met.came) c.requires.within c.commit.ensures c.in-Some-commit.is (λ p read. refl) tt (omega arith))

pub returns-in-None-cut : goal.returns-in-None-cut
returns-in-None-cut g c =
    let all = g.P.Past.all c.args.past.now in
    let a = c.in-Cut.asked in
    deed_met g.P.Shot.Shown all c.args.at c.args.deed (deeds.Cut a c.in-Cut.then) None c.in-Cut.is (λ p read ps. call_nothing all c.args.at (prefix all c.args.at) (act_of_cut a.view a.lo a.hi (prefix all c.args.at)) c.cut.result (λ r. cut_left p a.min c.in-Cut.then r) ps c.cut.ensures c.in-None-cut.is)

pub returns-in-Some-cut : goal.returns-in-Some-cut
returns-in-Some-cut g c =
    let all = g.P.Past.all c.args.past.now in
    let a = c.in-Cut.asked in
    let then = c.in-Cut.then in
    let met = c.in-Some-cut.met in
    deed_met g.P.Shot.Shown all c.args.at c.args.deed (deeds.Cut a then) (Some (record { said = None; outcome = outcomes_of.Cut a then met.came; at = met.at })) c.in-Cut.is
    (met_by g.P.Shot.Shown all c.args.at (cut_meets then) (act_of_cut a.view a.lo a.hi (prefix all c.args.at)) c.cut.result met (λ p read r. cut_left p a.min then r) None (outcomes_of.Cut a then met.came) c.requires.within c.cut.ensures c.in-Some-cut.is (λ p read. refl) tt (omega arith))

pub returns-in-View : goal.returns-in-View
returns-in-View g c = deed_goes g.P.Shot.Shown (g.P.Past.all c.args.past.now) c.args.at c.args.deed (deeds.View c.in-View.def c.in-View.filled) c.make_view.result c.in-View.is c.make_view.ensures

-- ---- a finish, and calls without events

pub returns-in-Finish : goal.returns-in-Finish
returns-in-Finish g c = deed_met g.P.Shot.Shown (g.P.Past.all c.args.past.now) c.args.at c.args.deed (deeds.Finish c.in-Finish._job c.in-Finish.finishing) c.finish.result c.in-Finish.is c.finish.ensures

pub returns-in_ok-shot-in-Look : goal.returns-in_ok-shot-in-Look
returns-in_ok-shot-in-Look g c =
    let all = g.P.Past.all c.args.past.now in
    let then = c.in-Look.then in
    let shot = c.in_ok-shot-in-Look.shot in
    deed_met g.P.Shot.Shown all c.args.at c.args.deed (deeds.Look then) (Some (record { said = None; outcome = outcomes_of.Look then shot; at = c.args.at })) c.in-Look.is
    (met_here g.P.Shot.Shown all c.args.at (look_meets then) (λ p read. look_left p (prefix all c.args.at) then) (outcomes_of.Look then shot) c.requires.within (λ p read. refl) (c.in_ok-shot-in-Look.ensures, allowed_prefix all c.args.at c.requires.allowed) (omega arith))
