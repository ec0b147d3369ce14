use Rattle.std.proofs.Common.{◌≤◌, ◌∙◌, None, Some, ap, arith, length, sym, subst}
use Rattle.std.specs.Prelude.{Ok, Err}
use Rattle.ts_model.specs.Calls.{making_view}
use Rattle.ts_model.specs.History.{prefix}
use Rattle.ts_model.specs.Roster.{roster}
use Rattle.ts_sessions.specs.declared.calls.CallOutcome.TheVariants as outcomes_of
use Rattle.ts_sessions.specs.declared.deeds.ChangeLine.TheVariants as lines
use Rattle.ts_sessions.specs.Step.{after_view}
use Rattle.ts_sessions.proofs.SoundLaws.{allowed_prefix}
use Rattle.audit_past.specs.ReplaySteps.{MeetsAt, does_at}
use Rattle.audit_past.proofs.TellViews.{view_found}
use Rattle.audit_past.proofs.TellWalks.{call_lies, call_nothing, met_by}
use Rattle.audit_past.proofs.deed_replays.make_view.Goals as goal

pub returns-in-None : goal.returns-in-None
returns-in-None g c = λ p read ps.
    let all = g.P.Past.all c.args.past.now in
    let h = prefix all c.args.at in
    call_nothing all c.args.at h (making_view c.args.def h) c.make_view.result (after_view p (length (roster h).views) c.args.def c.args.filled) ps c.make_view.ensures c.in-None.is

-- ---- with a refresh after it

pub at-requires-clause-known : goal.at-requires-clause-known
at-requires-clause-known g c =
    let all = g.P.Past.all c.args.past.now in
    let low : c.args.at ≤ c.in-Some.met.at = (call_lies (making_view c.args.def (prefix all c.args.at)) all c.args.at c.make_view.result c.in-Some.met c.requires.within c.make_view.ensures c.in-Some.is).low in
    let known : g.P.Past.from c.args.past.now ≤ c.args.at = c.requires.known in
    omega (arith, known, low)

pub at-requires-clause-within : goal.at-requires-clause-within
at-requires-clause-within g c =
    let all = g.P.Past.all c.args.past.now in
    (call_lies (making_view c.args.def (prefix all c.args.at)) all c.args.at c.make_view.result c.in-Some.met c.requires.within c.make_view.ensures c.in-Some.is).high

pub whole_refresh-asked-requires : goal.whole_refresh-asked-requires
whole_refresh-asked-requires g c =
    let all = g.P.Past.all c.args.past.now in
    record { history = prefix all c.in-Some.met.at; holds = c.in_ok-shot-in-true.ensures; allowed = allowed_prefix all c.in-Some.met.at c.requires.allowed; fits = tt }

pub returns-in-true : goal.returns-in-true
returns-in-true g c =
    let all = g.P.Past.all c.args.past.now in
    view_found g.P.Shot.Shown all c.args.at c.args.def c.args.filled c.make_view.result c.in-Some.met c.in-Ok.made c.in_ok-new.new c.whole_refresh-asked.result c.requires.within c.make_view.ensures c.in-Some.is c.in-Ok.is c.in-true.is c.in_ok-new.ensures.name c.in_ok-new.ensures.width (c.whole_refresh-asked.ensures (prefix all c.in-Some.met.at) c.in_ok-shot-in-true.ensures)

-- ---- without one

pub returns-in-Ok : goal.returns-in-Ok
returns-in-Ok g c =
    let all = g.P.Past.all c.args.past.now in
    let h = prefix all c.args.at in
    let n = length (roster h).views in
    let m = c.in-Some.met in
    subst (λ o. MeetsAt g.P.Shot.Shown all c.args.at 4 (λ p read. does_at h (making_view c.args.def) (after_view p n c.args.def c.args.filled)) (Some o)) (sym c.number_outcome.ensures)
    (met_by g.P.Shot.Shown all c.args.at 4 (making_view c.args.def h) c.make_view.result m (λ p read. after_view p n c.args.def c.args.filled) None (outcomes_of.Number lines.View (Ok c.in-Ok.made)) c.requires.within c.make_view.ensures c.in-Some.is
    (λ p read. ap (after_view p n c.args.def c.args.filled) c.in-Ok.is ∙ ap (λ b. after_view p n c.args.def b (Ok c.in-Ok.made)) c.in-false.is) tt (omega arith))

pub returns : goal.returns
returns g c =
    let all = g.P.Past.all c.args.past.now in
    let h = prefix all c.args.at in
    let n = length (roster h).views in
    let m = c.in-Some.met in
    subst (λ o. MeetsAt g.P.Shot.Shown all c.args.at 4 (λ p read. does_at h (making_view c.args.def) (after_view p n c.args.def c.args.filled)) (Some o)) (sym c.number_outcome-in-Err.ensures)
    (met_by g.P.Shot.Shown all c.args.at 4 (making_view c.args.def h) c.make_view.result m (λ p read. after_view p n c.args.def c.args.filled) None (outcomes_of.Number lines.View (Err c.in-Err.refusal)) c.requires.within c.make_view.ensures c.in-Some.is (λ p read. ap (after_view p n c.args.def c.args.filled) c.in-Err.is) tt (omega arith))
