use Rattle.std.proofs.Common.{◌∙◌, refl, sym, subst}
use Rattle.std.specs.Prelude.{Ok, Err}
use Rattle.ts_sessions.specs.declared.deeds.Deed.TheVariants as deeds
use Rattle.ts_sessions.specs.Deeds.{rest}
use Rattle.ts_sessions.specs.Places.{Places, Turn}
use Rattle.ts_sessions.specs.Step.{after_view}
use Rattle.ts_sessions.proofs.DeedWalks.{call_broken, found_broken, unfilled, view_ends, view_found}
use Rattle.ts_sessions.proofs.StateLaws.{looked_reports}
use Rattle.ts_sessions.proofs.ViewWalks.{view_broken}
use Rattle.ts_sessions.proofs.WalkLaws.{not_begun}
use Rattle.ts_sessions.proofs.calls.make_view.Goals as goal

pub returns-in_err-new-clause-meets : goal.returns-in_err-new-clause-meets
returns-in_err-new-clause-meets g c =
    let old = g.B.Backend.state c.args.backend.now in
    call_broken g.B.Shot.Shown g.B.Backend.alone old (deeds.View c.args.def c.args.filled) c.from_residual.result old c.from_residual.ensures.0
    (λ p read. not_begun {A = Turn Places} g.B.Backend.alone old (rest {T = g.row.B-Shot.Denot} {J = g.row.B-Shot-Job.Denot} p read (deeds.View c.args.def c.args.filled)))

pub returns-in_err-tried-clause-meets : goal.returns-in_err-tried-clause-meets
returns-in_err-tried-clause-meets g c =
    let old = g.B.Backend.state c.args.backend.now in
    let new = g.B.Backend.state c.make_view-outcome.new.self in
    call_broken g.B.Shot.Shown g.B.Backend.alone old (deeds.View c.args.def c.args.filled) c.from_residual-in_err-tried.result new c.from_residual-in_err-tried.ensures.0
    (λ p read. view_broken g.B.Backend.alone old c.args.def _ _ _ new (λ n. after_view p n c.args.def c.args.filled) c.make_view-outcome.ensures.called c.in_err-tried.ensures)

-- ---- with a refresh after it

pub returns-in_err-shot-in-true-clause-meets : goal.returns-in_err-shot-in-true-clause-meets
returns-in_err-shot-in-true-clause-meets g c =
    let old = g.B.Backend.state c.args.backend.now in
    let mid = g.B.Backend.state c.make_view-outcome.new.self in
    let new = g.B.Backend.state c.snap.new.self in
    call_broken g.B.Shot.Shown g.B.Backend.alone old (deeds.View c.args.def c.args.filled) c.from_residual-in_err-shot-in-true.result new c.from_residual-in_err-shot-in-true.ensures.0
    (λ p read. found_broken g.B.Backend.alone old c.args.def c.args.filled _ _ c.in_ok-tried.tried c.in-Ok.made mid p _ new c.make_view-outcome.ensures.called c.position.ensures c.in_ok-tried.ensures (sym c.into_result.ensures ∙ c.in-Ok.is) c.in-true.is c.in_err-shot-in-true.ensures.looked)

pub whole_refresh-asked-requires : goal.whole_refresh-asked-requires
whole_refresh-asked-requires g c =
    let new = g.B.Backend.state c.snap.new.self in
    let tells = looked_reports g.B.Backend.alone (g.B.Backend.state c.make_view-outcome.new.self) _ new c.in_ok-shot-in-true.ensures.looked in
    record { history = new.history; holds = tells.1; allowed = tells.0; fits = tt }

pub returns-in-true-clause-meets : goal.returns-in-true-clause-meets
returns-in-true-clause-meets g c =
    let old = g.B.Backend.state c.args.backend.now in
    let mid = g.B.Backend.state c.make_view-outcome.new.self in
    let new = g.B.Backend.state c.snap.new.self in
    let looked = c.in_ok-shot-in-true.ensures.looked in
    let tells = looked_reports g.B.Backend.alone mid _ new looked in
    view_found g.B.Shot.Shown g.B.Backend.alone old c.args.def c.args.filled _ _ c.in_ok-tried.tried c.in-Ok.made c.has_disk_fault-failed.result c.in_ok-new.new mid c.whole_refresh-asked.result _ new c.in-true.is c.make_view-outcome.ensures.called c.position.ensures c.in_ok-tried.ensures c.has_disk_fault-failed.ensures (sym c.into_result.ensures ∙ c.in-Ok.is) c.in_ok-new.ensures.name c.in_ok-new.ensures.width looked (c.whole_refresh-asked.ensures new.history tells.1)

-- ---- without one

pub returns-in-Ok-clause-meets : goal.returns-in-Ok-clause-meets
returns-in-Ok-clause-meets g c =
    view_ends g.B.Shot.Shown g.B.Backend.alone (g.B.Backend.state c.args.backend.now) c.args.def c.args.filled _ _ c.in_ok-tried.tried (Ok c.in-Ok.made) c.has_disk_fault-failed.result c.view_meeting.result (g.B.Backend.state c.make_view-outcome.new.self) c.make_view-outcome.ensures.called c.position.ensures c.in_ok-tried.ensures c.has_disk_fault-failed.ensures (sym c.into_result.ensures ∙ c.in-Ok.is) c.view_meeting.ensures
    (λ p n. unfilled p n c.args.def c.args.filled c.in-Ok.made c.in-false.is)

pub returns-clause-meets : goal.returns-clause-meets
returns-clause-meets g c =
    view_ends g.B.Shot.Shown g.B.Backend.alone (g.B.Backend.state c.args.backend.now) c.args.def c.args.filled _ _ c.in_ok-tried.tried (Err c.in-Err.refusal) c.has_disk_fault-failed.result c.view_meeting-in-Err.result (g.B.Backend.state c.make_view-outcome.new.self) c.make_view-outcome.ensures.called c.position.ensures c.in_ok-tried.ensures c.has_disk_fault-failed.ensures (sym c.into_result.ensures ∙ c.in-Err.is) c.view_meeting-in-Err.ensures (λ p n. refl)
