use Rattle.std.proofs.Common.{◌≤◌, ℕ, Some, arith, sym, ap, ◌∙◌, subst}
use Rattle.std.specs.Prelude.{Ok, Err}
use Rattle.ts_model.specs.declared.events.Event.TheVariants.{Cut}
use Rattle.ts_model.specs.declared.outcomes.CutDone.TheVariants.{Cut as CutMade, Nothing as NothingDone}
use Rattle.ts_model.specs.declared.outcomes.Refusal.{Refusal}
use Rattle.ts_model.specs.declared.refreshes.Window.TheVariants.{NoBucket, Nothing, Whole}
use Rattle.ts_model.specs.Calls.{act_of_cut}
use Rattle.ts_model.specs.History.{base_position, prefix}
use Rattle.audit_past.specs.Pasts.{CameTo}
use Rattle.ts_sessions.proofs.StopLaws.{position_at}
use Rattle.engine_core.specs.Acts.{making_event}
use Rattle.engine_core.specs.Histories.{history_of}
use Rattle.engine_core.proofs.ActLaws.{answered_cut, cut_by_window}
use Rattle.audit.proofs.CallLaws.{came_to}
use Rattle.audit.proofs.known_history.KnownHistoryPast.cut.Goals as goal

pub returns-in-Nothing : goal.returns-in-Nothing
returns-in-Nothing c =
    let all = history_of c.args.self.now.timeline.past in
    let h = prefix all c.args.at in
    let base = c.base-begins.ensures.base in
    let start = c.base-begins.ensures.low in
    let known = c.requires.known in
    let low : base_position (history_of c.args.self.now.timeline.past) ≤ c.args.at = omega (arith, base, start, known) in
    let act = cut_by_window c.args.view c.args.lo c.args.hi h c.window.result Nothing c.requires.view c.window.ensures.window c.in-Nothing.is in
    subst (λ a. CameTo a all c.args.at (Some (record { came = Ok (NothingDone c.args.at); at = c.args.at }))) (sym act) (ap (λ p. Some (record { came = Ok (NothingDone p); at = c.args.at })) (sym (position_at all c.args.at low c.requires.within)))

pub returns-in-NoBucket : goal.returns-in-NoBucket
returns-in-NoBucket c =
    let all = history_of c.args.self.now.timeline.past in
    let h = prefix all c.args.at in
    let base = c.base-begins.ensures.base in
    let start = c.base-begins.ensures.low in
    let known = c.requires.known in
    let low : base_position (history_of c.args.self.now.timeline.past) ≤ c.args.at = omega (arith, base, start, known) in
    let act = cut_by_window c.args.view c.args.lo c.args.hi h c.window.result NoBucket c.requires.view c.window.ensures.window c.in-NoBucket.is in
    let refused : ℕ → Refusal = λ p. record { code = 15; pos = p; mark = 0 } in
    subst (λ a. CameTo a all c.args.at c.refuse.result) (sym act) (c.refuse.ensures ∙ ap (λ p. Some (record { came = Err (refused p); at = c.args.at })) (sym (position_at all c.args.at low c.requires.within)))

pub returns-in-Whole : goal.returns-in-Whole
returns-in-Whole c =
    let all = history_of c.args.self.now.timeline.past in
    let h = prefix all c.args.at in
    let act = cut_by_window c.args.view c.args.lo c.args.hi h c.window.result (Whole c.in-Whole.span) c.requires.view c.window.ensures.window c.in-Whole.is in
    came_to (λ e. CutMade e.pos c.in-Whole.span) (making_event (Cut c.args.view c.in-Whole.span) h) (act_of_cut c.args.view c.args.lo c.args.hi h) all c.args.at c.call-came.result c.cut_over.result (act ∙ answered_cut c.args.view c.in-Whole.span h) c.cut_over.ensures c.call-came.ensures.came
