use Rattle.std.proofs.Common.{ap, sym, ◌∙◌, subst}
use Rattle.ts_model.specs.declared.events.Event.TheVariants.{Cut}
use Rattle.ts_model.specs.declared.outcomes.CutDone.TheVariants.{Cut as CutMade, Nothing as NothingDone}
use Rattle.ts_model.specs.declared.refreshes.Window.TheVariants.{NoBucket, Nothing, Whole}
use Rattle.ts_model.specs.Calls.{act_of_cut, refusal}
use Rattle.ts_model.specs.History.{position}
use Rattle.engine_core.specs.Acts.{making_event}
use Rattle.engine_core.specs.Histories.{history_of}
use Rattle.engine_core.specs.Stores.{EngineDoes}
use Rattle.engine_core.proofs.ActLaws.{cut_by_window, cut_sound, answered_cut}
use Rattle.engine_core.proofs.StoreLaws.{does_as, does_refuse, does_return}
use Rattle.engine_core.proofs.event_calls.cut.Goals as goal

pub make-outcome-requires-clause-sound : goal.make-outcome-requires-clause-sound
make-outcome-requires-clause-sound c =
    let h = history_of c.args.engine.now.past in
    cut_sound c.args.view c.args.lo c.args.hi h c.window.result c.in-Whole.span c.window.ensures.allowed c.requires.view c.window.ensures.window c.in-Whole.is c.requires.high

pub returns-in-Nothing : goal.returns-in-Nothing
returns-in-Nothing c =
    let h = history_of c.args.engine.now.past in
    does_return (act_of_cut c.args.view c.args.lo c.args.hi) c.args.engine.now.past (NothingDone (position h)) (NothingDone c.length.result)
    (cut_by_window c.args.view c.args.lo c.args.hi h c.window.result Nothing c.requires.view c.window.ensures.window c.in-Nothing.is)
    (ap NothingDone c.length.ensures.position)

pub returns-in-NoBucket : goal.returns-in-NoBucket
returns-in-NoBucket c =
    let h = history_of c.args.engine.now.past in
    does_refuse (act_of_cut c.args.view c.args.lo c.args.hi) c.args.engine.now.past (refusal 15 h 0) c.no_bucket.result
    (cut_by_window c.args.view c.args.lo c.args.hi h c.window.result NoBucket c.requires.view c.window.ensures.window c.in-NoBucket.is)
    c.no_bucket.ensures

pub returns-in-Whole : goal.returns-in-Whole
returns-in-Whole c =
    let old = c.args.engine.now.past in
    let h = history_of c.args.engine.now.past in
    let act_is = cut_by_window c.args.view c.args.lo c.args.hi h c.window.result (Whole c.in-Whole.span) c.requires.view c.window.ensures.window c.in-Whole.is in
    subst (λ o. EngineDoes (act_of_cut c.args.view c.args.lo c.args.hi) c.args.engine.now.past o c.make-outcome.new.engine.past) (sym c.cut_over.ensures)
    (does_as (λ r. CutMade r.pos c.in-Whole.span) (making_event (Cut c.args.view c.in-Whole.span)) (act_of_cut c.args.view c.args.lo c.args.hi) old c.make-outcome.result c.make-outcome.new.engine.past
    (act_is ∙ answered_cut c.args.view c.in-Whole.span h) c.make-outcome.ensures)
