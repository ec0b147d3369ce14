use Rattle.std.proofs.Common.{◌≡◌, refl, sym, ◌∙◌, ap, subst}
use Rattle.std.specs.Prelude.{IfSome, IsSome}
use Rattle.ts_model.specs.declared.events.Event.TheVariants.{Cut}
use Rattle.ts_model.specs.declared.outcomes.CutDone.TheVariants.{Cut as CutMade, Nothing as NothingDone}
use Rattle.ts_model.specs.declared.refreshes.Window.TheVariants.{NoBucket, Nothing, Whole}
use Rattle.ts_model.specs.Calls.{act_of_cut, refusal}
use Rattle.ts_model.specs.History.{position}
use Rattle.ts_model.specs.Roster.{roster, view_of}
use Rattle.ts_model.specs.Windows.{window}
use Rattle.engine_core.specs.Acts.{making_event}
use Rattle.engine_core.specs.Histories.{history_of}
use Rattle.engine_core.specs.Values.{EngineValue}
use Rattle.engine_core.proofs.ActLaws.{cut_by_window, cut_sound, answered_cut}
use Rattle.engine_core.proofs.StoreLaws.{called_as}
use Rattle.ts_store.specs.Stores.{StoreDoes, history_seen, state_of}
use Rattle.ts_store.proofs.CallLaws.{does_refuse, does_say}
use Rattle.ts_store.proofs.KeptLaws.{safe_same}
use Rattle.ts_store.proofs.backends.StoreBackend.cut.Goals as goal

pub window-requires-clause-view : goal.window-requires-clause-view
window-requires-clause-view g c = subst (λ (e : EngineValue). IsSome (view_of (roster (history_of e.past)) c.args.view)) (sym c.engine.ensures.engine) c.requires.view

-- ---- the buckets that the window covers

pub make-outcome-requires-clause-sound : goal.make-outcome-requires-clause-sound
make-outcome-requires-clause-sound g c =
    let h = history_seen c.args.self.now in
    let covers = subst (λ (e : EngineValue). IfSome (view_of (roster (history_of e.past)) c.args.view) (λ def. c.window.result ≡ window c.args.view def (history_of e.past) c.args.lo c.args.hi)) c.engine.ensures.engine c.window.ensures.window in
    cut_sound c.args.view c.args.lo c.args.hi h c.window.result c.in-Whole.span c.store_law.ensures.kept.sound.allowed c.requires.view covers c.in-Whole.is c.requires.high

pub returns-in-Whole-clause-called : goal.returns-in-Whole-clause-called
returns-in-Whole-clause-called g c =
    let h = history_seen c.args.self.now in
    let covers = subst (λ (e : EngineValue). IfSome (view_of (roster (history_of e.past)) c.args.view) (λ def. c.window.result ≡ window c.args.view def (history_of e.past) c.args.lo c.args.hi)) c.engine.ensures.engine c.window.ensures.window in
    let act_is = cut_by_window c.args.view c.args.lo c.args.hi h c.window.result (Whole c.in-Whole.span) c.requires.view covers c.in-Whole.is in
    subst (λ o. StoreDoes g.D.Disk.faults g.D.Disk.moment (act_of_cut c.args.view c.args.lo c.args.hi) c.args.self.now o c.make-outcome.new.self) (sym c.cut_over.ensures)
    (called_as (λ r. CutMade r.pos c.in-Whole.span) (making_event (Cut c.args.view c.in-Whole.span)) (act_of_cut c.args.view c.args.lo c.args.hi) (state_of g.D.Disk.faults g.D.Disk.moment c.args.self.now) c.make-outcome.result (state_of g.D.Disk.faults g.D.Disk.moment c.make-outcome.new.self)
    (act_is ∙ answered_cut c.args.view c.in-Whole.span h) c.make-outcome.ensures.does)

-- ---- no event is made

pub returns-in-Nothing-clause-called : goal.returns-in-Nothing-clause-called
returns-in-Nothing-clause-called g c =
    let h = history_seen c.args.self.now in
    let covers = subst (λ (e : EngineValue). IfSome (view_of (roster (history_of e.past)) c.args.view) (λ def. c.window.result ≡ window c.args.view def (history_of e.past) c.args.lo c.args.hi)) c.engine.ensures.engine c.window.ensures.window in
    does_say g.D.Disk.bytes g.D.Disk.may_leave g.D.Disk.moment g.D.Disk.left_since g.D.Disk.faults (act_of_cut c.args.view c.args.lo c.args.hi) c.args.self.now c.args.self.now (NothingDone (position h)) (NothingDone c.length.result)
    c.store_law.ensures.kept
    (cut_by_window c.args.view c.args.lo c.args.hi h c.window.result Nothing c.requires.view covers c.in-Nothing.is)
    (ap NothingDone (c.length.ensures.position ∙ ap (λ (e : EngineValue). position (history_of e.past)) c.engine-in-Nothing.ensures.engine))
    (record { past = refl; failed = refl; counted = refl; begun = refl; opened = refl })

pub returns-in-Nothing-clause-safe : goal.returns-in-Nothing-clause-safe
returns-in-Nothing-clause-safe g c =
    safe_same g.D.Disk.bytes g.D.Disk.may_leave g.D.Disk.moment g.D.Disk.left_since g.D.Disk.faults g.met.D.Disk.only_now c.args.self.now c.args.self.now c.store_law.ensures.kept.sound refl refl refl

pub returns-in-NoBucket-clause-called : goal.returns-in-NoBucket-clause-called
returns-in-NoBucket-clause-called g c =
    let h = history_seen c.args.self.now in
    let covers = subst (λ (e : EngineValue). IfSome (view_of (roster (history_of e.past)) c.args.view) (λ def. c.window.result ≡ window c.args.view def (history_of e.past) c.args.lo c.args.hi)) c.engine.ensures.engine c.window.ensures.window in
    does_refuse g.D.Disk.bytes g.D.Disk.may_leave g.D.Disk.moment g.D.Disk.left_since g.D.Disk.faults (act_of_cut c.args.view c.args.lo c.args.hi) c.args.self.now c.args.self.now (refusal 15 h 0) c.no_bucket.result
    c.store_law.ensures.kept
    (cut_by_window c.args.view c.args.lo c.args.hi h c.window.result NoBucket c.requires.view covers c.in-NoBucket.is)
    (c.no_bucket.ensures ∙ ap (λ (e : EngineValue). refusal 15 (history_of e.past) 0) c.engine-in-NoBucket.ensures.engine)
    (record { past = refl; failed = refl; counted = refl; begun = refl; opened = refl })

pub returns-in-NoBucket-clause-safe : goal.returns-in-NoBucket-clause-safe
returns-in-NoBucket-clause-safe g c =
    safe_same g.D.Disk.bytes g.D.Disk.may_leave g.D.Disk.moment g.D.Disk.left_since g.D.Disk.faults g.met.D.Disk.only_now c.args.self.now c.args.self.now c.store_law.ensures.kept.sound refl refl refl
