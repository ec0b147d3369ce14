use Rattle.std.proofs.Common.{◌≡◌, None, sym, ap, ◌∙◌, subst}
use Rattle.ts_model.specs.History.{base_position}
use Rattle.event_check.specs.Checks.{event_refusal}
use Rattle.event_check.proofs.CheckLaws.{none_where_allowed}
use Rattle.engine_state.specs.Stands.{StandsFor}
use Rattle.engine_core.specs.Histories.{begun_by, history_of}
use Rattle.engine_core.specs.Values.{EngineValue}
use Rattle.engine_core.proofs.EventLaws.{base_of}
use Rattle.engine_core.proofs.engines.Engine.check.Goals as goal

pub returns-in-None-clause-allowed : goal.returns-in-None-clause-allowed
returns-in-None-clause-allowed c =
    let past = c.args.self.now.past in
    let stands : StandsFor (history_of c.args.self.now.past) c.deref.result.now = subst (λ (v : EngineValue). StandsFor (history_of v.past) c.deref.result.now) c.self.view_is (subst (StandsFor _) (sym c.deref.ensures) c.self.invariant.stands) in
    let begun : c.begun_at.result ≡ base_position (history_of c.args.self.now.past) = c.begun_at.ensures ∙ ap (λ (v : EngineValue). Rattle.ts_model.specs.History.position (begun_by v.past.base)) c.self.view_is ∙ base_of past in
    let is : None ≡ event_refusal (history_of c.args.self.now.past) c.args.event.now = sym c.in-None.is ∙ c.next_refusal.ensures (history_of past) stands begun in
    sym (none_where_allowed (history_of past) c.args.event.now None is)

pub returns-in-Some-clause-refused : goal.returns-in-Some-clause-refused
returns-in-Some-clause-refused c =
    let past = c.args.self.now.past in
    let stands : StandsFor (history_of c.args.self.now.past) c.deref.result.now = subst (λ (v : EngineValue). StandsFor (history_of v.past) c.deref.result.now) c.self.view_is (subst (StandsFor _) (sym c.deref.ensures) c.self.invariant.stands) in
    let begun : c.begun_at.result ≡ base_position (history_of c.args.self.now.past) = c.begun_at.ensures ∙ ap (λ (v : EngineValue). Rattle.ts_model.specs.History.position (begun_by v.past.base)) c.self.view_is ∙ base_of past in
    sym (c.next_refusal.ensures (history_of past) stands begun) ∙ c.in-Some.is
