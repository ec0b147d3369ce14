use Rattle.std.proofs.Common.{◌≡◌, true, ◌∷◌, ◌++◌, [], sym, ap, ◌∙◌, subst}
use Rattle.std.specs.Arc.{arc_value}
use Rattle.std.proofs.lemmas.Bool.{and_from}
use Rattle.ts_model.specs.Allowed.{all_allowed}
use Rattle.ts_model.specs.History.{◌▸◌}
use Rattle.engine_state.specs.Stands.{StandsFor}
use Rattle.engine_core.specs.Histories.{history_of, with_event}
use Rattle.engine_core.specs.States.{IsStateOf}
use Rattle.engine_core.specs.Values.{EngineValue, Past}
use Rattle.engine_core.proofs.StoreLaws.{history_push}
use Rattle.engine_core.proofs.engines.Engine.install.Goals as goal

pub invariant_of-self : goal.invariant_of-self
invariant_of-self c =
    let old = c.args.self.now.past in
    let event = c.args.prepared.event in
    let same : record { base = c.self.inside.base; events = c.self.inside.events.items } ≡ c.args.self.now.past = ap (λ (v : EngineValue). v.past) c.self.view_is in
    let pushed : record { base = c.self.inside.base; events = c.push_reserved.new.self.items } ≡ with_event c.args.self.now.past c.args.prepared.event =
    ap (λ es. record { base = c.self.inside.base; events = es }) (c.push_reserved.ensures.items ∙ (λ i. c.self.inside.events.items ++ (c.into_parts-event.ensures.event i ∷ []))) ∙ ap (λ (p : Past). with_event p c.args.prepared.event) same in
    let history_is = ap history_of pushed ∙ history_push old event in
    let stands : StandsFor (history_of c.args.self.now.past ▸ c.args.prepared.event) (arc_value c.into_parts-event.result.1) =
    subst (StandsFor (history_of old ▸ event)) (sym c.into_parts-event.ensures.state) c.requires.prepared.stands in
    let before : all_allowed (history_of c.args.self.now.past) ≡ true = subst (λ (p : Past). all_allowed (history_of p) ≡ true) same c.self.invariant.allowed in
    subst (λ h. IsStateOf h (arc_value c.into_parts-event.result.1)) (sym history_is)
    (record { allowed = and_from _ _ before c.requires.prepared.allowed; stands = stands })
