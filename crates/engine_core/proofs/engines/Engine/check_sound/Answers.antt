use Rattle.std.proofs.Common.{◌≡◌, None, sym, ◌∙◌, subst}
use Rattle.event_check.specs.Checks.{call_refusal}
use Rattle.event_check.proofs.CheckLaws.{none_where_allowed}
use Rattle.engine_state.specs.Stands.{StandsFor}
use Rattle.engine_core.specs.Histories.{history_of}
use Rattle.engine_core.specs.Values.{EngineValue}
use Rattle.engine_core.proofs.ActLaws.{as_call}
use Rattle.engine_core.proofs.engines.Engine.check_sound.Goals as goal

pub returns-in-None-clause-allowed : goal.returns-in-None-clause-allowed
returns-in-None-clause-allowed c =
    let h = history_of c.args.self.now.past in
    let stands : StandsFor (history_of c.args.self.now.past) c.deref.result.now = subst (λ (v : EngineValue). StandsFor (history_of v.past) c.deref.result.now) c.self.view_is (subst (StandsFor _) (sym c.deref.ensures) c.self.invariant.stands) in
    let is : None ≡ call_refusal (history_of c.args.self.now.past) c.args.event.now = sym c.in-None.is ∙ c.next_call_refusal.ensures h stands in
    sym (none_where_allowed h c.args.event.now None (is ∙ sym (as_call h c.args.event.now c.requires.sound)))

pub returns-in-Some-clause-refused : goal.returns-in-Some-clause-refused
returns-in-Some-clause-refused c =
    let stands : StandsFor (history_of c.args.self.now.past) c.deref.result.now = subst (λ (v : EngineValue). StandsFor (history_of v.past) c.deref.result.now) c.self.view_is (subst (StandsFor _) (sym c.deref.ensures) c.self.invariant.stands) in
    sym (c.next_call_refusal.ensures (history_of c.args.self.now.past) stands) ∙ c.in-Some.is
