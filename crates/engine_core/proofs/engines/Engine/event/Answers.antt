use Rattle.std.proofs.Common.{◌≡◌, ◌+◌, ◌≤◌, List, suc, slice_get, option_copied, sym, ap, ◌∙◌, subst}
use Rattle.ts_model.specs.declared.events.Event.{Event}
use Rattle.ts_model.specs.History.{position}
use Rattle.engine_core.specs.Histories.{begun_by}
use Rattle.engine_core.specs.Values.{EngineValue}
use Rattle.engine_core.proofs.EventLaws.{event_numbered, event_unnumbered, read_at}
use Rattle.engine_core.proofs.engines.Engine.event.Goals as goal

pub returns-in-Some : goal.returns-in-Some
returns-in-Some c =
    let place = c.in-Some.place in
    let begun : c.begun_at.result ≡ position (begun_by c.args.self.now.past.base) = c.begun_at.ensures ∙ ap (λ (v : EngineValue). position (begun_by v.past.base)) c.self.view_is in
    let events : c.deref.result.now ≡ c.args.self.now.past.events = c.deref.ensures.value ∙ ap (λ (v : EngineValue). v.past.events) c.self.view_is in
    let number : c.args.number ≡ suc (position (begun_by c.args.self.now.past.base)) + c.in-Some.place = c.in-Some.ensures {u = tt} ∙ ap (λ n. suc n + c.in-Some.place) begun in
    let got : option_copied c.get.result ≡ slice_get c.deref.result.now c.in-Some.place = read_at (λ x. x.now) c.get.result c.deref.result.now c.in-Some.place c.get.ensures.lookup.0 c.get.ensures.lookup.1 in
    record { event = got ∙ ap (λ (es : List Event). slice_get es c.in-Some.place) events ∙ sym (event_numbered c.args.self.now.past c.args.number place number) }

pub returns-in-None : goal.returns-in-None
returns-in-None c =
    let begun : c.begun_at.result ≡ position (begun_by c.args.self.now.past.base) = c.begun_at.ensures ∙ ap (λ (v : EngineValue). position (begun_by v.past.base)) c.self.view_is in
    let low : c.args.number ≤ position (begun_by c.args.self.now.past.base) = subst (λ n. c.args.number ≤ n) begun (c.in-None.ensures {u = tt}) in
    record { event = sym (event_unnumbered c.args.self.now.past c.args.number low) }
