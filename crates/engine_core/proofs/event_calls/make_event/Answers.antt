use Rattle.std.proofs.Common.{◌≡◌, sym, ap, ◌∙◌, subst}
use Rattle.engine_core.specs.Effects.{IsPreparedFor, effect_of}
use Rattle.engine_core.specs.Acts.{making_event}
use Rattle.engine_core.specs.Histories.{history_of, with_event}
use Rattle.engine_core.proofs.ActLaws.{free_where_allowed}
use Rattle.engine_core.proofs.StoreLaws.{does_made, does_without_memory}
use Rattle.engine_core.proofs.event_calls.make_event.Goals as goal

pub returns-in-Err : goal.returns-in-Err
returns-in-Err c = does_without_memory (making_event c.args.event) c.args.engine.now.past c.prepare.new.self.past c.prepare.ensures.past

pub install-requires-clause-prepared : goal.install-requires-clause-prepared
install-requires-clause-prepared c = subst (λ past. IsPreparedFor (history_of past) c.in-Ok.prepared) (sym c.prepare.ensures.past) (c.in-Ok.ensures {u = tt}).prepared

pub returns-in-Ok : goal.returns-in-Ok
returns-in-Ok c =
    let event_is = (c.in-Ok.ensures {u = tt}).event in
    let pushed : c.install.new.self.past ≡ with_event c.args.engine.now.past c.args.event = c.install.ensures.past ∙ (λ i. with_event (c.prepare.ensures.past i) (event_is i)) in
    let told = c.effect-effect.ensures.effect (history_of c.args.engine.now.past) (c.in-Ok.ensures {u = tt}).prepared ∙ ap (effect_of (history_of c.args.engine.now.past)) event_is in
    does_made c.args.engine.now.past c.install.new.self.past c.args.event c.effect-effect.result
    (free_where_allowed (history_of c.args.engine.now.past) c.args.event c.requires.allowed) pushed told
