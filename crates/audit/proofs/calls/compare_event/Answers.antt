use Rattle.std.proofs.Common.{◌≡◌, ◌+◌, suc, Some, arith, sym, ap, ◌∙◌}
use Rattle.std.proofs.lemmas.Bool.{true≢false}
use Rattle.std.proofs.lemmas.Option.{same_Some}
use Rattle.ts_model.specs.History.{event_at, prefix}
use Rattle.engine_core.specs.Histories.{history_of}
use Rattle.engine_core.proofs.TimelineLaws.{allowed_fits, event_within}
use Rattle.audit.proofs.CallLaws.{came_made, came_otherwise}
use Rattle.audit.proofs.SameEvents.{same_event}
use Rattle.audit.proofs.calls.compare_event.Goals as goal

pub effect_after-requires-clause-high : goal.effect_after-requires-clause-high
effect_after-requires-clause-high c =
    let within = event_within (history_of c.args.timeline.now.past) (suc c.args.at) c.in-Some.next.now (sym c.in-Some.ensures.event) in
    omega (arith, within)

pub overflow_add-result : goal.overflow_add-result
overflow_add-result c =
    let all = history_of c.args.timeline.now.past in
    let within = event_within all (suc c.args.at) c.in-Some.next.now (sym c.in-Some.ensures.event) in
    let fits = allowed_fits all c.length-end.ensures.allowed in
    omega (arith, within, fits)

pub returns-then-eq : goal.returns-then-eq
returns-then-eq c =
    let all = history_of c.args.timeline.now.past in
    let same : c.in-Some.next.now ≡ c.args.event.now = (same_event c.in-Some.next.now c.args.event.now).0 (sym c.eq.ensures ∙ c.if-eq.true) in
    let next : event_at (history_of c.args.timeline.now.past) (suc c.args.at) ≡ Some c.args.event.now = sym c.in-Some.ensures.event ∙ ap Some same in
    record { came = came_made (prefix all c.args.at) c.args.event.now all c.args.at (c.args.at + 1) c.effect_after.result c.requires.free next (c.effect_after.ensures.effect c.args.event.now next) (omega arith) }

pub returns-else-eq : goal.returns-else-eq
returns-else-eq c =
    let all = history_of c.args.timeline.now.past in
    record {
      came = came_otherwise (prefix all c.args.at) c.args.event.now all c.args.at c.requires.free
          (λ is. true≢false (sym ((same_event c.in-Some.next.now c.args.event.now).1 (same_Some c.in-Some.next.now c.args.event.now (c.in-Some.ensures.event ∙ is))) ∙ sym c.eq.ensures ∙ c.if-eq.false));
    }
