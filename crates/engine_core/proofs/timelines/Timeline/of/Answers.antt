use Rattle.std.proofs.Common.{◌≡◌, ◌<◌, ◌≤◌, ◌++◌, ◌∷◌, [], nat_le, cond, length, sym, ap, ◌∙◌, subst, arith}
use Rattle.ts_model.specs.History.{position}
use Rattle.ts_model.proofs.AllowedLaws.{allowed_begins}
use Rattle.ts_model.proofs.HistoryLaws.{begins_followed}
use Rattle.engine_state.specs.Stands.{StandsFor, StateValue}
use Rattle.engine_core.specs.Histories.{begun_by}
use Rattle.engine_core.specs.Timelines.{IsMomentOf}
use Rattle.engine_core.specs.Values.{MomentValue, Past}
use Rattle.engine_core.proofs.EventLaws.{base_of}
use Rattle.engine_core.proofs.TimelineLaws.{AreKept, first_next, kept_none, next_allowed, next_kept, timeline_made, up_to}
use Rattle.engine_core.proofs.timelines.Timeline.of.Goals as goal

pub initial_state-requires : goal.initial_state-requires
initial_state-requires g c = record { allowed = allowed_begins (begins_followed (begun_by c.args.base.now) c.args.events.now) c.requires.allowed }

pub loop-event-init : goal.loop-event-init
loop-event-init g c =
    let past : Past = record { base = c.args.base.now; events = c.args.events.now } in
    let low = c.requires.low in
    let is = base_of past in
    let begun : position (begun_by c.args.base.now) ≤ c.args.start = omega (arith, low, is) in
    record {
      moment = c.in_ok-moment.ensures.opening;
      kept = subst (AreKept past c.args.start 0) (sym c.new-moments.ensures.items) (kept_none past c.args.start begun);
    }

pub next-requires-clause-follows : goal.next-requires-clause-follows
next-requires-clause-follows g c κs within =
    let past : Past = record { base = c.args.base.now; events = c.args.events.now } in
    let i = c.loop-event.event-index in
    let less : c.loop-event.event-index < length c.args.events.now = omega arith in
    let state_is : c.deref.result.now ≡ c.loop-event.moment.state = c.deref.ensures ∙ ap (λ (v : MomentValue). v.state) c.moment.view_is in
    record {
      history = up_to past i;
      stands = subst (StandsFor (up_to past i)) (sym state_is) c.loop-event.invariant.moment.stands;
      fits = next_allowed past i c.event-item.result c.requires.allowed less c.event-item.is;
    }

pub loop-event-preserved : goal.loop-event-preserved
loop-event-preserved g c =
    let past : Past = record { base = c.args.base.now; events = c.args.events.now } in
    let i = c.loop-event.event-index in
    let e = c.event-item.result in
    let less : c.loop-event.event-index < length c.args.events.now = omega arith in
    let state_is : c.deref.result.now ≡ c.loop-event.moment.state = c.deref.ensures ∙ ap (λ (v : MomentValue). v.state) c.moment.view_is in
    let stands : StandsFor (up_to past i) c.deref.result.now = subst (StandsFor (up_to past i)) (sym state_is) c.loop-event.invariant.moment.stands in
    let fits = next_allowed past i e c.requires.allowed less c.event-item.is in
    let at : c.position.result ≡ c.loop-event.moment.state.position = c.position.ensures.position ∙ ap (λ (s : StateValue). s.position) c.deref-in-loop-event.ensures ∙ ap (λ (v : MomentValue). v.state.position) c.moment.view_is in
    let new_is : c.keep.new.moments.items ≡ cond (nat_le c.args.start c.position.result) (c.loop-event.moments.items ++ c.loop-event.moment ∷ []) c.loop-event.moments.items = cc (c.in_ok-keep.ensures.kept, c.moment.view_is) in
    record {
      moment = subst (λ h. IsMomentOf h c.in_ok-after.after) (sym (first_next past i e less c.event-item.is)) (c.in_ok-after.ensures.next (up_to past i) stands fits);
      kept = next_kept past c.args.start i c.loop-event.moments.items c.loop-event.moment c.keep.new.moments.items c.position.result c.loop-event.invariant.kept less c.loop-event.invariant.moment at new_is;
    }

pub invariant_of-result : goal.invariant_of-result
invariant_of-result g c =
    let past : Past = record { base = c.args.base.now; events = c.args.events.now } in
    let i = c.loop-event.event-index in
    let whole : c.loop-event.event-index ≡ length c.args.events.now = omega arith in
    let at : c.position-end.result ≡ c.loop-event.moment.state.position = c.position-end.ensures.position ∙ ap (λ (s : StateValue). s.position) c.deref-2.ensures ∙ ap (λ (v : MomentValue). v.state.position) c.moment-2.view_is in
    let new_is : c.push.new.self.items ≡ c.loop-event.moments.items ++ c.loop-event.moment ∷ [] = cc (c.in_ok-push.ensures.items, c.moment-2.view_is) in
    timeline_made past c.args.start c.position-end.result i c.loop-event.moments.items c.loop-event.moment c.push.new.self.items c.requires.allowed c.requires.low c.requires.high whole c.loop-event.invariant.kept c.loop-event.invariant.moment at new_is
