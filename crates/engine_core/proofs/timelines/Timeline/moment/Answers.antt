use Rattle.std.proofs.Common.{◌≡◌, ◌+◌, ◌-◌, ◌<◌, length, refl, ap, subst, arith}
use Rattle.std.proofs.lemmas.Option.{slice_get_read}
use Rattle.ts_model.specs.History.{position, prefix}
use Rattle.engine_core.specs.Histories.{history_of}
use Rattle.engine_core.specs.Timelines.{IsMomentOf, TimelineValue}
use Rattle.engine_core.specs.Values.{Past}
use Rattle.engine_core.proofs.timelines.Timeline.moment.Goals as goal

pub returns : goal.returns
returns c =
    let past : Past = record { base = c.self.inside.base.now; events = c.self.inside.events.now } in
    let begins : c.self.inside.start ≡ c.args.self.now.start = ap (λ (v : TimelineValue). v.start) c.self.view_is in
    let same : position (history_of past) ≡ position (history_of c.args.self.now.past) = ap (λ (v : TimelineValue). position (history_of v.past)) c.self.view_is in
    let low = c.requires.low in
    let high = c.requires.high in
    let all = c.self.invariant.all in
    let ends = c.self.invariant.ends in
    let within : c.args.position - c.self.inside.start < length c.self.inside.moments.items = omega (arith, begins, same, low, high, all, ends) in
    let got = slice_get_read c.self.inside.moments.items (length c.self.inside.moments.items) (c.args.position - c.self.inside.start) c.index.result.now refl within c.index.ensures in
    let here = c.self.invariant.moments (c.args.position - c.self.inside.start) c.index.result.now got in
    let at : c.self.inside.start + (c.args.position - c.self.inside.start) ≡ c.args.position = omega (arith, begins, low) in
    record {
      moment =
          subst (λ (v : TimelineValue). IsMomentOf (prefix (history_of v.past) c.args.position) c.index.result.now) c.self.view_is
          (subst (λ p. IsMomentOf (prefix (history_of past) p) c.index.result.now) at here);
    }
