use Rattle.std.proofs.Common.{◌≡◌, ◌+◌, ◌-◌, suc, slice_get, option_copied, sym, ap, ◌∙◌, arith}
use Rattle.ts_model.specs.History.{event_at, position}
use Rattle.engine_core.specs.Histories.{begun_by, history_of}
use Rattle.engine_core.specs.Timelines.{TimelineValue}
use Rattle.engine_core.specs.Values.{Past}
use Rattle.engine_core.proofs.EventLaws.{base_of, event_numbered, read_at}
use Rattle.engine_core.proofs.timelines.Timeline.event_after.Goals as goal

pub overflow_sub-position : goal.overflow_sub-position
overflow_sub-position c =
    let past : Past = record { base = c.self.inside.base.now; events = c.self.inside.events.now } in
    let begins : c.self.inside.start ≡ c.args.self.now.start = ap (λ (v : TimelineValue). v.start) c.self.view_is in
    let low = c.self.invariant.low in
    let at = c.requires.low in
    let begun = c.begun_at.ensures in
    let is = base_of past in
    omega (arith, begins, low, at, begun, is)

pub returns : goal.returns
returns c =
    let past : Past = record { base = c.self.inside.base.now; events = c.self.inside.events.now } in
    let begins : c.self.inside.start ≡ c.args.self.now.start = ap (λ (v : TimelineValue). v.start) c.self.view_is in
    let low = c.self.invariant.low in
    let at = c.requires.low in
    let begun = c.begun_at.ensures in
    let is = base_of past in
    let place : suc c.args.position ≡ suc (position (begun_by c.self.inside.base.now)) + (c.args.position - c.begun_at.result) = omega (arith, begins, low, at, begun, is) in
    let got : option_copied c.get.result ≡ slice_get c.self.inside.events.now (c.args.position - c.begun_at.result) = read_at (λ x. x.now) c.get.result c.self.inside.events.now (c.args.position - c.begun_at.result) c.get.ensures.lookup.0 c.get.ensures.lookup.1 in
    record {
      event =
          got
          ∙ sym (event_numbered past (suc c.args.position) (c.args.position - c.begun_at.result) place)
          ∙ ap (λ (v : TimelineValue). event_at (history_of v.past) (suc c.args.position)) c.self.view_is;
    }
