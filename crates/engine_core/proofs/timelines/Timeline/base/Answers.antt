use Rattle.std.proofs.Common.{◌≡◌, arith, ap, ◌∙◌}
use Rattle.ts_model.specs.History.{position}
use Rattle.engine_core.specs.Histories.{begun_by}
use Rattle.engine_core.specs.Timelines.{TimelineValue}
use Rattle.engine_core.specs.Values.{Past}
use Rattle.engine_core.proofs.EventLaws.{base_of}
use Rattle.engine_core.proofs.timelines.Timeline.base.Goals as goal

pub returns-clause-base : goal.returns-clause-base
returns-clause-base c = c.begun_at.ensures ∙ ap (λ (v : TimelineValue). position (begun_by v.past.base)) c.self.view_is ∙ base_of c.args.self.now.past

pub returns-clause-low : goal.returns-clause-low
returns-clause-low c =
    let past : Past = record { base = c.self.inside.base.now; events = c.self.inside.events.now } in
    let begun = c.begun_at.ensures in
    let is = base_of past in
    let low = c.self.invariant.low in
    let begins : c.self.inside.start ≡ c.args.self.now.start = ap (λ (v : TimelineValue). v.start) c.self.view_is in
    omega (arith, begun, is, low, begins)
