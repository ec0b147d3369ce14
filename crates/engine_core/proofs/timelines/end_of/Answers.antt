use Rattle.std.proofs.Common.{◌+◌, length, arith, sym, ap, ◌∙◌}
use Rattle.engine_core.specs.Histories.{history_of}
use Rattle.engine_core.specs.Values.{Past}
use Rattle.engine_core.proofs.EventLaws.{position_of}
use Rattle.engine_core.proofs.TimelineLaws.{allowed_fits}
use Rattle.engine_core.proofs.timelines.end_of.Goals as goal

pub overflow_add-result : goal.overflow_add-result
overflow_add-result c =
    let past : Past = record { base = c.args.base.now; events = c.args.events.now } in
    let is = position_of past in
    let fits = allowed_fits (history_of past) c.requires.allowed in
    let begun = c.begun_at.ensures in
    omega (arith, is, fits, begun)

pub returns : goal.returns
returns c =
    let past : Past = record { base = c.args.base.now; events = c.args.events.now } in
    record { end = ap (λ n. n + length c.args.events.now) c.begun_at.ensures ∙ sym (position_of past) }
