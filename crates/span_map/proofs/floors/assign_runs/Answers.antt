-- At the end of the floor the last run is closed.
use Rattle.std.proofs.Common.{◌≡◌, ◌≤◌, ◌∙◌, None, ap, sym, length, arith}
use Rattle.std.specs.Int.{w64, cast_signed, cast_unsigned}
use Rattle.std.proofs.lemmas.Int.{ints}
use Rattle.std.proofs.lemmas.List.{drop_all}
use Rattle.ts_bucket.specs.Spans.{SpanValue}
use Rattle.span_map.specs.Edges.{value_from}
use Rattle.span_map.specs.Floors.{run_filled, floor_filled}
use Rattle.span_map.proofs.floors.assign_runs.Goals as goal

pub returns-clause-values : goal.returns-clause-values
returns-clause-values c = λ t.
    let high : c.span.inside.hi ≡ c.args.span.hi = ap (λ (s : SpanValue). s.hi) c.span.view_is in
    let hi : cast_signed w64 (cast_unsigned w64 c.span.inside.hi) ≡ c.args.span.hi = omega (arith, ints) in
    let at_end : length c.args.floor.now ≤ c.loop-edge.edge-index = omega arith in
    let now = value_from None c.loop-edge.edges.items t in
    c.close_run.ensures.values t
    ∙ ap (λ end. run_filled c.loop-edge.run end c.args.pos now t) hi
    ∙ sym (ap (λ es. floor_filled c.args.span c.args.pos c.loop-edge.run es now t) (drop_all c.loop-edge.edge-index c.args.floor.now at_end))
    ∙ c.loop-edge.invariant.values t
