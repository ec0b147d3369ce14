-- The floor's part within the span decides.
use Rattle.std.proofs.Common.{◌≤◌, ◌∙◌, None, ap, subst, sym, arith}
use Rattle.span_map.specs.Edges.{value_from, value_on, piece_count}
use Rattle.span_map.specs.Floors.{run_on, floor_filled}
use Rattle.span_map.proofs.FloorLaws.{floor_filled-between, piece_count-between}
use Rattle.span_map.proofs.floors.assign_above_floor.Goals as goal

pub assign_runs-requires-clause-room : goal.assign_runs-requires-clause-room
assign_runs-requires-clause-room c =
    let few : piece_count c.part_within-value.result.1.now ≤ piece_count c.args.floor.now = subst (λ es. piece_count es ≤ piece_count c.args.floor.now) (sym c.part_within-value.ensures.edges) (piece_count-between c.args.span.lo c.args.span.hi c.args.floor.now) in
    omega arith

pub returns-clause-values : goal.returns-clause-values
returns-clause-values c = λ t.
    let old = value_from None c.args.edges.now.items t in
    c.assign_runs.ensures.values t
    ∙ ap (λ run. floor_filled c.args.span c.args.pos run c.part_within-value.result.1.now old t) (c.run_at_start-run.ensures ∙ ap (run_on c.args.span c.args.pos) c.part_within-value.ensures.value)
    ∙ ap (λ es. floor_filled c.args.span c.args.pos (run_on c.args.span c.args.pos (value_on c.args.span.lo c.args.floor.now)) es old t) c.part_within-value.ensures.edges
    ∙ floor_filled-between c.args.span c.args.pos c.args.floor.now old t c.requires.floor_rising
