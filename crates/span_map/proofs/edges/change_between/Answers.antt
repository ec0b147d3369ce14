-- An edge either stays, at the place after the last one kept, or is removed.
use Rattle.std.proofs.Common.{◌≡◌, ◌<◌, ◌∙◌, Vec, Global, ap, length, get_or, vec_len, vec_capacity, arith}
use Rattle.span_map.specs.declared.edges.Edge.{Edge}
use Rattle.span_map.specs.Changes.{edge_changed}
use Rattle.span_map.proofs.ChangeLaws.{halfway_kept, halfway_skipped, equal_values}
use Rattle.span_map.proofs.edges.change_between.Goals as goal
use Rattle.span_map.proofs.edges.change_between.Goals.{Joined-ne, then-ne, else-ne}

-- the edge read is changed
read : (c : Joined-ne) → c.changed_edge-edge.result ≡ edge_changed c.args.span c.args.change (get_or c.loop-i.edges.items c.loop-i.i c.index.result.now)
read c = c.changed_edge-edge.ensures ∙ ap (edge_changed c.args.span c.args.change) c.index.ensures

pub loop-i-preserved : goal.loop-i-preserved
loop-i-preserved c =
    let within : c.loop-i.i < length c.loop-i.edges.items = omega arith in
    elim c.if-ne.branch [
      | then-ne w ↦ record {
        halfway = halfway_kept c.args.span c.args.change c.args.first c.args.edges.now.items c.loop-i.kept c.loop-i.last c.loop-i.i c.loop-i.edges.items c.changed_edge-edge.result c.index.result.now c.if-ne.kept c.if-ne.last c.if-ne.edges.items (ap (λ (v : Vec Edge Global). v.items) w.edges-is) w.kept-is w.last-is within (read c) c.loop-i.invariant.halfway;
        len = ap vec_len w.edges-is ∙ c.loop-i.invariant.len;
        capacity = ap vec_capacity w.edges-is ∙ c.loop-i.invariant.capacity;
      }
      | else-ne w ↦ record {
        halfway = halfway_skipped c.args.span c.args.change c.args.first c.args.edges.now.items c.loop-i.kept c.loop-i.last c.loop-i.i c.loop-i.edges.items c.changed_edge-edge.result c.index.result.now c.if-ne.kept c.if-ne.last c.if-ne.edges.items (ap (λ (v : Vec Edge Global). v.items) w.edges-is) w.kept-is w.last-is within (read c) (equal_values _ _ c.ne.result c.ne.ensures w.if-ne.false) c.loop-i.invariant.halfway;
        len = ap vec_len w.edges-is ∙ c.loop-i.invariant.len;
        capacity = ap vec_capacity w.edges-is ∙ c.loop-i.invariant.capacity;
      }
    ]
