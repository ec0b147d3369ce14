use Rattle.std.proofs.Common.{◌≡◌, ◌+◌, ◌*◌, ◌≤◌, ℤ, take, drop, None, vec_len, vec_capacity}
use Rattle.span_map.specs.Edges.{IsRising, value_from, piece_count}
use Rattle.span_map.specs.Floors.{floor_filled}
use Rattle.span_map.proofs.floors.assign_runs.Given as goal

abbrev pub invariant-loop-edge : goal.invariant-loop-edge
invariant-loop-edge l = record {
  rising : IsRising l.edges.items;
  len : vec_len l.edges ≤ vec_len l.initial.edges + 2 * piece_count (take l.edge-index l.floor);
  capacity : vec_capacity l.edges ≡ vec_capacity l.initial.edges;
  values : (t : ℤ) → floor_filled l.span l.pos l.run (drop l.edge-index l.floor) (value_from None l.edges.items t) t ≡ floor_filled l.span l.pos l.fn.start l.floor (value_from None l.initial.edges.items t) t;
}
