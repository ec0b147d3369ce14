use Rattle.std.proofs.Common.{◌≡◌, vec_len, vec_capacity}
use Rattle.span_map.proofs.ChangeLaws.{IsHalfway}
use Rattle.span_map.proofs.edges.change_between.Given as goal

abbrev pub invariant-loop-i : goal.invariant-loop-i
invariant-loop-i l = record {
  halfway : IsHalfway l.fn.span l.change l.first l.initial.edges.items l.kept l.last l.i l.edges.items;
  len : vec_len l.edges ≡ vec_len l.initial.edges;
  capacity : vec_capacity l.edges ≡ vec_capacity l.initial.edges;
}
