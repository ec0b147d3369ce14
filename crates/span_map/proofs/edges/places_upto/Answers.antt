-- The search splits the edges by a test that lower ones pass if higher ones do.
use Rattle.std.proofs.Common.{Bool, ◌∙◌, int_le, arith, rules}
use Rattle.std.proofs.lemmas.Int.{ints}
use Rattle.std.proofs.lemmas.List.Sorted.{IsPartitionPoint-from_clause}
use Rattle.std.specs.List.Sorted.{IsPartitionedBy}
use Rattle.span_map.specs.declared.edges.Edge.{Edge}
use Rattle.span_map.proofs.Places.{parted, place_from_point, place_where-upto}
use Rattle.span_map.proofs.edges.places_upto.Goals as goal

pub returns-clause-place : goal.returns-clause-place
returns-clause-place c =
    let passes : Edge → Bool = λ e. int_le e.from c.args.t in
    let split : IsPartitionedBy passes c.args.edges.now = parted passes c.args.edges.now (λ a b l h. grind (arith, ints)) c.requires in
    let point = IsPartitionPoint-from_clause passes _ _ c.partition_point.ensures.partitioned split (λ a r q k. search rules) in
    place_from_point passes c.args.edges.now c.partition_point.result c.partition_point.ensures.bound point ∙ place_where-upto c.args.t c.args.edges.now
