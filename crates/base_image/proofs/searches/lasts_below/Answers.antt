use Rattle.std.proofs.Common.{rules}
use Rattle.std.proofs.lemmas.List.Sorted.{IsPartitionPoint-from_clause}
use Rattle.std.proofs.Common.{int_le}
use Rattle.ts_model.specs.declared.images.SavedLast.{SavedLast}
use Rattle.base_image.proofs.Searching.{parted, place_is, spans_searched}
use Rattle.base_image.proofs.searches.lasts_below.Goals as goal

pub returns-clause-place : goal.returns-clause-place
returns-clause-place c =
    let point = IsPartitionPoint-from_clause (λ (l : SavedLast). int_le l.span.hi c.args.b) _ _ c.partition_point.ensures.partitioned (parted _ _ c.args.lasts.now (spans_searched (λ (l : SavedLast). l.span) c.args.b c.args.lasts.now c.requires.rising)) (λ a r q k. search rules) in
    place_is (λ (l : SavedLast). int_le l.span.hi c.args.b) c.args.lasts.now c.partition_point.result c.partition_point.ensures.bound point
