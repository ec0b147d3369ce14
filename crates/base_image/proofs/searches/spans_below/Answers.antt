use Rattle.std.proofs.Common.{rules}
use Rattle.std.proofs.lemmas.List.Sorted.{IsPartitionPoint-from_clause}
use Rattle.std.proofs.Common.{int_le}
use Rattle.ts_bucket.specs.declared.spans.Span.{Span}
use Rattle.base_image.proofs.Searching.{rising_same}
use Rattle.base_image.proofs.Searching.{parted, place_is, spans_searched}
use Rattle.base_image.proofs.searches.spans_below.Goals as goal

pub returns : goal.returns
returns c =
    let point = IsPartitionPoint-from_clause (λ (s : Span). int_le s.hi c.args.b) _ _ c.partition_point.ensures.partitioned (parted _ _ c.args.spans.now (spans_searched (λ (s : Span). s) c.args.b c.args.spans.now (rising_same c.args.spans.now c.requires.rising))) (λ a r q k. search rules) in
    record { place = place_is (λ (s : Span). int_le s.hi c.args.b) c.args.spans.now c.partition_point.result c.partition_point.ensures.bound point }
