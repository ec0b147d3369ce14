use Rattle.std.proofs.Common.{rules}
use Rattle.std.proofs.lemmas.List.Sorted.{IsPartitionPoint-from_clause}
use Rattle.std.proofs.Common.{nat_lt}
use Rattle.ts_model.specs.declared.refreshes.Waiting.{Waiting}
use Rattle.base_image.proofs.Searching.{parted, place_is, cuts_searched}
use Rattle.base_image.proofs.searches.cuts_below.Goals as goal

pub returns : goal.returns
returns c =
    let point = IsPartitionPoint-from_clause (λ (w : Waiting). nat_lt w.cut c.args.cut) _ _ c.partition_point.ensures.partitioned (parted _ _ c.args.waiting.now (cuts_searched c.args.cut c.args.waiting.now c.requires.rising)) (λ a r q k. search rules) in
    record { place = place_is (λ (w : Waiting). nat_lt w.cut c.args.cut) c.args.waiting.now c.partition_point.result c.partition_point.ensures.bound point }
