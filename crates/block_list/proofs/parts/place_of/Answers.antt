-- The part before the place that the search finds is the last that begins at or before the item.
use Rattle.std.proofs.Common.{◌≡◌, ◌+◌, ◌-◌, ◌<◌, true, false, nat_le, [], length, take, subst, arith, rules}
use Rattle.std.specs.List.Sorted.{IsPartitionPoint}
use Rattle.std.proofs.lemmas.List.Sorted.{IsPartitionPoint-from_clause}
use Rattle.block_list.specs.Blocks.{PartValue, items_of}
use Rattle.block_list.proofs.PartLaws.{parted, found_some, found_from, found_below}
use Rattle.block_list.proofs.parts.place_of.Given as given
use Rattle.block_list.proofs.parts.place_of.Goals as goal
use Rattle.block_list.proofs.parts.place_of.Goals.{After-partition_point}

point : (g : given.Over) (c : After-partition_point g) → IsPartitionPoint (λ (b : PartValue g.row.S-Item.Denot). nat_le b.start c.args.i ≡ true) (λ b. nat_le b.start c.args.i ≡ false) c.args.parts.now c.partition_point.result
point g c = IsPartitionPoint-from_clause (λ (b : PartValue g.row.S-Item.Denot). nat_le b.start c.args.i) _ _ c.partition_point.ensures.partitioned (parted c.args.parts.now c.args.i c.requires.parts) (λ a r q k. search rules)

pub overflow_sub-result : goal.overflow_sub-result
overflow_sub-result g c = found_some c.args.parts.now c.args.i c.partition_point.result c.requires.parts c.requires.within c.partition_point.ensures.bound (point g c)

pub returns-clause-from : goal.returns-clause-from
returns-clause-from g c = found_from c.args.parts.now c.args.i c.partition_point.result (record { start = 0; items = [] }) c.requires.parts (found_some c.args.parts.now c.args.i c.partition_point.result c.requires.parts c.requires.within c.partition_point.ensures.bound (point g c)) c.partition_point.ensures.bound (point g c)

pub returns-clause-below : goal.returns-clause-below
returns-clause-below g c =
    let some = found_some c.args.parts.now c.args.i c.partition_point.result c.requires.parts c.requires.within c.partition_point.ensures.bound (point g c) in
    let back : c.partition_point.result ≡ c.partition_point.result - 1 + 1 = omega arith in
    subst (λ n. c.args.i < length (items_of (take n c.args.parts.now))) back (found_below c.args.parts.now c.args.i c.partition_point.result (record { start = 0; items = [] }) c.requires.parts c.requires.within c.partition_point.ensures.bound (point g c))
