use Rattle.std.proofs.Common.{rules}
use Rattle.std.specs.Ordering.{is_lt}
use Rattle.std.proofs.lemmas.List.Sorted.{IsPartitionPoint-from_clause}
use Rattle.partial_agg.specs.declared.groups.Group.{Group}
use Rattle.partial_agg.specs.Groups.{group_cmp}
use Rattle.group_fold.proofs.Seams.{before_all, before_none, lesser_parted}
use Rattle.group_fold.proofs.joins.count_before.Goals as goal

pub returns-in-empty-clause-before : goal.returns-in-empty-clause-before
returns-in-empty-clause-before c = before_none _ c.args.others.now c.in-empty.len_below

pub returns-in-len1-up-clause-before : goal.returns-in-len1-up-clause-before
returns-in-len1-up-clause-before c =
    let point = IsPartitionPoint-from_clause (λ (g : Group). is_lt (group_cmp g c.next-item.result)) _ _ c.partition_point.ensures.partitioned (lesser_parted c.next-item.result c.args.groups.now c.requires.mine) (λ a r q k. search rules) in
    before_all c.args.groups.now c.args.others.now c.next-item.result c.partition_point.result c.in-len1-up.len_at_least c.next-item.is c.requires.theirs c.partition_point.ensures.bound point
