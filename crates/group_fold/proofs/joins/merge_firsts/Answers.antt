use Rattle.group_fold.proofs.Merges.{merged_taken}
use Rattle.group_fold.proofs.joins.merge_firsts.Goals as goal

pub returns-in_ok-merge_groups-in-Some-Some-clause-next : goal.returns-in_ok-merge_groups-in-Some-Some-clause-next
returns-in_ok-merge_groups-in-Some-Some-clause-next c =
    (merged_taken c.in-Some-Some.group c.in-Some-Some.other c.in_ok-merge_groups-in-Some-Some.field-0 c.args.mine.now.items c.pop_front.new.self.items c.args.theirs.now.items c.pop_front-2.new.self.items
    c.in-Some-Some.ensures.items c.in-Some-Some.ensures'.items c.requires.both c.requires.fit c.in_ok-merge_groups-in-Some-Some.ensures).0

pub returns-in_ok-merge_groups-in-Some-Some-clause-kept : goal.returns-in_ok-merge_groups-in-Some-Some-clause-kept
returns-in_ok-merge_groups-in-Some-Some-clause-kept c =
    (merged_taken c.in-Some-Some.group c.in-Some-Some.other c.in_ok-merge_groups-in-Some-Some.field-0 c.args.mine.now.items c.pop_front.new.self.items c.args.theirs.now.items c.pop_front-2.new.self.items
    c.in-Some-Some.ensures.items c.in-Some-Some.ensures'.items c.requires.both c.requires.fit c.in_ok-merge_groups-in-Some-Some.ensures).1
