use Rattle.std.proofs.Common.{◌∙◌, arith}
use Rattle.group_fold.proofs.Parts.{joined_all, joined_more}
use Rattle.group_fold.proofs.joins.merge_parts.Goals as goal

pub loop-k-preserved : goal.loop-k-preserved
loop-k-preserved c =
    c.in_ok-push.ensures.items
    ∙ joined_more c.loop-k.k c.args.mine.now c.args.theirs.now c.loop-k.parts.items c.index-mine-k.result c.index-theirs-k.result c.merge.new.self
    c.requires c.loop-k-test.true c.loop-k.invariant c.index-mine-k.is c.index-theirs-k.is c.merge.ensures.merged

pub returns : goal.returns
returns c = joined_all c.loop-k.k c.args.mine.now c.args.theirs.now c.loop-k.parts.items c.requires c.loop-k.invariant (omega arith)
