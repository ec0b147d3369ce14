use Rattle.base_image.proofs.MakingLaws.{makes_begin, makes_all}
use Rattle.base_image.proofs.ListLaws.{none_left}
use Rattle.base_image.proofs.relations.roster_of.Goals as goal

pub loop-left-init : goal.loop-left-init
loop-left-init c = rw c.no_relations-made.ensures (makes_begin c.args.events.now)

pub returns : goal.returns
returns c = makes_all c.args.events.now c.loop-left.begun c.loop-left.made c.loop-left.left.now (none_left c.loop-left.left.now c.in_default.len_below) c.loop-left.invariant
