use Rattle.std.proofs.lemmas.Result.{IfOk-weaker}
use Rattle.group_fold.specs.Grouping.{row_parts}
use Rattle.group_fold.specs.Blocks.{IsPutAt}
use Rattle.group_fold.proofs.InBlocks.{keeps_on, put_later}
use Rattle.group_fold.proofs.blocks.put_parts.Goals as goal

pub returns-clause-kept : goal.returns-clause-kept
returns-clause-kept c = keeps_on c.args.blocks.now.items c.make_room.new.blocks.items c.put_last.new.blocks.items c.make_room.ensures.kept c.put_last.ensures.kept

pub returns-clause-put : goal.returns-clause-put
returns-clause-put c =
    let parts = row_parts c.args.aggs.now c.args.row.now in
    IfOk-weaker c.put_last.result (IsPutAt parts c.make_room.new.blocks.items c.put_last.new.blocks.items) (IsPutAt parts c.args.blocks.now.items c.put_last.new.blocks.items)
    (λ p put. put_later parts c.args.blocks.now.items c.make_room.new.blocks.items c.put_last.new.blocks.items p c.make_room.ensures.kept put) c.put_last.ensures.put
