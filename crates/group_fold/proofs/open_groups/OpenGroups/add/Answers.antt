use Rattle.std.proofs.Common.{◌<◌, length, ap, arith}
use Rattle.std.proofs.lemmas.List.{length-map}
use Rattle.group_fold.specs.Blocks.{shown_group}
use Rattle.group_fold.proofs.InBlocks.{fits_block, room_in_block, shown_grown, stand_grown}
use Rattle.group_fold.proofs.open_groups.OpenGroups.add.Goals as goal

pub add_row-requires-clause-within : goal.add_row-requires-clause-within
add_row-requires-clause-within c =
    let low : c.args.at < length c.self.inside.heads.items = omega (arith, c.requires.within, ap length c.self.view_is, length-map c.self.inside.heads.items (shown_group c.self.inside.each c.self.inside.blocks.items)) in
    fits_block c.self.inside.each c.self.inside.blocks.items c.self.inside.heads.items c.args.at c.index.result.now c.index_mut.result.now c.self.invariant low c.index.ensures c.index_mut.ensures.value
    c.args.plan.now c.args.row.now c.items.result.now c.items.ensures.items c.args.self.now c.self.view_is c.requires.room

pub add_row-requires-clause-room : goal.add_row-requires-clause-room
add_row-requires-clause-room c =
    let low : c.args.at < length c.self.inside.heads.items = omega (arith, c.requires.within, ap length c.self.view_is, length-map c.self.inside.heads.items (shown_group c.self.inside.each c.self.inside.blocks.items)) in
    room_in_block c.self.inside.each c.self.inside.blocks.items c.self.inside.heads.items c.args.at c.index.result.now c.index_mut.result.now c.self.invariant low c.index.ensures c.index_mut.ensures.value
    c.args.plan.now c.args.row.now c.items.result.now c.items.ensures.items c.args.self.now c.self.view_is c.requires.room

pub invariant_of-self : goal.invariant_of-self
invariant_of-self c =
    let low : c.args.at < length c.self.inside.heads.items = omega (arith, c.requires.within, ap length c.self.view_is, length-map c.self.inside.heads.items (shown_group c.self.inside.each c.self.inside.blocks.items)) in
    stand_grown c.self.inside.each c.self.inside.blocks.items c.self.inside.heads.items c.args.at c.index.result.now c.index_mut.result.now c.self.invariant low c.index.ensures c.index_mut.ensures.value
    c.args.plan.now c.args.row.now c.items.result.now c.items.ensures.items c.args.self.now c.self.view_is c.requires.room c.add_row.new.self c.add_row.ensures

pub returns : goal.returns
returns c d =
    let low : c.args.at < length c.self.inside.heads.items = omega (arith, c.requires.within, ap length c.self.view_is, length-map c.self.inside.heads.items (shown_group c.self.inside.each c.self.inside.blocks.items)) in
    shown_grown c.self.inside.each c.self.inside.blocks.items c.self.inside.heads.items c.args.at c.index.result.now c.index_mut.result.now c.self.invariant low c.index.ensures c.index_mut.ensures.value
    c.args.plan.now c.args.row.now c.items.result.now c.items.ensures.items c.args.self.now c.self.view_is c.requires.room c.add_row.new.self c.add_row.ensures d
