use Rattle.std.proofs.Common.{◌≡◌, List, ap, sym, subst, rules}
use Rattle.std.specs.Int.{w64}
use Rattle.std.specs.Int.RustNames.{FitsSigned}
use Rattle.std.specs.List.{insert}
use Rattle.std.specs.Prelude.{OnOk}
use Rattle.std.proofs.lemmas.Int.{to_z-of_z}
use Rattle.std.proofs.lemmas.Result.{on_ok_weaker}
use Rattle.partial_agg.specs.declared.groups.Group.{Group}
use Rattle.group_fold.specs.Grouping.{row_at, row_group}
use Rattle.group_fold.specs.Gathering.{HasRoom, IsAt, Takes}
use Rattle.group_fold.proofs.Gathers.{room_each, takes_alone, takes_grown}
use Rattle.group_fold.proofs.group_table.GroupTable.take_row.Goals as goal

pub add-requires-clause-room : goal.add-requires-clause-room
add-requires-clause-room c =
    let room : HasRoom 1 c.args.plan.now c.note_if_astray.new.self.groups = subst (HasRoom 1 c.args.plan.now) (sym c.in_ok-note_if_astray.ensures) c.requires.room in
    room_each c.args.plan.now c.note_if_astray.new.self.groups c.in-Ok.at c.in-Ok.ensures.found.within room

pub returns-in-Ok : goal.returns-in-Ok
returns-in-Ok c =
    let fits : FitsSigned w64 c.args.start = search rules in
    let place : IsAt (row_group c.args.plan.now c.args.row.now) c.note_if_astray.new.self.groups c.in-Ok.at =
    rw (to_z-of_z w64 c.args.start fits, c.requires.start) at c.in-Ok.ensures.found in
    let room : HasRoom 1 c.args.plan.now c.note_if_astray.new.self.groups = subst (HasRoom 1 c.args.plan.now) (sym c.in_ok-note_if_astray.ensures) c.requires.room in
    subst (λ (old : List Group). Takes c.args.plan.now c.args.row.now old c.add.new.self) c.in_ok-note_if_astray.ensures
    (takes_grown c.args.plan.now c.args.row.now c.note_if_astray.new.self.groups c.add.new.self c.in-Ok.at place (c.add.ensures (row_group c.args.plan.now c.args.row.now)) room)

pub returns-in-Err : goal.returns-in-Err
returns-in-Err c =
    let fits : FitsSigned w64 c.args.start = search rules in
    let group : Group = row_at c.args.plan.now c.args.start c.args.row.now in
    let alone : group ≡ row_group c.args.plan.now c.args.row.now = ap (λ b. row_at c.args.plan.now b c.args.row.now) c.requires.start in
    let put : OnOk c.put.result (c.put.new.self.groups ≡ insert c.note_if_astray.new.self.groups c.in-Err.at group) = rw (to_z-of_z w64 c.args.start fits) at c.put.ensures in
    let room : HasRoom 1 c.args.plan.now c.note_if_astray.new.self.groups = subst (HasRoom 1 c.args.plan.now) (sym c.in_ok-note_if_astray.ensures) c.requires.room in
    on_ok_weaker c.put.result
    (λ is. subst (λ (old : List Group). Takes c.args.plan.now c.args.row.now old c.put.new.self.groups) c.in_ok-note_if_astray.ensures
    (takes_alone c.args.plan.now c.args.row.now c.note_if_astray.new.self.groups c.put.new.self.groups c.in-Err.at group c.in-Err.ensures.free is alone room)) put
