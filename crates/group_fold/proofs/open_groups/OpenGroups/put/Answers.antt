use Rattle.std.proofs.Common.{◌≡◌, length, refl, sym, ap, subst, ◌∙◌, rules}
use Rattle.std.specs.Int.{w64}
use Rattle.std.specs.Int.RustNames.{FitsSigned}
use Rattle.std.specs.List.{insert}
use Rattle.std.specs.Prelude.{OnOk}
use Rattle.std.proofs.lemmas.Int.{to_z-of_z}
use Rattle.std.proofs.lemmas.Result.{on_ok_weaker}
use Rattle.group_fold.specs.declared.heads.Head.{Head}
use Rattle.group_fold.specs.Blocks.{StandIn, shown_groups}
use Rattle.group_fold.specs.Gathering.{HaveParts}
use Rattle.group_fold.specs.Grouping.{row_at, row_parts}
use Rattle.group_fold.proofs.Counts.{length-row_parts}
use Rattle.group_fold.proofs.InBlocks.{shown_put, shown_renumbered, stand-insert, stand_kept, stand_renumbered, stand_tried}
use Rattle.group_fold.proofs.open_groups.OpenGroups.put.Goals as goal

pub invariant_of-self : goal.invariant_of-self
invariant_of-self c =
    let n = c.len-self-inside.result in
    let alike : HaveParts n (shown_groups c.self.inside.each c.self.inside.blocks.items c.self.inside.heads.items) =
    subst (HaveParts n) (sym c.self.view_is) (subst (λ k. HaveParts k c.args.self.now) (sym c.len-self-inside.ensures.len) c.requires.alike) in
    stand_renumbered c.self.inside.each n c.self.inside.blocks.items c.self.inside.heads.items c.self.invariant alike

pub invariant_of-self-in_err-place : goal.invariant_of-self-in_err-place
invariant_of-self-in_err-place c =
    let n = c.len-self-inside.result in
    let alike : HaveParts n (shown_groups c.self.inside.each c.self.inside.blocks.items c.self.inside.heads.items) =
    subst (HaveParts n) (sym c.self.view_is) (subst (λ k. HaveParts k c.args.self.now) (sym c.len-self-inside.ensures.len) c.requires.alike) in
    stand_kept n c.self.inside.blocks.items c.put_parts.new.blocks.items c.self.inside.heads.items c.put_parts.ensures.kept
    (stand_renumbered c.self.inside.each n c.self.inside.blocks.items c.self.inside.heads.items c.self.invariant alike)

pub invariant_of-self-2 : goal.invariant_of-self-2
invariant_of-self-2 c =
    let n = c.len-self-inside.result in
    let alike : HaveParts n (shown_groups c.self.inside.each c.self.inside.blocks.items c.self.inside.heads.items) =
    subst (HaveParts n) (sym c.self.view_is) (subst (λ k. HaveParts k c.args.self.now) (sym c.len-self-inside.ensures.len) c.requires.alike) in
    let stand : StandIn n c.self.inside.blocks.items c.self.inside.heads.items =
    stand_renumbered c.self.inside.each n c.self.inside.blocks.items c.self.inside.heads.items c.self.invariant alike in
    let head : Head = record { start = c.args.start; keys = c.in_ok-keys.keys; place = c.in_ok-place.place } in
    let fits : FitsSigned w64 c.args.start = search rules in
    let put : OnOk c.put_at.result (c.put_at.new.heads.items ≡ insert c.self.inside.heads.items c.args.at head) = rw (to_z-of_z w64 c.args.start fits) at c.put_at.ensures.put in
    let many : length (row_parts c.items-2.result.now c.args.row.now) ≡ n =
    length-row_parts c.items-2.result.now c.args.row.now ∙ (ap length c.items-2.ensures.items ∙ sym c.len-self-inside.ensures.len) in
    stand_tried c.put_at.result n c.put_parts.new.blocks.items c.self.inside.heads.items c.put_at.new.heads.items c.args.at head put c.put_at.ensures.kept
    (stand-insert n c.self.inside.blocks.items c.put_parts.new.blocks.items c.self.inside.heads.items c.args.at head (row_parts c.items-2.result.now c.args.row.now) many c.put_parts.ensures.kept c.in_ok-place.ensures.put stand)
    (stand_kept n c.self.inside.blocks.items c.put_parts.new.blocks.items c.self.inside.heads.items c.put_parts.ensures.kept stand)

pub returns : goal.returns
returns c =
    let n = c.len-self-inside.result in
    let alike : HaveParts n (shown_groups c.self.inside.each c.self.inside.blocks.items c.self.inside.heads.items) =
    subst (HaveParts n) (sym c.self.view_is) (subst (λ k. HaveParts k c.args.self.now) (sym c.len-self-inside.ensures.len) c.requires.alike) in
    let stand : StandIn n c.self.inside.blocks.items c.self.inside.heads.items =
    stand_renumbered c.self.inside.each n c.self.inside.blocks.items c.self.inside.heads.items c.self.invariant alike in
    let head : Head = record { start = c.args.start; keys = c.in_ok-keys.keys; place = c.in_ok-place.place } in
    let group = row_at c.args.plan.now c.args.start c.args.row.now in
    let fits : FitsSigned w64 c.args.start = search rules in
    let put : OnOk c.put_at.result (c.put_at.new.heads.items ≡ insert c.self.inside.heads.items c.args.at head) = rw (to_z-of_z w64 c.args.start fits) at c.put_at.ensures.put in
    let many : length (row_parts c.items-2.result.now c.args.row.now) ≡ n =
    length-row_parts c.items-2.result.now c.args.row.now ∙ (ap length c.items-2.ensures.items ∙ sym c.len-self-inside.ensures.len) in
    let were = shown_renumbered c.self.inside.each n c.self.inside.blocks.items c.self.inside.heads.items c.self.invariant alike ∙ c.self.view_is in
    on_ok_weaker c.put_at.result
    (λ is. ap (shown_groups n c.put_parts.new.blocks.items) is
    ∙ (shown_put n c.self.inside.blocks.items c.put_parts.new.blocks.items c.self.inside.heads.items c.args.at head (row_parts c.items-2.result.now c.args.row.now) group many
    c.put_parts.ensures.kept c.in_ok-place.ensures.put stand refl (search rules) (search rules)
    ∙ ap (λ groups. insert groups c.args.at group) were)) put
