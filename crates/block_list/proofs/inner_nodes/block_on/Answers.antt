-- A block of the inner node is a run of the list.
use Rattle.std.proofs.Common.{◌≡◌, ◌-◌, ◌∙◌, subst, arith}
use Rattle.std.proofs.lemmas.Option.{IfSome_then}
use Rattle.std.specs.Arc.{arc_value}
use Rattle.block_list.specs.Blocks.{IsRun}
use Rattle.block_list.proofs.RunLaws.{run_in_part}
use Rattle.block_list.proofs.inner_nodes.block_on.Goals as goal

pub returns : goal.returns
returns g c =
    let shelf = c.part_at-shelf.result.now in
    let xs : c.deref.result.now ≡ shelf.items = c.deref.ensures ∙ c.items.ensures in
    let from = c.part_at-shelf.ensures.from in
    IfSome_then c.whole_at.result c.whole_at.ensures.run (λ block r.
    let run : IsRun shelf.items (c.args.at - shelf.start) (c.args.end - shelf.start) (arc_value block.now) =
    subst (λ ys. IsRun ys (c.args.at - shelf.start) (c.args.end - shelf.start) (arc_value block.now)) xs
    (subst (λ n. IsRun c.deref.result.now (c.args.at - n) (c.args.end - n) (arc_value block.now)) c.start-start.ensures r) in
    run_in_part c.args.shelves.now shelf.items (arc_value block.now) shelf.start c.args.at (c.args.end - shelf.start) c.args.end c.part_at-shelf.ensures.run from run (omega arith))
