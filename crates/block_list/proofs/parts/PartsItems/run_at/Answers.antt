-- A run of the part is a run of the list.
use Rattle.std.proofs.Common.{◌≡◌, ◌-◌, ◌∙◌, length, ap, subst, arith}
use Rattle.block_list.specs.Blocks.{IsRun}
use Rattle.block_list.proofs.RunLaws.{run_in_part}
use Rattle.block_list.proofs.parts.PartsItems.run_at.Goals as goal

pub returns : goal.returns
returns g c =
    let part = c.part_at-part.result.now in
    let xs : g.S.Items.items c.deref.result.now ≡ part.items = ap g.S.Items.items c.deref.ensures ∙ c.items.ensures in
    let run : IsRun part.items (c.args.i - part.start) (length part.items) c.run_at.result.now =
    subst (λ ys. IsRun ys (c.args.i - part.start) (length ys) c.run_at.result.now) xs
    (subst (λ n. IsRun (g.S.Items.items c.deref.result.now) (c.args.i - n) (length (g.S.Items.items c.deref.result.now)) c.run_at.result.now) c.start.ensures c.run_at.ensures) in
    let all = c.part_at-part.ensures.run in
    let from = c.part_at-part.ensures.from in
    run_in_part c.args.self.now part.items c.run_at.result.now part.start c.args.i (length part.items) (length c.args.self.now) all from run (omega arith)
