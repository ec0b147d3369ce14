use Rattle.std.proofs.Common.{◌+◌, ◌-◌, ◌<◌, ◌≤◌, get_or, take, length, sym, subst, arith, add-one}
use Rattle.std.specs.Prelude.{◌/◌}
use Rattle.refresh_list.specs.Refreshes.{CutsBelow}
use Rattle.refresh_list.proofs.PlaceLaws.{below_place, from_place}
use Rattle.refresh_list.proofs.lists.first_from.Goals as goal

pub loop-low-preserved-then-get-cut : goal.loop-low-preserved-then-get-cut
loop-low-preserved-then-get-cut c =
    let items = c.args.list.now.items in
    let at = c.loop-low.low + (c.loop-low.high - c.loop-low.low) / 2 in
    let before : c.get.result.now.cut < c.args.cut = omega arith in
    let there : (get_or c.args.list.now.items (c.loop-low.low + (c.loop-low.high - c.loop-low.low) / 2) c.get.result.now).cut < c.args.cut = subst (λ r. r.cut < c.args.cut) c.get.ensures.item before in
    let within : c.loop-low.low + (c.loop-low.high - c.loop-low.low) / 2 < length c.args.list.now.items = omega (arith, c.loop-low.invariant.1) in
    (omega arith, c.loop-low.invariant.1, subst (λ n. CutsBelow c.args.cut (take n items)) (sym (add-one at)) (below_place 0 c.args.cut at c.get.result.now items c.requires.rise within there), c.loop-low.invariant.3)

pub loop-low-preserved : goal.loop-low-preserved
loop-low-preserved c =
    let items = c.args.list.now.items in
    let at = c.loop-low.low + (c.loop-low.high - c.loop-low.low) / 2 in
    let after : c.args.cut ≤ c.get.result.now.cut = omega arith in
    let there : c.args.cut ≤ (get_or c.args.list.now.items (c.loop-low.low + (c.loop-low.high - c.loop-low.low) / 2) c.get.result.now).cut = subst (λ r. c.args.cut ≤ r.cut) c.get.ensures.item after in
    let within : c.loop-low.low + (c.loop-low.high - c.loop-low.low) / 2 < length c.args.list.now.items = omega (arith, c.loop-low.invariant.1) in
    (omega arith, omega (arith, within), c.loop-low.invariant.2, from_place 0 c.args.cut at c.get.result.now items c.requires.rise within there)
