-- The search drops the half of the places that can't include the one searched for.
use Rattle.std.proofs.Common.{◌+◌, ◌-◌, ◌/◌, ◌∙◌, sym, arith}
use Rattle.span_map.proofs.SearchLaws.{narrowed_down, narrowed_place, narrowed_up}
use Rattle.span_map.proofs.search.place.Goals as goal

pub loop-low-preserved-then-stands_before : goal.loop-low-preserved-then-stands_before
loop-low-preserved-then-stands_before c =
    narrowed_up c.args.before c.args.edges.now.items c.loop-low.low c.loop-low.high (c.loop-low.low + (c.loop-low.high - c.loop-low.low) / 2) c.requires c.loop-low.invariant (omega arith) (omega arith)
    c.get.result.now c.get.ensures.item (sym c.stands_before.ensures ∙ c.if-stands_before.true)

pub loop-low-preserved : goal.loop-low-preserved
loop-low-preserved c =
    narrowed_down c.args.before c.args.edges.now.items c.loop-low.low c.loop-low.high (c.loop-low.low + (c.loop-low.high - c.loop-low.low) / 2) c.requires c.loop-low.invariant (omega arith) (omega arith)
    c.get.result.now c.get.ensures.item (sym c.stands_before.ensures ∙ c.if-stands_before.false)

pub returns-clause-place : goal.returns-clause-place
returns-clause-place c = narrowed_place c.args.before c.args.edges.now.items c.loop-low.low c.loop-low.high c.loop-low-test.false c.loop-low.invariant
