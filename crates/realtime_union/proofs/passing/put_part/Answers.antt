use Rattle.std.proofs.Common.{ap, ◌∙◌, arith}
use Rattle.ts_num.specs.Aggregates.{shown_or_null}
use Rattle.realtime_union.proofs.PassingLaws.{part_more}
use Rattle.realtime_union.proofs.passing.put_part.Goals as goal

pub loop-i-preserved : goal.loop-i-preserved
loop-i-preserved c =
    part_more shown_or_null c.args.cells.now.items c.loop-i.cells.items c.push.new.self.items c.args.from c.loop-i.i c.args.vals.now c.number_or_null.result c.loop-i.auto.i (omega (arith, c.loop-i-test.true, c.requires.within))
    c.loop-i.invariant c.in_ok-push.ensures.items (c.number_or_null.ensures ∙ ap shown_or_null c.get.ensures.value)
