use Rattle.std.proofs.Common.{map, ◌∙◌, ap, arith}
use Rattle.seg_rows.specs.Lives.{lives_of, life_from}
use Rattle.seg_rows.proofs.LifeLaws.{births_more}
use Rattle.seg_rows.proofs.joins.append_births.Goals as goal

pub loop-i-preserved : goal.loop-i-preserved
loop-i-preserved c =
    ap (map life_from) c.in_ok-push.ensures.items
    ∙ births_more c.loop-i.into.items (lives_of c.args.count c.args.lives.now) (map life_from c.args.into.now.items) c.loop-i.i c.at.result c.requires.unharmed (omega (arith, c.requires.covers, c.loop-i-test.true)) c.at.ensures.life c.loop-i.invariant
