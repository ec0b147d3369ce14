use Rattle.std.proofs.Common.{◌∙◌, ap}
use Rattle.seg_rows.specs.Versions.{latest_at}
use Rattle.seg_rows.proofs.StepLaws.{latest_step, versions_done}
use Rattle.seg_rows.proofs.scans.last_time.Goals as goal

pub loop-i-preserved : goal.loop-i-preserved
loop-i-preserved c =
    let step = latest_step c.args.rows.now c.args.lives.now c.loop-i.i c.index-rows-i.result c.at.result c.requires.covers c.loop-i-test.true c.index-rows-i.is c.at.ensures.life c.args.pos in
    cc (c.later-last.ensures.later, c.seen_time.ensures, c.loop-i.invariant)

pub returns : goal.returns
returns c = record {
  last = c.loop-i.invariant ∙ ap (latest_at c.args.pos) (versions_done c.args.rows.now c.args.lives.now c.loop-i.i c.requires.covers c.loop-i-test.false);
}
