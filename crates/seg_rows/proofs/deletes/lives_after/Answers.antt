use Rattle.std.proofs.Common.{◌+◌, ◌∙◌, ap, sym, length, map, take, take_all}
use Rattle.std.proofs.lemmas.List.{length_push}
use Rattle.seg_rows.specs.Lives.{with_lives}
use Rattle.seg_rows.specs.Versions.{after_kill}
use Rattle.seg_rows.proofs.StepLaws.{kill_step, life_step, versions_done}
use Rattle.seg_rows.proofs.deletes.lives_after.Goals as goal

pub loop-i-preserved : goal.loop-i-preserved
loop-i-preserved c =
    let life = life_step c.args.rows.now c.args.lives.now c.loop-i.i c.index-rows-i.result c.at.result c.requires.covers c.loop-i-test.true c.index-rows-i.is c.at.ensures.life c.loop-i.after.items c.life_after.result c.loop-i.invariant.count in
    let killed = kill_step c.args.rows.now c.args.lives.now c.loop-i.i c.index-rows-i.result c.at.result c.requires.covers c.loop-i-test.true c.index-rows-i.is c.at.ensures.life c.args.pos c.args.tests.now in
    record {
      count = ap length c.in_ok-push.ensures.items ∙ (length_push c.loop-i.after.items c.life_after.result ∙ ap (λ n. n + 1) c.loop-i.invariant.count);
      after = ap (with_lives (take (c.loop-i.i + 1) c.args.rows.now)) c.in_ok-push.ensures.items ∙ cc (life, killed, c.life_after.ensures, c.loop-i.invariant.after);
    }

pub returns-clause-after : goal.returns-clause-after
returns-clause-after c =
    ap (with_lives c.args.rows.now) c.of.ensures.items
    ∙ (ap (λ rs. with_lives rs c.loop-i.after.items) (sym (take_all c.loop-i.i c.args.rows.now c.loop-i-test.false))
    ∙ (c.loop-i.invariant.after ∙ ap (map (after_kill c.args.pos c.args.tests.now)) (versions_done c.args.rows.now c.args.lives.now c.loop-i.i c.requires.covers c.loop-i-test.false)))
