use Rattle.std.proofs.Common.{◌∙◌, ap, length, arith}
use Rattle.seg_rows.specs.Hulls.{hull_of}
use Rattle.seg_rows.specs.Lives.{versions_of}
use Rattle.seg_rows.specs.Versions.{taken_at}
use Rattle.seg_rows.proofs.LifeLaws.{length-versions_of}
use Rattle.seg_rows.proofs.StepLaws.{taken_step_length, taken_step_hull, taken_within, versions_done}
use Rattle.seg_rows.proofs.deletes.taken_by.Goals as goal

pub and-taken-requires : goal.and-taken-requires
and-taken-requires c =
    let few = taken_within c.args.pos c.args.tests.now (versions_of c.args.rows.now c.args.lives.now) c.loop-i.i (omega (arith, length-versions_of c.args.rows.now c.args.lives.now c.requires.covers)) in
    omega (arith, few, c.loop-i.invariant.removed, length-versions_of c.args.rows.now c.args.lives.now c.requires.covers)

pub loop-i-preserved : goal.loop-i-preserved
loop-i-preserved c =
    let counted = taken_step_length c.args.rows.now c.args.lives.now c.loop-i.i c.index-rows-i.result c.at.result c.requires.covers c.loop-i-test.true c.index-rows-i.is c.at.ensures.life c.args.pos c.args.tests.now in
    let hull = taken_step_hull c.args.rows.now c.args.lives.now c.loop-i.i c.index-rows-i.result c.at.result c.requires.covers c.loop-i-test.true c.index-rows-i.is c.at.ensures.life c.args.pos c.args.tests.now in
    record {
      removed = cc (c.and-taken.ensures.removed, c.takes_version-takes.ensures, c.loop-i.invariant.removed);
      hull = cc (c.and-taken.ensures.hull, c.takes_version-takes.ensures, c.loop-i.invariant.hull);
    }

pub returns-clause-removed : goal.returns-clause-removed
returns-clause-removed c = c.loop-i.invariant.removed ∙ ap (λ vs. length (taken_at c.args.pos c.args.tests.now vs)) (versions_done c.args.rows.now c.args.lives.now c.loop-i.i c.requires.covers c.loop-i-test.false)

pub returns-clause-hull : goal.returns-clause-hull
returns-clause-hull c = c.loop-i.invariant.hull ∙ ap (λ vs. hull_of (taken_at c.args.pos c.args.tests.now vs)) (versions_done c.args.rows.now c.args.lives.now c.loop-i.i c.requires.covers c.loop-i-test.false)
