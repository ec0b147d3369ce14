use Rattle.std.proofs.Common.{◌∙◌, ap}
use Rattle.seg_rows.specs.Hulls.{hull_of}
use Rattle.seg_rows.proofs.LifeLaws.{with_lives-together, sealed_together}
use Rattle.seg_rows.proofs.segments.Segment.seal.Goals as goal

pub returns : goal.returns
returns c = record { born = rw c.in_ok-new.ensures.ok (with_lives-together c.args.rows c.args.born) }

pub invariant_of-result : goal.invariant_of-result
invariant_of-result c =
    rw c.in_ok-new.ensures.ok
    (sealed_together c.args.rows c.len.result c.args.born _ _ c.len.ensures.len (c.row_hull-hull.ensures.hull ∙ ap hull_of c.items.ensures.items) (c.newborn_death-dead.ensures.last c.args.born))
