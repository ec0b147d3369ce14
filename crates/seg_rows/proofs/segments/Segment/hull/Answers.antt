use Rattle.std.proofs.Common.{◌∙◌, ap, sym}
use Rattle.seg_rows.specs.Hulls.{hull_of}
use Rattle.seg_rows.specs.Versions.{rows_of}
use Rattle.seg_rows.proofs.LifeLaws.{rows_of-versions}
use Rattle.seg_rows.proofs.segments.Segment.hull.Goals as goal

pub returns : goal.returns
returns c = record {
  hull = c.self.invariant.hull_is ∙ ap hull_of (sym (rows_of-versions c.self.inside.rows c.self.inside.lives.value c.self.invariant.covers) ∙ ap rows_of c.self.view_is);
}
