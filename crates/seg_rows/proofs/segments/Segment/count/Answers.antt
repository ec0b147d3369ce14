use Rattle.std.proofs.Common.{◌∙◌, ap, sym, length}
use Rattle.seg_rows.proofs.LifeLaws.{length-versions_of}
use Rattle.seg_rows.proofs.segments.Segment.count.Goals as goal

pub returns : goal.returns
returns c = record { count = c.len.ensures.len ∙ (sym (length-versions_of c.self.inside.rows c.self.inside.lives.value c.self.invariant.covers) ∙ ap length c.self.view_is) }
