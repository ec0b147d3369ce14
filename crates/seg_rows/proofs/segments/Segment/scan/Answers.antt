use Rattle.std.proofs.Common.{◌≡◌, ◌∙◌, ap, sym, length}
use Rattle.seg_rows.proofs.LifeLaws.{length-versions_of}
use Rattle.seg_rows.proofs.segments.Segment.scan.Goals as goal

pub returns-clause-ticks : goal.returns-clause-ticks
returns-clause-ticks g c =
    let n : length c.items.result.now ≡ length c.args.self.now = ap length c.items.ensures.items ∙ (sym (length-versions_of c.self.inside.rows c.self.inside.lives.value c.self.invariant.covers) ∙ ap length c.self.view_is) in
    rw (← n) c.scan_span.ensures.ticks

pub returns-clause-at_most : goal.returns-clause-at_most
returns-clause-at_most g c =
    let n : length c.items.result.now ≡ length c.args.self.now = ap length c.items.ensures.items ∙ (sym (length-versions_of c.self.inside.rows c.self.inside.lives.value c.self.invariant.covers) ∙ ap length c.self.view_is) in
    rw (← n) c.scan_span.ensures.at_most
