use Rattle.std.proofs.Common.{◌∙◌, ap, sym}
use Rattle.seg_rows.specs.Versions.{later_time}
use Rattle.seg_rows.proofs.VersionLaws.{no_later}
use Rattle.seg_rows.proofs.segments.Segment.last_of.Goals as goal

pub returns-then-is_no_later : goal.returns-then-is_no_later
returns-then-is_no_later c = record {
  last = sym (no_later c.args.pos c.args.best c.args.self.now (ap (later_time c.args.best) (sym c.latest.ensures.latest) ∙ c.is_no_later.ensures.no_later c.if-is_no_later.true));
}
