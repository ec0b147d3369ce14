use Rattle.std.proofs.Common.{◌≡◌, ◌∙◌, sym, map}
use Rattle.seg_rows.specs.Versions.{after_kill}
use Rattle.seg_rows.proofs.VersionLaws.{after_kill-nothing}
use Rattle.seg_rows.proofs.segments.Segment.after.Goals as goal

pub returns-then-removed-eq0 : goal.returns-then-removed-eq0
returns-then-removed-eq0 c =
    let same : map (after_kill c.args.pos c.args.tests.now) c.args.self.now ≡ c.args.self.now = after_kill-nothing c.args.pos c.args.tests.now c.args.self.now (sym c.requires.counted ∙ c.if-removed-eq0.true) in
    record { after = rw same c.copy.ensures.same }
