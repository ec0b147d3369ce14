use Rattle.std.proofs.Common.{◌≡◌, ◌∙◌, true, ap, sym}
use Rattle.seg_rows.specs.Hulls.{most_of}
use Rattle.seg_rows.specs.Versions.{died_out, is_dead_at, later_time, rows_of}
use Rattle.seg_rows.proofs.DeathLaws.{none_latest}
use Rattle.seg_rows.proofs.HullLaws.{later_time-none, latest_of-hull}
use Rattle.seg_rows.proofs.VersionLaws.{no_later}
use Rattle.chunk_catalog.proofs.segment_trees.SegmentTree.is_past.Goals as goal

pub returns-then-has_died : goal.returns-then-has_died
returns-then-has_died c =
    let dead : is_dead_at c.args.pos (died_out c.args.self.now.0) ≡ true = ap (is_dead_at c.args.pos) (sym c.died_out.ensures.dead) ∙ (sym c.has_died.ensures.dead ∙ c.if-has_died.true) in
    record { past = λ _. ap (later_time c.args.best) (none_latest c.args.pos c.args.self.now.0 dead) ∙ later_time-none c.args.best }

pub returns-else-has_died : goal.returns-else-has_died
returns-else-has_died c = record {
  past = λ past.
      no_later c.args.pos c.args.best c.args.self.now.0
      (ap (later_time c.args.best) (latest_of-hull (rows_of c.args.self.now.0) ∙ (ap most_of (sym c.hull.ensures.hull) ∙ sym c.greatest_time.ensures.most)) ∙ c.is_no_later.ensures.no_later past);
}
