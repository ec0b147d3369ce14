use Rattle.std.proofs.Common.{◌≡◌, ◌∙◌, true, ap, sym}
use Rattle.seg_rows.specs.Versions.{died_out, is_dead_at}
use Rattle.seg_rows.proofs.DeathLaws.{none_taken}
use Rattle.chunk_catalog.proofs.segment_trees.SegmentTree.is_spared.Goals as goal

pub returns-then-has_died : goal.returns-then-has_died
returns-then-has_died c =
    let dead : is_dead_at c.args.pos (died_out c.args.self.now.0) ≡ true = ap (is_dead_at c.args.pos) (sym c.died_out.ensures.dead) ∙ (sym c.has_died.ensures.dead ∙ c.if-has_died.true) in
    record { spared = λ _ tests holds. none_taken c.args.pos tests c.args.self.now.0 dead }
