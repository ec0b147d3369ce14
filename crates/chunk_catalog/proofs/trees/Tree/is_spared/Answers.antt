use Rattle.std.proofs.Common.{◌≡◌, ◌∙◌, true, ap, sym}
use Rattle.seg_rows.specs.Versions.{died_out, is_dead_at, taken_at}
use Rattle.chunk_catalog.specs.Places.{versions_of}
use Rattle.chunk_catalog.proofs.PlaceLaws.{out_reached}
use Rattle.chunk_catalog.proofs.SpareLaws.{none_reached}
use Rattle.chunk_catalog.proofs.trees.Tree.is_spared.Goals as goal

pub returns-then-has_died : goal.returns-then-has_died
returns-then-has_died c =
    let dead : is_dead_at c.args.pos (died_out (versions_of c.args.self.now.0)) ≡ true = ap (is_dead_at c.args.pos) (sym c.died_out.ensures.dead) ∙ (sym c.has_died.ensures.dead ∙ c.if-has_died.true) in
    record { spared = λ _ tests. none_reached c.args.reach c.args.pos tests c.args.self.now.0 dead }

pub returns-else-has_died : goal.returns-else-has_died
returns-else-has_died c = record {
  spared = λ missed tests. ap (taken_at c.args.pos tests) (out_reached c.args.reach c.args.self.now.0 (c.misses.ensures.out missed));
}
