use Rattle.std.proofs.Common.{◌∙◌, rules, sym}
use Rattle.std.specs.Prelude.{FitsSigned}
use Rattle.std.specs.Int.{w64}
use Rattle.std.proofs.lemmas.Bool.{not-true}
use Rattle.chunk_catalog.proofs.SpareLaws.{none_apart}
use Rattle.chunk_catalog.proofs.segment_trees.SegmentTree.misses.Goals as goal

pub returns-in-Some : goal.returns-in-Some
returns-in-Some c =
    let low : FitsSigned w64 c.in-Some.hull.least = search rules in
    let high : FitsSigned w64 c.in-Some.hull.most = search rules in
    record {
      out = λ missed tests holds pos.
          none_apart c.args.times c.in-Some.hull low high (c.meets.ensures.apart (not-true c.meets.result missed)) tests holds pos c.args.self.now.0 (sym c.in-Some.is ∙ c.hull.ensures.hull);
    }
