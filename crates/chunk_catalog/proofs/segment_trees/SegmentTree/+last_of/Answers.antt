use Rattle.std.proofs.Common.{◌≡◌, ◌∙◌, ◌++◌, ap, sym}
use Rattle.seg_rows.specs.Versions.{later_time, latest_at}
use Rattle.seg_rows.proofs.VersionLaws.{latest_at-append}
use Rattle.chunk_catalog.specs.SegmentTrees.{pile_view}
use Rattle.chunk_catalog.proofs.LevelLaws.{later_back}
use Rattle.chunk_catalog.proofs.segment_trees.SegmentTree.+last_of.Goals as goal

pub returns-in-Fork : goal.returns-in-Fork
returns-in-Fork t c =
    let left = c.in-Fork.left.value in
    let right = c.in-Fork.right.value in
    let versions : left.0 ++ right.0 ≡ c.args.self.now.0 = sym (ap (λ s. (pile_view s).0) c.in-Fork.is) ∙ ap (λ d. d.0) c.self.view_is in
    let first : c.last_of-in-Fork.result ≡ later_time c.args.best (latest_at c.args.pos right.0) =
    c.last_of-in-Fork.ensures.last ∙ ap (λ p. later_time c.args.best (latest_at c.args.pos p.0)) c.deref-in-Fork.ensures in
    let second : c.last_of-in-Fork-2.result ≡ later_time c.last_of-in-Fork.result (latest_at c.args.pos left.0) =
    c.last_of-in-Fork-2.ensures.last ∙ ap (λ p. later_time c.last_of-in-Fork.result (latest_at c.args.pos p.0)) c.deref.ensures in
    record {
      last = second ∙ (ap (λ b. later_time b (latest_at c.args.pos left.0)) first ∙ (later_back c.args.best (latest_at c.args.pos left.0) (latest_at c.args.pos right.0)
          ∙ ap (later_time c.args.best) (sym (latest_at-append c.args.pos left.0 right.0) ∙ ap (latest_at c.args.pos) versions)));
    }
