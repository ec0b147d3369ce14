use Rattle.std.proofs.Common.{◌≡◌, ◌∙◌, true, ap, sym}
use Rattle.seg_rows.specs.Versions.{died_out, is_dead_at, later_time}
use Rattle.seg_rows.proofs.DeathLaws.{none_latest}
use Rattle.seg_rows.proofs.HullLaws.{later_time-none}
use Rattle.chunk_catalog.specs.Places.{versions_of}
use Rattle.chunk_catalog.proofs.trees.Tree.has_no_later.Goals as goal

pub returns-then-has_died : goal.returns-then-has_died
returns-then-has_died c =
    let vs = versions_of c.args.self.now.0 in
    let dead : is_dead_at c.args.pos (died_out vs) ≡ true = ap (is_dead_at c.args.pos) (sym c.died_out.ensures.dead) ∙ (sym c.has_died.ensures.dead ∙ c.if-has_died.true) in
    record { past = λ _. ap (later_time c.args.best) (none_latest c.args.pos vs dead) ∙ later_time-none c.args.best }
