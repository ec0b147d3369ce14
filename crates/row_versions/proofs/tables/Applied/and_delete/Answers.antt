use Rattle.std.proofs.Common.{◌+◌, ◌∙◌, ap}
use Rattle.seg_rows.specs.Hulls.{joined_hull}
use Rattle.row_versions.proofs.TableLaws.{delete_follows, delete_counts}
use Rattle.row_versions.proofs.tables.Applied.and_delete.Goals as goal

pub returns-clause-table : goal.returns-clause-table
returns-clause-table c =
    delete_follows c.args.tests.now c.args.pos c.self.inside.0.0.chunks c.args.self.table c.in_ok-killed.killed.chunks (ap (λ a. a.table) c.self.view_is) c.in_ok-killed.ensures.interval c.in_ok-killed.ensures.after c.requires.up_to

pub returns-clause-effect : goal.returns-clause-effect
returns-clause-effect c =
    delete_counts c.args.tests.now c.args.pos c.self.inside.0.0.chunks c.args.self.table c.self.inside.0.1.0 c.args.self.effect c.in_ok-effect.effect (ap (λ a. a.table) c.self.view_is) (ap (λ a. a.effect) c.self.view_is)
    c.in_ok-effect.ensures.inserted
    (c.in_ok-effect.ensures.removed ∙ ap (λ n. c.self.inside.0.1.0.removed + n) c.in_ok-killed.ensures.removed)
    (c.in_ok-effect.ensures.hull ∙ ap (joined_hull c.self.inside.0.1.0.hull) c.in_ok-killed.ensures.hull)
