-- The groups are shown in order.
use Rattle.std.proofs.Common.{◌∙◌, ◌++◌, map, ap}
use Rattle.ts_model.specs.Groups.{cells_by, cells_of}
use Rattle.realtime_union.proofs.unions.union_rows.Goals as goal

pub returns-clause-rows : goal.returns-clause-rows
returns-clause-rows g c mark starts is =
    c.of_groups.ensures.rows
    ∙ ap (λ aggs. map (cells_by aggs) (c.args.kept ++ c.in_ok-live.live)) c.in_ok-aggs.ensures.same
    ∙ ap (λ live. map (cells_of c.args.def.now.fold) (c.args.kept ++ live)) (c.in_ok-live.ensures.groups mark starts is)
