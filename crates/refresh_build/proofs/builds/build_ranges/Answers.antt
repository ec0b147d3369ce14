use Rattle.std.proofs.Common.{◌≡◌, ◌∙◌, ap, sym, subst}
use Rattle.std.specs.List.{AllByRecursion}
use Rattle.ts_bucket.specs.Bucket.{IsWidth}
use Rattle.ts_model.specs.Groups.{groups_of}
use Rattle.ts_model.specs.Jobs.{rows_of_spans}
use Rattle.group_fold.specs.Grouping.{IsOfTime}
use Rattle.group_fold.specs.Laws.{end_of_last}
use Rattle.group_fold.proofs.BucketGroups.{groups_of_times}
use Rattle.group_fold.proofs.RowGroups.{sorted-groups_of}
use Rattle.partial_agg.specs.Groups.{AreInOrder}
use Rattle.group_fold.specs.Spans.{rows_in}
use Rattle.refresh_build.proofs.JobLaws.{groups_of_ranges, top_of_groups, times_of_spans}
use Rattle.refresh_build.proofs.builds.build_ranges.Goals as goal

pub end_of-top-requires : goal.end_of-top-requires
end_of-top-requires g c =
    let visible = g.W.RowsAt.visible c.args.rows.now c.args.def.now.table in
    let wide : IsWidth c.args.def.now.fold.width = c.fold_spans.ensures.bounds in
    let made : c.items-2.result.now ≡ groups_of c.args.def.now.fold (rows_in c.args.spans visible) =
    c.items-2.ensures.items ∙ (c.in_ok-found.ensures.groups ∙ ap (λ spans. groups_of c.args.def.now.fold (rows_in spans visible)) c.items.ensures.items) in
    record {
      times = subst (AllByRecursion (IsOfTime c.args.def.now.fold.width)) (sym made) (groups_of_times c.args.def.now.fold wide (rows_in c.args.spans visible) (times_of_spans c.args.spans visible c.requires.times));
    }

pub of-requires : goal.of-requires
of-requires g c =
    let visible = g.W.RowsAt.visible c.args.rows.now c.args.def.now.table in
    record {
      order = subst AreInOrder (sym c.in_ok-found.ensures.groups) (sorted-groups_of c.args.def.now.fold c.fold_spans.ensures.bounds (rows_in c.items.result.now visible));
    }

pub returns-clause-made : goal.returns-clause-made
returns-clause-made g c =
    let visible = g.W.RowsAt.visible c.args.rows.now c.args.def.now.table in
    let wide : IsWidth c.args.def.now.fold.width = c.fold_spans.ensures.bounds in
    let found : c.in_ok-found.found ≡ groups_of c.args.def.now.fold (rows_of_spans c.args.def.now.fold c.args.spans visible) =
    c.in_ok-found.ensures.groups ∙ (ap (λ spans. groups_of c.args.def.now.fold (rows_in spans visible)) c.items.ensures.items ∙ groups_of_ranges c.args.def.now.fold c.args.spans visible wide c.requires.whole) in
    record {
      groups_are = c.in_ok-groups.ensures.groups ∙ found;
      top_is = top_of_groups c.args.def.now.fold c.args.spans visible c.in_ok-found.found c.end_of-top.result wide found (c.end_of-top.ensures.end ∙ ap (λ groups. end_of_last c.args.def.now.fold.width groups) c.items-2.ensures.items);
    }
