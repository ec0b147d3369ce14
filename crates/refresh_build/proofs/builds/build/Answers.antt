use Rattle.std.proofs.Common.{◌≡◌, List, subst}
use Rattle.std.specs.Prelude.{MatchResult}
use Rattle.ts_bucket.specs.Bucket.{WidthValue}
use Rattle.ts_bucket.specs.Ranges.{AreRanges}
use Rattle.ts_bucket.specs.declared.spans.Span.{Span}
use Rattle.ts_schema.specs.Counts.{raised_by, RaisedUpTo}
use Rattle.ts_model.proofs.SameRanges.{one_list_of_ranges}
use Rattle.mat_log.specs.Feeding.{is_dirty_with}
use Rattle.group_fold.specs.Spans.{near_each}
use Rattle.refresh_build.proofs.JobLaws.{ranges_apart}
use Rattle.refresh_build.proofs.builds.build.Goals as goal

pub build_ranges-requires-clause-apart : goal.build_ranges-requires-clause-apart
build_ranges-requires-clause-apart g c κs within =
    ranges_apart c.args.log.now.width c.args.refresh.span (is_dirty_with c.args.log.now c.args.entries.now.items) c.in_ok-spans.spans c.in_ok-spans.ensures.ranges

pub returns-clause-read : goal.returns-clause-read
returns-clause-read g c spans ranges =
    let found : AreRanges c.args.def.now.fold.width c.args.refresh.span (is_dirty_with c.args.log.now c.args.entries.now.items) c.in_ok-spans.spans =
    subst (λ (w : WidthValue). AreRanges w c.args.refresh.span (is_dirty_with c.args.log.now c.args.entries.now.items) c.in_ok-spans.spans) c.requires.width c.in_ok-spans.ensures.ranges in
    let same : c.in_ok-spans.spans ≡ spans = one_list_of_ranges c.args.def.now.fold.width c.args.refresh.span (is_dirty_with c.args.log.now c.args.entries.now.items) c.in_ok-spans.spans spans found ranges in
    subst (λ (ss : List Span). MatchResult c.build_ranges.result
    (λ _. c.build_ranges.new.steps ≡ raised_by (near_each (g.W.RowsAt.interval c.args.rows.now c.args.def.now.table) (g.W.RowsAt.stored c.args.rows.now c.args.def.now.table) ss) c.args.steps.now)
    (λ _. RaisedUpTo (near_each (g.W.RowsAt.interval c.args.rows.now c.args.def.now.table) (g.W.RowsAt.stored c.args.rows.now c.args.def.now.table) ss) c.args.steps.now c.build_ranges.new.steps))
    same c.build_ranges.ensures.read
