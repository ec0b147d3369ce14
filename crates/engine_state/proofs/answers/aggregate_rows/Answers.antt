use Rattle.std.proofs.Common.{◌≡◌, cond, ap, subst, ℤ, Option}
use Rattle.std.proofs.lemmas.Result.{IfOk-weaker}
use Rattle.ts_bucket.specs.Spans.{SpanValue}
use Rattle.ts_schema.specs.Counts.{Ticks}
use Rattle.ts_model.specs.Rows.{in_order}
use Rattle.realtime_union.specs.Live.{IsLiveSpan, live_reads, union_rows}
use Rattle.realtime_union.proofs.NearLaws.{live_reads_are_of_buckets}
use Rattle.engine_state.specs.Scans.{seen_rows, stored_rows}
use Rattle.engine_state.specs.Shown.{view_reads}
use Rattle.engine_state.proofs.answers.aggregate_rows.Goals as goal

pub returns-clause-rows : goal.returns-clause-rows
returns-clause-rows g c =
    let def = c.args.def.now in
    let rows = in_order (seen_rows c.args.rows.now.position c.args.rows.now.table.now) in
    IfOk-weaker c.union_rows.result
    (λ shown. (mark : Option ℤ) (starts : SpanValue) → IsLiveSpan def.fold.width mark starts c.live_span-live.result → shown ≡ union_rows def c.args.kept mark starts rows)
    (λ shown. shown ≡ union_rows def c.args.kept c.args.mark c.args.starts rows)
    (λ shown is. is c.args.mark c.args.starts c.live_span-live.ensures.live) c.union_rows.ensures.rows

pub returns-clause-read : goal.returns-clause-read
returns-clause-read g c =
    let def = c.args.def.now in
    let table = c.args.rows.now.table.now in
    let same : live_reads def table.rows.interval (stored_rows table) c.live_span-live.result ≡ view_reads def c.args.mark c.args.starts table =
    ap (cond def.only 0) (live_reads_are_of_buckets def.fold.width c.args.mark c.args.starts c.live_span-live.result table.rows.interval (stored_rows table) c.live_span-live.ensures.bounds c.live_span-live.ensures.live c.requires.near) in
    subst (λ n. Ticks c.union_rows.result n c.args.steps.now c.union_rows.new.steps) same c.union_rows.ensures.read
