use Rattle.std.proofs.Common.{◌≡◌, ◌∙◌, ◌∷◌, [], ℤ, Option, subst, arith}
use Rattle.std.proofs.lemmas.Result.{IfOk-weaker}
use Rattle.ts_bucket.specs.Spans.{SpanValue}
use Rattle.ts_schema.specs.Counts.{Ticks}
use Rattle.ts_model.specs.Groups.{groups_of}
use Rattle.ts_model.specs.Rows.{in_order}
use Rattle.ts_model.specs.Reads.{rows_near}
use Rattle.group_fold.specs.Spans.{near_each, rows_in}
use Rattle.realtime_union.specs.Live.{IsLiveSpan, live_groups}
use Rattle.realtime_union.proofs.LiveLaws.{live_are}
use Rattle.realtime_union.proofs.unions.live_of.Goals as goal

pub returns-clause-groups : goal.returns-clause-groups
returns-clause-groups g c =
    let visible = g.W.RowsAt.visible c.args.rows.now c.args.def.now.table in
    IfOk-weaker c.fold_spans.result (λ groups. groups ≡ groups_of c.args.def.now.fold (rows_in (c.args.live ∷ []) visible))
    (λ groups. (mark : Option ℤ) (starts : SpanValue) → IsLiveSpan c.args.def.now.fold.width mark starts c.args.live → groups ≡ live_groups c.args.def.now mark starts (in_order visible))
    (λ groups is mark starts live. rw c.if-def.false (is ∙ live_are c.args.def.now.fold c.fold_spans.ensures.bounds mark starts c.args.live visible live c.requires.times)) c.fold_spans.ensures.groups

pub returns-clause-read : goal.returns-clause-read
returns-clause-read g c =
    let interval = g.W.RowsAt.interval c.args.rows.now c.args.def.now.table in
    let stored = g.W.RowsAt.stored c.args.rows.now c.args.def.now.table in
    let same : near_each interval stored (c.args.live ∷ []) ≡ rows_near interval stored (c.args.live ∷ []) = omega arith in
    rw c.if-def.false
    (subst (λ n. Ticks c.fold_spans.result n c.args.steps.now c.fold_spans.new.steps) same c.fold_spans.ensures.read)
