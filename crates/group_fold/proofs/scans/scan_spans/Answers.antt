use Rattle.std.proofs.Common.{◌≡◌, ◌∙◌, ◌-◌, ◌++◌, ◌∷◌, [], List, length, take, drop, refl, ap, sym, subst, arith}
use Rattle.std.proofs.lemmas.List.{append-nil}
use Rattle.std.proofs.lemmas.Result.{err_from_is_err_and}
use Rattle.ts_bucket.specs.declared.spans.Span.{Span}
use Rattle.ts_schema.specs.Counts.{raised_by}
use Rattle.ts_model.specs.Rows.{in_order}
use Rattle.ts_model.specs.Reads.{rows_near}
use Rattle.group_fold.specs.Grouping.{all_rows}
use Rattle.group_fold.specs.Spans.{AreApart, near_each, rows_in}
use Rattle.group_fold.proofs.ScanLaws.{front, none_left, nothing_in, span_step, small_step, count_step, count_cut, count_kept}
use Rattle.group_fold.proofs.scans.scan_spans.Goals as goal

pub loop-left-init : goal.loop-left-init
loop-left-init g c = record {
  apart = c.requires.apart;
  rows = ap (λ pieces. in_order (all_rows pieces ++ rows_in c.args.spans.now (g.W.RowsAt.visible c.args.rows.now c.args.table))) c.new-pieces.ensures.items;
  reads = refl;
  up = omega arith;
  small = omega (arith, c.count-so_far.type_inv, c.count-so_far.ensures.count);
}

pub returns-in_err-found-clause-read : goal.returns-in_err-found-clause-read
returns-in_err-found-clause-read g c =
    let interval = g.W.RowsAt.interval c.args.rows.now c.args.table in
    let stored = g.W.RowsAt.stored c.args.rows.now c.args.table in
    let rest : List Span = take (length c.loop-left.left.now - 1) (drop 1 c.loop-left.left.now) in
    let whole : c.loop-left.left.now ≡ c.span-item.result ∷ rest = front c.loop-left.left.now rest c.span-item.result (omega (arith, c.in-len1-up.len_at_least)) refl c.span-item.is in
    let reads = subst (λ (left : List Span). raised_by (near_each interval stored left) c.loop-left.steps ≡ raised_by (near_each interval stored c.args.spans.now) c.args.steps.now) whole c.loop-left.invariant.reads in
    let p = err_from_is_err_and c.from_residual.result c.from_residual.ensures.1 in
    rw p.1 (count_cut (rows_near interval stored (c.span-item.result ∷ [])) (near_each interval stored rest) (near_each interval stored c.args.spans.now) c.args.steps.now c.loop-left.steps c.scan.new.steps
    c.loop-left.invariant.small c.in_err-found.ensures.read reads c.loop-left.invariant.up)

pub returns-in_err-cut-clause-read : goal.returns-in_err-cut-clause-read
returns-in_err-cut-clause-read g c =
    let interval = g.W.RowsAt.interval c.args.rows.now c.args.table in
    let stored = g.W.RowsAt.stored c.args.rows.now c.args.table in
    let rest : List Span = take (length c.loop-left.left.now - 1) (drop 1 c.loop-left.left.now) in
    let whole : c.loop-left.left.now ≡ c.span-item.result ∷ rest = front c.loop-left.left.now rest c.span-item.result (omega (arith, c.in-len1-up.len_at_least)) refl c.span-item.is in
    let reads = subst (λ (left : List Span). raised_by (near_each interval stored left) c.loop-left.steps ≡ raised_by (near_each interval stored c.args.spans.now) c.args.steps.now) whole c.loop-left.invariant.reads in
    let p = err_from_is_err_and c.from_residual-in_err-cut.result c.from_residual-in_err-cut.ensures.1 in
    rw p.1 (count_kept (rows_near interval stored (c.span-item.result ∷ [])) (near_each interval stored rest) (near_each interval stored c.args.spans.now) c.args.steps.now c.loop-left.steps c.scan.new.steps
    c.loop-left.invariant.small c.in_ok-found.ensures.read reads c.loop-left.invariant.up)

pub loop-left-preserved : goal.loop-left-preserved
loop-left-preserved g c =
    let interval = g.W.RowsAt.interval c.args.rows.now c.args.table in
    let stored = g.W.RowsAt.stored c.args.rows.now c.args.table in
    let visible = g.W.RowsAt.visible c.args.rows.now c.args.table in
    let rest : List Span = take (length c.loop-left.left.now - 1) (drop 1 c.loop-left.left.now) in
    let whole : c.loop-left.left.now ≡ c.span-item.result ∷ rest = front c.loop-left.left.now rest c.span-item.result (omega (arith, c.in-len1-up.len_at_least)) refl c.span-item.is in
    let apart : AreApart (c.span-item.result ∷ rest) = subst AreApart whole c.loop-left.invariant.apart in
    let reads = subst (λ (left : List Span). raised_by (near_each interval stored left) c.loop-left.steps ≡ raised_by (near_each interval stored c.args.spans.now) c.args.steps.now) whole c.loop-left.invariant.reads in
    let counts = count_step (rows_near interval stored (c.span-item.result ∷ [])) (near_each interval stored rest) (near_each interval stored c.args.spans.now) c.args.steps.now c.loop-left.steps c.scan.new.steps
    c.loop-left.invariant.small c.in_ok-found.ensures.read reads c.loop-left.invariant.up in
    record {
      apart = apart.1;
      rows = span_step c.span-item.result rest visible c.in_ok-found.found c.loop-left.pieces c.cut.new.pieces apart.0 c.in_ok-found.ensures.rows c.in_ok-cut.ensures.rows
          ∙ (ap (λ left. in_order (all_rows c.loop-left.pieces ++ rows_in left visible)) (sym whole) ∙ c.loop-left.invariant.rows);
      reads = counts.0;
      up = counts.1;
      small = small_step (rows_near interval stored (c.span-item.result ∷ [])) c.loop-left.steps c.scan.new.steps c.in_ok-found.ensures.read;
    }

pub returns-clause-rows : goal.returns-clause-rows
returns-clause-rows g c =
    let visible = g.W.RowsAt.visible c.args.rows.now c.args.table in
    let none : rows_in c.loop-left.left.now visible ≡ [] = ap (λ left. rows_in left visible) (none_left c.loop-left.left.now (omega (arith, c.in_default.len_below))) ∙ nothing_in visible in
    ap in_order (sym (append-nil (all_rows c.loop-left.pieces))) ∙ (ap (λ rows. in_order (all_rows c.loop-left.pieces ++ rows)) (sym none) ∙ c.loop-left.invariant.rows)

pub returns-clause-read : goal.returns-clause-read
returns-clause-read g c =
    let interval = g.W.RowsAt.interval c.args.rows.now c.args.table in
    let stored = g.W.RowsAt.stored c.args.rows.now c.args.table in
    let none = none_left c.loop-left.left.now (omega (arith, c.in_default.len_below)) in
    let reads = subst (λ (left : List Span). raised_by (near_each interval stored left) c.loop-left.steps ≡ raised_by (near_each interval stored c.args.spans.now) c.args.steps.now) none c.loop-left.invariant.reads in
    let small = c.loop-left.invariant.small in
    omega (arith, small, reads)
