use Rattle.std.proofs.Common.{◌≡◌, ◌∙◌, ◌++◌, true, false, cond, [], ◌∷◌, ap, sym, length, take, arith}
use Rattle.std.proofs.Math.Bool.{and-true}
use Rattle.std.proofs.lemmas.Result.{err_from_is_err_and}
use Rattle.seg_rows.specs.Lives.{is_alive_at, versions_of, with_life}
use Rattle.seg_rows.specs.Versions.{rows_at, shown_at}
use Rattle.seg_rows.proofs.StepLaws.{hidden_step, shown_step, versions_done}
use Rattle.seg_rows.proofs.VersionLaws.{pushed_step, rows_at-take}
use Rattle.ts_bucket.specs.Spans.{in_span}
use Rattle.seg_rows.proofs.scans.scan_rows.Goals.{then-span_holds+in_ok-push_if, else-span_holds}
use Rattle.seg_rows.proofs.scans.scan_rows.Goals as goal

pub returns-in_err-push_if-clause-part : goal.returns-in_err-push_if-clause-part
returns-in_err-push_if-clause-part g c =
    let p = err_from_is_err_and c.from_residual.result c.from_residual.ensures.1 in
    rw p.1 (length (rows_at c.args.pos c.args.span (take c.loop-i.i (versions_of c.args.rows.now c.args.lives.now))), c.in_err-push_if.ensures.kept ∙ (c.loop-i.invariant.rows ∙ ap (λ rs. c.args.out.now ++ rs) (rows_at-take c.args.pos c.args.span (versions_of c.args.rows.now c.args.lives.now) c.loop-i.i)))

pub loop-i-preserved : goal.loop-i-preserved
loop-i-preserved g c =
    let row = c.index-rows-i.result in
    let done = rows_at c.args.pos c.args.span (take c.loop-i.i (versions_of c.args.rows.now c.args.lives.now)) in
    record {
      rows = elim c.if-span_holds.branch [
        | then-span_holds+in_ok-push_if w ↦
            let step = shown_step c.args.rows.now c.args.lives.now c.loop-i.i row w.at.result c.requires.covers c.loop-i-test.true c.index-rows-i.is w.at.ensures.life c.args.pos c.args.span in
            let inside : in_span c.args.span row.at ≡ true = sym c.span_holds.ensures ∙ w.if-span_holds.true in
            let shown : w.is_visible.result ≡ shown_at c.args.pos c.args.span (with_life row w.at.result) = rw inside (w.is_visible.ensures.visible ∙ sym (and-true (is_alive_at c.args.pos w.at.result))) in
            w.out-is ∙ (w.in_ok-push_if.ensures.pushed ∙ pushed_step c.loop-i.out c.args.out.now done _ _ c.loop-i.invariant.rows (step ∙ ap (λ b. done ++ cond b (row ∷ []) []) (sym shown)))
        | else-span_holds w ↦
            let outside : in_span c.args.span row.at ≡ false = sym c.span_holds.ensures ∙ w.if-span_holds.false in
            w.out-is ∙ (c.loop-i.invariant.rows ∙ ap (λ rs. c.args.out.now ++ rs) (sym (hidden_step c.args.rows.now c.args.lives.now c.loop-i.i row c.requires.covers c.loop-i-test.true c.index-rows-i.is c.args.pos c.args.span outside)))
      ];
      ticks = grind (arith, c.tick.ensures.raised, c.loop-i.invariant.ticks);
    }

pub returns-clause-rows : goal.returns-clause-rows
returns-clause-rows g c = c.loop-i.invariant.rows ∙ ap (λ vs. c.args.out.now ++ rows_at c.args.pos c.args.span vs) (versions_done c.args.rows.now c.args.lives.now c.loop-i.i c.requires.covers c.loop-i-test.false)
