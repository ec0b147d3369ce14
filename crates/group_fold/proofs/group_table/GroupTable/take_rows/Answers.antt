use Rattle.std.proofs.Common.{◌≡◌, IsTrue, sym, ap, subst, ◌∙◌, arith, rules}
use Rattle.std.specs.Int.{w64}
use Rattle.std.specs.Int.RustNames.{FitsSigned}
use Rattle.std.proofs.lemmas.Int.{to_z-of_z}
use Rattle.ts_bucket.specs.Bucket.{bucket_of, is_time}
use Rattle.group_fold.specs.Gathering.{IsStart, total_rows}
use Rattle.group_fold.proofs.Gathers.{passed_gathered, failed_gathered}
use Rattle.group_fold.proofs.Starts.{start_of_time, time_at}
use Rattle.group_fold.proofs.group_table.GroupTable.take_rows.Goals as goal
use Rattle.group_fold.proofs.group_table.GroupTable.take_rows.Goals.{then-passes+in_ok-take_row, else-passes}

pub loop-row-preserved : goal.loop-row-preserved
loop-row-preserved c =
    let time : IsTrue (is_time c.row-item.result.at) = time_at c.args.rows.now c.loop-row.row-index c.row-item.result c.requires.times c.loop-row-test.true c.row-item.is in
    let fits : FitsSigned w64 c.row-item.result.at = search rules in
    let own : c.start_near-start.result ≡ bucket_of c.args.plan.now.width c.row-item.result.at = rw (to_z-of_z w64 c.row-item.result.at fits) at c.start_near-start.ensures.start in
    let near : FitsSigned w64 c.start_near-start.result = search rules in
    let start : IsStart c.args.plan.now.width c.start_near-start.result =
    subst (IsStart c.args.plan.now.width) (sym own) (start_of_time c.args.plan.now.width c.row-item.result.at c.requires.width time) in
    elim c.if-passes.branch [
      | then-passes+in_ok-take_row w ↦
          let now = ap (λ s. s.groups) w.self-is in
          record {
            gathered = λ before was.
                rw now (passed_gathered c.args.plan.now c.requires.width before c.args.rows.now c.loop-row.row-index c.row-item.result c.loop-row-test.true c.row-item.is
                c.loop-row.self.groups _ (sym c.passes.ensures.tests ∙ w.if-passes.true) w.in_ok-take_row.ensures (c.loop-row.invariant.gathered before was));
            alike = rw now w.in_ok-take_row.ensures.alike;
            start = rw (to_z-of_z w64 c.start_near-start.result near) start;
            few = omega (arith, ap total_rows now, w.in_ok-take_row.ensures.few, c.loop-row.invariant.few);
          }
      | else-passes w ↦
          let now = ap (λ s. s.groups) w.self-is in
          record {
            gathered = λ before was.
                failed_gathered c.args.plan.now c.requires.width before c.args.rows.now c.loop-row.row-index c.row-item.result c.loop-row-test.true c.row-item.is
                c.loop-row.self.groups c.if-passes.self.groups (sym c.passes.ensures.tests ∙ w.if-passes.false) now (c.loop-row.invariant.gathered before was);
            alike = rw now c.loop-row.invariant.alike;
            start = rw (to_z-of_z w64 c.start_near-start.result near) start;
            few = omega (arith, ap total_rows now, c.loop-row.invariant.few);
          }
    ]
