use Rattle.std.proofs.Common.{◌≡◌, ◌+ℤ◌, ap, subst, arith, rules}
use Rattle.std.specs.Prelude.{FitsSigned}
use Rattle.std.specs.Int.{w64}
use Rattle.std.proofs.lemmas.Int.{to_z-of_z}
use Rattle.ts_bucket.specs.Bucket.{IsWidth}
use Rattle.group_fold.specs.Grouping.{IsOfTime}
use Rattle.refresh_build.proofs.JobLaws.{fits_end, last_group, last_holds}
use Rattle.refresh_build.proofs.tops.end_of.Goals as goal

pub returns-in-len1-up : goal.returns-in-len1-up
returns-in-len1-up c =
    let fits_start : FitsSigned w64 c.last-item.result.start = search rules in
    let fits_step : FitsSigned w64 c.width.inside.step = search rules in
    let step_is : c.width.inside.step ≡ c.args.width.step = ap (λ w. w.step) c.width.view_is in
    let wide : IsWidth c.args.width = subst IsWidth c.width.view_is c.width.invariant in
    let here : IsOfTime c.args.width c.last-item.result = last_holds (IsOfTime c.args.width) c.args.groups.now c.last-item.result (omega (arith, c.in-len1-up.len_at_least)) c.last-item.is c.requires.times in
    let fits_sum : FitsSigned w64 (c.last-item.result.start +ℤ c.args.width.step) = fits_end c.args.width c.last-item.result wide here in
    record {
      end = rw (to_z-of_z w64 c.last-item.result.start fits_start, to_z-of_z w64 c.width.inside.step fits_step, step_is, to_z-of_z w64 (c.last-item.result.start +ℤ c.args.width.step) fits_sum)
          (last_group c.args.width c.args.groups.now c.last-item.result (omega (arith, c.in-len1-up.len_at_least)) c.last-item.is);
    }
