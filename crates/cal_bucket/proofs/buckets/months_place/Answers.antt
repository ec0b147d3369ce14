use Rattle.std.proofs.Common.{arith, ◌<◌, ◌^◌, FitsSigned, w64, rules, to_z-of_z, subst, sym}
use Rattle.cal_bucket.specs.Calendar.{IsMonthOf}
use Rattle.cal_bucket.specs.Buckets.{Holds, months_start}
use Rattle.cal_bucket.proofs.PlaceLaws.{months_held}
use Rattle.cal_bucket.proofs.buckets.months_place.Goals as goal

pub returns : goal.returns
returns c =
    let few : c.args.months < 2 ^ 32 = omega (arith, c.ranges.months) in
    let fits : FitsSigned w64 c.div_euclid.result = search rules in
    let time_fits : FitsSigned w64 c.args.t = c.ranges.t in
    let month_fits : FitsSigned w64 c.month_of.result = search rules in
    record { held = subst (Holds (months_start c.args.months) c.args.t) (sym (to_z-of_z fits)) (months_held c.args.months c.args.t c.month_of.result c.div_euclid.result c.from.result c.requires.some few month_fits (subst (λ t. IsMonthOf t c.month_of.result) (to_z-of_z time_fits) c.month_of.ensures.month) c.from.ensures c.div_euclid.ensures) }
