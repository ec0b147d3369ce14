use Rattle.std.proofs.Common.{arith, ◌<◌, ◌^◌, FitsSigned, w64, rules, to_z-of_z, subst, sym}
use Rattle.cal_bucket.specs.Buckets.{Holds, seconds_start}
use Rattle.cal_bucket.proofs.PlaceLaws.{seconds_held}
use Rattle.cal_bucket.proofs.buckets.seconds_place.Goals as goal

pub returns : goal.returns
returns c =
    let few : c.args.seconds < 2 ^ 32 = omega (arith, c.ranges.seconds) in
    let fits : FitsSigned w64 c.div_euclid.result = search rules in
    record { held = subst (Holds (seconds_start c.args.seconds) c.args.t) (sym (to_z-of_z fits)) (seconds_held c.args.seconds c.args.t c.div_euclid.result c.from.result c.requires.some few c.requires.time c.from.ensures c.div_euclid.ensures) }
