use Rattle.std.proofs.Common.{arith, ◌<◌, ◌^◌, FitsSigned, w64}
use Rattle.cal_bucket.proofs.PlaceLaws.{placed_seconds}
use Rattle.cal_bucket.proofs.buckets.seconds_place_start.Goals as goal

pub overflow_mul-result : goal.overflow_mul-result
overflow_mul-result c =
    let few : c.args.seconds < 2 ^ 32 = omega (arith, c.ranges.seconds) in
    let fits : FitsSigned w64 c.args.place = c.ranges.place in
    (placed_seconds c.args.seconds c.args.place c.from.result few fits c.requires.time c.from.ensures).fits

pub overflow_add-result : goal.overflow_add-result
overflow_add-result c =
    let few : c.args.seconds < 2 ^ 32 = omega (arith, c.ranges.seconds) in
    let fits : FitsSigned w64 c.args.place = c.ranges.place in
    (placed_seconds c.args.seconds c.args.place c.from.result few fits c.requires.time c.from.ensures).sum_fits

pub returns : goal.returns
returns c =
    let few : c.args.seconds < 2 ^ 32 = omega (arith, c.ranges.seconds) in
    let fits : FitsSigned w64 c.args.place = c.ranges.place in
    record { start = (placed_seconds c.args.seconds c.args.place c.from.result few fits c.requires.time c.from.ensures).is }
