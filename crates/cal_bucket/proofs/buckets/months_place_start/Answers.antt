use Rattle.std.proofs.Common.{FitsSigned, w64, rules, to_z-of_z, subst, sym, ap, ◌∙◌}
use Rattle.cal_bucket.specs.Calendar.{start_of, IsNearMonth}
use Rattle.cal_bucket.proofs.PlaceLaws.{placed_month}
use Rattle.cal_bucket.proofs.buckets.months_place_start.Goals as goal

pub overflow_mul-place : goal.overflow_mul-place
overflow_mul-place c =
    let fits : FitsSigned w64 c.args.place = c.ranges.place in
    (placed_month c.args.months c.args.place c.from.result c.requires.some c.requires.few fits c.requires.time c.from.ensures).fits

pub month_start-requires : goal.month_start-requires
month_start-requires c =
    let fits : FitsSigned w64 c.args.place = c.ranges.place in
    let placed = placed_month c.args.months c.args.place c.from.result c.requires.some c.requires.few fits c.requires.time c.from.ensures in
    subst IsNearMonth (sym placed.is) placed.near

pub returns : goal.returns
returns c =
    let fits : FitsSigned w64 c.args.place = c.ranges.place in
    let placed = placed_month c.args.months c.args.place c.from.result c.requires.some c.requires.few fits c.requires.time c.from.ensures in
    let start_fits : FitsSigned w64 c.month_start.result = search rules in
    record { start = to_z-of_z start_fits ∙ c.month_start.ensures.start ∙ ap start_of placed.is }
