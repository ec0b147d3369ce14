use Rattle.std.proofs.Common.{FitsSigned, w64}
use Rattle.cal_bucket.proofs.MonthLaws.{code_start}
use Rattle.cal_bucket.proofs.months.month_start.Goals as goal

pub overflow_mul-result : goal.overflow_mul-result
overflow_mul-result c =
    let fits : FitsSigned w64 c.args.month = c.ranges.month in
    (code_start c.args.month c.div_euclid-cycle.result c.rem_euclid.result c.second_of_month-second.result fits c.requires c.div_euclid-cycle.ensures c.rem_euclid.ensures.value c.second_of_month-second.ensures.start c.second_of_month-second.ensures.low c.second_of_month-second.ensures.high).product_fits

pub overflow_add-result-2 : goal.overflow_add-result-2
overflow_add-result-2 c =
    let fits : FitsSigned w64 c.args.month = c.ranges.month in
    (code_start c.args.month c.div_euclid-cycle.result c.rem_euclid.result c.second_of_month-second.result fits c.requires c.div_euclid-cycle.ensures c.rem_euclid.ensures.value c.second_of_month-second.ensures.start c.second_of_month-second.ensures.low c.second_of_month-second.ensures.high).sum_fits

pub returns : goal.returns
returns c =
    let fits : FitsSigned w64 c.args.month = c.ranges.month in
    record { start = (code_start c.args.month c.div_euclid-cycle.result c.rem_euclid.result c.second_of_month-second.result fits c.requires c.div_euclid-cycle.ensures c.rem_euclid.ensures.value c.second_of_month-second.ensures.start c.second_of_month-second.ensures.low c.second_of_month-second.ensures.high).is }
