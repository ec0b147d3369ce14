use Rattle.std.proofs.Common.{sym, subst}
use Rattle.cal_bucket.specs.Calendar.{IsMonthOf}
use Rattle.cal_bucket.proofs.MonthLaws.{code_cut, code_month, code_holds}
use Rattle.cal_bucket.proofs.months.month_of.Goals as goal

pub overflow_add-result : goal.overflow_add-result
overflow_add-result c =
    let cut = code_cut c.args.t c.div_euclid-cycle.result c.rem_euclid.result c.requires c.div_euclid-cycle.ensures c.rem_euclid.ensures.value in
    (code_month _ _ _ c.month_of_second.result c.requires cut c.month_of_second.ensures.within).fits

pub returns : goal.returns
returns c =
    let cut = code_cut c.args.t c.div_euclid-cycle.result c.rem_euclid.result c.requires c.div_euclid-cycle.ensures c.rem_euclid.ensures.value in
    let code = code_month _ _ _ c.month_of_second.result c.requires cut c.month_of_second.ensures.within in
    record { month = subst (IsMonthOf c.args.t) (sym code.is) (code_holds _ _ _ _ cut c.month_of_second.ensures.month) }
