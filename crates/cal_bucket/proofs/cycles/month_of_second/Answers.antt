use Rattle.std.proofs.Common.{pos, ◌*ℤ◌, w64, FitsSigned, to_z-of_z, ap, ◌∙◌, unsigned_abs, ◌/◌}
use Rattle.cal_bucket.proofs.CycleLaws.{Found, code_month, date_found}
use Rattle.cal_bucket.proofs.cycles.month_of_second.Goals as goal

date_is : (c : goal.After-from-2) → Found c.saturating_add-day.result (unsigned_abs c.args.second / 86400)
date_is c =
    let fits : FitsSigned w64 c.args.second = c.ranges.second in
    date_found c.date.result c.saturating_add-day.result c.args.second _ c.requires.low c.requires.high c.date.ensures (c.from_secs.ensures ∙ ap (λ z. z *ℤ pos 1_000_000_000) (to_z-of_z fits)) c.saturating_add-day.ensures.fits

pub returns-clause-within : goal.returns-clause-within
returns-clause-within c = (code_month c.saturating_add-day.result c.args.second c.year.result c.from.result c.month.result c.from-2.result c.requires.low (date_is c) c.year.ensures c.from.ensures c.month.ensures c.from-2.ensures).within

pub returns-clause-month : goal.returns-clause-month
returns-clause-month c = (code_month c.saturating_add-day.result c.args.second c.year.result c.from.result c.month.result c.from-2.result c.requires.low (date_is c) c.year.ensures c.from.ensures c.month.ensures c.from-2.ensures).month
