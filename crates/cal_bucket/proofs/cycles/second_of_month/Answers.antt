use Rattle.std.proofs.Common.{pos, ◌+ℤ◌, ◌≤ℤ◌, ◌<ℤ◌, FitsSigned, w64, rules, to_z-of_z, subst, sym, ap, ◌∙◌}
use Rattle.cal_bucket.proofs.CycleLaws.{StartsAt, start_found, first_is_date, code_year, code_place}
use Rattle.cal_bucket.proofs.cycles.second_of_month.Goals as goal

pub date-first-requires : goal.date-first-requires
date-first-requires c = first_is_date c.args.month _ _ c.requires (code_year c.args.month c.requires) (code_place c.args.month c.requires)

found : (c : goal.After-as_secs) → StartsAt c.args.month c.as_secs.result
found c = start_found c.date-first.result c.date.result c.args.month _ _ _ c.as_secs.result c.requires (code_year c.args.month c.requires) (code_place c.args.month c.requires) c.date-first.ensures c.date.ensures c.duration_since.ensures c.as_secs.ensures

pub returns-clause-start : goal.returns-clause-start
returns-clause-start c =
    let fits : FitsSigned w64 c.as_secs.result = search rules in
    (found c).is ∙ ap (λ s. pos 946684800 +ℤ s) (sym (to_z-of_z fits))

pub returns-clause-low : goal.returns-clause-low
returns-clause-low c =
    let fits : FitsSigned w64 c.as_secs.result = search rules in
    subst (λ s. pos 0 ≤ℤ s) (sym (to_z-of_z fits)) (found c).low

pub returns-clause-high : goal.returns-clause-high
returns-clause-high c =
    let fits : FitsSigned w64 c.as_secs.result = search rules in
    subst (λ s. s <ℤ pos 12622780800) (sym (to_z-of_z fits)) (found c).high
