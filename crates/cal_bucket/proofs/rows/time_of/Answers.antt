-- The cell at the place of the time shows it.
use Rattle.std.proofs.Common.{◌∙◌, ap, pos, sym, subst, FitsSigned, IsSomeAnd, IsTrue, rules, unwrap_or}
use Rattle.std.specs.Int.{w64}
use Rattle.std.proofs.lemmas.Int.{to_z-of_z}
use Rattle.ts_bucket.specs.Bucket.{is_time}
use Rattle.cal_bucket.proofs.ShapeLaws.{time_is, time_is_shown}
use Rattle.cal_bucket.proofs.rows.time_of.Goals as goal

pub time_shown-requires : goal.time_shown-requires
time_shown-requires c = subst (λ v. IsSomeAnd v (λ n. IsTrue (is_time n))) (sym c.value_at.ensures.value) (time_is_shown c.args.at c.args.cells.now c.requires)

pub returns-clause-value : goal.returns-clause-value
returns-clause-value c =
    let fits : FitsSigned w64 c.time_shown.result = search rules in
    to_z-of_z w64 c.time_shown.result fits ∙ c.time_shown.ensures.value ∙ ap (λ v. unwrap_or v (pos 0)) c.value_at.ensures.value ∙ time_is c.args.at c.args.cells.now c.requires
