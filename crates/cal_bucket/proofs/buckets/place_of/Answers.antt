use Rattle.std.proofs.Common.{FitsSigned, w64, rules, to_z-of_z, ◌∙◌, subst, sym, IsTrue}
use Rattle.ts_bucket.specs.Bucket.{is_time}
use Rattle.cal_bucket.specs.Buckets.{Holds, start_at}
use Rattle.cal_bucket.proofs.PlaceLaws.{place_in_range, place_is}
use Rattle.cal_bucket.proofs.buckets.place_of.Goals as goal

pub returns-clause-place : goal.returns-clause-place
returns-clause-place c =
    let fits : FitsSigned w64 c.place_by_unit.result = search rules in
    let time_fits : FitsSigned w64 c.args.t = c.ranges.t in
    to_z-of_z fits ∙ place_is c.args.unit c.args.number c.args.t c.place_by_unit.result c.requires.number.0 (subst (λ t. Holds (start_at c.args.unit c.args.number) t c.place_by_unit.result) (to_z-of_z time_fits) c.place_by_unit.ensures.held)

pub returns-clause-in_range : goal.returns-clause-in_range
returns-clause-in_range c =
    let fits : FitsSigned w64 c.place_by_unit.result = search rules in
    let time_fits : FitsSigned w64 c.args.t = c.ranges.t in
    subst (λ p. IsTrue (is_time p)) (sym (to_z-of_z fits))
    (place_in_range c.args.unit c.args.number c.args.t c.place_by_unit.result c.requires.number.0 c.requires.time (subst (λ t. Holds (start_at c.args.unit c.args.number) t c.place_by_unit.result) (to_z-of_z time_fits) c.place_by_unit.ensures.held))
