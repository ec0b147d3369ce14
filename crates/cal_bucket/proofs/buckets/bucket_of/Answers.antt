use Rattle.std.proofs.Common.{rules, ap, subst, ◌∙◌, pos, ◌+ℤ◌, ◌<ℤ◌, FitsSigned, to_z, of_z, to_z-of_z, w64}
use Rattle.cal_bucket.specs.Buckets.{start_at}
use Rattle.cal_bucket.proofs.NameLaws.{names_its_times}
use Rattle.cal_bucket.proofs.buckets.bucket_of.Goals as goal

pub returns-clause-names : goal.returns-clause-names
returns-clause-names c =
    let unit = c.args.unit in
    let number = c.args.number in
    let place_fits : FitsSigned w64 c.place_of-place.result = search rules in
    let start_fits : FitsSigned w64 c.place_start.result = search rules in
    let end_fits : FitsSigned w64 c.place_end.result = search rules in
    names_its_times unit number c.place_of-place.result (record { start = to_z w64 (of_z w64 c.place_start.result); end = to_z w64 (of_z w64 c.place_end.result) }) c.requires.number.0
    (to_z-of_z start_fits ∙ c.place_start.ensures.start ∙ ap (start_at unit number) (to_z-of_z place_fits))
    (λ t time low. subst (λ p. t <ℤ start_at unit number (p +ℤ pos 1)) (to_z-of_z place_fits) (c.place_end.ensures.end t time (subst (λ e. t <ℤ e) (to_z-of_z end_fits) low)))
