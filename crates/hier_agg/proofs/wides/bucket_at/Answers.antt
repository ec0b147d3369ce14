use Rattle.std.proofs.Common.{◌≡◌, arith, rules, sym, ap, ◌∙◌, ◌+ℤ◌, FitsSigned, to_z, of_z, to_z-of_z, w64}
use Rattle.std.specs.Int.{w128}
use Rattle.std.proofs.lemmas.Int.{ints}
use Rattle.ts_bucket.specs.Bucket.{IsWidth, bucket_of}
use Rattle.hier_agg.proofs.Stands.{numbers_held}
use Rattle.hier_agg.proofs.wides.bucket_at.Goals as goal

pub returns-in-Some-clause-numbers : goal.returns-in-Some-clause-numbers
returns-in-Some-clause-numbers c =
    let width = c.args.width.now in
    let start = c.in_ok-start.start in
    let wide : IsWidth width = search rules in
    let start_fits : FitsSigned w128 start = search rules in
    let end_fits : FitsSigned w128 c.in-Some.end = search rules in
    let t_fits : FitsSigned w128 c.args.t = c.ranges.t in
    let is : start ≡ bucket_of width c.args.t = c.in_ok-start.ensures ∙ ap (bucket_of width) (to_z-of_z t_fits) in
    let step_is : c.width.inside.step ≡ width.step = ap (λ w. w.step) c.width.view_is in
    let step_fits : FitsSigned w64 c.width.inside.step = let low = c.width.invariant.positive in let high = c.width.invariant.bounded in omega (arith, ints, low, high) in
    let from_fits : FitsSigned w128 c.from.result = search rules in
    let ends : c.in-Some.end ≡ start +ℤ width.step =
    c.in-Some.ensures.1 ∙ ap (λ s. s +ℤ to_z w128 (of_z w128 c.from.result)) (to_z-of_z start_fits)
    ∙ ap (λ n. start +ℤ n) (to_z-of_z from_fits ∙ c.from.ensures ∙ to_z-of_z step_fits ∙ step_is) in
    numbers_held width c.args.t (to_z w128 (of_z w128 start)) (to_z w128 (of_z w128 c.in-Some.end)) wide (to_z-of_z start_fits ∙ is) (to_z-of_z end_fits ∙ ends ∙ ap (λ s. s +ℤ width.step) (sym (to_z-of_z start_fits)))
