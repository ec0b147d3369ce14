use Rattle.std.proofs.Common.{◌≡◌, Some, ◌+◌, ◌<◌, ◌^◌, ap, arith, rules}
use Rattle.std.specs.Prelude.{◌+ℤ◌}
use Rattle.std.specs.Int.{w64, w128}
use Rattle.std.specs.Int.RustNames.{FitsSigned}
use Rattle.std.proofs.lemmas.Int.{to_z-of_z}
use Rattle.ts_num.specs.Aggregates.{greater, lesser}
use Rattle.partial_agg.specs.Ends.{IsKept, end_of}
use Rattle.partial_agg.specs.Summaries.{IsBounded, Summary}
use Rattle.partial_agg.proofs.Bounds.{bounded_fits, bounded_join, bounded_one}
use Rattle.partial_agg.proofs.EndLaws.{end_kept, value_joined}
use Rattle.partial_agg.proofs.partials.Partial.add_value.Goals as goal

pub invariant_of-self : goal.invariant_of-self
invariant_of-self c =
    let fits : FitsSigned w64 c.args.v = c.ranges.v in
    let wide : FitsSigned w128 c.args.v = bounded_fits _ _ _ (bounded_one c.args.v fits) in
    let least : FitsSigned w64 c.ends_with-least.result.0 = search rules in
    let most : FitsSigned w64 c.ends_with-least.result.1 = search rules in
    let is : c.from.result ≡ c.args.v = simp to_z-of_z at c.from.ensures in
    let room : c.self.inside.count + 1 < 2 ^ 62 = omega (arith, ap (λ (s : Summary). s.count) c.self.view_is, c.requires) in
    let mine : FitsSigned w128 c.self.inside.sum = bounded_fits _ _ _ c.self.invariant.bounded in
    let both : IsBounded (c.self.inside.count + 1) (c.self.inside.values + 1) (c.self.inside.sum +ℤ c.args.v) =
    bounded_join _ _ _ _ _ _ c.self.invariant.bounded (bounded_one c.args.v fits) room in
    let whole : FitsSigned w128 (c.self.inside.sum +ℤ c.args.v) = bounded_fits _ _ _ both in
    let kept : IsKept (c.self.inside.count + 1) (c.self.inside.values + 1) (c.self.inside.sum +ℤ c.args.v) c.ends_with-least.result.0 c.ends_with-least.result.1 = record {
      bounded = both;
      least_is = end_kept _ _ (omega arith);
      most_is = end_kept _ _ (omega arith);
    } in
    simp (to_z-of_z, is) kept

pub returns : goal.returns
returns c =
    let fits : FitsSigned w64 c.args.v = c.ranges.v in
    let wide : FitsSigned w128 c.args.v = bounded_fits _ _ _ (bounded_one c.args.v fits) in
    let least : FitsSigned w64 c.ends_with-least.result.0 = search rules in
    let most : FitsSigned w64 c.ends_with-least.result.1 = search rules in
    let is : c.from.result ≡ c.args.v = simp to_z-of_z at c.from.ensures in
    let room : c.self.inside.count + 1 < 2 ^ 62 = omega (arith, ap (λ (s : Summary). s.count) c.self.view_is, c.requires) in
    let mine : FitsSigned w128 c.self.inside.sum = bounded_fits _ _ _ c.self.invariant.bounded in
    let both : IsBounded (c.self.inside.count + 1) (c.self.inside.values + 1) (c.self.inside.sum +ℤ c.args.v) =
    bounded_join _ _ _ _ _ _ c.self.invariant.bounded (bounded_one c.args.v fits) room in
    let whole : FitsSigned w128 (c.self.inside.sum +ℤ c.args.v) = bounded_fits _ _ _ both in
    let mine_least : FitsSigned w64 c.self.inside.least = search rules in
    let mine_most : FitsSigned w64 c.self.inside.most = search rules in
    let least_is : Some c.ends_with-least.result.0 ≡ lesser (end_of c.self.inside.values c.self.inside.least) (Some c.args.v) = simp to_z-of_z at c.ends_with-least.ensures.least in
    let most_is : Some c.ends_with-least.result.1 ≡ greater (end_of c.self.inside.values c.self.inside.most) (Some c.args.v) = simp to_z-of_z at c.ends_with-least.ensures.most in
    let made = value_joined (record { count = c.self.inside.count; values = c.self.inside.values; sum = c.self.inside.sum; least = end_of c.self.inside.values c.self.inside.least; most = end_of c.self.inside.values c.self.inside.most }) c.args.v c.ends_with-least.result.0 c.ends_with-least.result.1 least_is most_is in
    simp (to_z-of_z, is, ← c.self.view_is) made
