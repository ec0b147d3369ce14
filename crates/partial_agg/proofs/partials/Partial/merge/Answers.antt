use Rattle.std.proofs.Common.{◌≡◌, refl, ◌+◌, ◌<◌, ◌^◌, ◌∙◌, rules}
use Rattle.std.specs.Prelude.{◌+ℤ◌}
use Rattle.std.specs.Int.{w64, w128}
use Rattle.std.specs.Int.RustNames.{FitsSigned}
use Rattle.std.proofs.lemmas.Int.{to_z-of_z}
use Rattle.ts_num.specs.Aggregates.{greater, lesser}
use Rattle.partial_agg.specs.Ends.{IsKept, end_of}
use Rattle.partial_agg.specs.Summaries.{IsBounded}
use Rattle.partial_agg.proofs.Bounds.{bounded_join, bounded_fits}
use Rattle.partial_agg.proofs.Joined.{joined_columns}
use Rattle.partial_agg.proofs.partials.Partial.merge.Goals as goal

pub invariant_of-self : goal.invariant_of-self
invariant_of-self c =
    let mine : FitsSigned w128 c.self.inside.sum = bounded_fits _ _ _ c.self.invariant.bounded in
    let theirs : FitsSigned w128 c.other.inside.sum = bounded_fits _ _ _ c.other.invariant.bounded in
    let room : c.self.inside.count + c.other.inside.count < 2 ^ 62 = rw (← c.self.view_is, ← c.other.view_is) at c.requires in
    let both : IsBounded (c.self.inside.count + c.other.inside.count) (c.self.inside.values + c.other.inside.values) (c.self.inside.sum +ℤ c.other.inside.sum) =
    bounded_join _ _ _ _ _ _ c.self.invariant.bounded c.other.invariant.bounded room in
    let whole : FitsSigned w128 (c.self.inside.sum +ℤ c.other.inside.sum) = bounded_fits _ _ _ both in
    let a_least : FitsSigned w64 c.self.inside.least = search rules in
    let b_least : FitsSigned w64 c.other.inside.least = search rules in
    let a_most : FitsSigned w64 c.self.inside.most = search rules in
    let b_most : FitsSigned w64 c.other.inside.most = search rules in
    let least : FitsSigned w64 c.least_joined-least.result = search rules in
    let most : FitsSigned w64 c.most_joined-most.result = search rules in
    let kept : IsKept (c.self.inside.count + c.other.inside.count) (c.self.inside.values + c.other.inside.values) (c.self.inside.sum +ℤ c.other.inside.sum) c.least_joined-least.result c.most_joined-most.result = record {
      bounded = both;
      least_is = c.least_joined-least.ensures.kept;
      most_is = c.most_joined-most.ensures.kept;
    } in
    simp to_z-of_z kept

pub returns-clause-merged : goal.returns-clause-merged
returns-clause-merged c =
    let mine : FitsSigned w128 c.self.inside.sum = bounded_fits _ _ _ c.self.invariant.bounded in
    let theirs : FitsSigned w128 c.other.inside.sum = bounded_fits _ _ _ c.other.invariant.bounded in
    let room : c.self.inside.count + c.other.inside.count < 2 ^ 62 = rw (← c.self.view_is, ← c.other.view_is) at c.requires in
    let both : IsBounded (c.self.inside.count + c.other.inside.count) (c.self.inside.values + c.other.inside.values) (c.self.inside.sum +ℤ c.other.inside.sum) =
    bounded_join _ _ _ _ _ _ c.self.invariant.bounded c.other.invariant.bounded room in
    let whole : FitsSigned w128 (c.self.inside.sum +ℤ c.other.inside.sum) = bounded_fits _ _ _ both in
    let a_least : FitsSigned w64 c.self.inside.least = search rules in
    let b_least : FitsSigned w64 c.other.inside.least = search rules in
    let a_most : FitsSigned w64 c.self.inside.most = search rules in
    let b_most : FitsSigned w64 c.other.inside.most = search rules in
    let least : FitsSigned w64 c.least_joined-least.result = search rules in
    let most : FitsSigned w64 c.most_joined-most.result = search rules in
    let least_is : end_of (c.self.inside.values + c.other.inside.values) c.least_joined-least.result ≡ lesser (end_of c.self.inside.values c.self.inside.least) (end_of c.other.inside.values c.other.inside.least) = simp to_z-of_z at c.least_joined-least.ensures.shown in
    let most_is : end_of (c.self.inside.values + c.other.inside.values) c.most_joined-most.result ≡ greater (end_of c.self.inside.values c.self.inside.most) (end_of c.other.inside.values c.other.inside.most) = simp to_z-of_z at c.most_joined-most.ensures.shown in
    simp (to_z-of_z, least_is, most_is, ← c.self.view_is, ← c.other.view_is) refl

pub returns-clause-of_columns : goal.returns-clause-of_columns
returns-clause-of_columns c mine theirs p q = returns-clause-merged c ∙ joined_columns _ _ mine theirs p q
