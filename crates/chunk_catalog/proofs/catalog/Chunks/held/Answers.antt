use Rattle.std.proofs.Common.{◌≡◌, ◌≤ℤ◌, ℤ, negsuc, ◌-◌, ◌^◌, ◌∙◌, length, ap, rules}
use Rattle.std.specs.Prelude.{FitsSigned}
use Rattle.std.specs.Int.{w64}
use Rattle.std.proofs.lemmas.Int.{to_z-of_z}
use Rattle.chunk_catalog.specs.Chunks.{chunk_meets, held_near}
use Rattle.chunk_catalog.specs.Places.{versions_of, versions_in}
use Rattle.chunk_catalog.specs.Reach.{in_reach}
use Rattle.chunk_catalog.proofs.CatalogLaws.{held_reached}
use Rattle.chunk_catalog.proofs.catalog.Chunks.held.Goals as goal

pub returns : goal.returns
returns c =
    let fits : FitsSigned w64 c.self.inside.interval = search rules in
    let interval_is : c.self.inside.interval ≡ c.args.self.now.interval = ap (λ v. v.interval) c.self.view_is in
    let versions_is : versions_of c.self.inside.tree.0 ≡ c.args.self.now.versions = ap (λ v. v.versions) c.self.view_is in
    let met : (s : ℤ) → negsuc (2 ^ 63 - 1) ≤ℤ s → in_reach c.span_reach.result s ≡ chunk_meets c.self.inside.interval c.args.span s = simp to_z-of_z at c.span_reach.ensures.met in
    let held : length (versions_in c.span_reach.result c.self.inside.tree.0) ≡ held_near c.args.self.now.interval c.args.span c.args.self.now.versions =
    held_reached c.self.inside.interval c.span_reach.result c.self.invariant.wide c.args.span met c.self.inside.tree.0 c.self.invariant.placed
    ∙ (ap (λ i. held_near i c.args.span (versions_of c.self.inside.tree.0)) interval_is ∙ ap (held_near c.args.self.now.interval c.args.span) versions_is) in
    record { held = c.held.ensures.held ∙ held }
