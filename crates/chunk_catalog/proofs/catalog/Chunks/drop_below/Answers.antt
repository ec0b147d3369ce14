use Rattle.std.proofs.Common.{◌≡◌, ◌≤ℤ◌, ℤ, negsuc, ◌-◌, ◌^◌, ◌+ℤ◌, ◌∙◌, length, map, List, sym, ap, rules}
use Rattle.std.specs.Prelude.{FitsSigned, int_le}
use Rattle.std.specs.Int.{w64}
use Rattle.std.proofs.lemmas.Int.{to_z-of_z}
use Rattle.std.proofs.lemmas.List.{length-map}
use Rattle.ts_schema.specs.declared.conditions.Test.{Test}
use Rattle.seg_rows.specs.Hulls.{hull_of}
use Rattle.seg_rows.specs.Versions.{taken_at}
use Rattle.chunk_catalog.specs.Chunks.{after_drop, dropped_at}
use Rattle.chunk_catalog.specs.Places.{versions_of, after_kill_in, versions_in}
use Rattle.chunk_catalog.specs.Reach.{in_reach}
use Rattle.chunk_catalog.proofs.CatalogLaws.{killed_placed, dropped_reached, dropped_killed}
use Rattle.chunk_catalog.proofs.catalog.Chunks.drop_below.Goals as goal

pub invariant_of-result : goal.invariant_of-result
invariant_of-result c =
    let fits : FitsSigned w64 c.self.inside.interval = search rules in
    record {
      wide = simp to_z-of_z c.self.invariant.wide;
      placed = simp to_z-of_z (rw c.in_ok-killed.ensures.after (killed_placed c.self.inside.interval c.drop_reach-reach.result c.args.pos c.new-tests.result c.self.inside.tree.0 c.self.invariant.placed));
      counted = c.self.invariant.counted ∙ (sym (length-map c.self.inside.tree.0 (after_kill_in c.drop_reach-reach.result c.args.pos c.new-tests.result)) ∙ ap length (sym c.in_ok-killed.ensures.after));
      few = c.self.invariant.few;
    }

pub returns-clause-after : goal.returns-clause-after
returns-clause-after c =
    let fits : FitsSigned w64 c.self.inside.interval = search rules in
    let interval_is : c.self.inside.interval ≡ c.args.self.now.interval = ap (λ v. v.interval) c.self.view_is in
    let versions_is : versions_of c.self.inside.tree.0 ≡ c.args.self.now.versions = ap (λ v. v.versions) c.self.view_is in
    let fits_n : FitsSigned w64 c.args.n = c.ranges.n in
    let ended : (s : ℤ) → negsuc (2 ^ 63 - 1) ≤ℤ s → in_reach c.drop_reach-reach.result s ≡ int_le (s +ℤ c.self.inside.interval) c.args.n = simp to_z-of_z at c.drop_reach-reach.ensures.ended in
    ap versions_of c.in_ok-killed.ensures.after
    ∙ (ap (λ (ts : List Test). versions_of (map (after_kill_in c.drop_reach-reach.result c.args.pos ts) c.self.inside.tree.0)) c.new-tests.ensures.items
    ∙ (dropped_killed c.self.inside.interval c.args.n c.drop_reach-reach.result c.self.invariant.wide ended c.args.pos c.self.inside.tree.0 c.self.invariant.placed
    ∙ (ap (λ i. map (after_drop i c.args.n c.args.pos) (versions_of c.self.inside.tree.0)) interval_is ∙ ap (map (after_drop c.args.self.now.interval c.args.n c.args.pos)) versions_is)))

pub returns-clause-removed : goal.returns-clause-removed
returns-clause-removed c =
    let fits : FitsSigned w64 c.self.inside.interval = search rules in
    let interval_is : c.self.inside.interval ≡ c.args.self.now.interval = ap (λ v. v.interval) c.self.view_is in
    let versions_is : versions_of c.self.inside.tree.0 ≡ c.args.self.now.versions = ap (λ v. v.versions) c.self.view_is in
    let fits_n : FitsSigned w64 c.args.n = c.ranges.n in
    let ended : (s : ℤ) → negsuc (2 ^ 63 - 1) ≤ℤ s → in_reach c.drop_reach-reach.result s ≡ int_le (s +ℤ c.self.inside.interval) c.args.n = simp to_z-of_z at c.drop_reach-reach.ensures.ended in
    c.in_ok-killed.ensures.removed
    ∙ ap length (ap (λ (ts : List Test). taken_at c.args.pos ts (versions_in c.drop_reach-reach.result c.self.inside.tree.0)) c.new-tests.ensures.items
    ∙ (dropped_reached c.self.inside.interval c.args.n c.drop_reach-reach.result c.self.invariant.wide ended c.args.pos c.self.inside.tree.0 c.self.invariant.placed
    ∙ (ap (λ i. dropped_at i c.args.n c.args.pos (versions_of c.self.inside.tree.0)) interval_is ∙ ap (dropped_at c.args.self.now.interval c.args.n c.args.pos) versions_is)))

pub returns-clause-hull : goal.returns-clause-hull
returns-clause-hull c =
    let fits : FitsSigned w64 c.self.inside.interval = search rules in
    let interval_is : c.self.inside.interval ≡ c.args.self.now.interval = ap (λ v. v.interval) c.self.view_is in
    let versions_is : versions_of c.self.inside.tree.0 ≡ c.args.self.now.versions = ap (λ v. v.versions) c.self.view_is in
    let fits_n : FitsSigned w64 c.args.n = c.ranges.n in
    let ended : (s : ℤ) → negsuc (2 ^ 63 - 1) ≤ℤ s → in_reach c.drop_reach-reach.result s ≡ int_le (s +ℤ c.self.inside.interval) c.args.n = simp to_z-of_z at c.drop_reach-reach.ensures.ended in
    c.in_ok-killed.ensures.hull
    ∙ ap hull_of (ap (λ (ts : List Test). taken_at c.args.pos ts (versions_in c.drop_reach-reach.result c.self.inside.tree.0)) c.new-tests.ensures.items
    ∙ (dropped_reached c.self.inside.interval c.args.n c.drop_reach-reach.result c.self.invariant.wide ended c.args.pos c.self.inside.tree.0 c.self.invariant.placed
    ∙ (ap (λ i. dropped_at i c.args.n c.args.pos (versions_of c.self.inside.tree.0)) interval_is ∙ ap (dropped_at c.args.self.now.interval c.args.n c.args.pos) versions_is)))
