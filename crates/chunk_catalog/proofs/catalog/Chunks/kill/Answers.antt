use Rattle.std.proofs.Common.{◌≡◌, true, false, ◌∙◌, length, map, List, sym, ap, subst, rules}
use Rattle.std.specs.Prelude.{FitsSigned}
use Rattle.std.specs.Int.{w64}
use Rattle.std.proofs.lemmas.Int.{to_z-of_z}
use Rattle.std.proofs.lemmas.List.{length-map}
use Rattle.ts_schema.specs.Conditions.{passes_all}
use Rattle.ts_schema.specs.declared.conditions.Test.{Test}
use Rattle.seg_rows.specs.Hulls.{hull_of}
use Rattle.seg_rows.specs.Versions.{after_kill, taken_at}
use Rattle.chunk_catalog.specs.Places.{Placed, versions_of, is_placed, after_kill_in}
use Rattle.chunk_catalog.specs.Reach.{HoldsPassing, in_reach}
use Rattle.chunk_catalog.proofs.CatalogLaws.{killed_placed, killed_reached, taken_reached}
use Rattle.chunk_catalog.proofs.catalog.Chunks.kill.Goals as goal

pub invariant_of-result : goal.invariant_of-result
invariant_of-result c =
    let fits : FitsSigned w64 c.self.inside.interval = search rules in
    let interval_is : c.self.inside.interval ≡ c.args.self.now.interval = ap (λ v. v.interval) c.self.view_is in
    let versions_is : versions_of c.self.inside.tree.0 ≡ c.args.self.now.versions = ap (λ v. v.versions) c.self.view_is in
    record {
      wide = simp to_z-of_z c.self.invariant.wide;
      placed = simp to_z-of_z (rw c.in_ok-killed.ensures.after (killed_placed c.self.inside.interval c.start_reach-reach.result c.args.pos c.args.tests.now c.self.inside.tree.0 c.self.invariant.placed));
      counted = c.self.invariant.counted ∙ (sym (length-map c.self.inside.tree.0 (after_kill_in c.start_reach-reach.result c.args.pos c.args.tests.now)) ∙ ap length (sym c.in_ok-killed.ensures.after));
      few = c.self.invariant.few;
    }

pub returns-clause-after : goal.returns-clause-after
returns-clause-after c =
    let fits : FitsSigned w64 c.self.inside.interval = search rules in
    let interval_is : c.self.inside.interval ≡ c.args.self.now.interval = ap (λ v. v.interval) c.self.view_is in
    let versions_is : versions_of c.self.inside.tree.0 ≡ c.args.self.now.versions = ap (λ v. v.versions) c.self.view_is in
    let holds : HoldsPassing c.args.tests.now c.test_times-times.result = subst (λ (ts : List Test). HoldsPassing ts c.test_times-times.result) c.items.ensures.items c.test_times-times.ensures.every in
    let missed : (x : Placed) → is_placed c.self.inside.interval x ≡ true → in_reach c.start_reach-reach.result x.start ≡ false → passes_all x.version.row c.args.tests.now ≡ false = simp to_z-of_z at (c.start_reach-reach.ensures.missed c.args.tests.now holds) in
    ap versions_of c.in_ok-killed.ensures.after ∙ (killed_reached c.self.inside.interval c.start_reach-reach.result c.self.invariant.wide c.args.tests.now missed c.args.pos c.self.inside.tree.0 c.self.invariant.placed ∙ ap (map (after_kill c.args.pos c.args.tests.now)) versions_is)

pub returns-clause-removed : goal.returns-clause-removed
returns-clause-removed c =
    let fits : FitsSigned w64 c.self.inside.interval = search rules in
    let interval_is : c.self.inside.interval ≡ c.args.self.now.interval = ap (λ v. v.interval) c.self.view_is in
    let versions_is : versions_of c.self.inside.tree.0 ≡ c.args.self.now.versions = ap (λ v. v.versions) c.self.view_is in
    let holds : HoldsPassing c.args.tests.now c.test_times-times.result = subst (λ (ts : List Test). HoldsPassing ts c.test_times-times.result) c.items.ensures.items c.test_times-times.ensures.every in
    let missed : (x : Placed) → is_placed c.self.inside.interval x ≡ true → in_reach c.start_reach-reach.result x.start ≡ false → passes_all x.version.row c.args.tests.now ≡ false = simp to_z-of_z at (c.start_reach-reach.ensures.missed c.args.tests.now holds) in
    c.in_ok-killed.ensures.removed ∙ ap length (taken_reached c.self.inside.interval c.start_reach-reach.result c.self.invariant.wide c.args.tests.now missed c.args.pos c.self.inside.tree.0 c.self.invariant.placed ∙ ap (taken_at c.args.pos c.args.tests.now) versions_is)

pub returns-clause-hull : goal.returns-clause-hull
returns-clause-hull c =
    let fits : FitsSigned w64 c.self.inside.interval = search rules in
    let interval_is : c.self.inside.interval ≡ c.args.self.now.interval = ap (λ v. v.interval) c.self.view_is in
    let versions_is : versions_of c.self.inside.tree.0 ≡ c.args.self.now.versions = ap (λ v. v.versions) c.self.view_is in
    let holds : HoldsPassing c.args.tests.now c.test_times-times.result = subst (λ (ts : List Test). HoldsPassing ts c.test_times-times.result) c.items.ensures.items c.test_times-times.ensures.every in
    let missed : (x : Placed) → is_placed c.self.inside.interval x ≡ true → in_reach c.start_reach-reach.result x.start ≡ false → passes_all x.version.row c.args.tests.now ≡ false = simp to_z-of_z at (c.start_reach-reach.ensures.missed c.args.tests.now holds) in
    c.in_ok-killed.ensures.hull ∙ ap hull_of (taken_reached c.self.inside.interval c.start_reach-reach.result c.self.invariant.wide c.args.tests.now missed c.args.pos c.self.inside.tree.0 c.self.invariant.placed ∙ ap (taken_at c.args.pos c.args.tests.now) versions_is)
