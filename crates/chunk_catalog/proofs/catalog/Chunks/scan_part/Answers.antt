use Rattle.std.proofs.Common.{◌≡◌, ◌≤ℤ◌, ℤ, negsuc, ◌-◌, ◌^◌, ◌∙◌, ◌++◌, length, ap, subst, rules}
use Rattle.std.specs.Prelude.{FitsSigned}
use Rattle.std.specs.Int.{w64}
use Rattle.std.proofs.lemmas.Int.{to_z-of_z}
use Rattle.std.proofs.lemmas.Result.{err_from_is_err_and}
use Rattle.ts_schema.specs.Counts.{raised_by, RaisedUpTo}
use Rattle.seg_rows.specs.Versions.{rows_at}
use Rattle.chunk_catalog.specs.Chunks.{chunk_meets, held_near}
use Rattle.ts_bucket.specs.Chunks.{IsInterval}
use Rattle.chunk_catalog.specs.Places.{versions_of, versions_in}
use Rattle.chunk_catalog.specs.Reach.{in_reach}
use Rattle.chunk_catalog.proofs.CatalogLaws.{held_reached, shown_reached}
use Rattle.chunk_catalog.proofs.catalog.Chunks.scan_part.Goals as goal

pub returns-in_err-scan-clause-at_most : goal.returns-in_err-scan-clause-at_most
returns-in_err-scan-clause-at_most g c =
    let fits : FitsSigned w64 c.self.inside.interval = search rules in
    let interval_is : c.self.inside.interval ≡ c.args.self.now.interval = ap (λ v. v.interval) c.self.view_is in
    let versions_is : versions_of c.self.inside.tree.0 ≡ c.args.self.now.versions = ap (λ v. v.versions) c.self.view_is in
    let met : (s : ℤ) → negsuc (2 ^ 63 - 1) ≤ℤ s → in_reach c.span_reach-reach.result s ≡ chunk_meets c.self.inside.interval c.args.span s = simp to_z-of_z at c.span_reach-reach.ensures.met in
    let held : length (versions_in c.span_reach-reach.result c.self.inside.tree.0) ≡ held_near c.args.self.now.interval c.args.span c.args.self.now.versions =
    held_reached c.self.inside.interval c.span_reach-reach.result c.self.invariant.wide c.args.span met c.self.inside.tree.0 c.self.invariant.placed
    ∙ (ap (λ i. held_near i c.args.span (versions_of c.self.inside.tree.0)) interval_is ∙ ap (held_near c.args.self.now.interval c.args.span) versions_is) in
    let p = err_from_is_err_and c.from_residual.result c.from_residual.ensures.1 in
    rw p.1 (subst (λ n. RaisedUpTo n c.args.steps.now c.scan.new.steps) held c.in_err-scan.ensures.at_most)

pub returns-clause-rows : goal.returns-clause-rows
returns-clause-rows g c =
    let fits : FitsSigned w64 c.self.inside.interval = search rules in
    let interval_is : c.self.inside.interval ≡ c.args.self.now.interval = ap (λ v. v.interval) c.self.view_is in
    let versions_is : versions_of c.self.inside.tree.0 ≡ c.args.self.now.versions = ap (λ v. v.versions) c.self.view_is in
    let met : (s : ℤ) → negsuc (2 ^ 63 - 1) ≤ℤ s → in_reach c.span_reach-reach.result s ≡ chunk_meets c.self.inside.interval c.args.span s = simp to_z-of_z at c.span_reach-reach.ensures.met in
    let held : length (versions_in c.span_reach-reach.result c.self.inside.tree.0) ≡ held_near c.args.self.now.interval c.args.span c.args.self.now.versions =
    held_reached c.self.inside.interval c.span_reach-reach.result c.self.invariant.wide c.args.span met c.self.inside.tree.0 c.self.invariant.placed
    ∙ (ap (λ i. held_near i c.args.span (versions_of c.self.inside.tree.0)) interval_is ∙ ap (held_near c.args.self.now.interval c.args.span) versions_is) in
    c.in_ok-scan.ensures.rows
    ∙ (ap (λ rows. rows ++ rows_at c.args.pos c.args.part (versions_in c.span_reach-reach.result c.self.inside.tree.0)) c.new-rows.ensures.items
    ∙ (shown_reached c.self.inside.interval c.span_reach-reach.result c.self.invariant.wide c.args.span met c.args.part c.requires.within c.args.pos c.self.inside.tree.0 c.self.invariant.placed
    ∙ ap (rows_at c.args.pos c.args.part) versions_is))

pub returns-clause-ticks : goal.returns-clause-ticks
returns-clause-ticks g c =
    let fits : FitsSigned w64 c.self.inside.interval = search rules in
    let interval_is : c.self.inside.interval ≡ c.args.self.now.interval = ap (λ v. v.interval) c.self.view_is in
    let versions_is : versions_of c.self.inside.tree.0 ≡ c.args.self.now.versions = ap (λ v. v.versions) c.self.view_is in
    let met : (s : ℤ) → negsuc (2 ^ 63 - 1) ≤ℤ s → in_reach c.span_reach-reach.result s ≡ chunk_meets c.self.inside.interval c.args.span s = simp to_z-of_z at c.span_reach-reach.ensures.met in
    let held : length (versions_in c.span_reach-reach.result c.self.inside.tree.0) ≡ held_near c.args.self.now.interval c.args.span c.args.self.now.versions =
    held_reached c.self.inside.interval c.span_reach-reach.result c.self.invariant.wide c.args.span met c.self.inside.tree.0 c.self.invariant.placed
    ∙ (ap (λ i. held_near i c.args.span (versions_of c.self.inside.tree.0)) interval_is ∙ ap (held_near c.args.self.now.interval c.args.span) versions_is) in
    c.in_ok-scan.ensures.ticks ∙ ap (λ n. raised_by n c.args.steps.now) held

pub returns-in_err-scan-clause-wide : goal.returns-in_err-scan-clause-wide
returns-in_err-scan-clause-wide g c = subst IsInterval (ap (λ v. v.interval) c.self.view_is) c.self.invariant.wide

pub returns-clause-wide : goal.returns-clause-wide
returns-clause-wide g c = subst IsInterval (ap (λ v. v.interval) c.self.view_is) c.self.invariant.wide
