use Rattle.std.proofs.Common.{◌≡◌, ℤ, ◌∙◌, ◌++◌, map, sym, ap, subst, rules, arith}
use Rattle.std.specs.Prelude.{FitsSigned}
use Rattle.std.specs.Int.{w64}
use Rattle.std.proofs.lemmas.Int.{to_z-of_z}
use Rattle.std.proofs.lemmas.List.{length-map}
use mir.Val.{to_z, of_z}
use Rattle.chunk_catalog.specs.Places.{versions_of}
use Rattle.std.specs.List.{count_by}
use Rattle.seg_rows.specs.Versions.{newborn}
use Rattle.ts_bucket.specs.Chunks.{IsInterval}
use Rattle.chunk_catalog.specs.Places.{ArePlaced}
use Rattle.chunk_catalog.specs.Parts.{placed_row, placed_rows}
use Rattle.chunk_catalog.proofs.PartLaws.{length_more, placed_more, versions_more}
use Rattle.chunk_catalog.proofs.catalog.Chunks.put.Goals as goal

pub invariant_of-result : goal.invariant_of-result
invariant_of-result c =
    let fits : FitsSigned w64 c.self.inside.interval = search rules in
    let interval_is : to_z w64 (of_z w64 c.self.inside.interval) ≡ c.self.inside.interval = to_z-of_z w64 c.self.inside.interval fits in
    let placed : ArePlaced (to_z w64 (of_z w64 c.self.inside.interval)) c.self.inside.tree.0 = subst (λ (i : ℤ). ArePlaced i c.self.inside.tree.0) (sym interval_is) c.self.invariant.placed in
    let more = length_more c.in_ok-put_rows.field-0.0 c.self.inside.tree.0 (placed_rows (to_z w64 (of_z w64 c.self.inside.interval)) c.args.pos c.args.rows) c.in_ok-put_rows.ensures.versions in
    let as_many = length-map c.args.rows (placed_row (to_z w64 (of_z w64 c.self.inside.interval)) c.args.pos) in
    record {
      wide = subst IsInterval (sym interval_is) c.self.invariant.wide;
      placed = placed_more (to_z w64 (of_z w64 c.self.inside.interval)) c.args.pos c.self.inside.tree.0 c.in_ok-put_rows.field-0.0 c.args.rows placed c.requires.times c.in_ok-put_rows.ensures.versions;
      counted = omega (arith, more, as_many, c.saturating_add-count.ensures, c.len.ensures.len, c.self.invariant.counted, c.if-count-gt-MOST_VERSIONS.false);
      few = omega (arith, c.if-count-gt-MOST_VERSIONS.false);
    }

pub returns-clause-versions : goal.returns-clause-versions
returns-clause-versions c =
    let versions_is : versions_of c.self.inside.tree.0 ≡ c.args.self.now.versions = ap (λ v. v.versions) c.self.view_is in
    λ test.
    versions_more (to_z w64 (of_z w64 c.self.inside.interval)) c.args.pos c.self.inside.tree.0 c.in_ok-put_rows.field-0.0 c.args.rows c.in_ok-put_rows.ensures.versions test
    ∙ ap (λ vs. count_by test (vs ++ map (newborn c.args.pos) c.args.rows)) versions_is
