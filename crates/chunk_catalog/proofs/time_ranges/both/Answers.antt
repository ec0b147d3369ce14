use Rattle.std.proofs.Common.{◌≡◌, rules}
use Rattle.std.specs.Prelude.{FitsSigned}
use Rattle.std.specs.Int.{w64, int_max, int_min}
use Rattle.std.proofs.lemmas.Int.{to_z-of_z}
use Rattle.chunk_catalog.proofs.ReachLaws.{both_hold}
use Rattle.chunk_catalog.proofs.time_ranges.both.Goals as goal

pub returns : goal.returns
returns c =
    let a_first : FitsSigned w64 c.args.a.first = search rules in
    let b_first : FitsSigned w64 c.args.b.first = search rules in
    let a_last : FitsSigned w64 c.args.a.last = search rules in
    let b_last : FitsSigned w64 c.args.b.last = search rules in
    let fits_first : FitsSigned w64 c.max.result = search rules in
    let fits_last : FitsSigned w64 c.min.result = search rules in
    let first : c.max.result ≡ int_max c.args.a.first c.args.b.first = simp to_z-of_z at c.max.ensures.value in
    let last : c.min.result ≡ int_min c.args.a.last c.args.b.last = simp to_z-of_z at c.min.ensures.value in
    record {
      both = λ t in_a in_b. simp to_z-of_z (both_hold c.args.a c.args.b c.max.result c.min.result t first last in_a in_b);
    }
