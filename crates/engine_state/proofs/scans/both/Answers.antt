use Rattle.std.proofs.Common.{◌≡◌, rules}
use Rattle.std.specs.Prelude.{FitsSigned}
use Rattle.std.specs.Int.{w64, int_max, int_min}
use Rattle.std.proofs.lemmas.Int.{to_z-of_z}
use Rattle.engine_state.proofs.ScanFacts.{both_is}
use Rattle.engine_state.proofs.scans.both.Goals as goal

pub returns : goal.returns
returns c =
    let fits_alo : FitsSigned w64 c.a.inside.lo = search rules in
    let fits_ahi : FitsSigned w64 c.a.inside.hi = search rules in
    let fits_blo : FitsSigned w64 c.b.inside.lo = search rules in
    let fits_bhi : FitsSigned w64 c.b.inside.hi = search rules in
    let fits_lo : FitsSigned w64 c.max-lo.result = search rules in
    let fits_min : FitsSigned w64 c.min.result = search rules in
    let fits_hi : FitsSigned w64 c.max.result = search rules in
    let lo_is : c.max-lo.result ≡ int_max c.a.inside.lo c.b.inside.lo = simp to_z-of_z at c.max-lo.ensures.value in
    let min_is : c.min.result ≡ int_min c.a.inside.hi c.b.inside.hi = simp to_z-of_z at c.min.ensures.value in
    let hi_is : c.max.result ≡ int_max c.min.result c.max-lo.result = simp to_z-of_z at c.max.ensures.value in
    λ t.
    rw (to_z-of_z w64 c.max-lo.result fits_lo, to_z-of_z w64 c.max.result fits_hi, ← c.a.view_is, ← c.b.view_is)
    (both_is c.a.inside.lo c.a.inside.hi c.b.inside.lo c.b.inside.hi c.max-lo.result c.min.result c.max.result t lo_is min_is hi_is)
