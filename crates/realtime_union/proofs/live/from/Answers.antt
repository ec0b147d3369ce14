use Rattle.std.proofs.Common.{◌≡◌, rules}
use Rattle.std.specs.Prelude.{FitsSigned}
use Rattle.std.specs.Int.{w64, int_max}
use Rattle.std.proofs.lemmas.Int.{to_z-of_z}
use Rattle.realtime_union.proofs.LiveLaws.{cut_at}
use Rattle.realtime_union.proofs.live.from.Goals as goal

pub returns : goal.returns
returns c =
    let fits_lo : FitsSigned w64 c.max-lo.result = search rules in
    let fits_hi : FitsSigned w64 c.max.result = search rules in
    let fits_from : FitsSigned w64 c.starts.inside.lo = search rules in
    let fits_to : FitsSigned w64 c.starts.inside.hi = search rules in
    let fits_mark : FitsSigned w64 c.args.mark = c.ranges.mark in
    let lo_is : c.max-lo.result ≡ int_max c.starts.inside.lo c.args.mark = simp to_z-of_z at c.max-lo.ensures.value in
    let hi_is : c.max.result ≡ int_max c.starts.inside.hi c.max-lo.result = simp to_z-of_z at c.max.ensures.value in
    record {
      exact = λ b. rw (to_z-of_z w64 c.max-lo.result fits_lo, to_z-of_z w64 c.max.result fits_hi, ← c.starts.view_is) (cut_at c.starts.inside.lo c.starts.inside.hi c.args.mark c.max-lo.result c.max.result b lo_is hi_is);
    }
