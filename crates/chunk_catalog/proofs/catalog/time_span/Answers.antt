use Rattle.std.proofs.Common.{◌≡◌, ◌≤ℤ◌, ◌<ℤ◌, rules}
use Rattle.std.specs.Prelude.{FitsSigned}
use Rattle.std.specs.Int.{w64, int_max}
use Rattle.std.proofs.lemmas.Int.{to_z-of_z}
use Rattle.ts_bucket.specs.Bucket.{min_time}
use Rattle.chunk_catalog.proofs.ReachLaws.{in_time_span}
use Rattle.chunk_catalog.proofs.catalog.time_span.Goals as goal

pub returns : goal.returns
returns c =
    let fits_first : FitsSigned w64 c.args.first = c.ranges.first in
    let fits_last : FitsSigned w64 c.args.last = c.ranges.last in
    let fits_lo : FitsSigned w64 c.max-lo.result = search rules in
    let fits_end : FitsSigned w64 c.time_end.result = search rules in
    let fits_hi : FitsSigned w64 c.max.result = search rules in
    let lo_is : c.max-lo.result ≡ int_max c.args.first min_time = simp to_z-of_z at c.max-lo.ensures.value in
    let above : c.time_end.result ≤ℤ c.max.result = simp to_z-of_z at c.max.ensures.self_bound in
    record {
      every = λ t time from upto.
          let below : t <ℤ c.time_end.result = c.time_end.ensures.after t time (rw (to_z-of_z w64 c.args.last fits_last) upto) in
          rw (to_z-of_z w64 c.max-lo.result fits_lo, to_z-of_z w64 c.max.result fits_hi) (in_time_span c.args.first t c.max-lo.result c.time_end.result c.max.result lo_is above time from below);
    }
