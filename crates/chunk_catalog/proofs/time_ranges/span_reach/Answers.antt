use Rattle.std.proofs.Common.{◌≡◌, false, pos, ◌-ℤ◌, ◌<ℤ◌, ap, rules, arith}
use Rattle.std.specs.Prelude.{FitsSigned, int_le}
use Rattle.std.specs.Int.{w64}
use Rattle.std.proofs.lemmas.Int.{ints, to_z-of_z}
use Rattle.chunk_catalog.proofs.ReachLaws.{met_is, fits_before}
use Rattle.chunk_catalog.proofs.time_ranges.span_reach.Goals as goal

pub returns : goal.returns
returns c =
    let fits_interval : FitsSigned w64 c.args.interval = c.ranges.interval in
    let lo_is : c.span.inside.lo ≡ c.args.span.lo = ap (λ v. v.lo) c.span.view_is in
    let hi_is : c.span.inside.hi ≡ c.args.span.hi = ap (λ v. v.hi) c.span.view_is in
    let fits_lo : FitsSigned w64 c.span.inside.lo = search rules in
    let fits_hi : FitsSigned w64 c.span.inside.hi = search rules in
    let fits_first : FitsSigned w64 c.lower_by.result = search rules in
    let fits_by : FitsSigned w64 (c.args.interval -ℤ pos 1) = fits_before c.args.interval c.requires in
    let some : int_le c.span.inside.hi c.span.inside.lo ≡ false = simp to_z-of_z at c.if-span.false in
    let apart : c.span.inside.lo <ℤ c.span.inside.hi = grind (arith, ints) in
    let above : c.args.span.lo <ℤ c.args.span.hi = omega (arith, ints) in
    let fits_last : FitsSigned w64 (c.span.inside.hi -ℤ pos 1) = search rules in
    record {
      met = λ s low.
          let floor : int_le c.lower_by.result s ≡ int_le (c.args.span.lo -ℤ (c.args.interval -ℤ pos 1)) s = rw (← lo_is) (simp to_z-of_z at (c.lower_by.ensures.floor s low)) in
          met_is c.args.interval _ _ c.args.span.lo c.args.span.hi s above (simp to_z-of_z floor) (simp to_z-of_z (ap (λ h. h -ℤ pos 1) hi_is));
    }
