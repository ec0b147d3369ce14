use Rattle.std.proofs.Common.{◌≡◌, pos, ◌-ℤ◌, rules}
use Rattle.std.specs.Prelude.{FitsSigned, int_le}
use Rattle.std.specs.Int.{w64}
use Rattle.std.proofs.lemmas.Int.{to_z-of_z}
use Rattle.std.proofs.lemmas.Bool.{false_from_ne_true}
use Rattle.chunk_catalog.proofs.ReachLaws.{lies, start_reached, not_both, fits_time, fits_before, start_low}
use Rattle.chunk_catalog.proofs.time_ranges.start_reach.Goals as goal

pub returns : goal.returns
returns c =
    let fits_interval : FitsSigned w64 c.args.interval = c.ranges.interval in
    let fits_first : FitsSigned w64 c.args.times.first = search rules in
    let fits_last : FitsSigned w64 c.args.times.last = search rules in
    let fits_low : FitsSigned w64 c.lower_by.result = search rules in
    record {
      missed = λ tests holds x placed apart.
          let here = lies c.args.interval x c.requires placed in
          let fits : FitsSigned w64 x.version.row.at = fits_time x.version.row.at here.time_low here.time_high in
          let fits_by : FitsSigned w64 (c.args.interval -ℤ pos 1) = fits_before c.args.interval c.requires in
          let floor : int_le c.lower_by.result x.start ≡ int_le (c.args.times.first -ℤ (c.args.interval -ℤ pos 1)) x.start = simp to_z-of_z at (c.lower_by.ensures.floor x.start (start_low c.args.interval x c.requires here)) in
          false_from_ne_true _ (λ passes.
          let times = holds x.version.row fits passes in
          not_both _ (start_reached c.args.interval c.lower_by.result c.args.times.first c.args.times.last x.start x.version.row.at here.at_or_after here.before_end floor times) (simp to_z-of_z at apart));
    }
