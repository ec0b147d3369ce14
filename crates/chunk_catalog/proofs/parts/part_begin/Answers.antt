use Rattle.std.proofs.Common.{arith}
use Rattle.std.specs.Prelude.{FitsSigned}
use Rattle.std.specs.Int.{w64}
use Rattle.std.proofs.lemmas.Int.{to_z-of_z}
use Rattle.chunk_catalog.proofs.PartLaws.{last_in}
use Rattle.chunk_catalog.proofs.parts.part_begin.Goals as goal

pub loop-from-init : goal.loop-from-init
loop-from-init c =
    let fits_interval : FitsSigned w64 c.args.interval = c.ranges.interval in
    let fits_start : FitsSigned w64 c.args.start = c.ranges.start in
    record {
      within = omega (arith, c.requires.some);
      here = simp to_z-of_z (last_in c.args.interval c.args.start c.args.rows.now c.requires.some c.requires.last);
    }
