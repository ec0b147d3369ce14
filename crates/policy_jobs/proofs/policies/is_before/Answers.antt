use Rattle.std.proofs.Common.{FitsSigned, refl, to_z-of_z, w64}
use Rattle.std.specs.Int.{w128}
use Rattle.policy_jobs.proofs.WideNumbers.{same}
use Rattle.policy_jobs.proofs.policies.is_before.Goals as goal

pub returns : goal.returns
returns c =
    let now : FitsSigned w64 c.args.now = c.ranges.now in
    let from : FitsSigned w128 c.args.from = c.ranges.from in
    rw (same c.args.now now, to_z-of_z from) refl
