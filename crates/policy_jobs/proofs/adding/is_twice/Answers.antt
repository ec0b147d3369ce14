use Rattle.std.proofs.Common.{FitsSigned, refl, w64}
use Rattle.policy_jobs.proofs.WideNumbers.{difference, sum_of}
use Rattle.policy_jobs.proofs.adding.is_twice.Goals as goal

pub returns : goal.returns
returns c =
    let step : FitsSigned w64 c.args.step = c.ranges.step in
    let from : FitsSigned w64 c.args.from = c.ranges.from in
    let to : FitsSigned w64 c.args.to = c.ranges.to in
    rw (sum_of c.args.step c.args.step step step, difference c.args.from c.args.to from to) refl
