use Rattle.std.proofs.Common.{FitsSigned, w64}
use Rattle.policy_jobs.proofs.WideNumbers.{sum_of}
use Rattle.policy_jobs.proofs.policies.sum_of.Goals as goal

pub returns : goal.returns
returns c =
    let a : FitsSigned w64 c.args.a = c.ranges.a in
    let b : FitsSigned w64 c.args.b = c.ranges.b in
    sum_of c.args.a c.args.b a b
