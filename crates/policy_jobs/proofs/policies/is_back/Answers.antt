use Rattle.std.proofs.Common.{FitsSigned, refl, w64}
use Rattle.policy_jobs.proofs.WideNumbers.{difference, same}
use Rattle.policy_jobs.proofs.policies.is_back.Goals as goal

pub returns : goal.returns
returns c =
    let now : FitsSigned w64 c.args.now = c.ranges.now in
    let every : FitsSigned w64 c.args.every = c.ranges.every in
    let last : FitsSigned w64 c.args.last = c.ranges.last in
    rw (same c.args.every every, difference c.args.now c.args.last now last) refl
