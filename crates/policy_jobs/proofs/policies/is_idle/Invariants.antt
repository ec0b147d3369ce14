use Rattle.std.proofs.Common.{◌≡◌, drop}
use Rattle.std.specs.List.{list_any}
use Rattle.policy_jobs.specs.Policies.{is_due}
use Rattle.policy_jobs.proofs.policies.is_idle.Given as goal

-- none of those so far is due
abbrev pub invariant-loop-policy : goal.invariant-loop-policy
invariant-loop-policy l =
    list_any (is_due l.fn.now) (drop l.policy-index l.fn.policies) ≡ list_any (is_due l.fn.now) l.fn.policies
