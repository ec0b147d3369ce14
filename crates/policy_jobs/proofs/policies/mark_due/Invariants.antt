use Rattle.std.proofs.Common.{◌≡◌, ◌++◌, drop, take}
use Rattle.policy_jobs.specs.Policies.{policies_after_tick}
use Rattle.policy_jobs.proofs.policies.mark_due.Given as goal

-- the policies so far have run, and with those that are left they are the whole
abbrev pub invariant-loop-policy : goal.invariant-loop-policy
invariant-loop-policy l =
    take l.policy-index l.policies ++ policies_after_tick l.fn.now (drop l.policy-index l.policies) ≡ policies_after_tick l.fn.now l.fn.policies
