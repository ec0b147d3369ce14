use Rattle.std.proofs.Common.{◌≡◌, ◌++◌, true, drop}
use Rattle.std.specs.List.{AllByRecursion}
use Rattle.ts_bucket.specs.Bucket.{is_time}
use Rattle.policy_jobs.specs.Adding.{AreKept}
use Rattle.policy_jobs.specs.Policies.{due_texts}
use Rattle.policy_jobs.specs.Runs.{IsRunnable}
use Rattle.policy_jobs.proofs.policies.due_texts.Given as goal

-- the texts so far and those that are left are the whole, and may be run
abbrev pub invariant-loop-policy : goal.invariant-loop-policy
invariant-loop-policy l =
    (l.texts ++ due_texts l.fn.now (drop l.policy-index l.fn.policies) ≡ due_texts l.fn.now l.fn.policies)
    × (is_time l.fn.now ≡ true → AreKept l.fn.policies → AllByRecursion IsRunnable l.texts)
