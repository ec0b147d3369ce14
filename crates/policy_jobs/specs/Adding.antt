-- Which policies are refused.
use Rattle.std.specs.Prelude.{◌≡◌, ℕ, suc, ◌^◌, ℤ, pos, ◌-ℤ◌, ◌+ℤ◌, Bool, true, ◌&&◌, not, int_le, nat_le, List, Option, Some, None}
use Rattle.std.specs.List.{AllByRecursion}
use Rattle.ts_model.specs.declared.outcomes.Refusal.{Refusal}
use Rattle.ts_model.specs.declared.rosters.Roster.{Roster}
use Rattle.ts_model.specs.declared.views.ViewDef.{ViewDef}
use Rattle.ts_model.specs.Roster.{view_of}
use Rattle.ts_catalog.specs.declared.relations.Found.{Found}
use Rattle.ts_catalog.specs.declared.relations.Found.TheVariants as found
use Rattle.ts_catalog.specs.Relations.{found_in}
use Rattle.stmt_check.specs.Refusals.{◌⊳◌, hypertable_refusal, marked_refusal, refusal_if, view_refusal}
use Rattle.ts_model.specs.Numbers.{bad_policy, too_many_policies}
use Rattle.policy_jobs.specs.declared.jobs.Job.{Job}
use Rattle.policy_jobs.specs.declared.jobs.Job.TheVariants as jobs
use Rattle.policy_jobs.specs.declared.policies.Policy.{Policy}

-- the greatest number of policies in a session
abbrev pub most_policies : ℕ
most_policies = 64

-- the greatest offset and the greatest interval
abbrev pub longest : ℤ
longest = pos (2 ^ 50)

-- a number is at least `least` and at most the greatest
abbrev pub is_from : ℤ → ℤ → Bool
is_from least z = int_le least z && int_le z longest

-- an offset is NULL, or at least 0
abbrev pub is_offset : Option ℤ → Bool
is_offset None = true
is_offset (Some z) = is_from (pos 0) z

-- an interval is at least 1
abbrev pub is_interval : ℤ → Bool
is_interval every = is_from (pos 1) every

-- a window with two ends is at least twice the step wide
abbrev pub is_wide : Option ViewDef → Option ℤ → Option ℤ → Bool
is_wide (Some def) (Some from) (Some to) = int_le (def.fold.width.step +ℤ def.fold.width.step) (from -ℤ to)
is_wide def from to = true

-- the aggregate that was found
abbrev pub view_found : Roster → Found → Option ViewDef
view_found r (found.View n) = view_of r n
view_found r other = None

-- its offsets are within bounds
abbrev pub has_offsets : Job → Bool
has_offsets (jobs.Refresh view from to) = is_offset from && is_offset to
has_offsets (jobs.Drop table after) = is_from (pos 0) after

-- policies whose offsets are within bounds
abbrev pub AreKept : List Policy → Type 0
AreKept policies = AllByRecursion (λ p. has_offsets p.job ≡ true) policies

-- its window is wide enough for the step
abbrev pub fits_step : Roster → Job → Bool
fits_step r (jobs.Refresh view from to) = is_wide (view_found r (found_in r view)) from to
fits_step r (jobs.Drop table after) = true

-- a refresh policy needs an aggregate, and a retention policy a hypertable
abbrev pub relation_refusal : ℕ → Roster → Job → Option Refusal
relation_refusal at r (jobs.Refresh view from to) = view_refusal at (found_in r view)
relation_refusal at r (jobs.Drop table after) = hypertable_refusal at (found_in r table)

-- the refusal of a policy at a position, in a session that has this many policies: first by its relation, then by its
-- numbers, and then because the session can't have more policies
abbrev pub adding_refusal : ℕ → Roster → ℕ → Job → ℤ → Option Refusal
adding_refusal at r many job every =
    relation_refusal at r job
    ⊳ refusal_if at bad_policy (not (has_offsets job && is_interval every && fits_step r job))
    ⊳ marked_refusal at too_many_policies (suc most_policies) (nat_le most_policies many)
