-- Policies that a session keeps: which of them are due at a time, and the statements that they run.
use Rattle.std.specs.Prelude.{ℕ, ℤ, ◌+ℤ◌, ◌-ℤ◌, Bool, true, cond, int_le, List, [], ◌∷◌, ◌++◌, filter, map, Option, Some, None, codes}
use Rattle.std.specs.Fmt.{signed_decimal}
use Rattle.std.specs.Int.{int_max, int_min}
use Rattle.ts_bucket.specs.Bucket.{min_time}
use Rattle.ts_bucket.specs.WholeSpans.{greatest, least}
use Rattle.policy_jobs.specs.declared.jobs.Job.{Job}
use Rattle.policy_jobs.specs.declared.jobs.Job.TheVariants as jobs
use Rattle.policy_jobs.specs.declared.policies.Policy.{Policy}

-- ---- due policies

-- its last run is at least this interval ago
abbrev pub is_back : ℤ → ℤ → Option ℤ → Bool
is_back now every None = true
is_back now every (Some last) = int_le every (now -ℤ last)

-- it never ran, or its last run is at least its interval ago
abbrev pub is_due : ℤ → Policy → Bool
is_due now p = is_back now p.every p.ran

-- the due policies, in the order in which they were added
abbrev pub due : ℤ → List Policy → List Policy
due now ps = filter (is_due now) ps

-- ---- the earliest time at which a policy is due

-- the earliest time at which a policy is due, by its interval and its last run
abbrev pub due_after : ℤ → Option ℤ → ℤ
due_after every None = least
due_after every (Some last) = last +ℤ every

-- the earliest time at which one of these is due, or the greatest number of 64 bits if there is none
abbrev pub first_due : List Policy → ℤ
first_due [] = greatest
first_due (p ∷ ps) = int_min (due_after p.every p.ran) (first_due ps)

-- ---- the statement of a due policy

-- the time this long before another, but at least the lowest time
abbrev pub end_of : ℤ → ℤ → ℤ
end_of now before = int_max min_time (now -ℤ before)

-- an end of a window
abbrev pub end_text : ℤ → Option ℤ → List ℕ
end_text now None = codes "NULL"
end_text now (Some before) = signed_decimal (end_of now before)

abbrev pub refresh_text : ℤ → List ℕ → Option ℤ → Option ℤ → List ℕ
refresh_text now view from to =
    (((((codes "CALL refresh_continuous_aggregate('" ++ view) ++ codes "', ") ++ end_text now from) ++ codes ", ")
    ++ end_text now to)
    ++ codes ")"

abbrev pub retention_text : ℤ → List ℕ → ℤ → List ℕ
retention_text now table after =
    (((codes "SELECT drop_chunks('" ++ table) ++ codes "', ") ++ signed_decimal (end_of now after)) ++ codes ")"

-- the text of the statement that a job runs
abbrev pub due_text : ℤ → Job → List ℕ
due_text now (jobs.Refresh view from to) = refresh_text now view from to
due_text now (jobs.Drop table after) = retention_text now table after

-- the texts of the statements that due policies run, in the order in which they were added
abbrev pub due_texts : ℤ → List Policy → List (List ℕ)
due_texts now ps = map (λ p. due_text now p.job) (due now ps)

-- ---- their last runs

-- a due policy ran at this time
abbrev pub ticked_one : ℤ → Policy → Policy
ticked_one now p = record p { ran = cond (is_due now p) (Some now) p.ran }

-- each due policy ran at this time
abbrev pub policies_after_tick : ℤ → List Policy → List Policy
policies_after_tick now ps = map (ticked_one now) ps
