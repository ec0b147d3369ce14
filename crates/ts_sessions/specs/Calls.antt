-- The outcomes of store calls, and what is left of a statement after each.
use Rattle.std.specs.Prelude.{◌≡◌, ℕ, ◌≤◌, ◌<◌, Bool, Result, Ok, Err, IsTrue, ⊤}
use Rattle.ts_schema.specs.Counts.{raised_by}
use Rattle.ts_schema.specs.declared.memory.NoMemory.{NoMemory}
use Rattle.ts_model.specs.Allowed.{all_allowed}
use Rattle.ts_model.specs.History.{History}
use Rattle.ts_model.specs.States.{State}
use Rattle.ts_model.specs.declared.outcomes.Refusal.{Refusal}
use Rattle.ts_model.specs.declared.snapshots.Shown.{Ghosts as Shown}
use Rattle.ts_sessions.specs.declared.calls.CallOutcome.{CallOutcome}
use Rattle.ts_sessions.specs.declared.calls.CallOutcome.TheVariants as outcomes
use Rattle.ts_sessions.specs.declared.calls.Meeting.{Meeting}
use Rattle.ts_sessions.specs.declared.deeds.Deed.{Deed}
use Rattle.ts_sessions.specs.declared.deeds.Next.{Next}
use Rattle.ts_sessions.specs.declared.refreshes.SnapOutcome.{SnapOutcome}
use Rattle.ts_sessions.specs.Deeds.{IsAsked, Leads, NextFits, cut_left, cut_meets, turn_of_finish, with_line, left, left_by, left_next, look_left, look_meets, rest, rest_next, says, spent, spent_by, spent_next}
use Rattle.ts_sessions.specs.Places.{Places, Turn}
use Rattle.ts_sessions.specs.Procedures.{Procedure, ends, followed_by}
use Rattle.ts_sessions.specs.Sessions.{FitsSnapped, read_by, taken_as}
use Rattle.ts_sessions.specs.Step.{Taken, after_cut, turn_of_commit, cuts_refresh, turn_of_line}
use Rattle.ts_sessions.specs.Walks.{Breaks}

-- ---- the rest of a statement after a call

-- the rest of a statement after a call with this outcome. p is the session state, `read` how many rows the statement
-- had read, and h the history that the call saw
abbrev pub left_after : {T : Type 0} → Places → ℕ → History → CallOutcome T → Procedure (Turn Places)
left_after p read h (outcomes.Number line r) = ends (turn_of_line p (says line) r)
left_after p read h (outcomes.Commit leaves r) = ends (turn_of_commit p (left_by leaves p) r)
left_after p read h (outcomes.Found asked) =
    followed_by (cuts_refresh asked.view asked.lo asked.hi) (after_cut p asked.min)
left_after p read h (outcomes.Cut asked then r) = cut_left p asked.min then r
left_after p read h (outcomes.Finish f r) = ends (turn_of_finish p read f r)
left_after p read h (outcomes.Look then shot) = look_left p h then

-- the most store calls that were left before the call
abbrev pub meets_left : {T : Type 0} → CallOutcome T → ℕ
meets_left (outcomes.Number line r) = 1
meets_left (outcomes.Commit leaves r) = 1
meets_left (outcomes.Found asked) = 4
meets_left (outcomes.Cut asked then r) = cut_meets then
meets_left (outcomes.Finish f r) = 1
meets_left (outcomes.Look then shot) = look_meets then

-- how many of the rows read the rest of the statement still counts
abbrev pub spent_after : {T : Type 0} → ℕ → CallOutcome T → ℕ
spent_after read (outcomes.Finish f r) = spent_by read f
spent_after read other = 0

-- the outcome fits the history that the call saw: an aggregate to be refreshed exists, and a snapshot is one of an
-- allowed history
abbrev pub OutcomeFits : {T J : Type 0} → Shown T J → History → CallOutcome T → Type 0
OutcomeFits shown h (outcomes.Found asked) = IsAsked h asked
OutcomeFits shown h (outcomes.Look then shot) = shown.stands shot h × IsTrue (all_allowed h)
OutcomeFits shown h other = ⊤

-- ---- the two halves of the law
-- a call leads from the rest of a statement to the rest after the call, and what follows the call is exactly that rest

-- a store call had this outcome at a history
pub record AnswersDeed {T J : Type 0} (shown : Shown T J) (h : History) (deed : Deed T J) (outcome : CallOutcome T) : Type 0 where
  pub fits : OutcomeFits shown h outcome
  pub left_so : meets_left outcome ≤ left deed
  pub spent_so : (read : ℕ) → spent_after read outcome ≡ spent read deed

-- a call of a store
pub record Meets {T J : Type 0} (shown : Shown T J) (alone : Bool) (old : State) (deed : Deed T J) (m : Meeting T)
    (new : State) : Type 0 where
  pub leads : (p : Places) (read : ℕ)
      → Leads alone m.failed old (rest p read deed) new (with_line m.said (left_after p read new.history m.outcome))
  pub answers : AnswersDeed shown new.history deed m.outcome

-- the same, or the statement ran out of memory
abbrev pub MeetsTo :
    {T J : Type 0} → Shown T J → Bool → State → Deed T J → Result (Meeting T) NoMemory → State → Type 0
MeetsTo shown alone old deed (Ok m) new = Meets shown alone old deed m new
MeetsTo shown alone old deed (Err e) new = (p : Places) (read : ℕ) → Breaks alone old (rest p read deed) new

-- this follows a call: it leaves just what the call left, by the places and by the rows read so far
pub record IsFollowed {T J : Type 0} (shown : Shown T J) (h : History) (outcome : CallOutcome T) (next : Next T J)
    (before after : ℕ) : Type 0 where
  pub read_then : ℕ → ℕ
  pub rest_so : (p : Places) (read : ℕ) → rest_next p (read_then read) next ≡ left_after p read h outcome
  pub fits : (s : State) (bytes : ℕ) → s.history ≡ h → NextFits shown bytes next s
  pub spent_so : (read : ℕ) → spent_next (read_then read) next ≡ read_then read
  pub shorter : left_next next < meets_left outcome
  pub counted : (read from : ℕ) → before ≡ raised_by (spent_after read outcome) from → after ≡ raised_by (read_then read) from
  pub rose : before ≤ after

abbrev pub FollowsTo :
    {T J : Type 0} → Shown T J → History → CallOutcome T → Result (Next T J) NoMemory → ℕ → ℕ → Type 0
FollowsTo shown h outcome (Ok next) before after = IsFollowed shown h outcome next before after
FollowsTo shown h outcome (Err e) before after = before ≤ after

-- the same if no more rows are read and every state fits
pub record Follows {T J : Type 0} (shown : Shown T J) (h : History) (outcome : CallOutcome T) (next : Next T J)
    : Type 0 where
  pub rest_so : (p : Places) (read : ℕ) → rest_next p (spent_after read outcome) next ≡ left_after p read h outcome
  pub fits : (s : State) (bytes : ℕ) → NextFits shown bytes next s
  pub spent_so : (read : ℕ) → spent_next (spent_after read outcome) next ≡ spent_after read outcome
  pub shorter : left_next next < meets_left outcome

-- this follows a snapshot for a refresh, which leaves `left_then` by the snapshot's outcome
pub record FollowsSnapshot {T J : Type 0} (shown : Shown T J) (cut before : ℕ) (outcome : SnapOutcome J)
    (left_then : Places → Result Taken Refusal → Procedure (Turn Places)) (next : Next T J) : Type 0 where
  pub rest_so : (p : Places) (read : ℕ) → rest_next p (read_by read outcome) next ≡ left_then p (taken_as read outcome)
  pub fits : (s : State) (bytes : ℕ) → FitsSnapped shown cut s.history outcome → NextFits shown bytes next s
  pub spent_so : (read : ℕ) → spent_next (read_by read outcome) next ≡ read_by read outcome
  pub shorter : left_next next < before
