-- Calls of a store: what a call does at the history that it finds, and what it answers.
use Rattle.std.specs.Prelude.{◌≡◌, ℕ, suc, Bool, cond, nat_lt, List, length, ℤ, Option, Some, None, is_some, IsTrue, Result, IfOk}
use Rattle.ts_model.specs.declared.events.Event.{Event}
use Rattle.ts_model.specs.declared.events.Event.TheVariants.{Table, Hyper, View, Mode, Commit, Cut, Built}
use Rattle.ts_model.specs.declared.events.Op.{Op}
use Rattle.ts_model.specs.declared.outcomes.Committed.{Committed}
use Rattle.ts_model.specs.declared.outcomes.CutDone.{CutDone}
use Rattle.ts_model.specs.declared.outcomes.CutDone.TheVariants.{Cut as CutMade, Nothing as NothingDone}
use Rattle.ts_model.specs.declared.outcomes.Outcome.{Outcome}
use Rattle.ts_model.specs.declared.outcomes.Outcome.TheVariants.{Done, Refused, DiskFault, NoMemory}
use Rattle.ts_model.specs.declared.outcomes.Refusal.{Refusal}
use Rattle.ts_model.specs.declared.refreshes.Pending.{Pending}
use Rattle.ts_model.specs.declared.refreshes.Pending.TheVariants.{Waiting, Finished, Unknown}
use Rattle.ts_model.specs.declared.refreshes.Window.{Window}
use Rattle.ts_model.specs.declared.refreshes.Window.TheVariants.{Whole, NoBucket, Nothing}
use Rattle.ts_model.specs.declared.tables.Hyper.{Hyper as HyperInfo}
use Rattle.ts_model.specs.declared.tables.TableDef.{TableDef}
use Rattle.ts_model.specs.declared.views.ViewDef.{ViewDef}
use Rattle.ts_model.specs.History.{History, position}
use Rattle.ts_model.specs.Allowed.{all_allowed}
use Rattle.ts_model.specs.Roster.{roster, hyper_of, view_of, is_taken}
use Rattle.ts_model.specs.Rows.{rows}
use Rattle.ts_model.specs.Effect.{appended_count, taken_count}
use Rattle.ts_model.specs.Limits.{most_relations}
use Rattle.ts_model.specs.Numbers.{name_taken, no_bucket, no_refresh, too_many, stopped, history_full}
use Rattle.ts_model.specs.Timely.{has_room}
use Rattle.ts_model.specs.Pending.{pending}
use Rattle.ts_model.specs.Windows.{window}
use Rattle.ts_model.specs.States.{State, Found, Keeps, Makes, Fails, stands_still}

-- what a call does at a history: it is refused, returns something, or creates one event and returns something
pub data Act (A : Type 0) : Type 0 where
  refuses : Refusal → Act A
  returns : A → Act A
  makes : Event → A → Act A

-- ---- what each call does

-- a refusal at a history, with a number that its reply prints
abbrev pub refusal : ℕ → History → ℕ → Refusal
refusal code h mark = record { code = code; pos = position h; mark = mark }

-- an event is created, with what is said of it, unless the history is at its end. Each call creates its event
-- with this definition
abbrev pub act_of_event : {A : Type 0} → History → Event → A → Act A
act_of_event h e a = cond (has_room h) (makes e a) (refuses (refusal history_full h 0))

-- an event, and its number
abbrev pub act_with_number : History → Event → Act ℕ
act_with_number h e = act_of_event h e (suc (position h))

-- a relation is created unless its name is taken or its kind has reached its limit
abbrev pub new_relation : History → Bool → ℕ → Event → Act ℕ
new_relation h taken many e =
    cond taken (refuses (refusal name_taken h 0))
    (cond (nat_lt many most_relations) (act_with_number h e) (refuses (refusal too_many h (suc most_relations))))

abbrev pub making_table : TableDef → History → Act ℕ
making_table def h = new_relation h (is_taken (roster h) def.name) (length (roster h).tables) (Table def)

abbrev pub making_view : ViewDef → History → Act ℕ
making_view def h = new_relation h (is_taken (roster h) def.name) (length (roster h).views) (View def)

-- a table becomes a hypertable unless it is one
abbrev pub making_hyper : ℕ → HyperInfo → History → Act ℕ
making_hyper t hyper h =
    cond (is_some (hyper_of (roster h) t)) (refuses (refusal name_taken h 0)) (act_with_number h (Hyper t hyper))

abbrev pub setting_mode : ℕ → Bool → History → Act ℕ
setting_mode n only h = act_with_number h (Mode n only)

-- what a commit of these operations does over all tables
abbrev pub commit_result : List Op → History → Committed
commit_result ops h = record {
  pos = suc (position h);
  inserted = appended_count (length (roster h).tables) ops;
  removed = taken_count (length (roster h).tables) ops (λ t. rows t h);
}

abbrev pub act_of_commit : List Op → History → Act Committed
act_of_commit ops h = act_of_event h (Commit ops) (commit_result ops h)

-- a refresh is cut over the whole buckets of its window; without a whole bucket it is refused, or there is
-- nothing to do
abbrev pub cut_over : ℕ → History → Window → Act CutDone
cut_over n h (Whole span) = act_of_event h (Cut n span) (CutMade (suc (position h)) span)
cut_over n h NoBucket = refuses (refusal no_bucket h 0)
cut_over n h Nothing = returns (NothingDone (position h))

abbrev pub cut_of_view : ℕ → Option ℤ → Option ℤ → History → Option ViewDef → Act CutDone
cut_of_view n lo hi h None = returns (NothingDone (position h))
cut_of_view n lo hi h (Some def) = cut_over n h (window n def h lo hi)

abbrev pub act_of_cut : ℕ → Option ℤ → Option ℤ → History → Act CutDone
act_of_cut n lo hi h = cut_of_view n lo hi h (view_of (roster h) n)

-- a refresh is finished if it waits; otherwise it is refused, with its finish if there was one
abbrev pub finish_of : ℕ → ℕ → History → Pending → Act ℕ
finish_of cut snap h (Waiting n) = act_with_number h (Built cut snap)
finish_of cut snap h (Finished f) = refuses (refusal no_refresh h f)
finish_of cut snap h Unknown = refuses (refusal no_refresh h 0)

abbrev pub act_of_finish : ℕ → ℕ → History → Act ℕ
act_of_finish cut snap h = finish_of cut snap h (pending h cut)

-- ---- what a call answers and leaves

-- what a call that does this at the history that it found answers, and the state that it leaves. An event is
-- refused as E24 if and only if the store has stopped
abbrev pub Answered : {A : Type 0} → Act A → State → Outcome A → State → Type 0
Answered (refuses r) found (Done a) new = ⊥
Answered (refuses r) found (Refused q) new = (q ≡ r) × Keeps found new
Answered (refuses r) found DiskFault new = ⊥
Answered (refuses r) found NoMemory new = Keeps found new
Answered (returns a) found (Done b) new = (b ≡ a) × Keeps found new
Answered (returns a) found (Refused q) new = ⊥
Answered (returns a) found DiskFault new = ⊥
Answered (returns a) found NoMemory new = Keeps found new
Answered (makes e a) found (Done b) new = (b ≡ a) × Makes e found new
Answered (makes e a) found (Refused q) new =
    IsTrue (stands_still found) × (q ≡ refusal stopped found.history 0) × Keeps found new
Answered (makes e a) found DiskFault new = Fails e found new
Answered (makes e a) found NoMemory new = Keeps found new

-- a call that does this at any history that it finds
pub record Called {A : Type 0} (alone : Bool) (old : State) (act : History → Act A) (outcome : Outcome A)
    (new : State) : Type 0 where
  pub found : State
  pub finds : Found alone old found
  pub answered : Answered (act found.history) found outcome new

-- a snapshot of an allowed history, if one is taken
abbrev pub Snapped : {Shot E : Type 0} → (Shot → History → Type 0) → Result Shot E → History → Type 0
Snapped stands result h = IsTrue (all_allowed h) × IfOk result (λ shot. stands shot h)

-- a call that reads any history that it finds, and changes nothing. What it reports is a fact of that history
pub record Looked (alone : Bool) (old : State) (Tells : History → Type 0) (new : State) : Type 0 where
  pub found : State
  pub finds : Found alone old found
  pub keeps : Keeps found new
  pub tells : Tells found.history
