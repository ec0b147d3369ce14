-- Why an event isn't allowed next.
use Rattle.std.specs.Prelude.{◌≡◌, ℕ, suc, Bool, ◌&&◌, cond, nat_lt, nat_le, length, Option, Some, None, is_some, unwrap_or}
use Rattle.ts_model.specs.declared.events.Event.{Event}
use Rattle.ts_model.specs.declared.events.Event.TheVariants.{Table, Hyper, View, Mode, Commit, Cut, Built}
use Rattle.ts_model.specs.declared.outcomes.Refusal.{Refusal}
use Rattle.ts_model.specs.declared.refreshes.Pending.{Pending}
use Rattle.ts_model.specs.declared.refreshes.Pending.TheVariants.{Waiting, Finished, Unknown}
use Rattle.ts_model.specs.declared.rosters.Roster.{Roster}
use Rattle.ts_model.specs.History.{History, position, base_position}
use Rattle.ts_model.specs.Roster.{roster, hyper_of, is_taken}
use Rattle.ts_model.specs.Pending.{pending, is_known}
use Rattle.ts_model.specs.Limits.{most_relations, last_position, bytes_limit}
use Rattle.ts_model.specs.Bytes.{event_bytes}
use Rattle.ts_model.specs.Sound.{sound_in}
use Rattle.ts_model.specs.Allowed.{allowed}
use Rattle.ts_model.specs.Calls.{Act, refuses, returns, makes, making_table, making_hyper, making_view, setting_mode, act_of_commit, act_with_number, act_of_finish, refusal}
use Rattle.ts_model.specs.Numbers.{no_number, name_taken, no_refresh, too_many, history_full}

-- ---- why an event isn't allowed next

-- the refusal of a call that does this, if it is refused
abbrev pub refusal_in : {A : Type 0} → Act A → Option Refusal
refusal_in (refuses r) = Some r
refusal_in (returns a) = None
refusal_in (makes e a) = None

-- why a store's call that makes this event is refused, if it is. A cut may also be refused because of its
-- window, which its event doesn't state
abbrev pub call_refusal : History → Event → Option Refusal
call_refusal h (Table def) = refusal_in (making_table def h)
call_refusal h (Hyper t hyper) = refusal_in (making_hyper t hyper h)
call_refusal h (View def) = refusal_in (making_view def h)
call_refusal h (Mode v only) = refusal_in (setting_mode v only h)
call_refusal h (Commit ops) = refusal_in (act_of_commit ops h)
call_refusal h (Cut v span) = refusal_in (act_with_number h (Cut v span))
call_refusal h (Built cut snap) = refusal_in (act_of_finish cut snap h)

-- why an event isn't allowed next, if it isn't: as the call that makes it is refused, and otherwise without a
-- number
abbrev pub event_refusal : History → Event → Option Refusal
event_refusal h e = cond (allowed h e) None (Some (unwrap_or (call_refusal h e) (refusal no_number h 0)))

-- ---- what a check reads

-- the outcome of the refresh that an event finishes, if it finishes one
abbrev pub PendingIs : History → Event → Pending → Type 0
PendingIs h (Table def) p = Unit {0}
PendingIs h (Hyper t hyper) p = Unit {0}
PendingIs h (View def) p = Unit {0}
PendingIs h (Mode v only) p = Unit {0}
PendingIs h (Commit ops) p = Unit {0}
PendingIs h (Cut v span) p = Unit {0}
PendingIs h (Built cut snap) p = p ≡ pending h cut

-- a roster, the outcome of the refresh that the event finishes, a position and a base are those of a history
pub record IsAt (h : History) (e : Event) (r : Roster) (p : Pending) (at base : ℕ) : Type 0 where
  pub roster_is : r ≡ roster h
  pub pending_is : PendingIs h e p
  pub position_is : at ≡ position h
  pub base_is : base ≡ base_position h

-- ---- the same, by what is read

abbrev pub refusal_of_code : ℕ → ℕ → ℕ → Refusal
refusal_of_code code at mark = record { code = code; pos = at; mark = mark }

-- no event is created if the history is at its end
abbrev pub room_refusal : ℕ → Option Refusal
room_refusal at = cond (nat_lt at last_position) None (Some (refusal_of_code history_full at 0))

-- a relation isn't created if its name is taken or its kind has reached its limit
abbrev pub relation_refusal : Bool → ℕ → ℕ → Option Refusal
relation_refusal taken many at =
    cond taken (Some (refusal_of_code name_taken at 0))
    (cond (nat_lt many most_relations) (room_refusal at) (Some (refusal_of_code too_many at (suc most_relations))))

-- a table isn't made a hypertable if it is one
abbrev pub hyper_refusal : Bool → ℕ → Option Refusal
hyper_refusal made at = cond made (Some (refusal_of_code name_taken at 0)) (room_refusal at)

-- a refresh isn't finished if it doesn't wait
abbrev pub finish_refusal : Pending → ℕ → Option Refusal
finish_refusal (Waiting n) at = room_refusal at
finish_refusal (Finished by) at = Some (refusal_of_code no_refresh at by)
finish_refusal Unknown at = Some (refusal_of_code no_refresh at 0)

abbrev pub refusal_by : Roster → Pending → ℕ → Event → Option Refusal
refusal_by r p at (Table def) = relation_refusal (is_taken r def.name) (length r.tables) at
refusal_by r p at (Hyper t hyper) = hyper_refusal (is_some (hyper_of r t)) at
refusal_by r p at (View def) = relation_refusal (is_taken r def.name) (length r.views) at
refusal_by r p at (Mode v only) = room_refusal at
refusal_by r p at (Commit ops) = room_refusal at
refusal_by r p at (Cut v span) = room_refusal at
refusal_by r p at (Built cut snap) = finish_refusal p at

abbrev pub fits_by : Roster → Pending → ℕ → ℕ → Event → Bool
fits_by r p at base (Built cut snap) = is_known p && nat_le cut snap && nat_le base snap && nat_le snap at
fits_by r p at base (Table def) = sound_in r (Table def)
fits_by r p at base (Hyper t hyper) = sound_in r (Hyper t hyper)
fits_by r p at base (View def) = sound_in r (View def)
fits_by r p at base (Mode v only) = sound_in r (Mode v only)
fits_by r p at base (Commit ops) = sound_in r (Commit ops)
fits_by r p at base (Cut v span) = sound_in r (Cut v span)

abbrev pub sound_by : Roster → Pending → ℕ → ℕ → Event → Bool
sound_by r p at base e = fits_by r p at base e && nat_lt (event_bytes e) bytes_limit
