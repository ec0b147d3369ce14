-- A roster, a few numbers and the outcome of a refresh describe the history that they come from.
use Rattle.std.proofs.Common.{◌≡◌, ℕ, suc, Bool, true, false, ◌&&◌, cond, nat_lt, length, Option, Some, None, sym, refl, ap, ◌∙◌}
use Rattle.std.specs.Prelude.{is_some, is_none, unwrap_or, not}
use Rattle.ts_model.specs.declared.events.Event.{Event}
use Rattle.ts_model.specs.declared.events.Event.TheVariants.{Table, Hyper, View, Mode, Commit, Cut, Built}
use Rattle.ts_model.specs.declared.outcomes.Refusal.{Refusal}
use Rattle.ts_model.specs.declared.refreshes.Pending.{Pending}
use Rattle.ts_model.specs.declared.refreshes.Pending.TheVariants.{Waiting, Finished, Unknown}
use Rattle.ts_model.specs.declared.rosters.Roster.{Roster}
use Rattle.ts_model.specs.History.{History, position, base_position}
use Rattle.ts_model.specs.Roster.{roster, hyper_of, is_taken}
use Rattle.ts_model.specs.Pending.{pending, is_waiting}
use Rattle.ts_model.specs.Limits.{most_relations, last_position}
use Rattle.ts_model.specs.Sound.{sound}
use Rattle.ts_model.specs.Timely.{has_room, timely}
use Rattle.ts_model.specs.Allowed.{allowed}
use Rattle.ts_model.specs.Calls.{act_of_event, makes, commit_result, act_with_number, new_relation, refuses, refusal, finish_of}
use Rattle.ts_model.specs.Numbers.{no_number, name_taken, history_full}
use Rattle.event_check.specs.Checks.{refusal_in, call_refusal, event_refusal, IsAt, PendingIs, refusal_of_code, room_refusal, relation_refusal, hyper_refusal, finish_refusal, refusal_by, sound_by}

-- ---- refusals of calls

room_is : {A : Type 0} (h : History) (e : Event) (x : A) → room_refusal (position h) ≡ refusal_in (act_of_event h e x)
room_is h e x = elim (has_room h) as (λ t. cond t None (Some (refusal_of_code history_full (position h) 0)) ≡ refusal_in (cond t (makes e x) (refuses (refusal history_full h 0)))) [ true ↦ refl | false ↦ refl ]

relation_is : (h : History) (taken : Bool) (many : ℕ) (e : Event) → relation_refusal taken many (position h) ≡ refusal_in (new_relation h taken many e)
relation_is h true many e = refl
relation_is h false many e =
    elim (nat_lt many most_relations) as (λ t. cond t (room_refusal (position h)) (Some (refusal_of_code 21 (position h) (suc most_relations))) ≡ refusal_in (cond t (act_with_number h e) (refuses (refusal 21 h (suc most_relations))))) [
      | true ↦ room_is h e (suc (position h))
      | false ↦ refl
    ]

hyper_is : (h : History) (made : Bool) (e : Event) → hyper_refusal made (position h) ≡ refusal_in (cond made (refuses (refusal name_taken h 0)) (act_with_number h e))
hyper_is h true e = refl
hyper_is h false e = room_is h e (suc (position h))

finish_is : (h : History) (cut snap : ℕ) (p : Pending) → finish_refusal p (position h) ≡ refusal_in (finish_of cut snap h p)
finish_is h cut snap (Waiting n) = room_is h (Built cut snap) (suc (position h))
finish_is h cut snap (Finished by) = refl
finish_is h cut snap Unknown = refl

refusal_at : (h : History) (e : Event) (p : Pending) → PendingIs h e p → refusal_by (roster h) p (position h) e ≡ call_refusal h e
refusal_at h (Table def) p is = relation_is h (is_taken (roster h) def.name) (length (roster h).tables) (Table def)
refusal_at h (Hyper t hyper) p is = hyper_is h (is_some (hyper_of (roster h) t)) (Hyper t hyper)
refusal_at h (View def) p is = relation_is h (is_taken (roster h) def.name) (length (roster h).views) (View def)
refusal_at h (Mode v only) p is = room_is h (Mode v only) (suc (position h))
refusal_at h (Commit ops) p is = room_is h (Commit ops) (commit_result ops h)
refusal_at h (Cut v span) p is = room_is h (Cut v span) (suc (position h))
refusal_at h (Built cut snap) p is = ap (λ q. finish_refusal q (position h)) is ∙ finish_is h cut snap (pending h cut)

-- the refusal of an event's call, computed from what is checked, is its refusal at the history
pub refused_as_call : (h : History) (e : Event) (r : Roster) (p : Pending) (at base : ℕ) (found : Option Refusal) → IsAt h e r p at base → found ≡ refusal_by r p at e → found ≡ call_refusal h e
refused_as_call h e r p at base found is told = told ∙ (λ i. refusal_by (is.roster_is i) p (is.position_is i) e) ∙ refusal_at h e p is.pending_is

-- ---- an event is timely if and only if no call refuses it

room_timely : (at : ℕ) → is_none (room_refusal at) ≡ nat_lt at last_position
room_timely at = elim (nat_lt at last_position) as (λ t. is_none (cond t None (Some (refusal_of_code history_full at 0))) ≡ t) [ true ↦ refl | false ↦ refl ]

relation_timely : (taken : Bool) (many at : ℕ) → is_none (relation_refusal taken many at) ≡ ((not taken && nat_lt many most_relations) && nat_lt at last_position)
relation_timely true many at = refl
relation_timely false many at =
    elim (nat_lt many most_relations) as (λ t. is_none (cond t (room_refusal at) (Some (refusal_of_code 21 at (suc most_relations)))) ≡ (t && nat_lt at last_position)) [
      | true ↦ room_timely at
      | false ↦ refl
    ]

hyper_timely : {X : Type 0} (o : Option X) (at : ℕ) → is_none (hyper_refusal (is_some o) at) ≡ (is_none o && nat_lt at last_position)
hyper_timely None at = room_timely at
hyper_timely (Some x) at = refl

finish_timely : (p : Pending) (at : ℕ) → is_none (finish_refusal p at) ≡ (is_waiting p && nat_lt at last_position)
finish_timely (Waiting n) at = room_timely at
finish_timely (Finished by) at = refl
finish_timely Unknown at = refl

timely_at : (h : History) (e : Event) (p : Pending) → PendingIs h e p → is_none (refusal_by (roster h) p (position h) e) ≡ timely h e
timely_at h (Table def) p is = relation_timely (is_taken (roster h) def.name) (length (roster h).tables) (position h)
timely_at h (Hyper t hyper) p is = hyper_timely (hyper_of (roster h) t) (position h)
timely_at h (View def) p is = relation_timely (is_taken (roster h) def.name) (length (roster h).views) (position h)
timely_at h (Mode v only) p is = room_timely (position h)
timely_at h (Commit ops) p is = room_timely (position h)
timely_at h (Cut v span) p is = room_timely (position h)
timely_at h (Built cut snap) p is = finish_timely p (position h) ∙ ap (λ q. is_waiting q && nat_lt (position h) last_position) is

-- ---- sound events

sound_is : (h : History) (e : Event) (p : Pending) → PendingIs h e p → sound_by (roster h) p (position h) (base_position h) e ≡ sound h e
sound_is h (Table def) p is = refl
sound_is h (Hyper t hyper) p is = refl
sound_is h (View def) p is = refl
sound_is h (Mode v only) p is = refl
sound_is h (Commit ops) p is = refl
sound_is h (Cut v span) p is = refl
sound_is h (Built cut snap) p is = ap (λ q. sound_by (roster h) q (position h) (base_position h) (Built cut snap)) is

-- ---- the whole check

-- what a check answers, by the refusal of the call, by whether the event is sound
abbrev check_of : Option Refusal → Bool → Refusal → Option Refusal
check_of (Some r) ok none = Some r
check_of None ok none = cond ok None (Some none)

joined : (late : Option Refusal) (ok now : Bool) (none : Refusal) → is_none late ≡ now → check_of late ok none ≡ cond (ok && now) None (Some (unwrap_or late none))
joined (Some r) true now none is = ap (λ t. cond t None (Some r)) is
joined (Some r) false now none is = refl
joined None true now none is = ap (λ t. cond t None (Some none)) is
joined None false now none is = refl

check_at : (h : History) (e : Event) (p : Pending) → PendingIs h e p → check_of (refusal_by (roster h) p (position h) e) (sound_by (roster h) p (position h) (base_position h) e) (refusal_of_code no_number (position h) 0) ≡ event_refusal h e
check_at h e p is =
    joined (refusal_by (roster h) p (position h) e) (sound_by (roster h) p (position h) (base_position h) e) (timely h e) (refusal_of_code no_number (position h) 0) (timely_at h e p is)
    ∙ ap (λ t. cond (t && timely h e) None (Some (unwrap_or (refusal_by (roster h) p (position h) e) (refusal no_number h 0)))) (sound_is h e p is)
    ∙ ap (λ o. cond (allowed h e) None (Some (unwrap_or o (refusal no_number h 0)))) (refusal_at h e p is)

-- ---- what a check answers is why the event isn't allowed

-- the call refuses the event
pub refused_late : (h : History) (e : Event) (r : Roster) (p : Pending) (at base : ℕ) (found : Refusal) → IsAt h e r p at base → Some found ≡ refusal_by r p at e → Some found ≡ event_refusal h e
refused_late h e r p at base found is told =
    let late : refusal_by (roster h) p (position h) e ≡ Some found = (λ i. refusal_by (sym is.roster_is i) p (sym is.position_is i) e) ∙ sym told in
    ap (λ o. check_of o (sound_by (roster h) p (position h) (base_position h) e) (refusal_of_code no_number (position h) 0)) (sym late) ∙ check_at h e p is.pending_is

-- no call refuses it, and it is sound or it isn't
pub refused_else : (h : History) (e : Event) (r : Roster) (p : Pending) (at base : ℕ) (ok : Bool) → IsAt h e r p at base → None ≡ refusal_by r p at e → ok ≡ sound_by r p at base e → cond ok None (Some (refusal_of_code no_number at 0)) ≡ event_refusal h e
refused_else h e r p at base ok is told fit =
    let late : refusal_by (roster h) p (position h) e ≡ None = (λ i. refusal_by (sym is.roster_is i) p (sym is.position_is i) e) ∙ sym told in
    let fits : ok ≡ sound_by (roster h) p (position h) (base_position h) e = fit ∙ (λ i. sound_by (is.roster_is i) p (is.position_is i) (is.base_is i) e) in
    (λ i. cond (fits i) None (Some (refusal_of_code no_number (is.position_is i) 0)))
    ∙ ap (λ o. check_of o (sound_by (roster h) p (position h) (base_position h) e) (refusal_of_code no_number (position h) 0)) (sym late)
    ∙ check_at h e p is.pending_is

-- an event is allowed if and only if there is no reason against it
pub none_where_allowed : (h : History) (e : Event) (found : Option Refusal) → found ≡ event_refusal h e → is_none found ≡ allowed h e
none_where_allowed h e found is = ap is_none is ∙ chosen (allowed h e) (unwrap_or (call_refusal h e) (refusal no_number h 0))
  where
    chosen : (t : Bool) (r : Refusal) → is_none (cond t None (Some r)) ≡ t
    chosen true r = refl
    chosen false r = refl
