-- The outcomes of calls at positions of a history.
use Rattle.std.proofs.Common.{◌≡◌, ℕ, suc, Bool, true, false, cond, ◌==◌, Option, Some, None, sym, refl, ap, ◌∙◌, subst, arith, ne_eqb}
use Rattle.std.specs.Prelude.{length, nat_lt, is_some, unwrap_or, Ok, Err}
use Rattle.std.proofs.lemmas.Bool.{cond-false, cond-true}
use Rattle.ts_model.specs.declared.events.Event.{Event}
use Rattle.ts_model.specs.declared.events.Event.TheVariants.{Table, Hyper, View, Mode, Commit, Cut, Built}
use Rattle.ts_model.specs.declared.outcomes.Committed.{Committed}
use Rattle.ts_model.specs.declared.outcomes.Refusal.{Refusal}
use Rattle.ts_model.specs.declared.refreshes.Pending.{Pending}
use Rattle.ts_model.specs.declared.refreshes.Pending.TheVariants.{Waiting, Finished, Unknown}
use Rattle.ts_model.specs.Allowed.{allowed}
use Rattle.ts_model.specs.Calls.{Act, commit_result, finish_of, makes, act_of_event, new_relation, act_with_number, refusal, refuses, returns}
use Rattle.ts_model.specs.Numbers.{no_number, name_taken, too_many, history_full}
use Rattle.ts_model.specs.History.{History, event_at, position}
use Rattle.ts_model.specs.Limits.{most_relations}
use Rattle.ts_model.specs.Pending.{pending}
use Rattle.ts_model.specs.Roster.{hyper_of, is_taken, roster}
use Rattle.ts_model.specs.Timely.{has_room}
use Rattle.event_check.specs.Checks.{call_refusal, event_refusal, refusal_in}
use Rattle.engine_core.specs.Acts.{making_event, unless, with_answer}
use Rattle.engine_core.specs.Effects.{effect_of}
use Rattle.engine_core.proofs.ActLaws.{free_where_allowed, room_where_free}
use Rattle.audit_past.specs.Pasts.{CameTo}
use Rattle.audit_past.specs.declared.history_view.CallAt.{CallAt}
use Rattle.audit.specs.Calls.{came_as, done_as, numbered_only}

-- ---- refusals have codes

-- a refusal, if there is one, has a code other than 0
abbrev HasNumber : Option Refusal → Type 0
HasNumber None = Unit {0}
HasNumber (Some r) = r.code ≡ 0 → ⊥

room_numbered : {A : Type 0} (h : History) (e : Event) (x : A) → HasNumber (refusal_in (act_of_event h e x))
room_numbered h e x = elim (has_room h) as (λ t. HasNumber (refusal_in (cond t (makes e x) (refuses (refusal history_full h 0))))) [ true ↦ tt | false ↦ λ z. absurd (omega arith) ]

relation_numbered : (h : History) (taken : Bool) (many : ℕ) (e : Event) → HasNumber (refusal_in (new_relation h taken many e))
relation_numbered h true many e = λ z. absurd (omega arith)
relation_numbered h false many e =
    elim (nat_lt many most_relations) as (λ t. HasNumber (refusal_in (cond t (act_with_number h e) (refuses (refusal too_many h (suc most_relations)))))) [
      | true ↦ room_numbered h e (suc (position h))
      | false ↦ λ z. absurd (omega arith)
    ]

hyper_numbered : {X : Type 0} (h : History) (o : Option X) (e : Event) → HasNumber (refusal_in (cond (is_some o) (refuses (refusal name_taken h 0)) (act_with_number h e)))
hyper_numbered h None e = room_numbered h e (suc (position h))
hyper_numbered h (Some x) e = λ z. absurd (omega arith)

finish_numbered : (h : History) (cut snap : ℕ) (p : Pending) → HasNumber (refusal_in (finish_of cut snap h p))
finish_numbered h cut snap (Waiting n) = room_numbered h (Built cut snap) (suc (position h))
finish_numbered h cut snap (Finished by) = λ z. absurd (omega arith)
finish_numbered h cut snap Unknown = λ z. absurd (omega arith)

call_numbered : (h : History) (e : Event) → HasNumber (call_refusal h e)
call_numbered h (Table def) = relation_numbered h (is_taken (roster h) def.name) (length (roster h).tables) (Table def)
call_numbered h (Hyper t hyper) = hyper_numbered h (hyper_of (roster h) t) (Hyper t hyper)
call_numbered h (View def) = relation_numbered h (is_taken (roster h) def.name) (length (roster h).views) (View def)
call_numbered h (Mode v only) = room_numbered h (Mode v only) (suc (position h))
call_numbered h (Commit ops) = room_numbered h (Commit ops) (commit_result ops h)
call_numbered h (Cut v span) = room_numbered h (Cut v span) (suc (position h))
call_numbered h (Built cut snap) = finish_numbered h cut snap (pending h cut)

by_call : (h : History) (o : Option Refusal) → HasNumber o → numbered_only (Some (unwrap_or o (refusal no_number h 0))) ≡ o
by_call h None has = refl
by_call h (Some r) has = cond-false (r.code == 0) None (Some r) (ne_eqb r.code 0 has)

-- without the code 0, the refusal of an event is that of its call
pub only_calls : (h : History) (e : Event) → numbered_only (event_refusal h e) ≡ call_refusal h e
only_calls h e =
    elim (allowed h e) as (λ t. allowed h e ≡ t → numbered_only (cond t None (Some (unwrap_or (call_refusal h e) (refusal no_number h 0)))) ≡ call_refusal h e) [
      | true ↦ λ ok. sym (free_where_allowed h e ok)
      | false ↦ λ _. by_call h (call_refusal h e) (call_numbered h e)
    ] refl

-- ---- events that are appended

act_free : (h : History) (e : Event) → call_refusal h e ≡ None → making_event e h ≡ makes e (effect_of h e)
act_free h e free =
    ap (λ o. unless o (act_of_event h e (effect_of h e))) free
    ∙ cond-true (has_room h) (makes e (effect_of h e)) (refuses (refusal history_full h 0)) (room_where_free h e free)

pub came_made : (h : History) (e : Event) (all : History) (at to : ℕ) (b : Committed) → call_refusal h e ≡ None → event_at all (suc at) ≡ Some e → b ≡ effect_of h e → to ≡ suc at → CameTo (making_event e h) all at (Some (record { came = Ok b; at = to }))
came_made h e all at to b free is does next =
    subst (λ act. CameTo act all at (Some (record { came = Ok b; at = to }))) (sym (act_free h e free))
    (is, ap (λ x. record { came = Ok x; at = to }) does ∙ ap (λ n. record { came = Ok (effect_of h e); at = n }) next)

pub came_otherwise : (h : History) (e : Event) (all : History) (at : ℕ) → call_refusal h e ≡ None → (event_at all (suc at) ≡ Some e → ⊥) → CameTo (making_event e h) all at None
came_otherwise h e all at free other = subst (λ act. CameTo act all at None) (sym (act_free h e free)) other

pub came_refused : (h : History) (e : Event) (all : History) (at : ℕ) (r : Refusal) (met : Option (CallAt Committed)) → call_refusal h e ≡ Some r → met ≡ Some (record { came = Err r; at = at }) → CameTo (making_event e h) all at met
came_refused h e all at r met is same = subst (λ act. CameTo act all at met) (sym (ap (λ o. unless o (act_of_event h e (effect_of h e))) is)) same

-- ---- other results

came_with : {A B : Type 0} (f : A → B) (act : Act A) (all : History) (at : ℕ) (met : Option (CallAt A)) → CameTo act all at met → CameTo (with_answer f act) all at (came_as f met)
came_with f (refuses r) all at met is = ap (came_as f) is
came_with f (returns a) all at met is = ap (came_as f) is
came_with f (makes e a) all at (Some m) is = (is.0, ap (λ (x : CallAt _). record { came = done_as f x.came; at = x.at }) is.1)
came_with f (makes e a) all at None is = is

-- a call whose act is that of an event, with something else returned
pub came_to : {A B : Type 0} (f : A → B) (act : Act A) (whole : Act B) (all : History) (at : ℕ) (met : Option (CallAt A)) (result : Option (CallAt B)) → whole ≡ with_answer f act → result ≡ came_as f met → CameTo act all at met → CameTo whole all at result
came_to f act whole all at met result act_is is c =
    subst (λ r. CameTo whole all at r) (sym is) (subst (λ a. CameTo a all at (came_as f met)) (sym act_is) (came_with f act all at met c))
