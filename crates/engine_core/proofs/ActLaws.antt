-- Calls that create an event: each is refused if and only if its event isn't timely, and otherwise returns the
-- effect of the event.
use Rattle.std.proofs.Common.{◌≡◌, ℕ, suc, Bool, true, false, ◌&&◌, not, cond, nat_lt, length, Option, Some, None, sym, refl, ap, ◌∙◌, subst}
use Rattle.std.specs.Prelude.{ℤ, is_some, is_none, unwrap_or, IfSome, IsSome, IsTrue}
use Rattle.std.proofs.lemmas.Bool.{true≢false, and_parts}
use Rattle.ts_bucket.specs.declared.spans.Span.{Span}
use Rattle.ts_model.specs.declared.events.Event.{Event}
use Rattle.ts_model.specs.declared.events.Event.TheVariants.{Table, Hyper, View, Mode, Commit, Cut, Built}
use Rattle.ts_model.specs.declared.outcomes.CutDone.TheVariants.{Cut as CutMade}
use Rattle.ts_model.specs.declared.outcomes.Refusal.{Refusal}
use Rattle.ts_model.specs.declared.refreshes.Pending.{Pending}
use Rattle.ts_model.specs.declared.refreshes.Pending.TheVariants.{Waiting, Finished, Unknown}
use Rattle.ts_model.specs.declared.refreshes.Window.{Window as WindowFound}
use Rattle.ts_model.specs.declared.refreshes.Window.TheVariants.{Whole}
use Rattle.ts_model.specs.declared.tables.Hyper.{Hyper as HyperInfo}
use Rattle.ts_model.specs.declared.tables.TableDef.{TableDef}
use Rattle.ts_model.specs.declared.views.ViewDef.{ViewDef}
use Rattle.ts_model.specs.History.{History, position}
use Rattle.ts_model.specs.Roster.{roster, hyper_of, is_taken, view_of}
use Rattle.ts_model.specs.Pending.{pending, is_waiting}
use Rattle.ts_model.specs.Limits.{most_relations}
use Rattle.ts_model.specs.Allowed.{allowed, all_allowed}
use Rattle.ts_model.specs.Sound.{sound}
use Rattle.ts_model.specs.Timely.{timely_at, has_room, timely}
use Rattle.ts_model.specs.declared.outcomes.Committed.{Committed}
use Rattle.ts_model.specs.Windows.{window}
use Rattle.std.specs.Option.{ForSome}
use Rattle.ts_bucket.specs.Bucket.{is_time}
use Rattle.ts_model.specs.Laws.{SoundCut}
use Rattle.ts_model.proofs.AllowedLaws.{consistent_of}
use Rattle.ts_model.proofs.MadeLaws.{calls_make_allowed}
use Rattle.ts_model.specs.Calls.{refuses, makes, commit_result, act_of_event, act_with_number, new_relation, refusal, finish_of, making_table, making_hyper, making_view, setting_mode, act_of_finish, act_of_cut, cut_of_view, cut_over}
use Rattle.ts_model.specs.Numbers.{no_number, name_taken, too_many, history_full}
use Rattle.event_check.specs.Checks.{refusal_in, call_refusal, event_refusal}
use Rattle.engine_core.specs.Acts.{unless, making_event, with_answer}
use Rattle.engine_core.specs.Effects.{moves_none}

-- ---- a call is refused if and only if its event isn't timely

room_timely : {A : Type 0} (h : History) (e : Event) (x : A) → is_none (refusal_in (act_of_event h e x)) ≡ has_room h
room_timely h e x = elim (has_room h) as (λ t. is_none (refusal_in (cond t (makes e x) (refuses (refusal history_full h 0)))) ≡ t) [ true ↦ refl | false ↦ refl ]

relation_timely : (h : History) (taken : Bool) (many : ℕ) (e : Event) → is_none (refusal_in (new_relation h taken many e)) ≡ ((not taken && nat_lt many most_relations) && has_room h)
relation_timely h true many e = refl
relation_timely h false many e =
    elim (nat_lt many most_relations) as (λ t. is_none (refusal_in (cond t (act_with_number h e) (refuses (refusal too_many h (suc most_relations))))) ≡ (t && has_room h)) [
      | true ↦ room_timely h e (suc (position h))
      | false ↦ refl
    ]

hyper_timely : {X : Type 0} (h : History) (o : Option X) (e : Event) → is_none (refusal_in (cond (is_some o) (refuses (refusal name_taken h 0)) (act_with_number h e))) ≡ (is_none o && has_room h)
hyper_timely h None e = room_timely h e (suc (position h))
hyper_timely h (Some x) e = refl

finish_timely : (h : History) (cut snap : ℕ) (p : Pending) → is_none (refusal_in (finish_of cut snap h p)) ≡ (is_waiting p && has_room h)
finish_timely h cut snap (Waiting n) = room_timely h (Built cut snap) (suc (position h))
finish_timely h cut snap (Finished by) = refl
finish_timely h cut snap Unknown = refl

none_where_timely : (h : History) (e : Event) → is_none (call_refusal h e) ≡ timely h e
none_where_timely h (Table def) = relation_timely h (is_taken (roster h) def.name) (length (roster h).tables) (Table def)
none_where_timely h (Hyper t hyper) = hyper_timely h (hyper_of (roster h) t) (Hyper t hyper)
none_where_timely h (View def) = relation_timely h (is_taken (roster h) def.name) (length (roster h).views) (View def)
none_where_timely h (Mode v only) = room_timely h (Mode v only) (suc (position h))
none_where_timely h (Commit ops) = room_timely h (Commit ops) (commit_result ops h)
none_where_timely h (Cut v span) = room_timely h (Cut v span) (suc (position h))
none_where_timely h (Built cut snap) = finish_timely h cut snap (pending h cut)

by_call : (o : Option Refusal) (t : Bool) (none : Refusal) → is_none o ≡ t → cond t None (Some (unwrap_or o none)) ≡ o
by_call None t none is = ap (λ u. cond u None (Some none)) (sym is)
by_call (Some r) t none is = ap (λ u. cond u None (Some r)) (sym is)

-- a sound event has the refusal of its call
pub as_call : (h : History) (e : Event) → sound h e ≡ true → event_refusal h e ≡ call_refusal h e
as_call h e is =
    ap (λ t. cond (t && timely h e) None (Some (unwrap_or (call_refusal h e) (refusal no_number h 0)))) is
    ∙ by_call (call_refusal h e) (timely h e) (refusal no_number h 0) (none_where_timely h e)

none_is : {X : Type 0} (o : Option X) → is_none o ≡ true → o ≡ None
none_is None e = refl
none_is (Some x) e = absurd (true≢false (sym e))

-- no call refuses an event that is allowed
pub free_where_allowed : (h : History) (e : Event) → allowed h e ≡ true → call_refusal h e ≡ None
free_where_allowed h e is = none_is (call_refusal h e) (none_where_timely h e ∙ (and_parts (sound h e) (timely h e) is).1)

-- and it fits before the end of the history
pub room_where_free : (h : History) (e : Event) → call_refusal h e ≡ None → has_room h ≡ true
room_where_free h e free = by_event e (sym (none_where_timely h e) ∙ ap is_none free)
  where
    by_event : (e : Event) → timely h e ≡ true → has_room h ≡ true
    by_event e t = (and_parts (timely_at h e) (has_room h) t).1

-- ---- the result of each call about its event

-- an event that is created, or refused because the history is at its end
answered_made : {A : Type 0} (f : Committed → A) (h : History) (e : Event) → act_of_event h e (f (moves_none h)) ≡ with_answer f (unless (refusal_in (act_of_event h e (f (moves_none h)))) (act_of_event h e (moves_none h)))
answered_made f h e = elim (has_room h) as (λ t. cond t (makes e (f (moves_none h))) (refuses (refusal history_full h 0)) ≡ with_answer f (unless (refusal_in (cond t (makes e (f (moves_none h))) (refuses (refusal history_full h 0)))) (cond t (makes e (moves_none h)) (refuses (refusal history_full h 0))))) [ true ↦ refl | false ↦ refl ]

answered_relation : (h : History) (taken : Bool) (many : ℕ) (e : Event) → new_relation h taken many e ≡ with_answer (λ c. c.pos) (unless (refusal_in (new_relation h taken many e)) (act_of_event h e (moves_none h)))
answered_relation h true many e = refl
answered_relation h false many e =
    elim (nat_lt many most_relations) as (λ t. cond t (act_with_number h e) (refuses (refusal too_many h (suc most_relations))) ≡ with_answer (λ c. c.pos) (unless (refusal_in (cond t (act_with_number h e) (refuses (refusal too_many h (suc most_relations))))) (act_of_event h e (moves_none h)))) [
      | true ↦ answered_made (λ c. c.pos) h e
      | false ↦ refl
    ]

pub answered_table : (def : TableDef) (h : History) → making_table def h ≡ with_answer (λ c. c.pos) (making_event (Table def) h)
answered_table def h = answered_relation h (is_taken (roster h) def.name) (length (roster h).tables) (Table def)

pub answered_view : (def : ViewDef) (h : History) → making_view def h ≡ with_answer (λ c. c.pos) (making_event (View def) h)
answered_view def h = answered_relation h (is_taken (roster h) def.name) (length (roster h).views) (View def)

pub answered_hyper : (t : ℕ) (hyper : HyperInfo) (h : History) → making_hyper t hyper h ≡ with_answer (λ c. c.pos) (making_event (Hyper t hyper) h)
answered_hyper t hyper h = by_kind (is_some (hyper_of (roster h) t))
  where
    by_kind : (made : Bool) → cond made (refuses (refusal name_taken h 0)) (act_with_number h (Hyper t hyper)) ≡ with_answer (λ c. c.pos) (unless (refusal_in (cond made (refuses (refusal name_taken h 0)) (act_with_number h (Hyper t hyper)))) (act_of_event h (Hyper t hyper) (moves_none h)))
    by_kind true = refl
    by_kind false = answered_made (λ c. c.pos) h (Hyper t hyper)

pub answered_mode : (n : ℕ) (only : Bool) (h : History) → setting_mode n only h ≡ with_answer (λ c. c.pos) (making_event (Mode n only) h)
answered_mode n only h = answered_made (λ c. c.pos) h (Mode n only)

pub answered_finish : (cut snap : ℕ) (h : History) → act_of_finish cut snap h ≡ with_answer (λ c. c.pos) (making_event (Built cut snap) h)
answered_finish cut snap h = by_state (pending h cut)
  where
    by_state : (p : Pending) → finish_of cut snap h p ≡ with_answer (λ c. c.pos) (unless (refusal_in (finish_of cut snap h p)) (act_of_event h (Built cut snap) (moves_none h)))
    by_state (Waiting n) = answered_made (λ c. c.pos) h (Built cut snap)
    by_state (Finished by) = refl
    by_state Unknown = refl

pub answered_cut : (n : ℕ) (span : Span) (h : History) → cut_over n h (Whole span) ≡ with_answer (λ c. CutMade c.pos span) (making_event (Cut n span) h)
answered_cut n span h = elim (has_room h) as (λ t. cond t (makes (Cut n span) (CutMade (suc (position h)) span)) (refuses (refusal history_full h 0)) ≡ with_answer (λ c. CutMade c.pos span) (unless (refusal_in (cond t (makes (Cut n span) (suc (position h))) (refuses (refusal history_full h 0)))) (cond t (makes (Cut n span) (moves_none h)) (refuses (refusal history_full h 0))))) [ true ↦ refl | false ↦ refl ]

-- ---- cuts

by_definition : (n : ℕ) (lo hi : Option ℤ) (h : History) (w : WindowFound) (o : Option ViewDef) → IsSome o → IfSome o (λ def. w ≡ window n def h lo hi) → cut_of_view n lo hi h o ≡ cut_over n h w
by_definition n lo hi h w None there is = absurd (true≢false (sym there))
by_definition n lo hi h w (Some def) there is = ap (cut_over n h) (sym is)

-- a cut depends on the buckets that its window covers
pub cut_by_window : (n : ℕ) (lo hi : Option ℤ) (h : History) (w found : WindowFound) → IsSome (view_of (roster h) n) → IfSome (view_of (roster h) n) (λ def. w ≡ window n def h lo hi) → w ≡ found → act_of_cut n lo hi h ≡ cut_over n h found
cut_by_window n lo hi h w found there is same = by_definition n lo hi h w (view_of (roster h) n) there is ∙ ap (cut_over n h) same

-- the cut of the whole buckets of a window is sound
pub cut_sound : (n : ℕ) (lo hi : Option ℤ) (h : History) (w : WindowFound) (span : Span) → all_allowed h ≡ true → IsSome (view_of (roster h) n) → IfSome (view_of (roster h) n) (λ def. w ≡ window n def h lo hi) → w ≡ Whole span → ForSome hi (λ t. IsTrue (is_time t)) → IsTrue (sound h (Cut n span))
cut_sound n lo hi h w span ok there is same time = by_view (view_of (roster h) n) refl there is
  where
    by_view : (o : Option ViewDef) → view_of (roster h) n ≡ o → IsSome o → IfSome o (λ def. w ≡ window n def h lo hi) → IsTrue (sound h (Cut n span))
    by_view None at some found = absurd (true≢false (sym some))
    by_view (Some def) at some found = subst (SoundCut n h) (sym found ∙ same) (calls_make_allowed.windows n def h lo hi (consistent_of h ok) at time)
