-- A call of a store handle is the call of the backend in the lock.
use Rattle.std.proofs.Common.{◌≡◌, ℕ, ◌≤◌, Bool, true, false, List, ◌++◌, Some, None, sym, refl, ap, ◌∙◌, subst, append-nil}
use Rattle.std.specs.Prelude.{IsTrue, is_some, Option}
use Rattle.std.proofs.lemmas.Bool.{true≢false}
use Rattle.std.specs.declared.snapshot.Snapshot.{Snapshot}
use Rattle.ts_schema.specs.Faults.{Rose}
use Rattle.ts_model.specs.declared.events.Event.{Event}
use Rattle.ts_model.specs.declared.events.Event.TheVariants.{Mode}
use Rattle.ts_model.specs.declared.outcomes.Outcome.{Outcome}
use Rattle.ts_model.specs.declared.outcomes.Outcome.TheVariants.{Done, Refused, DiskFault, NoMemory}
use Rattle.ts_model.specs.History.{History, ◌▸▸◌, position, Begins}
use Rattle.ts_model.specs.Roster.{roster, view_of}
use Rattle.ts_model.specs.States.{State, Found, Keeps, Makes, Fails, stands_still, stop_of}
use Rattle.ts_model.specs.Calls.{Act, refuses, returns, makes, Answered, Called, Looked}
use mathlib.Core.List.{IsPrefix}
use Rattle.ts_model.proofs.CallLaws.{begins_called, begins_looked}
use Rattle.ts_model.proofs.HistoryLaws.{position_followed}
use Rattle.ts_model.proofs.AllowedLaws.{sound_in_stays}
use Rattle.ts_model.proofs.RosterLaws.{relations_stay}
use Rattle.turn_lock.specs.declared.held.Held.{Held}
use Rattle.turn_lock.specs.Pass.{base_of, start_of, closed_of, seen_of, made_of, found_of}
use Rattle.turn_lock.specs.Positions.{positions_between, end_of}
use Rattle.turn_lock.proofs.Numbers.{positions_none}
use Rattle.shared_store.specs.Histories.{events_after}
use Rattle.shared_store.specs.Wrapped.{Wrapped, StaysKept, events_in}
use Rattle.shared_store.specs.Stores.{Ticket, IsPassOf, history_of}
use Rattle.shared_store.specs.Turns.{Begun, CanEnd, Ended}
use Rattle.shared_store.specs.Desks.{AtDesk, place_of, failed_at, desk_state, IsLast, IsDesk}
use Rattle.shared_store.specs.declared.turns.TurnEnd.{TurnEnd}
use Rattle.shared_store.proofs.AfterLaws.{followed_after, end_after, prefix_after}
use Rattle.shared_store.proofs.GoesOnLaws.{is_there, one_after, called_still, looked_still}

-- ---- a state with the positions that a pass added

abbrev labelled : List ℕ → State → State
labelled m s = record s { made = m }

-- the state after a call, as a pass with the positions m before it sees it
record Relabels (m : List ℕ) (s t new : State) : Type 0 where
  history : new.history ≡ t.history
  failed : new.failed ≡ t.failed
  faults : new.faults ≡ t.faults
  origin : new.origin ≡ t.origin
  made : new.made ≡ m ++ positions_between (position s.history) (position t.history)

module _ {m : List ℕ} {s t new : State} (r : Relabels m s t new) where
  keeps_labelled : Keeps s t → Keeps (labelled m s) new
  keeps_labelled k = record {
    history = r.history ∙ k.history;
    failed = r.failed ∙ k.failed;
    faults = r.faults ∙ k.faults;
    made = r.made ∙ ap (λ h. m ++ positions_between (position s.history) (position h)) k.history ∙ ap (λ ps. m ++ ps) (positions_none (position s.history)) ∙ append-nil m;
    origin = r.origin ∙ k.origin;
  }

  makes_labelled : {e : Event} → Makes e s t → Makes e (labelled m s) new
  makes_labelled k = record {
    went_on = k.went_on;
    history = r.history ∙ k.history;
    failed = r.failed ∙ k.failed;
    faults = r.faults ∙ k.faults;
    made = r.made ∙ ap (λ h. m ++ positions_between (position s.history) (position h)) k.history ∙ ap (λ ps. m ++ ps) (one_after (position s.history));
    origin = r.origin ∙ k.origin;
  }

  fails_labelled : {e : Event} → Fails e s t → Fails e (labelled m s) new
  fails_labelled k = record {
    went_on = k.went_on;
    history = r.history ∙ k.history;
    failed = r.failed ∙ k.failed;
    faults = subst (λ n. Rose s.faults n) (sym r.faults) k.faults;
    made = r.made ∙ ap (λ h. m ++ positions_between (position s.history) (position h)) k.history ∙ ap (λ ps. m ++ ps) (positions_none (position s.history)) ∙ append-nil m;
    origin = r.origin ∙ k.origin;
  }

  answered_labelled : {A : Type 0} (act : Act A) (outcome : Outcome A) → Answered act s outcome t → Answered act (labelled m s) outcome new
  answered_labelled (refuses q) (Done a) w = absurd w
  answered_labelled (refuses q) (Refused p) w = (w.0, keeps_labelled w.1)
  answered_labelled (refuses q) DiskFault w = absurd w
  answered_labelled (refuses q) NoMemory w = keeps_labelled w
  answered_labelled (returns a) (Done b) w = (w.0, keeps_labelled w.1)
  answered_labelled (returns a) (Refused p) w = absurd w
  answered_labelled (returns a) DiskFault w = absurd w
  answered_labelled (returns a) NoMemory w = keeps_labelled w
  answered_labelled (makes e a) (Done b) w = (w.0, makes_labelled w.1)
  answered_labelled (makes e a) (Refused p) w = (w.0, w.1, keeps_labelled w.2)
  answered_labelled (makes e a) DiskFault w = fails_labelled w
  answered_labelled (makes e a) NoMemory w = keeps_labelled w

-- ---- what a store handle knows about the stop of its store

there_is : {A : Type 0} (o : Option A) → IsTrue (is_some o) → (x : A) × (o ≡ Some x)
there_is None e = absurd (true≢false (sym e))
there_is (Some x) e = (x, refl)

closed_last : {B : Type 0} (state : B → State) (desk : AtDesk B) (last : Option (TurnEnd B)) {e : Event} → IsLast state desk last → failed_at state last ≡ Some e → closed_of desk.pass ≡ Some e
closed_last state desk None d is = absurd (is_there is refl)
closed_last state desk (Some left) d is = d.0 ∙ is

-- ---- one turn of a store handle

module _ {B K : Type 0} (alone : Bool) (state : B → State) (kin : B → K) where
  module _ (desk : AtDesk B) (turn : Ticket B) (held : Held (Wrapped B)) (d : IsDesk state desk) (b : Begun alone state kin desk.store desk.pass turn held) where
    -- what the turn finds
    finds : (f : State) → Found alone (state held.value.backend) f → Found false (desk_state state desk) (labelled (made_of desk.pass) (state held.value.backend))
    finds f got = record {
      alone_found = λ e. absurd (true≢false (sym e));
      begins = b.begins;
      still_there = λ e. (stood e).1;
      still_failed = λ e. (stood e).0;
      made = refl;
      origin = b.kept.goes_on.origin ∙ ap (λ o. (state o.value).origin) b.opened;
      counted = subst (λ g. g.origin.faults ≤ g.faults) (got.alone_found b.kept.is_alone) got.counted;
      fell = subst (λ g. IsTrue (stands_still g) → Rose g.origin.faults g.faults) (got.alone_found b.kept.is_alone) got.fell;
    }
      where
        stood : IsTrue (is_some (failed_at state desk.last)) → ((state held.value.backend).failed ≡ failed_at state desk.last) × ((state held.value.backend).history ≡ history_of state desk.store desk.pass)
        stood e =
            let event = there_is (failed_at state desk.last) e in
            let still = b.stays event.0 (closed_last state desk desk.last d.last event.1) in
            (still.0 ∙ sym event.1, still.1)

    module _ (k : Wrapped B) (new : Ticket B) (left : TurnEnd B) (s : StaysKept alone state kin held.value k) (e : Ended state desk.store turn new k) (l : left.backend.value ≡ k.backend) where
      abbrev pub after : AtDesk B
      after = record { store = desk.store; pass = new; last = Some left }

      same_start : k.opened ≡ desk.store.opened
      same_start = s.opened ∙ b.opened

      -- what the pass has seen then is the history of the backend
      seen_all : history_of state desk.store new ≡ (state k.backend).history
      seen_all =
          ap (λ es. (state desk.store.opened.value).history ▸▸ es) (e.seen ∙ ap (λ o. events_after (state o.value).history (state k.backend).history) same_start)
          ∙ followed_after (subst (λ o. Begins (state o.value).history (state k.backend).history) same_start s.after.goes_on.begins)

      -- the positions at which the turn found the events and left them
      made_all : made_of new ≡ made_of desk.pass ++ positions_between (position (state held.value.backend).history) (position (state k.backend).history)
      made_all =
          e.made
          ∙ ap (λ m. m ++ positions_between (end_of start (found_of turn)) (end_of start (events_in state k))) b.same.made
          ∙ ap (λ p. made_of desk.pass ++ positions_between p (end_of start (events_in state k))) found_at
          ∙ ap (λ p. made_of desk.pass ++ positions_between (position (state held.value.backend).history) p) (sym (end_after s.after.goes_on.begins))
        where
          start : ℕ
          start = position (state k.opened.value).history

          found_at : end_of start (found_of turn) ≡ position (state held.value.backend).history
          found_at =
              ap (λ es. end_of start es) b.found
              ∙ ap (λ o. end_of (position (state o.value).history) (events_in state held.value)) s.opened
              ∙ sym (end_after b.kept.goes_on.begins)

      relabels : Relabels (made_of desk.pass) (state held.value.backend) (state k.backend) (desk_state state after)
      relabels = record {
        history = seen_all;
        failed = ap (λ x. (state x).failed) l;
        faults = ap (λ x. (state x).faults) l;
        origin = ap (λ o. (state o.value).origin) (sym same_start) ∙ sym s.after.goes_on.origin;
        made = made_all;
      }

      pub desk_called : {A : Type 0} {act : History → Act A} {outcome : Outcome A} {now : AtDesk B} → desk ≡ now → Called alone (state held.value.backend) act outcome (state k.backend) → Called false (desk_state state now) act outcome (desk_state state after)
      desk_called {act = act} {outcome = outcome} v c = subst (λ d. Called false (desk_state state d) act outcome (desk_state state after)) v record {
        found = labelled (made_of desk.pass) (state held.value.backend);
        finds = finds c.found c.finds;
        answered = answered_labelled relabels (act (state held.value.backend).history) outcome (subst (λ f. Answered (act f.history) f outcome (state k.backend)) (c.finds.alone_found b.kept.is_alone) c.answered);
      }

      pub desk_looked : {Tells : History → Type 0} {now : AtDesk B} → desk ≡ now → Looked alone (state held.value.backend) Tells (state k.backend) → Looked false (desk_state state now) Tells (desk_state state after)
      desk_looked {Tells = Tells} v c =
          let same = c.finds.alone_found b.kept.is_alone in
          subst (λ d. Looked false (desk_state state d) Tells (desk_state state after)) v record {
            found = labelled (made_of desk.pass) (state held.value.backend);
            finds = finds c.found c.finds;
            keeps = keeps_labelled relabels (subst (λ f. Keeps f (state k.backend)) same c.keeps);
            tells = subst (λ f. Tells f.history) same c.tells;
          }

      pub desk_stays : left.stopped ≡ stop_of (state k.backend) → IsDesk state after
      desk_stays stop = record {
        of_store = e.of_store;
        last = (e.closed ∙ ap (λ x. (state x).failed) (sym l), ap (λ x. (state x).history) l ∙ sym seen_all, stop ∙ ap (λ x. stop_of (state x)) (sym l));
      }

      pub desk_place : place_of after ≡ place_of desk
      desk_place = ap (λ n. record { store = desk.store; shares = n }) (e.shares ∙ b.same.shares)

    -- ---- how a turn may end

    ends_from : (k : Wrapped B) → StaysKept alone state kin held.value k → Begins (state held.value.backend).history (state k.backend).history → ((e : Event) → (state held.value.backend).failed ≡ Some e → ((state k.backend).failed ≡ Some e) × ((state k.backend).history ≡ (state held.value.backend).history)) → CanEnd state desk.store turn (record held { value = k })
    ends_from k s q still = record {
      lock = b.same.lock ∙ d.of_store.lock;
      base = b.same.base ∙ d.of_store.base;
      opened = s.opened ∙ b.opened;
      turn = b.turn;
      grown = subst (λ es. IsPrefix es (events_in state k)) (sym found) (prefix_after (subst (λ o. Begins (state o.value).history (state held.value.backend).history) (sym s.opened) b.kept.goes_on.begins) q);
      stays = λ e is.
          let now = still e (sym b.found_closed ∙ is) in
          (now.0, ap (λ h. events_after (state k.opened.value).history h) now.1 ∙ sym found);
    }
      where
        found : found_of turn ≡ events_after (state k.opened.value).history (state held.value.backend).history
        found = b.found ∙ ap (λ o. events_after (state o.value).history (state held.value.backend).history) (sym s.opened)

    pub called_ends : {A : Type 0} {act : History → Act A} {outcome : Outcome A} (k : Wrapped B) → StaysKept alone state kin held.value k → Called alone (state held.value.backend) act outcome (state k.backend) → CanEnd state desk.store turn (record held { value = k })
    called_ends k s c = ends_from k s (begins_called c) (λ e is. called_still b.kept.is_alone c is)

    pub looked_ends : {Tells : History → Type 0} (k : Wrapped B) → StaysKept alone state kin held.value k → Looked alone (state held.value.backend) Tells (state k.backend) → CanEnd state desk.store turn (record held { value = k })
    looked_ends k s c = ends_from k s (begins_looked c) (λ e is. looked_still b.kept.is_alone c is)

-- ---- what a store handle has seen

module _ {B : Type 0} (state : B → State) (desk : AtDesk B) {now : AtDesk B} (v : desk ≡ now) where
  -- a property that stays true as histories grow, and is true of what the handle has seen, is true of what its turn
  -- finds
  pub holds_there : (P : History → Type 0) {h : History} → ((f g : History) → Begins f g → P f → P g) → Begins (history_of state desk.store desk.pass) h → P (desk_state state now).history → P h
  holds_there P {h} stays q p = stays (history_of state desk.store desk.pass) h q (subst (λ d. P (desk_state state d).history) (sym v) p)

  pub desk_position : {p : ℕ} → IsPassOf desk.store desk.pass → p ≡ end_of (start_of (λ (opened : Snapshot B). position (state opened.value).history) (base_of desk.pass)) (seen_of desk.pass) → p ≡ position (desk_state state now).history
  desk_position of_store at =
      at
      ∙ ap (λ b. end_of (start_of (λ (opened : Snapshot B). position (state opened.value).history) b) (seen_of desk.pass)) of_store.base
      ∙ sym (position_followed (state desk.store.opened.value).history (seen_of desk.pass))
      ∙ ap (λ d. position (desk_state state d).history) v

-- an aggregate stays in the roster
pub view_stays : (n : ℕ) (g h : History) → Begins g h → is_some (view_of (roster g) n) ≡ true → is_some (view_of (roster h) n) ≡ true
view_stays n g h q e = sound_in_stays (roster g) (roster h) (Mode n false) (relations_stay g h q) e
