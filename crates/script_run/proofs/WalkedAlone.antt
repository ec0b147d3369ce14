-- How a procedure runs on a store that nobody else uses and that hasn't stopped.
use Rattle.std.proofs.Common.{◌≡◌, Bool, true, false, None, sym, refl, ap, ◌∙◌, subst, inl, inr}
use Rattle.std.specs.Prelude.{IsTrue, is_some, ◌⊎◌}
use Rattle.std.proofs.lemmas.Bool.{true≢false}
use Rattle.ts_io.specs.Faults.{Counted}
use Rattle.ts_model.specs.declared.events.Event.{Event}
use Rattle.ts_model.specs.History.{History, ◌▸◌, Begins, same, further}
use Rattle.ts_model.specs.States.{State, Makes, Fails, stands_still}
use Rattle.ts_model.proofs.HistoryLaws.{begins_trans}
use Rattle.ts_sessions.specs.Procedures.{Procedure, sees, adds, ends}
use Rattle.ts_sessions.specs.Walks.{Walks, Breaks, Sees, history_after, end_of_walk}
use Rattle.script_run.specs.RunStates.{WentOn, IsBetween, FailedBetween}

-- ---- how a store that nobody else uses is left

pub went_trans : (failed : Bool) (a b c : State) → WentOn false a b → WentOn failed b c → WentOn failed a c
went_trans failed a b c f g = record {
  still = g.still;
  faults = subst (λ n. Counted n c.faults failed) f.faults g.faults;
  origin = g.origin ∙ f.origin;
}

pub went_same : (a b : State) → stands_still a ≡ false → b ≡ a → WentOn false a b
went_same a b going e = subst (λ s. WentOn false a s) (sym e) (record { still = going; faults = refl; origin = refl })

went_made : (e : Event) (a b : State) → Makes e a b → WentOn false a b
went_made e a b m = record { still = ap is_some m.failed; faults = m.faults; origin = m.origin }

went_failed : (e : Event) (a b : State) → Fails e a b → WentOn true a b
went_failed e a b f = record { still = ap is_some f.failed; faults = f.faults; origin = f.origin }

-- a store can't be both running and stopped
goes : {X : Type 0} {b : Bool} → b ≡ false → IsTrue b → X
goes going still = absurd (true≢false (sym still ∙ going))

-- a read finds it as it was
seen_alone : (old found : State) → Sees true old found → found ≡ old
seen_alone old found (inl e) = e
seen_alone old found (inr f) = f.alone_found refl

-- ---- a stopped store stays as it was

still_none : {X : Type 0} (s : State) → IsTrue (stands_still s) → s.failed ≡ None → X
still_none s still none = absurd (true≢false (sym (subst (λ x. IsTrue (is_some x)) none still)))

still_walks : {A : Type 0} (old : State) (procedure : Procedure A) (new : State) (y : A) → IsTrue (stands_still old) → Walks true false old procedure new y → new ≡ old
still_walks old (sees shown f) new y s w =
    still_walks old (f old.history) new y s (subst (λ m. Walks true false m (f m.history) new y) (seen_alone old w.mid w.first) w.rest)
still_walks old (adds e next stop) new y s (inl w) = still_walks old stop new y s w.1
still_walks old (adds e next stop) new y s (inr (inl w)) = still_none old s w.first.went_on
still_walks old (adds e next stop) new y s (inr (inr w)) = absurd (true≢false (sym w.0))
still_walks old (ends a) new y s w = w.1

still_breaks : {A : Type 0} (old : State) (procedure : Procedure A) (new : State) → IsTrue (stands_still old) → Breaks true old procedure new → new ≡ old
still_breaks old (sees shown f) new s b =
    still_breaks old (f old.history) new s (subst (λ m. Breaks true m (f m.history) new) (seen_alone old b.mid b.first) b.rest)
still_breaks old (adds e next stop) new s (inl b) = b
still_breaks old (adds e next stop) new s (inr (inl b)) = still_breaks old stop new s b.1
still_breaks old (adds e next stop) new s (inr (inr (inl b))) = still_none old s b.first.went_on
still_breaks old (adds e next stop) new s (inr (inr (inr b))) = still_none old s b.first.went_on
still_breaks old (ends a) new s b = b

-- ---- what a procedure leaves

-- the history after a procedure begins with the history before it
pub begins_after : {A : Type 0} (procedure : Procedure A) (h : History) → Begins h (history_after procedure h)
begins_after (sees shown f) h = begins_after (f h) h
begins_after (adds e next stop) h = begins_trans (further same) (begins_after next (h ▸ e))
begins_after (ends a) h = same

-- a procedure ended
pub record WalkedWhole {A : Type 0} (procedure : Procedure A) (old new : State) (y : A) : Type 0 where
  pub history : new.history ≡ history_after procedure old.history
  pub end : y ≡ end_of_walk procedure old.history
  pub went : WentOn false old new

-- the disk failed at one of its events
pub record WalkedFailed {A : Type 0} (procedure : Procedure A) (old new : State) : Type 0 where
  pub failed : FailedBetween old.history (history_after procedure old.history) new
  pub went : WentOn true old new

-- it broke off
pub record WalkedBroken {A : Type 0} (procedure : Procedure A) (old new : State) : Type 0 where
  pub between : IsBetween old.history (history_after procedure old.history) new
  pub went : WentOn false old new

module _ {A : Type 0} (e : Event) (next stop : Procedure A) (old mid new : State) where
  -- an event was appended, and the rest continued from there
  made_whole : (y : A) → Makes e old mid → WalkedWhole next mid new y → WalkedWhole (adds e next stop) old new y
  made_whole y m w = record {
    history = w.history ∙ ap (history_after next) m.history;
    end = w.end ∙ ap (end_of_walk next) m.history;
    went = went_trans false old mid new (went_made e old mid m) w.went;
  }

  made_failed : Makes e old mid → WalkedFailed next mid new → WalkedFailed (adds e next stop) old new
  made_failed m w = record {
    failed = record {
      event = w.failed.event;
      failed = w.failed.failed;
      began = begins_trans (further same) (subst (λ h. Begins h new.history) m.history w.failed.began);
      next = subst (λ h. Begins (new.history ▸ w.failed.event) (history_after next h)) m.history w.failed.next;
    };
    went = went_trans true old mid new (went_made e old mid m) w.went;
  }

  made_broken : Makes e old mid → WalkedBroken next mid new → WalkedBroken (adds e next stop) old new
  made_broken m w = record {
    between = record {
      began = begins_trans (further same) (subst (λ h. Begins h new.history) m.history w.between.began);
      within = subst (λ h. Begins new.history (history_after next h)) m.history w.between.within;
    };
    went = went_trans false old mid new (went_made e old mid m) w.went;
  }

  -- the disk failed at the event, and the store stayed as it had stopped
  failed_here : Fails e old mid → new ≡ mid → WalkedFailed (adds e next stop) old new
  failed_here f left =
      let there : new.history ≡ old.history = ap (λ s. s.history) left ∙ f.history in
      record {
        failed = record {
          event = e;
          failed = ap (λ s. s.failed) left ∙ f.failed;
          began = subst (λ h. Begins old.history h) (sym there) same;
          next = subst (λ h. Begins (h ▸ e) (history_after next (old.history ▸ e))) (sym there) (begins_after next (old.history ▸ e));
        };
        went = subst (λ s. WentOn true old s) (sym left) (went_failed e old mid f);
      }

  failed_still : Fails e old mid → IsTrue (stands_still mid)
  failed_still f = ap is_some f.failed

-- it wasn't begun, or did nothing
not_gone : {A : Type 0} (old : State) (procedure : Procedure A) (new : State) → stands_still old ≡ false → new ≡ old → WalkedBroken procedure old new
not_gone old procedure new going e = record {
  between = record {
    began = subst (λ s. Begins old.history s.history) (sym e) same;
    within = subst (λ s. Begins s.history (history_after procedure old.history)) (sym e) (begins_after procedure old.history);
  };
  went = went_same old new going e;
}

pub walks_whole : {A : Type 0} (old : State) (procedure : Procedure A) (new : State) (y : A) → stands_still old ≡ false → Walks true false old procedure new y → WalkedWhole procedure old new y
walks_whole old (sees shown f) new y going w =
    let r = walks_whole old (f old.history) new y going (subst (λ m. Walks true false m (f m.history) new y) (seen_alone old w.mid w.first) w.rest) in
    record { history = r.history; end = r.end; went = r.went }
walks_whole old (adds e next stop) new y going (inl w) = goes going w.0
walks_whole old (adds e next stop) new y going (inr (inl w)) =
    made_whole e next stop old w.mid new y w.first (walks_whole w.mid next new y (ap is_some w.first.failed) w.rest)
walks_whole old (adds e next stop) new y going (inr (inr w)) = absurd (true≢false (sym w.0))
walks_whole old (ends a) new y going w = record { history = ap (λ s. s.history) w.1; end = w.2; went = went_same old new going w.1 }

pub walks_failed : {A : Type 0} (old : State) (procedure : Procedure A) (new : State) (y : A) → stands_still old ≡ false → Walks true true old procedure new y → WalkedFailed procedure old new
walks_failed old (sees shown f) new y going w =
    let r = walks_failed old (f old.history) new y going (subst (λ m. Walks true true m (f m.history) new y) (seen_alone old w.mid w.first) w.rest) in
    record { failed = r.failed; went = r.went }
walks_failed old (adds e next stop) new y going (inl w) = goes going w.0
walks_failed old (adds e next stop) new y going (inr (inl w)) =
    made_failed e next stop old w.mid new w.first (walks_failed w.mid next new y (ap is_some w.first.failed) w.rest)
walks_failed old (adds e next stop) new y going (inr (inr w)) =
    failed_here e next stop old w.1.mid new w.1.first (still_walks w.1.mid stop new y (failed_still e next stop old w.1.mid new w.1.first) w.1.rest)
walks_failed old (ends a) new y going w = absurd (true≢false w.0)

pub breaks_alone : {A : Type 0} (old : State) (procedure : Procedure A) (new : State) → stands_still old ≡ false → Breaks true old procedure new → WalkedBroken procedure old new ⊎ WalkedFailed procedure old new
breaks_alone old (sees shown f) new going b =
    seen_too (breaks_alone old (f old.history) new going (subst (λ m. Breaks true m (f m.history) new) (seen_alone old b.mid b.first) b.rest))
  where
    seen_too : WalkedBroken (f old.history) old new ⊎ WalkedFailed (f old.history) old new → WalkedBroken (sees shown f) old new ⊎ WalkedFailed (sees shown f) old new
    seen_too (inl r) = inl (record { between = r.between; went = r.went })
    seen_too (inr r) = inr (record { failed = r.failed; went = r.went })
breaks_alone old (adds e next stop) new going (inl b) = inl (not_gone old (adds e next stop) new going b)
breaks_alone old (adds e next stop) new going (inr (inl b)) = goes going b.0
breaks_alone old (adds e next stop) new going (inr (inr (inl b))) = made_too (breaks_alone b.mid next new (ap is_some b.first.failed) b.rest)
  where
    made_too : WalkedBroken next b.mid new ⊎ WalkedFailed next b.mid new → WalkedBroken (adds e next stop) old new ⊎ WalkedFailed (adds e next stop) old new
    made_too (inl r) = inl (made_broken e next stop old b.mid new b.first r)
    made_too (inr r) = inr (made_failed e next stop old b.mid new b.first r)
breaks_alone old (adds e next stop) new going (inr (inr (inr b))) =
    inr (failed_here e next stop old b.mid new b.first (still_breaks b.mid stop new (failed_still e next stop old b.mid new b.first) b.rest))
breaks_alone old (ends a) new going b = inl (not_gone old (ends a) new going b)
