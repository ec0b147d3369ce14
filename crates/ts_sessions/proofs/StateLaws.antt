-- States that a store goes through: what reads find, and what calls leave.
use Rattle.std.proofs.Common.{◌≡◌, Bool, sym, refl, ◌∙◌, subst, inl, inr}
use Rattle.std.specs.Prelude.{IsTrue, is_some}
use Rattle.std.proofs.lemmas.Bool.{true≢false}
use Rattle.ts_model.specs.declared.events.Event.{Event}
use Rattle.ts_model.specs.History.{History, Begins, same, further}
use Rattle.ts_model.specs.States.{State, Found, Keeps, Makes, Fails, stands_still}
use Rattle.ts_model.specs.Calls.{Looked}
use Rattle.ts_model.proofs.HistoryLaws.{begins_trans}
use Rattle.ts_sessions.specs.Held.{GoesOn}
use Rattle.ts_sessions.specs.Walks.{Sees}

-- a state that keeps everything is the same
pub kept : (found new : State) → Keeps found new → new ≡ found
kept found new k =
    let whole : record { history = new.history; failed = new.failed; faults = new.faults; made = new.made; origin = new.origin } ≡ found = rw (k.history, k.failed, k.faults, k.made, k.origin) refl in
    whole

-- ---- reads

still_found : {alone : Bool} (old found : State) → Found alone old found → IsTrue (stands_still old) → IsTrue (stands_still found)
still_found old found f s = subst (λ x. IsTrue (is_some x)) (sym (f.still_failed s)) s

found_trans : (alone : Bool) (a b c : State) → Found alone a b → Found alone b c → Found alone a c
found_trans alone a b c f g = record {
  alone_found = λ t. g.alone_found t ∙ f.alone_found t;
  begins = begins_trans f.begins g.begins;
  still_there = λ s. g.still_there (still_found a b f s) ∙ f.still_there s;
  still_failed = λ s. g.still_failed (still_found a b f s) ∙ f.still_failed s;
  made = g.made ∙ f.made;
  origin = g.origin ∙ f.origin;
  counted = g.counted;
  fell = g.fell;
}

pub sees_trans : (alone : Bool) (a b c : State) → Sees alone a b → Sees alone b c → Sees alone a c
sees_trans alone a b c (inl e) g = subst (λ x. Sees alone x c) e g
sees_trans alone a b c (inr f) (inl e) = subst (λ x. Sees alone a x) (sym e) (inr f)
sees_trans alone a b c (inr f) (inr g) = inr (found_trans alone a b c f g)

-- a call that only reads leaves the state that it found
pub sees_looked : (alone : Bool) (old : State) (Reports : History → Type 0) (new : State) → Looked alone old Reports new → Sees alone old new
sees_looked alone old Reports new l = inr (subst (λ s. Found alone old s) (sym (kept l.found new l.keeps)) l.finds)

pub looked_reports : (alone : Bool) (old : State) (Reports : History → Type 0) (new : State) → Looked alone old Reports new → Reports new.history
looked_reports alone old Reports new l = subst Reports (sym l.keeps.history) l.tells

-- ---- continuing

pub goes_trans : (a b c : State) → GoesOn a b → GoesOn b c → GoesOn a c
goes_trans a b c f g = record { begins = begins_trans f.begins g.begins; still = λ s. g.still (f.still s) }

pub goes_same : (a b : State) → b ≡ a → GoesOn a b
goes_same a b e = subst (λ x. GoesOn a x) (sym e) (record { begins = same; still = λ s. s })

pub goes_seen : (alone : Bool) (a b : State) → Sees alone a b → GoesOn a b
goes_seen alone a b (inl e) = goes_same a b e
goes_seen alone a b (inr f) = record { begins = f.begins; still = still_found a b f }

pub goes_made : (e : Event) (a b : State) → Makes e a b → GoesOn a b
goes_made e a b m = record {
  begins = subst (λ g. Begins a.history g) (sym m.history) (further same);
  still = λ s. absurd (true≢false (sym (subst (λ x. IsTrue (is_some x)) m.went_on s)));
}

pub goes_failed : (e : Event) (a b : State) → Fails e a b → GoesOn a b
goes_failed e a b f = record {
  begins = subst (λ g. Begins a.history g) (sym f.history) same;
  still = λ s. absurd (true≢false (sym (subst (λ x. IsTrue (is_some x)) f.went_on s)));
}
