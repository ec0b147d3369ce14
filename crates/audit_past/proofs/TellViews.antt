-- An aggregate that is made over a whole history, and the refresh that follows it.
use Rattle.std.proofs.Common.{◌≡◌, ℕ, suc, ◌≤◌, Bool, true, [], ◌∷◌, length, Option, Some, None, sym, refl, ap, ◌∙◌, subst, arith}
use Rattle.std.specs.Prelude.{Result, Ok, Err}
use Rattle.std.proofs.lemmas.Option.{same_Some}
use Rattle.ts_bucket.specs.Bucket.{first_of}
use Rattle.ts_model.specs.declared.outcomes.Outcome.TheVariants as outcomes
use Rattle.ts_model.specs.declared.outcomes.Refusal.{Refusal}
use Rattle.ts_model.specs.declared.snapshots.Shown.{Ghosts as Shown}
use Rattle.ts_model.specs.declared.views.ViewDef.{ViewDef}
use Rattle.ts_model.specs.Calls.{Act, Answered, refuses, returns, makes, making_view}
use Rattle.ts_model.specs.History.{History, position, prefix}
use Rattle.ts_model.specs.Roster.{roster}
use Rattle.ts_model.specs.States.{State}
use Rattle.result_text.specs.declared.replies.Said.TheVariants as said
use Rattle.ts_sessions.specs.declared.calls.CallOutcome.TheVariants as outcomes_of
use Rattle.ts_sessions.specs.declared.events.NewView.{NewView}
use Rattle.ts_sessions.specs.declared.refreshes.RefreshRequest.{RefreshRequest}
use Rattle.audit_past.specs.declared.history_view.CallAt.{CallAt}
use Rattle.audit_past.specs.Pasts.{CameTo}
use Rattle.audit_past.specs.ReplaySteps.{IsMet, does_at, state_of}
use Rattle.ts_sessions.specs.Places.{Places}
use Rattle.ts_sessions.specs.Sound.{number_at}
use Rattle.ts_sessions.specs.Step.{after_view}
use Rattle.audit_past.proofs.TellWalks.{met_by, prefix_next}
use Rattle.ts_sessions.proofs.ViewWalks.{WasMade, number_named, was_made}

-- what a call returned, as a store would have answered
record AnsweredAt {A : Type 0} (act : Act A) (all : History) (at : ℕ) (m : CallAt A) (a : A) : Type 0 where
  state : State
  answered : Answered act (state_of (prefix all at)) (outcomes.Done a) state
  history : state.history ≡ prefix all m.at

same_done : {A : Type 0} (r : Result A Refusal) (b a : A) → r ≡ Ok b → r ≡ Ok a → a ≡ b
same_done r b a e f = cc

refused_done : {A : Type 0} (r : Result A Refusal) (q : Refusal) (a : A) → r ≡ Err q → r ≡ Ok a → ⊥
refused_done r q a e f = absurd cc

answered_at : {A : Type 0} (act : Act A) (all : History) (at : ℕ) (m : CallAt A) (a : A) → CameTo act all at (Some m) → m.came ≡ Ok a → AnsweredAt act all at m a
answered_at {A} (refuses r) all at m a w e = absurd (refused_done m.came r a (ap (λ (x : CallAt A). x.came) (same_Some m _ w)) e)
answered_at {A} (returns b) all at m a w e =
    let is = same_Some m (record { came = Ok b; at = at }) w in
    record {
      state = state_of (prefix all at);
      answered = (same_done m.came b a (ap (λ (x : CallAt A). x.came) is) e, record { history = refl; failed = refl; faults = refl; made = refl; origin = refl });
      history = ap (λ (x : CallAt A). prefix all x.at) (sym is);
    }
answered_at {A} (makes x b) all at m a w e = record {
  state = record (state_of (prefix all at)) { history = prefix all (suc at); made = suc (position (prefix all at)) ∷ [] };
  answered = (same_done m.came b a (ap (λ (c : CallAt A). c.came) w.1) e, record { went_on = refl; history = prefix_next all at x w.0; failed = refl; faults = refl; made = refl; origin = refl });
  history = ap (λ (c : CallAt A). prefix all c.at) (sym w.1);
}

-- an aggregate that was made is there under its name
told_view : (def : ViewDef) (all : History) (at : ℕ) (m : CallAt ℕ) (k : ℕ) → CameTo (making_view def (prefix all at)) all at (Some m) → m.came ≡ Ok k → WasMade def (length (roster (prefix all at)).views) (prefix all m.at)
told_view def all at m k w e =
    let n = length (roster (prefix all at)).views in
    let a = answered_at (making_view def (prefix all at)) all at m k w e in
    subst (WasMade def n) a.history (was_made def (state_of (prefix all at)) k a.state a.answered)

-- so its refresh goes by its number there
pub view_found : {T J : Type 0} (shown : Shown T J) (all : History) (at : ℕ) (def : ViewDef) (filled : Bool) (c : Option (CallAt ℕ)) (m : CallAt ℕ) (k : ℕ) (new : NewView) (asked : RefreshRequest) → at ≤ position all → CameTo (making_view def (prefix all at)) all at c → c ≡ Some m → m.came ≡ Ok k → filled ≡ true → new.name ≡ def.name → new.width ≡ def.fold.width → asked ≡ record { view = number_at (prefix all m.at) new.name; lo = None; hi = None; min = first_of new.width } → IsMet {T = T} {J = J} shown all at 4 (λ p read. does_at (prefix all at) (making_view def) (after_view p (length (roster (prefix all at)).views) def filled)) (record { said = Some (said.View k); outcome = outcomes_of.Found asked; at = m.at })
view_found {T} {J} shown all at def filled c m k new asked le w is made fill name width asks =
    let h = prefix all m.at in
    let n = length (roster (prefix all at)).views in
    let there = told_view def all at m k (subst (CameTo (making_view def (prefix all at)) all at) is w) made in
    let named : number_at h new.name ≡ n = ap (number_at h) name ∙ number_named (roster h) def.name n there.named in
    let like : asked ≡ record { view = n; lo = None; hi = None; min = first_of def.fold.width } =
    asks ∙ ap (λ v. record { view = v; lo = None; hi = None; min = first_of new.width }) named ∙ ap (λ x. record { view = n; lo = None; hi = None; min = first_of x }) width in
    subst (λ (a : RefreshRequest). IsMet {T = T} {J = J} shown all at 4 (λ p read. does_at (prefix all at) (making_view def) (after_view p n def filled)) (record { said = Some (said.View k); outcome = outcomes_of.Found a; at = m.at })) (sym like)
    (met_by shown all at 4 (making_view def (prefix all at)) c m (λ p read. after_view p n def filled) (Some (said.View k)) (outcomes_of.Found (record { view = n; lo = None; hi = None; min = first_of def.fold.width })) le w is
    (λ p read. ap (after_view p n def filled) made ∙ ap (λ b. after_view p n def b (Ok k)) fill)
    (record { view = there.there; low = λ x e. absurd cc; high = λ x e. absurd cc }) (omega arith))
