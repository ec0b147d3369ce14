-- A walk is what the procedure gives over the history that it left.
use Rattle.std.proofs.Common.{◌≡◌, ℕ, suc, ◌≤◌, Bool, true, false, List, [], ◌∷◌, ◌++◌, append_assoc, Option, Some, None, inl, inr, sym, refl, ap, ◌∙◌, subst, arith}
use Rattle.std.specs.Prelude.{IsTrue, is_some, cond}
use Rattle.std.specs.List.{AllByRecursion}
use Rattle.std.proofs.lemmas.Bool.{true≢false}
use Rattle.std.proofs.lemmas.List.{append-nil}
use Rattle.ts_model.specs.declared.events.Event.{Event}
use Rattle.ts_model.specs.History.{History, ◌▸◌, event_at, position, prefix, Begins}
use Rattle.ts_model.specs.States.{State, Makes, stands_still, stop_of}
use Rattle.ts_model.proofs.HistoryLaws.{position_begins, prefix_begins}
use Rattle.ts_sessions.specs.Procedures.{Procedure, sees, adds, ends}
use Rattle.ts_sessions.specs.Actors.{IsGivenOver}
use Rattle.ts_sessions.specs.Gives.{Gives, StopsLater, numbers, printed_looks}
use Rattle.ts_sessions.specs.Laws.{IsGiven}
use Rattle.ts_sessions.specs.Steady.{IsEnded, Steady}
use Rattle.ts_sessions.specs.Walks.{Walks, Sees}
use Rattle.ts_sessions.proofs.GivesLaws.{all_above, gives_longer, last_event, steady_later}
use Rattle.ts_sessions.proofs.StateLaws.{goes_failed, goes_made, goes_seen}
use Rattle.ts_sessions.proofs.WalkLaws.{goes_walks}
use Rattle.ts_sessions.proofs.MadeLaws.{seen_made}

-- ---- a store that has stopped

pub seen_still : (alone : Bool) (old found : State) → IsTrue (stands_still old) → Sees alone old found → found.history ≡ old.history
seen_still alone old found s (inl e) = ap (λ x. x.history) e
seen_still alone old found s (inr f) = f.still_there s

-- if the store has stopped, a walk leaves its history as it is
pub history_stays : {A : Type 0} (alone failed : Bool) (old : State) (procedure : Procedure A) (new : State) (y : A) → IsTrue (stands_still old) → Walks alone failed old procedure new y → new.history ≡ old.history
history_stays alone failed old (sees shown f) new y s w = history_stays alone failed w.mid (f w.mid.history) new y ((goes_seen alone old w.mid w.first).still s) w.rest ∙ seen_still alone old w.mid s w.first
history_stays alone failed old (adds e next stop) new y s (inl w) = history_stays alone failed old stop new y s w.1
history_stays alone failed old (adds e next stop) new y s (inr (inl w)) = absurd (true≢false (sym (subst (λ x. IsTrue (is_some x)) w.first.went_on s)))
history_stays alone failed old (adds e next stop) new y s (inr (inr w)) = absurd (true≢false (sym (subst (λ x. IsTrue (is_some x)) w.1.first.went_on s)))
history_stays alone failed old (ends a) new y s w = ap (λ x. x.history) w.1

-- the store stopped at the position at which the walk began
stopped_here : {A : Type 0} (alone failed : Bool) (old : State) (procedure : Procedure A) (new : State) (y : A) → IsTrue (stands_still old) → Walks alone failed old procedure new y → stop_of new ≡ Some (position old.history)
stopped_here alone failed old procedure new y s w =
    let still : stands_still new ≡ true = (goes_walks alone failed old procedure new y w).still s in
    ap (λ t. cond t (Some (position new.history)) None) still ∙ ap (λ h. Some (position h)) (history_stays alone failed old procedure new y s w)

-- ---- reads and events

-- a walk after earlier events: what the procedure gives over the history that it left
record GivenSo {A : Type 0} (old new : State) (at : ℕ) (so_far : List (ℕ × Event)) (procedure : Procedure A) (y : A) : Type 0 where
  looks : List (Option ℕ)
  last : ℕ
  more : List (ℕ × Event)
  gives : Gives new.history (stop_of new) at so_far procedure looks last (so_far ++ more) y
  seen : AllByRecursion (λ p. position old.history ≤ p) (printed_looks looks)
  made : new.made ≡ old.made ++ numbers more
  within : last ≤ position new.history

-- a procedure that has ended
ended_so : {A : Type 0} (alone failed : Bool) (old : State) (all : History) (stop : Option ℕ) (at : ℕ) (so_far : List (ℕ × Event)) (procedure : Procedure A) (new : State) (y : A) → IsEnded procedure → Walks alone failed old procedure new y → (new ≡ old) × Gives all stop at so_far procedure [] at (so_far ++ []) y
ended_so alone failed old all stop at so_far (sees shown f) new y i w = absurd i
ended_so alone failed old all stop at so_far (adds e next stopped) new y i w = absurd i
ended_so alone failed old all stop at so_far (ends a) new y i w = (w.1, (refl, append-nil so_far, w.2))

-- after a printed read
printed_so : {A : Type 0} (alone failed : Bool) (old mid : State) (at : ℕ) (so_far : List (ℕ × Event)) (shown : History → Bool) (f : History → Procedure A) (new : State) (y : A) → at ≤ position old.history → Sees alone old mid → Begins mid.history new.history → shown mid.history ≡ true → GivenSo mid new (position mid.history) so_far (f mid.history) y → GivenSo old new at so_far (sees shown f) y
printed_so alone failed old mid at so_far shown f new y le first on e g =
    let here : prefix new.history (position mid.history) ≡ mid.history = prefix_begins on in
    let before : position old.history ≤ position mid.history = position_begins (goes_seen alone old mid first).begins in
    record {
      looks = Some (position mid.history) ∷ g.looks;
      last = g.last;
      more = g.more;
      gives = (omega (arith, le, before), position_begins on, subst (λ h. shown h ≡ true) (sym here) e, subst (λ h. Gives new.history (stop_of new) (position mid.history) so_far (f h) g.looks g.last (so_far ++ g.more) y) (sym here) g.gives);
      seen = (before, all_above (position old.history) (position mid.history) (printed_looks g.looks) before g.seen);
      made = g.made ∙ ap (λ m. m ++ numbers g.more) (seen_made alone old mid first);
      within = g.within;
    }

-- after a read that isn't printed
unprinted_so : {A : Type 0} (alone failed : Bool) (old mid : State) (at : ℕ) (so_far : List (ℕ × Event)) (shown : History → Bool) (f : History → Procedure A) (new : State) (y : A) → at ≤ position old.history → Sees alone old mid → (shown new.history ≡ false) × (f new.history ≡ f mid.history) → IsEnded (f mid.history) → Walks alone failed mid (f mid.history) new y → GivenSo old new at so_far (sees shown f) y
unprinted_so alone failed old mid at so_far shown f new y le first later i w =
    let rest = ended_so alone failed mid new.history (stop_of new) at so_far (f mid.history) new y i w in
    let before : position old.history ≤ position mid.history = position_begins (goes_seen alone old mid first).begins in
    let after : position mid.history ≤ position new.history = position_begins (goes_walks alone failed mid (f mid.history) new y w).begins in
    record {
      looks = None ∷ [];
      last = at;
      more = [];
      gives = (later.0, subst (λ d. Gives new.history (stop_of new) at so_far d [] at (so_far ++ []) y) (sym later.1) rest.1);
      seen = tt;
      made = ap (λ x. x.made) rest.0 ∙ seen_made alone old mid first ∙ sym (append-nil old.made);
      within = omega (arith, le, before, after);
    }

-- after an event that was appended
made_so : {A : Type 0} (alone failed : Bool) (old mid : State) (at : ℕ) (so_far : List (ℕ × Event)) (e : Event) (next stop : Procedure A) (new : State) (y : A) → at ≡ position old.history → Makes e old mid → Begins mid.history new.history → GivenSo mid new (suc at) (so_far ++ (suc at, e) ∷ []) next y → GivenSo old new at so_far (adds e next stop) y
made_so alone failed old mid at so_far e next stop new y here m on g =
    let longer : Begins (old.history ▸ e) new.history = subst (λ h. Begins h new.history) m.history on in
    let grown : (so_far ++ (suc at, e) ∷ []) ++ g.more ≡ so_far ++ ((suc at, e) ∷ g.more) = append_assoc so_far ((suc at, e) ∷ []) g.more in
    let before : position old.history ≤ position mid.history = position_begins (goes_made e old mid m).begins in
    let number : suc (position old.history) ∷ [] ≡ suc at ∷ [] = ap (λ k. suc k ∷ []) (sym here) in
    record {
      looks = g.looks;
      last = g.last;
      more = (suc at, e) ∷ g.more;
      gives = inr (ap (λ k. event_at new.history (suc k)) here ∙ last_event e longer, subst (λ es. Gives new.history (stop_of new) (suc at) (so_far ++ (suc at, e) ∷ []) next g.looks g.last es y) grown g.gives);
      seen = all_above (position old.history) (position mid.history) (printed_looks g.looks) before g.seen;
      made = g.made ∙ ap (λ x. x ++ numbers g.more) (m.made ∙ ap (λ x. old.made ++ x) number) ∙ append_assoc old.made (suc at ∷ []) (numbers g.more);
      within = g.within;
    }

-- if the store has stopped
still_so : {A : Type 0} (old mid new : State) (at : ℕ) (so_far : List (ℕ × Event)) (e : Event) (next stop : Procedure A) (y : A) → mid.history ≡ old.history → mid.made ≡ old.made → stop_of new ≡ Some at → GivenSo mid new at so_far stop y → GivenSo old new at so_far (adds e next stop) y
still_so old mid new at so_far e next stop y same_history same_made stopped g = record {
  looks = g.looks;
  last = g.last;
  more = g.more;
  gives = inl (stopped, g.gives);
  seen = subst (λ h. AllByRecursion (λ p. position h ≤ p) (printed_looks g.looks)) same_history g.seen;
  made = g.made ∙ ap (λ x. x ++ numbers g.more) same_made;
  within = g.within;
}

walk_so : {A : Type 0} (alone failed fresh : Bool) (old : State) (at : ℕ) (so_far : List (ℕ × Event)) (procedure : Procedure A) (new : State) (y : A) → Steady fresh old.history procedure → at ≤ position old.history → (fresh ≡ true → at ≡ position old.history) → Walks alone failed old procedure new y → GivenSo old new at so_far procedure y
walk_so alone failed fresh old at so_far (sees shown f) new y s le here w =
    let seen = (goes_seen alone old w.mid w.first).begins in
    let on = (goes_walks alone failed w.mid (f w.mid.history) new y w.rest).begins in
    let at_mid = s w.mid.history seen in
    elim (shown w.mid.history) as (λ t. shown w.mid.history ≡ t → GivenSo old new at so_far (sees shown f) y) [
      | true ↦ λ e. printed_so alone failed old w.mid at so_far shown f new y le w.first on e (walk_so alone failed true w.mid (position w.mid.history) so_far (f w.mid.history) new y (at_mid.0 e) (omega arith) (λ _. refl) w.rest)
      | false ↦ λ e. unprinted_so alone failed old w.mid at so_far shown f new y le w.first ((at_mid.1 e).0 new.history on) (at_mid.1 e).1 w.rest
    ] refl
walk_so alone failed fresh old at so_far (adds e next stop) new y s le here (inl w) =
    let stopped : stop_of new ≡ Some at = stopped_here alone failed old stop new y w.0 w.1 ∙ ap Some (sym (here s.0)) in
    still_so old old new at so_far e next stop y refl refl stopped (walk_so alone failed fresh old at so_far stop new y s.2 le here w.1)
walk_so alone failed fresh old at so_far (adds e next stop) new y s le here (inr (inl w)) =
    let grown : suc at ≡ position w.mid.history = ap suc (here s.0) ∙ ap position (sym w.first.history) in
    let on = (goes_walks alone failed w.mid next new y w.rest).begins in
    let steady = steady_later true old.history w.mid.history next (goes_made e old w.mid w.first).begins s.1 in
    made_so alone failed old w.mid at so_far e next stop new y (here s.0) w.first on (walk_so alone failed true w.mid (suc at) (so_far ++ (suc at, e) ∷ []) next new y steady (omega (arith, grown)) (λ _. grown) w.rest)
walk_so alone failed fresh old at so_far (adds e next stop) new y s le here (inr (inr w)) =
    let mid = w.1.mid in
    let still : IsTrue (stands_still mid) = subst (λ x. IsTrue (is_some x)) (sym w.1.first.failed) refl in
    let there : at ≡ position mid.history = here s.0 ∙ ap position (sym w.1.first.history) in
    let stopped : stop_of new ≡ Some at = stopped_here alone false mid stop new y still w.1.rest ∙ ap Some (sym there) in
    let steady = steady_later fresh old.history mid.history stop (goes_failed e old mid w.1.first).begins s.2 in
    still_so old mid new at so_far e next stop y w.1.first.history w.1.first.made stopped (walk_so alone false fresh mid at so_far stop new y steady (omega (arith, there)) (λ _. there) w.1.rest)
walk_so alone failed fresh old at so_far (ends a) new y s le here w =
    let same : new ≡ old = w.1 in
    let kept : at ≤ position new.history = subst (λ x. at ≤ position x.history) (sym same) le in
    record {
      looks = [];
      last = at;
      more = [];
      gives = (refl, append-nil so_far, w.2);
      seen = tt;
      made = ap (λ x. x.made) same ∙ sym (append-nil old.made);
      within = kept;
    }

pub walks_are_given : {A : Type 0} (alone failed : Bool) (old : State) (at : ℕ) (procedure : Procedure A) (new : State) (y : A) → Steady false old.history procedure → at ≤ position old.history → Walks alone failed old procedure new y → IsGiven old new at procedure y
walks_are_given alone failed old at procedure new y s le w =
    let g = walk_so alone failed false old at [] procedure new y s le (λ f. absurd (true≢false (sym f))) w in
    record { looks = g.looks; last = g.last; given = g.more; gives = g.gives; seen = g.seen; made = g.made; within = g.within }

-- a walk of a steady procedure is given over each longer history too, even if the store stopped later
pub given_over : {A : Type 0} (alone failed : Bool) (all : History) (stop : Option ℕ) (at : ℕ) (old : State) (procedure : Procedure A) (new : State) (y : A) → Steady false old.history procedure → at ≤ position old.history → Begins new.history all → StopsLater (stop_of new) stop → Walks alone failed old procedure new y → IsGivenOver all stop old new at procedure y
given_over alone failed all stop at old procedure new y s le on st w =
    let one = walks_are_given alone failed old at procedure new y s le w in
    let begun = (goes_walks alone failed old procedure new y w).begins in
    record {
      looks = one.looks;
      last = one.last;
      given = one.given;
      gives = gives_longer false old.history new.history all (stop_of new) stop at [] procedure one.looks one.last one.given y s begun one.seen on st one.gives;
      made = one.made;
      within = one.within;
    }
