-- Procedures in order: the walk of both, and what is given of both, has those of each as its parts.
use Rattle.std.proofs.Common.{◌≡◌, ℕ, suc, ◌≤◌, Bool, true, false, List, [], ◌∷◌, ◌++◌, append_assoc, append-nil, Option, Some, None, inl, inr, sym, refl, ap, ◌∙◌, subst}
use Rattle.std.specs.Prelude.{IsTrue, ◌||◌, cond}
use Rattle.std.proofs.lemmas.List.{map-append}
use Rattle.ts_model.specs.declared.events.Event.{Event}
use Rattle.ts_model.specs.History.{History, position, prefix, Begins}
use Rattle.ts_model.specs.States.{State, stands_still, stop_of}
use Rattle.ts_model.proofs.HistoryLaws.{begins_trans}
use Rattle.ts_sessions.specs.Actors.{IsGivenOver}
use Rattle.ts_sessions.specs.Gives.{Gives, StopsLater, numbers}
use Rattle.ts_sessions.specs.Held.{GoesOn}
use Rattle.ts_sessions.specs.Procedures.{Procedure, sees, adds, ends, followed_by}
use Rattle.ts_sessions.specs.Walks.{Walks}
use Rattle.ts_sessions.proofs.GivenWalks.{history_stays}
use Rattle.ts_sessions.proofs.WalkLaws.{goes_walks}

-- ---- walks

-- if neither of two is true, the first isn't
pub none_first : (a b : Bool) → (a || b) ≡ false → a ≡ false
none_first true b e = e
none_first false b e = refl

-- a walk of two procedures in order: the first ended, and the second continued from there
pub record Parted {A B : Type 0} (alone failed : Bool) (old : State) (first : Procedure A) (next : A → Procedure B)
    (new : State) (y : B) : Type 0 where
  pub mid : State
  pub end : A
  pub failed_first : Bool
  pub failed_then : Bool
  pub fell : failed ≡ (failed_first || failed_then)
  pub walks_first : Walks alone failed_first old first mid end
  pub walks_then : Walks alone failed_then mid (next end) new y

pub walks_parted : {A B : Type 0} (alone failed : Bool) (old : State) (first : Procedure A) (next : A → Procedure B) (new : State) (y : B) → Walks alone failed old (followed_by first next) new y → Parted alone failed old first next new y
walks_parted alone failed old (sees shown f) next new y w =
    let p = walks_parted alone failed w.mid (f w.mid.history) next new y w.rest in
    record { mid = p.mid; end = p.end; failed_first = p.failed_first; failed_then = p.failed_then; fell = p.fell; walks_first = record { mid = w.mid; first = w.first; rest = p.walks_first }; walks_then = p.walks_then }
walks_parted alone failed old (adds e n stop) next new y (inl w) =
    let p = walks_parted alone failed old stop next new y w.1 in
    record { mid = p.mid; end = p.end; failed_first = p.failed_first; failed_then = p.failed_then; fell = p.fell; walks_first = inl (w.0, p.walks_first); walks_then = p.walks_then }
walks_parted alone failed old (adds e n stop) next new y (inr (inl w)) =
    let p = walks_parted alone failed w.mid n next new y w.rest in
    record { mid = p.mid; end = p.end; failed_first = p.failed_first; failed_then = p.failed_then; fell = p.fell; walks_first = inr (inl (record { mid = w.mid; first = w.first; rest = p.walks_first })); walks_then = p.walks_then }
walks_parted alone failed old (adds e n stop) next new y (inr (inr w)) =
    let p = walks_parted alone false w.1.mid stop next new y w.1.rest in
    let whole : p.failed_first ≡ false = none_first p.failed_first p.failed_then (sym p.fell) in
    record {
      mid = p.mid;
      end = p.end;
      failed_first = true;
      failed_then = p.failed_then;
      fell = w.0;
      walks_first = inr (inr (refl, record { mid = w.1.mid; first = w.1.first; rest = subst (λ b. Walks alone b w.1.mid stop p.mid p.end) whole p.walks_first }));
      walks_then = p.walks_then;
    }
walks_parted alone failed old (ends x) next new y w = record { mid = old; end = x; failed_first = false; failed_then = failed; fell = refl; walks_first = (refl, refl, refl); walks_then = w }

-- ---- a store that has stopped

-- a store that stopped by a state stopped there for good
pub stops_on : (mid new : State) (later : Option ℕ) → GoesOn mid new → (IsTrue (stands_still mid) → new.history ≡ mid.history) → StopsLater (stop_of new) later → StopsLater (stop_of mid) later
stops_on mid new later goes stays stop =
    elim (stands_still mid) as (λ t. stands_still mid ≡ t → StopsLater (cond t (Some (position mid.history)) None) later) [
      | true ↦ λ is. subst (λ t. StopsLater (cond t (Some (position new.history)) None) later) (goes.still is) stop ∙ ap (λ h. Some (position h)) (stays is)
      | false ↦ λ _. tt
    ] refl

-- ---- what is given

-- earlier events don't matter
pub gives_behind : {A : Type 0} (before : List (ℕ × Event)) (all : History) (stop : Option ℕ) (at : ℕ) (so_far : List (ℕ × Event)) (procedure : Procedure A) (looks : List (Option ℕ)) (last : ℕ) (given : List (ℕ × Event)) (y : A) → Gives all stop at so_far procedure looks last given y → Gives all stop at (before ++ so_far) procedure looks last (before ++ given) y
gives_behind before all stop at so_far (sees shown f) [] last given y g = absurd g
gives_behind before all stop at so_far (sees shown f) (None ∷ ps) last given y g = (g.0, gives_behind before all stop at so_far (f all) ps last given y g.1)
gives_behind before all stop at so_far (sees shown f) (Some p ∷ ps) last given y g = (g.0, g.1, g.2, gives_behind before all stop p so_far (f (prefix all p)) ps last given y g.3)
gives_behind before all stop at so_far (adds e next stopped) looks last given y (inl g) = inl (g.0, gives_behind before all stop at so_far stopped looks last given y g.1)
gives_behind before all stop at so_far (adds e next stopped) looks last given y (inr g) =
    inr (g.0, subst (λ es. Gives all stop (suc at) es next looks last (before ++ given) y) (sym (append_assoc before so_far ((suc at, e) ∷ []))) (gives_behind before all stop (suc at) (so_far ++ (suc at, e) ∷ []) next looks last given y g.1))
gives_behind before all stop at so_far (ends a) [] last given y g = (g.0, ap (λ es. before ++ es) g.1, g.2)
gives_behind before all stop at so_far (ends a) (p ∷ ps) last given y g = absurd g

-- the same without the earlier events
record GivenBehind {A : Type 0} (before : List (ℕ × Event)) (all : History) (stop : Option ℕ) (at : ℕ) (so_far : List (ℕ × Event)) (procedure : Procedure A) (looks : List (Option ℕ)) (last : ℕ) (given : List (ℕ × Event)) (y : A) : Type 0 where
  more : List (ℕ × Event)
  gives : Gives all stop at so_far procedure looks last more y
  is : given ≡ before ++ more

given_behind : {A : Type 0} (before : List (ℕ × Event)) (all : History) (stop : Option ℕ) (at : ℕ) (so_far whole : List (ℕ × Event)) (procedure : Procedure A) (looks : List (Option ℕ)) (last : ℕ) (given : List (ℕ × Event)) (y : A) → whole ≡ before ++ so_far → Gives all stop at whole procedure looks last given y → GivenBehind before all stop at so_far procedure looks last given y
given_behind before all stop at so_far whole (sees shown f) [] last given y same g = absurd g
given_behind before all stop at so_far whole (sees shown f) (None ∷ ps) last given y same g =
    let b = given_behind before all stop at so_far whole (f all) ps last given y same g.1 in
    record { more = b.more; gives = (g.0, b.gives); is = b.is }
given_behind before all stop at so_far whole (sees shown f) (Some p ∷ ps) last given y same g =
    let b = given_behind before all stop p so_far whole (f (prefix all p)) ps last given y same g.3 in
    record { more = b.more; gives = (g.0, g.1, g.2, b.gives); is = b.is }
given_behind before all stop at so_far whole (adds e next stopped) looks last given y same (inl g) =
    let b = given_behind before all stop at so_far whole stopped looks last given y same g.1 in
    record { more = b.more; gives = inl (g.0, b.gives); is = b.is }
given_behind before all stop at so_far whole (adds e next stopped) looks last given y same (inr g) =
    let one = (suc at, e) ∷ [] in
    let b = given_behind before all stop (suc at) (so_far ++ one) (whole ++ one) next looks last given y (ap (λ es. es ++ one) same ∙ append_assoc before so_far one) g.1 in
    record { more = b.more; gives = inr (g.0, b.gives); is = b.is }
given_behind before all stop at so_far whole (ends a) [] last given y same g = record { more = so_far; gives = (g.0, refl, g.2); is = g.1 ∙ same }
given_behind before all stop at so_far whole (ends a) (p ∷ ps) last given y same g = absurd g

-- one procedure after another, with the earlier events
gives_after : {A B : Type 0} (all : History) (stop : Option ℕ) (at : ℕ) (so_far : List (ℕ × Event)) (first : Procedure A) (next : A → Procedure B) (looks looks_then : List (Option ℕ)) (mid last : ℕ) (given given_then : List (ℕ × Event)) (a : A) (y : B)
    → Gives all stop at so_far first looks mid given a → Gives all stop mid given (next a) looks_then last given_then y → Gives all stop at so_far (followed_by first next) (looks ++ looks_then) last given_then y
gives_after all stop at so_far (sees shown f) next [] qs mid last given given_then a y g h = absurd g
gives_after all stop at so_far (sees shown f) next (None ∷ ps) qs mid last given given_then a y g h = (g.0, gives_after all stop at so_far (f all) next ps qs mid last given given_then a y g.1 h)
gives_after all stop at so_far (sees shown f) next (Some p ∷ ps) qs mid last given given_then a y g h = (g.0, g.1, g.2, gives_after all stop p so_far (f (prefix all p)) next ps qs mid last given given_then a y g.3 h)
gives_after all stop at so_far (adds e n stopped) next ps qs mid last given given_then a y (inl g) h = inl (g.0, gives_after all stop at so_far stopped next ps qs mid last given given_then a y g.1 h)
gives_after all stop at so_far (adds e n stopped) next ps qs mid last given given_then a y (inr g) h = inr (g.0, gives_after all stop (suc at) (so_far ++ (suc at, e) ∷ []) n next ps qs mid last given given_then a y g.1 h)
gives_after all stop at so_far (ends x) next [] qs mid last given given_then a y g h =
    subst (λ z. Gives all stop at so_far (next z) qs last given_then y) g.2
    (subst (λ es. Gives all stop at es (next a) qs last given_then y) g.1
    (subst (λ k. Gives all stop k given (next a) qs last given_then y) g.0 h))
gives_after all stop at so_far (ends x) next (p ∷ ps) qs mid last given given_then a y g h = absurd g

-- what two procedures in order give, in its parts
pub record GivenParts {A B : Type 0} (all : History) (stop : Option ℕ) (at : ℕ) (first : Procedure A) (next : A → Procedure B) (last : ℕ) (given : List (ℕ × Event)) (y : B) : Type 0 where
  pub end : A
  pub looks_first : List (Option ℕ)
  pub looks_then : List (Option ℕ)
  pub mid : ℕ
  pub given_first : List (ℕ × Event)
  pub given_then : List (ℕ × Event)
  pub gives_first : Gives all stop at [] first looks_first mid given_first end
  pub gives_then : Gives all stop mid [] (next end) looks_then last given_then y
  pub is : given ≡ given_first ++ given_then

record PartsSo {A B : Type 0} (all : History) (stop : Option ℕ) (at : ℕ) (so_far : List (ℕ × Event)) (first : Procedure A) (next : A → Procedure B) (last : ℕ) (given : List (ℕ × Event)) (y : B) : Type 0 where
  end : A
  looks_first : List (Option ℕ)
  looks_then : List (Option ℕ)
  mid : ℕ
  given_first : List (ℕ × Event)
  gives_first : Gives all stop at so_far first looks_first mid given_first end
  gives_then : Gives all stop mid given_first (next end) looks_then last given y

parts_so : {A B : Type 0} (all : History) (stop : Option ℕ) (at : ℕ) (so_far : List (ℕ × Event)) (first : Procedure A) (next : A → Procedure B) (looks : List (Option ℕ)) (last : ℕ) (given : List (ℕ × Event)) (y : B) → Gives all stop at so_far (followed_by first next) looks last given y → PartsSo all stop at so_far first next last given y
parts_so all stop at so_far (sees shown f) next [] last given y g = absurd g
parts_so all stop at so_far (sees shown f) next (None ∷ ps) last given y g =
    let p = parts_so all stop at so_far (f all) next ps last given y g.1 in
    record { end = p.end; looks_first = None ∷ p.looks_first; looks_then = p.looks_then; mid = p.mid; given_first = p.given_first; gives_first = (g.0, p.gives_first); gives_then = p.gives_then }
parts_so all stop at so_far (sees shown f) next (Some k ∷ ps) last given y g =
    let p = parts_so all stop k so_far (f (prefix all k)) next ps last given y g.3 in
    record { end = p.end; looks_first = Some k ∷ p.looks_first; looks_then = p.looks_then; mid = p.mid; given_first = p.given_first; gives_first = (g.0, g.1, g.2, p.gives_first); gives_then = p.gives_then }
parts_so all stop at so_far (adds e n stopped) next looks last given y (inl g) =
    let p = parts_so all stop at so_far stopped next looks last given y g.1 in
    record { end = p.end; looks_first = p.looks_first; looks_then = p.looks_then; mid = p.mid; given_first = p.given_first; gives_first = inl (g.0, p.gives_first); gives_then = p.gives_then }
parts_so all stop at so_far (adds e n stopped) next looks last given y (inr g) =
    let p = parts_so all stop (suc at) (so_far ++ (suc at, e) ∷ []) n next looks last given y g.1 in
    record { end = p.end; looks_first = p.looks_first; looks_then = p.looks_then; mid = p.mid; given_first = p.given_first; gives_first = inr (g.0, p.gives_first); gives_then = p.gives_then }
parts_so all stop at so_far (ends x) next looks last given y g = record { end = x; looks_first = []; looks_then = looks; mid = at; given_first = so_far; gives_first = (refl, refl, refl); gives_then = g }

pub gives_parted : {A B : Type 0} (all : History) (stop : Option ℕ) (at : ℕ) (first : Procedure A) (next : A → Procedure B) (looks : List (Option ℕ)) (last : ℕ) (given : List (ℕ × Event)) (y : B) → Gives all stop at [] (followed_by first next) looks last given y → GivenParts all stop at first next last given y
gives_parted all stop at first next looks last given y g =
    let p = parts_so all stop at [] first next looks last given y g in
    let b = given_behind p.given_first all stop p.mid [] p.given_first (next p.end) p.looks_then last given y (sym (append-nil p.given_first)) p.gives_then in
    record { end = p.end; looks_first = p.looks_first; looks_then = p.looks_then; mid = p.mid; given_first = p.given_first; given_then = b.more; gives_first = p.gives_first; gives_then = b.gives; is = b.is }

-- ---- walks that are given over a whole history

pub given_then : {A B : Type 0} (all : History) (stop : Option ℕ) (old mid new : State) (at : ℕ) (first : Procedure A) (next : A → Procedure B) (a : A) (y : B) → (one : IsGivenOver all stop old mid at first a) → IsGivenOver all stop mid new one.last (next a) y → IsGivenOver all stop old new at (followed_by first next) y
given_then all stop old mid new at first next a y one two = record {
  looks = one.looks ++ two.looks;
  last = two.last;
  given = one.given ++ two.given;
  gives = gives_after all stop at [] first next one.looks two.looks one.last two.last one.given (one.given ++ two.given) a y one.gives
      (subst (λ es. Gives all stop one.last es (next a) two.looks two.last (one.given ++ two.given) y) (append-nil one.given) (gives_behind one.given all stop one.last [] (next a) two.looks two.last two.given y two.gives));
  made = two.made ∙ ap (λ m. m ++ numbers two.given) one.made ∙ append_assoc old.made (numbers one.given) (numbers two.given)
      ∙ ap (λ m. old.made ++ m) (sym (map-append (λ (e : ℕ × Event). e.0) one.given two.given));
  within = two.within;
}

-- a procedure that does nothing
pub given_ended : {A : Type 0} (all : History) (stop : Option ℕ) (s : State) (at : ℕ) (a : A) → at ≤ position s.history → IsGivenOver all stop s s at (ends a) a
given_ended all stop s at a le = record { looks = []; last = at; given = []; gives = (refl, refl, refl); made = sym (append-nil s.made); within = le }

-- two procedures were walked in order, and the reply gives each
pub answered_then : {A B : Type 0} (alone failed : Bool) (all : History) (stop : Option ℕ) (at : ℕ) (old : State) (does reply : Procedure A) (next next_reply : A → Procedure B) (new : State) (y : B)
    → Begins new.history all → StopsLater (stop_of new) stop
    → ((fell : Bool) (mid : State) (a : A) → Begins mid.history all → StopsLater (stop_of mid) stop → Walks alone fell old does mid a → IsGivenOver all stop old mid at reply a)
    → ((fell fell_then : Bool) (mid : State) (a : A) (from : ℕ) → from ≤ position mid.history → Walks alone fell old does mid a → Walks alone fell_then mid (next a) new y → IsGivenOver all stop mid new from (next_reply a) y)
    → Walks alone failed old (followed_by does next) new y → IsGivenOver all stop old new at (followed_by reply next_reply) y
answered_then alone failed all stop at old does reply next next_reply new y on st first then w =
    let p = walks_parted alone failed old does next new y w in
    let goes = goes_walks alone p.failed_then p.mid (next p.end) new y p.walks_then in
    let one = first p.failed_first p.mid p.end (begins_trans goes.begins on) (stops_on p.mid new stop goes (λ still. history_stays alone p.failed_then p.mid (next p.end) new y still p.walks_then) st) p.walks_first in
    given_then all stop old p.mid new at reply next_reply p.end y one (then p.failed_first p.failed_then p.mid p.end one.last one.within p.walks_first p.walks_then)
