-- The place of a refresh among refreshes in order of their cuts.
use Rattle.std.proofs.Common.{◌≡◌, ℕ, suc, zero, ◌+◌, ◌<◌, ◌≤◌, true, false, cond, ◌==◌, List, [], ◌∷◌, ◌++◌, map, take, drop, length, get_or, Some, None, sym, refl, ap, ◌∙◌, subst, arith, add-one}
use Rattle.std.proofs.lemmas.Bool.{eqb-true, eq-eqb}
use Rattle.ts_model.specs.declared.refreshes.Pending.TheVariants.{Unknown}
use Rattle.refresh_list.specs.declared.refreshes.Refresh.{Refresh}
use Rattle.refresh_list.specs.Refreshes.{CutsRise, CutsBelow, CutsFrom, pending_in, state_by, as_waiting, waits_in, refresh_in, finished_at, finished_one}

-- cuts in order are all after a number that the first is after
pub rise_from : (n m : ℕ) (rs : List Refresh) → m ≤ n → CutsRise n rs → CutsFrom (suc m) rs
rise_from n m [] l rise = tt
rise_from n m (r ∷ rs) l rise = (omega (arith, rise.0), rise_from r.cut m rs (omega (arith, rise.0)) rise.1)

from_less : (n m : ℕ) (rs : List Refresh) → m ≤ n → CutsFrom n rs → CutsFrom m rs
from_less n m [] l from = tt
from_less n m (r ∷ rs) l from = (omega (arith, from.0), from_less n m rs l from.1)

-- refreshes up to a place whose cut is before n are before n
pub below_place : (low n i : ℕ) (d : Refresh) (rs : List Refresh) → CutsRise low rs → i < length rs → (get_or rs i d).cut < n → CutsBelow n (take (suc i) rs)
below_place low n i d [] rise l b = absurd (omega arith)
below_place low n zero d (r ∷ rs) rise l b = (b, tt)
below_place low n (suc i) d (r ∷ rs) rise l b =
    let rest = below_place r.cut n i d rs rise.1 (omega arith) b in
    let next : r.cut < (get_or rs i d).cut = at_place r.cut i rs rise.1 (omega arith) in
    (omega (arith, next, b), rest)
  where
    at_place : (low i : ℕ) (rs : List Refresh) → CutsRise low rs → i < length rs → low < (get_or rs i d).cut
    at_place low i [] rise l = absurd (omega arith)
    at_place low zero (r ∷ rs) rise l = rise.0
    at_place low (suc i) (r ∷ rs) rise l = omega (arith, rise.0, at_place r.cut i rs rise.1 (omega arith))

-- refreshes from a place on whose cut is at or after n are at or after n
pub from_place : (low n i : ℕ) (d : Refresh) (rs : List Refresh) → CutsRise low rs → i < length rs → n ≤ (get_or rs i d).cut → CutsFrom n (drop i rs)
from_place low n i d [] rise l b = absurd (omega arith)
from_place low n zero d (r ∷ rs) rise l b = (b, from_less (suc r.cut) n rs (omega (arith, b)) (rise_from r.cut r.cut rs (omega arith) rise.1))
from_place low n (suc i) d (r ∷ rs) rise l b = from_place r.cut n i d rs rise.1 (omega arith) b

-- ---- finding

differs_below : (k a : ℕ) → a < k → (k == a) ≡ false
differs_below k a l = elim (k == a) as (λ t. (k == a) ≡ t → t ≡ false) [ true ↦ λ e. let is : k ≡ a = eqb-true k a e in absurd (omega arith) | false ↦ λ _. refl ] refl

differs_above : (k a : ℕ) → k < a → (k == a) ≡ false
differs_above k a l = elim (k == a) as (λ t. (k == a) ≡ t → t ≡ false) [ true ↦ λ e. let is : k ≡ a = eqb-true k a e in absurd (omega arith) | false ↦ λ _. refl ] refl

none_above : (k : ℕ) (rs : List Refresh) → CutsFrom (suc k) rs → refresh_in rs k ≡ None
none_above k [] from = refl
none_above k (r ∷ rs) from = ap (λ t. cond t (Some r) (refresh_in rs k)) (differs_above k r.cut (omega (arith, from.0))) ∙ none_above k rs from.1

past_below : (k p : ℕ) (rs : List Refresh) → CutsBelow k (take p rs) → refresh_in rs k ≡ refresh_in (drop p rs) k
past_below k zero rs below = refl
past_below k (suc p) [] below = refl
past_below k (suc p) (r ∷ rs) below = ap (λ t. cond t (Some r) (refresh_in rs k)) (differs_below k r.cut below.0) ∙ past_below k p rs below.1

-- there is none in an empty rest
pub none_left : (k p : ℕ) (rs : List Refresh) → CutsBelow k (take p rs) → length rs ≤ p → refresh_in rs k ≡ None
none_left k p rs below l = past_below k p rs below ∙ by_rest p rs l
  where
    by_rest : (p : ℕ) (rs : List Refresh) → length rs ≤ p → refresh_in (drop p rs) k ≡ None
    by_rest zero [] l = refl
    by_rest zero (r ∷ rs) l = absurd (omega arith)
    by_rest (suc p) [] l = refl
    by_rest (suc p) (r ∷ rs) l = by_rest p rs (omega arith)

-- the refresh that is found is the one at the place, if it has the number
pub found_there : (k p : ℕ) (d : Refresh) (rs : List Refresh) → CutsBelow k (take p rs) → p < length rs → (get_or rs p d).cut ≡ k → refresh_in rs k ≡ Some (get_or rs p d)
found_there k p d rs below l is = past_below k p rs below ∙ by_rest p rs l is
  where
    by_rest : (p : ℕ) (rs : List Refresh) → p < length rs → (get_or rs p d).cut ≡ k → refresh_in (drop p rs) k ≡ Some (get_or rs p d)
    by_rest p [] l is = absurd (omega arith)
    by_rest zero (r ∷ rs) l is = ap (λ t. cond t (Some r) (refresh_in rs k)) (eq-eqb k r.cut (sym is))
    by_rest (suc p) (r ∷ rs) l is = by_rest p rs (omega arith) is

-- and none if it has another number
pub other_there : (k p low : ℕ) (d : Refresh) (rs : List Refresh) → CutsRise low rs → CutsBelow k (take p rs) → CutsFrom k (drop p rs) → p < length rs → ((get_or rs p d).cut ≡ k → ⊥) → refresh_in rs k ≡ None
other_there k p low d rs rise below from l other = past_below k p rs below ∙ by_rest low p rs rise from l other
  where
    by_rest : (low p : ℕ) (rs : List Refresh) → CutsRise low rs → CutsFrom k (drop p rs) → p < length rs → ((get_or rs p d).cut ≡ k → ⊥) → refresh_in (drop p rs) k ≡ None
    by_rest low p [] rise from l other = absurd (omega arith)
    by_rest low zero (r ∷ rs) rise from l other =
        let above : k < r.cut = omega (arith, from.0, other) in
        none_above k (r ∷ rs) (above, from_less (suc r.cut) (suc k) rs (omega (arith, above)) (rise_from r.cut r.cut rs (omega arith) rise.1))
    by_rest low (suc p) (r ∷ rs) rise from l other = by_rest r.cut p rs rise.1 from (omega arith) other

-- whether a refresh is pending, finished or unknown follows from the refresh that is found
pub pending_none : (k : ℕ) (rs : List Refresh) → refresh_in rs k ≡ None → pending_in rs k ≡ Unknown
pending_none k [] e = refl
pending_none k (r ∷ rs) e =
    elim (k == r.cut) as (λ t. cond t (Some r) (refresh_in rs k) ≡ None → cond t (state_by r.stage) (pending_in rs k) ≡ Unknown) [ true ↦ λ f. absurd (cc) | false ↦ λ f. pending_none k rs f ] e

pub pending_some : (k : ℕ) (rs : List Refresh) (r : Refresh) → refresh_in rs k ≡ Some r → pending_in rs k ≡ state_by r.stage
pending_some k [] r e = absurd (cc)
pending_some k (x ∷ xs) r e =
    elim (k == x.cut) as (λ t. cond t (Some x) (refresh_in xs k) ≡ Some r → cond t (state_by x.stage) (pending_in xs k) ≡ state_by r.stage) [
      | true ↦ λ f. let is : x ≡ r = cc in ap (λ y. state_by y.stage) is
      | false ↦ λ f. pending_some k xs r f
    ] e

pub waits_none : (k : ℕ) (rs : List Refresh) → refresh_in rs k ≡ None → waits_in rs k ≡ None
waits_none k [] e = refl
waits_none k (r ∷ rs) e =
    elim (k == r.cut) as (λ t. cond t (Some r) (refresh_in rs k) ≡ None → cond t (as_waiting r.cut r.stage) (waits_in rs k) ≡ None) [ true ↦ λ f. absurd (cc) | false ↦ λ f. waits_none k rs f ] e

pub waits_some : (k : ℕ) (rs : List Refresh) (r : Refresh) → refresh_in rs k ≡ Some r → waits_in rs k ≡ as_waiting r.cut r.stage
waits_some k [] r e = absurd (cc)
waits_some k (x ∷ xs) r e =
    elim (k == x.cut) as (λ t. cond t (Some x) (refresh_in xs k) ≡ Some r → cond t (as_waiting x.cut x.stage) (waits_in xs k) ≡ as_waiting r.cut r.stage) [
      | true ↦ λ f. let is : x ≡ r = cc in ap (λ y. as_waiting y.cut y.stage) is
      | false ↦ λ f. waits_some k xs r f
    ] e

-- ---- one more

pub rise_pushed : (low : ℕ) (rs : List Refresh) (r : Refresh) → CutsRise low rs → CutsBelow r.cut rs → low < r.cut → CutsRise low (rs ++ (r ∷ []))
rise_pushed low [] r rise below l = (l, tt)
rise_pushed low (x ∷ xs) r rise below l = (rise.0, rise_pushed x.cut xs r rise.1 below.1 below.0)

-- ---- a finish

pub rise_finished : (low cut by : ℕ) (rs : List Refresh) → CutsRise low rs → CutsRise low (map (finished_at cut by) rs)
rise_finished low cut by [] rise = tt
rise_finished low cut by (r ∷ rs) rise =
    elim (cut == r.cut) as (λ t. (low < (cond t (finished_one by r) r).cut) × CutsRise (cond t (finished_one by r) r).cut (map (finished_at cut by) rs)) [
      | true ↦ (rise.0, rise_finished r.cut cut by rs rise.1)
      | false ↦ (rise.0, rise_finished r.cut cut by rs rise.1)
    ]

others_below : (cut by p : ℕ) (rs : List Refresh) → CutsBelow cut (take p rs) → map (finished_at cut by) (take p rs) ≡ take p rs
others_below cut by zero rs below = refl
others_below cut by (suc p) [] below = refl
others_below cut by (suc p) (r ∷ rs) below =
    (λ i. cond (differs_below cut r.cut below.0 i) (finished_one by r) r ∷ map (finished_at cut by) (take p rs)) ∙ ap (λ xs. r ∷ xs) (others_below cut by p rs below.1)

others_above : (cut by : ℕ) (rs : List Refresh) → CutsFrom (suc cut) rs → map (finished_at cut by) rs ≡ rs
others_above cut by [] from = refl
others_above cut by (r ∷ rs) from =
    (λ i. cond (differs_above cut r.cut (omega (arith, from.0)) i) (finished_one by r) r ∷ map (finished_at cut by) rs) ∙ ap (λ xs. r ∷ xs) (others_above cut by rs from.1)

-- the refresh at a place is marked, and no other
marked_there : (cut by p low : ℕ) (d : Refresh) (rs : List Refresh) → CutsRise low rs → p < length rs → (get_or rs p d).cut ≡ cut → take p rs ++ ((finished_one by (get_or rs p d) ∷ []) ++ drop (suc p) rs) ≡ map (finished_at cut by) rs
marked_there cut by p low d [] rise l is = absurd (omega arith)
marked_there cut by zero low d (r ∷ rs) rise l is =
    let after : CutsFrom (suc cut) rs = subst (λ n. CutsFrom (suc n) rs) is (rise_from r.cut r.cut rs (omega arith) rise.1) in
    (λ i. cond (sym (eq-eqb cut r.cut (sym is)) i) (finished_one by r) r ∷ rs) ∙ ap (λ xs. finished_at cut by r ∷ xs) (sym (others_above cut by rs after))
marked_there cut by (suc p) low d (r ∷ rs) rise l is =
    let before : r.cut < cut = subst (λ n. r.cut < n) is (at_place r.cut p rs rise.1 (omega arith)) in
    (λ i. cond (sym (differs_below cut r.cut before) i) (finished_one by r) r ∷ (take p rs ++ ((finished_one by (get_or rs p d) ∷ []) ++ drop (suc p) rs)))
    ∙ ap (λ xs. finished_at cut by r ∷ xs) (marked_there cut by p r.cut d rs rise.1 (omega arith) is)
  where
    at_place : (low i : ℕ) (rs : List Refresh) → CutsRise low rs → i < length rs → low < (get_or rs i d).cut
    at_place low i [] rise l = absurd (omega arith)
    at_place low zero (r ∷ rs) rise l = rise.0
    at_place low (suc i) (r ∷ rs) rise l = omega (arith, rise.0, at_place r.cut i rs rise.1 (omega arith))

pub finished_there : (cut by p low : ℕ) (r : Refresh) (rs : List Refresh) → CutsRise low rs → p < length rs → r ≡ get_or rs p r → r.cut ≡ cut → take p rs ++ ((finished_one by r ∷ []) ++ drop (p + 1) rs) ≡ map (finished_at cut by) rs
finished_there cut by p low r rs rise l at is =
    ap (λ n. take p rs ++ ((finished_one by r ∷ []) ++ drop n rs)) (add-one p)
    ∙ ap (λ x. take p rs ++ ((finished_one by x ∷ []) ++ drop (suc p) rs)) at
    ∙ marked_there cut by p low r rs rise l (ap (λ x. x.cut) (sym at) ∙ is)

-- without such a refresh, none is marked
pub finished_none : (cut by : ℕ) (rs : List Refresh) → refresh_in rs cut ≡ None → map (finished_at cut by) rs ≡ rs
finished_none cut by [] e = refl
finished_none cut by (r ∷ rs) e =
    elim (cut == r.cut) as (λ t. cond t (Some r) (refresh_in rs cut) ≡ None → (cond t (finished_one by r) r ∷ map (finished_at cut by) rs) ≡ (r ∷ rs)) [
      | true ↦ λ f. absurd (cc)
      | false ↦ λ f. ap (λ xs. r ∷ xs) (finished_none cut by rs f)
    ] e

-- the item at a place doesn't depend on the default
pub any_default : {X : Type 0} (xs : List X) (i : ℕ) (d e : X) → i < length xs → get_or xs i d ≡ get_or xs i e
any_default [] i d e l = absurd (omega arith)
any_default (x ∷ xs) zero d e l = refl
any_default (x ∷ xs) (suc i) d e l = any_default xs i d e (omega arith)
