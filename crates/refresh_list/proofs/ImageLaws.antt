-- Refreshes of an image, and finished refreshes of a history.
use Rattle.std.proofs.Common.{◌≡◌, ℕ, zero, suc, ◌+◌, ◌<◌, ◌≤◌, Bool, true, false, not, ◌&&◌, ◌||◌, cond, nat_lt, nat_le, ◌==◌, List, [], ◌∷◌, ◌++◌, map, filter, take, drop, length, Option, Some, None, sym, refl, ap, ◌∙◌, subst, arith, append_assoc}
use Rattle.std.specs.List.{AllByRecursion, list_all, list_any}
use Rattle.std.specs.Ordering.{is_lt, nat_cmp}
use Rattle.std.proofs.lemmas.Bool.{true≢false, and_parts, eqb-true, eq-eqb, ltb-true, ltb-false, leb-true}
use Rattle.ts_schema.proofs.Cases.{same_number}
use Rattle.ts_model.specs.declared.images.Finished.{Finished as FinishedRefresh}
use Rattle.ts_model.specs.declared.images.Image.{Image}
use Rattle.ts_model.specs.declared.refreshes.Pending.{Pending}
use Rattle.ts_model.specs.declared.refreshes.Pending.TheVariants.{Waiting, Finished, Unknown}
use Rattle.ts_model.specs.declared.refreshes.Waiting.{Waiting as WaitingRefresh}
use Rattle.ts_model.specs.History.{History, resumed, position}
use Rattle.ts_model.specs.Saved.{finished_among, pending_among, span_among}
use Rattle.ts_model.specs.Sound.{span_fits}
use Rattle.ts_model.specs.Roster.{view_of}
use Rattle.ts_model.specs.Valid.{all_rise, done_fits, image_roster, is_number, valid, waiting_fits}
use Rattle.ts_model.proofs.ValidLaws.{span_told, valid_is}
use Rattle.image_laws.specs.Images.{finished_as, finished_upto}
use Rattle.refresh_list.specs.declared.refreshes.Refresh.{Refresh}
use Rattle.refresh_list.specs.declared.refreshes.Stage.{Stage}
use Rattle.refresh_list.specs.declared.refreshes.Stage.TheVariants.{Waits, Done}
use Rattle.refresh_list.specs.Laws.{DoneAre, ImagesStand}
use Rattle.refresh_list.specs.Refreshes.{CutsBelow, CutsRise, IsCut, RefreshesStand, count_below, done_in, of_done, of_waiting, pending_in, state_by, together, waiting_in, with_done}

-- ---- which wait, and which are finished

waiting-done : (fs : List FinishedRefresh) (rs : List Refresh) → waiting_in (map of_done fs ++ rs) ≡ waiting_in rs
waiting-done [] rs = refl
waiting-done (f ∷ fs) rs = waiting-done fs rs

done_as : (fs : List FinishedRefresh) (rs : List Refresh) → done_in (map of_done fs ++ rs) ≡ fs ++ done_in rs
done_as [] rs = refl
done_as (f ∷ fs) rs = ap (λ xs. f ∷ xs) (done_as fs rs)

append-nil : {X : Type 0} (xs : List X) → xs ++ [] ≡ xs
append-nil [] = refl
append-nil (x ∷ xs) = ap (λ ys. x ∷ ys) (append-nil xs)

waiting-together : (ws : List WaitingRefresh) (fs : List FinishedRefresh) → waiting_in (together ws fs) ≡ ws
waiting-together [] fs = ap waiting_in (sym (append-nil (map of_done fs))) ∙ waiting-done fs []
waiting-together (w ∷ ws) fs =
    waiting-done (take (count_below w.cut fs) fs) (of_waiting w ∷ together ws (drop (count_below w.cut fs) fs))
    ∙ ap (λ xs. w ∷ xs) (waiting-together ws (drop (count_below w.cut fs) fs))

-- ---- what became of each

-- no waiting refresh has the number of a finished one
abbrev AreApart : List WaitingRefresh → List FinishedRefresh → Type 0
AreApart ws fs = AllByRecursion (λ f. list_any (λ w. w.cut == f.cut) ws ≡ false) fs

neither : (a b : Bool) → (a || b) ≡ false → (a ≡ false) × (b ≡ false)
neither true b e = absurd (true≢false e)
neither false b e = (refl, e)

swapped : {A : Type 0} (a b : Bool) (x y z : A) → (a ≡ true → b ≡ true → ⊥) → cond a x (cond b y z) ≡ cond b y (cond a x z)
swapped true true x y z clash = absurd (clash refl refl)
swapped true false x y z clash = refl
swapped false b x y z clash = refl

-- a finished refresh that doesn't wait
pending-finished_first : (ws : List WaitingRefresh) (f : FinishedRefresh) (fs : List FinishedRefresh) (k : ℕ) → list_any (λ w. w.cut == f.cut) ws ≡ false → pending_among ws (f ∷ fs) k ≡ cond (k == f.cut) (Finished f.built) (pending_among ws fs k)
pending-finished_first [] f fs k apart = refl
pending-finished_first (w ∷ ws) f fs k apart =
    let parts = neither (w.cut == f.cut) (list_any (λ w. w.cut == f.cut) ws) apart in
    ap (cond (k == w.cut) (Waiting w.view)) (pending-finished_first ws f fs k parts.1)
    ∙ swapped (k == w.cut) (k == f.cut) (Waiting w.view) (Finished f.built) (pending_among ws fs k) (clash parts.0)
  where
    clash : (w.cut == f.cut) ≡ false → (k == w.cut) ≡ true → (k == f.cut) ≡ true → ⊥
    clash other a b = true≢false (sym (eq-eqb w.cut f.cut (sym (eqb-true k w.cut a) ∙ eqb-true k f.cut b)) ∙ other)

pending-done : (ws : List WaitingRefresh) (fs gs : List FinishedRefresh) (rs : List Refresh) (k : ℕ) → AreApart ws fs → pending_in rs k ≡ pending_among ws gs k → pending_in (map of_done fs ++ rs) k ≡ pending_among ws (fs ++ gs) k
pending-done ws [] gs rs k apart rest = rest
pending-done ws (f ∷ fs) gs rs k apart rest =
    ap (cond (k == f.cut) (Finished f.built)) (pending-done ws fs gs rs k apart.1 rest)
    ∙ sym (pending-finished_first ws f (fs ++ gs) k apart.0)

all-take : {X : Type 0} (P : X → Type 0) (n : ℕ) (xs : List X) → AllByRecursion P xs → AllByRecursion P (take n xs)
all-take P zero xs all = tt
all-take P (suc n) [] all = tt
all-take P (suc n) (x ∷ xs) all = (all.0, all-take P n xs all.1)

all-drop : {X : Type 0} (P : X → Type 0) (n : ℕ) (xs : List X) → AllByRecursion P xs → AllByRecursion P (drop n xs)
all-drop P zero xs all = all
all-drop P (suc n) [] all = tt
all-drop P (suc n) (x ∷ xs) all = all-drop P n xs all.1

all-append : {X : Type 0} (P : X → Type 0) (xs ys : List X) → AllByRecursion P xs → AllByRecursion P ys → AllByRecursion P (xs ++ ys)
all-append P [] ys all more = more
all-append P (x ∷ xs) ys all more = (all.0, all-append P xs ys all.1 more)

parts_are : {X : Type 0} (n : ℕ) (xs : List X) → take n xs ++ drop n xs ≡ xs
parts_are zero xs = refl
parts_are (suc n) [] = refl
parts_are (suc n) (x ∷ xs) = ap (λ ys. x ∷ ys) (parts_are n xs)

apart_rest : (w : WaitingRefresh) (ws : List WaitingRefresh) (fs : List FinishedRefresh) → AreApart (w ∷ ws) fs → AreApart ws fs
apart_rest w ws [] apart = tt
apart_rest w ws (f ∷ fs) apart = ((neither (w.cut == f.cut) (list_any (λ w. w.cut == f.cut) ws) apart.0).1, apart_rest w ws fs apart.1)

pending-together : (ws : List WaitingRefresh) (fs : List FinishedRefresh) (k : ℕ) → AreApart ws fs → pending_in (together ws fs) k ≡ pending_among ws fs k
pending-together [] fs k apart =
    ap (λ rs. pending_in rs k) (sym (append-nil (map of_done fs))) ∙ pending-done [] fs [] [] k apart refl ∙ ap (λ gs. pending_among [] gs k) (append-nil fs)
pending-together (w ∷ ws) fs k apart =
    let n = count_below w.cut fs in
    let rest : AreApart ws (drop (count_below w.cut fs) fs) = all-drop _ n fs (apart_rest w ws fs apart) in
    pending-done (w ∷ ws) (take n fs) (drop n fs) (of_waiting w ∷ together ws (drop n fs)) k (all-take _ n fs apart)
    (ap (cond (k == w.cut) (Waiting w.view)) (pending-together ws (drop n fs) k rest))
    ∙ ap (λ gs. pending_among (w ∷ ws) gs k) (parts_are n fs)

-- ---- in order

-- the finished refreshes before w, then w, then those after w
rise_split : (low : ℕ) (w : WaitingRefresh) (fs : List FinishedRefresh) (rs : List Refresh) → CutsRise low (map of_done fs) → AllByRecursion (λ f. (w.cut == f.cut) ≡ false) fs → low < w.cut → (CutsRise w.cut (map of_done (drop (count_below w.cut fs) fs)) → CutsRise w.cut rs) → CutsRise low (map of_done (take (count_below w.cut fs) fs) ++ (of_waiting w ∷ rs))
rise_split low w [] rs rise apart l then = (l, then tt)
rise_split low w (f ∷ fs) rs rise apart l then = by (nat_lt f.cut w.cut) refl (λ b. rise_split f.cut w fs rs rise.1 apart.1 b) then
  where
    by : (t : Bool) → nat_lt f.cut w.cut ≡ t → (f.cut < w.cut → (CutsRise w.cut (map of_done (drop (count_below w.cut fs) fs)) → CutsRise w.cut rs) → CutsRise f.cut (map of_done (take (count_below w.cut fs) fs) ++ (of_waiting w ∷ rs))) → (CutsRise w.cut (map of_done (drop (cond t (suc (count_below w.cut fs)) 0) (f ∷ fs))) → CutsRise w.cut rs) → CutsRise low (map of_done (take (cond t (suc (count_below w.cut fs)) 0) (f ∷ fs)) ++ (of_waiting w ∷ rs))
    by true e step then = (rise.0, step (ltb-true f.cut w.cut e) then)
    by false e step then =
        let from : w.cut ≤ f.cut = ltb-false f.cut w.cut e in
        let other : w.cut ≡ f.cut → ⊥ = λ is. true≢false (sym (eq-eqb w.cut f.cut is) ∙ apart.0) in
        (l, then (omega (arith, from, other), rise.1))

apart_first : (w : WaitingRefresh) (ws : List WaitingRefresh) (fs : List FinishedRefresh) → AreApart (w ∷ ws) fs → AllByRecursion (λ f. (w.cut == f.cut) ≡ false) fs
apart_first w ws [] apart = tt
apart_first w ws (f ∷ fs) apart = ((neither (w.cut == f.cut) (list_any (λ w. w.cut == f.cut) ws) apart.0).0, apart_first w ws fs apart.1)

rise-together : (low : ℕ) (ws : List WaitingRefresh) (fs : List FinishedRefresh) → CutsRise low (map of_waiting ws) → CutsRise low (map of_done fs) → AreApart ws fs → CutsRise low (together ws fs)
rise-together low [] fs waits rise apart = rise
rise-together low (w ∷ ws) fs waits rise apart =
    let n = count_below w.cut fs in
    rise_split low w fs (together ws (drop n fs)) rise (apart_first w ws fs apart) waits.0
    (λ after. rise-together w.cut ws (drop n fs) waits.1 after (all-drop _ n fs (apart_rest w ws fs apart)))

-- numbers that rise, each above 0
rise_of : {X : Type 0} (number : X → ℕ) (as_refresh : X → Refresh) → ((x : X) → (as_refresh x).cut ≡ number x) → (low : ℕ) (xs : List X) → AllByRecursion (λ x. low < number x) xs → all_rise nat_cmp (map number xs) ≡ true → CutsRise low (map as_refresh xs)
rise_of number as_refresh is low [] above rise = tt
rise_of {X = X} number as_refresh is low (x ∷ xs) above rise =
    let parts = and_parts (list_all (λ y. is_lt (nat_cmp (number x) y)) (map number xs)) (all_rise nat_cmp (map number xs)) rise in (
      subst (λ n. low < n) (sym (is x)) above.0,
      subst (λ n. CutsRise n (map as_refresh xs)) (sym (is x)) (rise_of number as_refresh is (number x) xs (next xs parts.0) parts.1),
    )
  where
    next : (ys : List X) → list_all (λ y. is_lt (nat_cmp (number x) y)) (map number ys) ≡ true → AllByRecursion (λ y. number x < number y) ys
    next [] e = tt
    next (y ∷ ys) e =
        let parts = and_parts (is_lt (nat_cmp (number x) (number y))) (list_all (λ y. is_lt (nat_cmp (number x) y)) (map number ys)) e in
        (less (number x) (number y) parts.0, next ys parts.1)
      where
        less : (a b : ℕ) → is_lt (nat_cmp a b) ≡ true → a < b
        less a b e = grind arith

-- ---- bounds and spans

number_parts : (p k : ℕ) → is_number p k ≡ true → (0 < k) × (k ≤ p)
number_parts p k e = let parts = and_parts (nat_lt 0 k) (nat_le k p) e in (ltb-true 0 k parts.0, leb-true k p parts.1)

below-done : (n : ℕ) (fs : List FinishedRefresh) → AllByRecursion (λ f. f.cut < n) fs → CutsBelow n (map of_done fs)
below-done n [] all = tt
below-done n (f ∷ fs) all = (all.0, below-done n fs all.1)

below-together : (n : ℕ) (ws : List WaitingRefresh) (fs : List FinishedRefresh) → AllByRecursion (λ w. w.cut < n) ws → AllByRecursion (λ f. f.cut < n) fs → CutsBelow n (together ws fs)
below-together n [] fs waits done = below-done n fs done
below-together n (w ∷ ws) fs waits done =
    let k = count_below w.cut fs in
    all-append _ (map of_done (take k fs)) (of_waiting w ∷ together ws (drop k fs)) (below-done n (take k fs) (all-take _ k fs done))
    (waits.0, below-together n ws (drop k fs) waits.1 (all-drop _ k fs done))

-- each waiting refresh is found by its number
spans_own : (low : ℕ) (ws : List WaitingRefresh) → CutsRise low (map of_waiting ws) → AllByRecursion (λ w. (low < w.cut) × (span_among w.view ws w.cut ≡ Some w.span)) ws
spans_own low [] rise = tt
spans_own low (w ∷ ws) rise = ((rise.0, own w ws), later ws (spans_own w.cut ws rise.1))
  where
    own : (w : WaitingRefresh) (ws : List WaitingRefresh) → cond (w.cut == w.cut && w.view == w.view) (Some w.span) (span_among w.view ws w.cut) ≡ Some w.span
    own w ws = (λ i. cond (same_number w.cut i && w.view == w.view) (Some w.span) (span_among w.view ws w.cut)) ∙ ap (λ t. cond t (Some w.span) (span_among w.view ws w.cut)) (same_number w.view)

    other : (v : WaitingRefresh) → w.cut < v.cut → (v.cut == w.cut) ≡ false
    other v l = elim (v.cut == w.cut) as (λ t. (v.cut == w.cut) ≡ t → t ≡ false) [ true ↦ λ e. let is : v.cut ≡ w.cut = eqb-true v.cut w.cut e in absurd (omega arith) | false ↦ λ _. refl ] refl

    later : (vs : List WaitingRefresh) → AllByRecursion (λ v. (w.cut < v.cut) × (span_among v.view ws v.cut ≡ Some v.span)) vs → AllByRecursion (λ v. (low < v.cut) × (span_among v.view (w ∷ ws) v.cut ≡ Some v.span)) vs
    later [] all = tt
    later (v ∷ vs) all =
        let first : low < w.cut = rise.0 in
        let next : w.cut < v.cut = all.0.0 in
        ((omega (arith, first, next), ap (λ t. cond (t && w.view == v.view) (Some w.span) (span_among v.view ws v.cut)) (other v next) ∙ all.0.1), later vs all.1)

spans-together : (h : History) (ws : List WaitingRefresh) (fs : List FinishedRefresh) → AllByRecursion (λ w. IsCut h w.cut (Waits w.view w.span)) ws → AllByRecursion (λ r. IsCut h r.cut r.stage) (together ws fs)
spans-together h [] fs all = none fs
  where
    none : (fs : List FinishedRefresh) → AllByRecursion (λ r. IsCut h r.cut r.stage) (map of_done fs)
    none [] = tt
    none (f ∷ fs) = (tt, none fs)
spans-together h (w ∷ ws) fs all =
    let k = count_below w.cut fs in
    all-append _ (map of_done (take k fs)) (of_waiting w ∷ together ws (drop k fs)) (none (take k fs)) (all.0, spans-together h ws (drop k fs) all.1)
  where
    none : (fs : List FinishedRefresh) → AllByRecursion (λ r. IsCut h r.cut r.stage) (map of_done fs)
    none [] = tt
    none (f ∷ fs) = (tt, none fs)

-- ---- the refreshes of a valid image

pub record AreFit (i : Image) : Type 0 where
  pub waits : AllByRecursion (λ w. (0 < w.cut) × (w.cut ≤ i.pos)) i.waiting
  pub waits_rise : CutsRise 0 (map of_waiting i.waiting)
  pub done : AllByRecursion (λ f. (0 < f.cut) × (f.cut ≤ i.pos)) i.done
  pub done_rise : CutsRise 0 (map of_done i.done)
  pub apart : AreApart i.waiting i.done

firsts : {X : Type 0} (P Q : X → Type 0) (xs : List X) → AllByRecursion (λ x. P x × Q x) xs → AllByRecursion P xs
firsts P Q [] all = tt
firsts P Q (x ∷ xs) all = (all.0.0, firsts P Q xs all.1)

seconds : {X : Type 0} (P Q : X → Type 0) (xs : List X) → AllByRecursion (λ x. P x × Q x) xs → AllByRecursion Q xs
seconds P Q [] all = tt
seconds P Q (x ∷ xs) all = (all.0.1, seconds P Q xs all.1)

are_fit : (i : Image) → valid i ≡ true → AreFit i
are_fit i ok =
    let v = valid_is i ok in
    let ws = and_parts (list_all (λ (w : WaitingRefresh). is_number i.pos w.cut && span_fits w.span (view_of (image_roster i) w.view)) i.waiting) (all_rise nat_cmp (map (λ (w : WaitingRefresh). w.cut) i.waiting)) v.waiting in
    let fs = and_parts (list_all (λ (f : FinishedRefresh). is_number i.pos f.cut && nat_lt f.cut f.built && nat_le f.built i.pos && not (list_any (λ (w : WaitingRefresh). w.cut == f.cut) i.waiting)) i.done) (all_rise nat_cmp (map (λ (f : FinishedRefresh). f.cut) i.done)) v.done in
    let waits = numbers i.waiting ws.0 in
    let done = finished i.done fs.0 in
    record {
      waits = waits;
      waits_rise = rise_of (λ (w : WaitingRefresh). w.cut) of_waiting (λ w. refl) 0 i.waiting (firsts _ _ i.waiting waits) ws.1;
      done = firsts _ _ i.done done;
      done_rise = rise_of (λ (f : FinishedRefresh). f.cut) of_done (λ f. refl) 0 i.done (firsts _ _ i.done (firsts _ _ i.done done)) fs.1;
      apart = seconds _ _ i.done done;
    }
  where
    numbers : (ws : List WaitingRefresh) → list_all (λ (w : WaitingRefresh). is_number i.pos w.cut && span_fits w.span (view_of (image_roster i) w.view)) ws ≡ true → AllByRecursion (λ (w : WaitingRefresh). (0 < w.cut) × (w.cut ≤ i.pos)) ws
    numbers [] e = tt
    numbers (w ∷ ws) e =
        let parts = and_parts (is_number i.pos w.cut && span_fits w.span (view_of (image_roster i) w.view)) _ e in
        (number_parts i.pos w.cut (and_parts (is_number i.pos w.cut) _ parts.0).0, numbers ws parts.1)

    is_out : (b : Bool) → not b ≡ true → b ≡ false
    is_out true e = absurd (true≢false (sym e))
    is_out false e = refl

    finished : (fs : List FinishedRefresh) → list_all (λ (f : FinishedRefresh). is_number i.pos f.cut && nat_lt f.cut f.built && nat_le f.built i.pos && not (list_any (λ (w : WaitingRefresh). w.cut == f.cut) i.waiting)) fs ≡ true → AllByRecursion (λ (f : FinishedRefresh). ((0 < f.cut) × (f.cut ≤ i.pos)) × (list_any (λ (w : WaitingRefresh). w.cut == f.cut) i.waiting ≡ false)) fs
    finished [] e = tt
    finished (f ∷ fs) e =
        let parts = and_parts (is_number i.pos f.cut && nat_lt f.cut f.built && nat_le f.built i.pos && not (list_any (λ (w : WaitingRefresh). w.cut == f.cut) i.waiting)) _ e in
        let last = and_parts (is_number i.pos f.cut && nat_lt f.cut f.built && nat_le f.built i.pos) _ parts.0 in
        let built = and_parts (is_number i.pos f.cut && nat_lt f.cut f.built) _ last.0 in
        ((number_parts i.pos f.cut (and_parts (is_number i.pos f.cut) _ built.0).0, is_out _ last.1), finished fs parts.1)

past : {X : Type 0} (number : X → ℕ) (p : ℕ) (xs : List X) → AllByRecursion (λ x. number x ≤ p) xs → AllByRecursion (λ x. number x < suc p) xs
past number p [] all = tt
past number p (x ∷ xs) all = (omega (arith, all.0), past number p xs all.1)

cuts_are : (i : Image) (ws : List WaitingRefresh) → AllByRecursion (λ w. w.cut ≤ i.pos) ws → AllByRecursion (λ w. (0 < w.cut) × (span_among w.view i.waiting w.cut ≡ Some w.span)) ws → AllByRecursion (λ w. IsCut (resumed i) w.cut (Waits w.view w.span)) ws
cuts_are i [] upto spans = tt
cuts_are i (w ∷ ws) upto spans = (span_told i w.view w.cut upto.0 ∙ spans.0.1, cuts_are i ws upto.1 spans.1)

-- an image says nothing of a number above its position
none_above : (i : Image) (k : ℕ) → AllByRecursion (λ w. w.cut ≤ i.pos) i.waiting → AllByRecursion (λ f. f.cut ≤ i.pos) i.done → pending_among i.waiting i.done k ≡ cond (nat_le k i.pos) (pending_among i.waiting i.done k) Unknown
none_above i k waits done = by (nat_le k i.pos) refl
  where
    other : (n : ℕ) → n ≤ i.pos → nat_le k i.pos ≡ false → (k == n) ≡ false
    other n l e = elim (k == n) as (λ t. (k == n) ≡ t → t ≡ false) [ true ↦ λ same. let is : k ≡ n = eqb-true k n same in let high : nat_le n i.pos ≡ false = subst (λ m. nat_le m i.pos ≡ false) is e in absurd (true≢false (sym (grind arith) ∙ high)) | false ↦ λ _. refl ] refl

    of_finished : (fs : List FinishedRefresh) → nat_le k i.pos ≡ false → AllByRecursion (λ f. f.cut ≤ i.pos) fs → finished_among fs k ≡ Unknown
    of_finished [] e all = refl
    of_finished (f ∷ fs) e all = ap (λ t. cond t (Finished f.built) (finished_among fs k)) (other f.cut all.0 e) ∙ of_finished fs e all.1

    of_both : (ws : List WaitingRefresh) → nat_le k i.pos ≡ false → AllByRecursion (λ w. w.cut ≤ i.pos) ws → pending_among ws i.done k ≡ Unknown
    of_both [] e all = of_finished i.done e done
    of_both (w ∷ ws) e all = ap (λ t. cond t (Waiting w.view) (pending_among ws i.done k)) (other w.cut all.0 e) ∙ of_both ws e all.1

    by : (t : Bool) → nat_le k i.pos ≡ t → pending_among i.waiting i.done k ≡ cond t (pending_among i.waiting i.done k) Unknown
    by true e = refl
    by false e = of_both i.waiting e waits

pub images_stand : ImagesStand
images_stand = record {
  rise = λ i ok. let fit = are_fit i ok in rise-together 0 i.waiting i.done fit.waits_rise fit.done_rise fit.apart;
  stand = λ i ok.
      let fit = are_fit i ok in
      let waits = seconds _ _ i.waiting fit.waits in
      let done = seconds _ _ i.done fit.done in
      record {
        pending = λ k. pending-together i.waiting i.done k fit.apart ∙ none_above i k waits done;
        waiting = waiting-together i.waiting i.done;
        spans = spans-together (resumed i) i.waiting i.done (cuts_are i i.waiting waits (spans_own 0 i.waiting fit.waits_rise));
        past = below-together (suc i.pos) i.waiting i.done (past (λ (w : WaitingRefresh). w.cut) i.pos i.waiting waits) (past (λ (f : FinishedRefresh). f.cut) i.pos i.done done);
      };
}

-- ---- the finished refreshes of a history

abbrev upto : ℕ → List Refresh → List Refresh
upto p rs = filter (λ r. nat_le r.cut p) rs

with_done-append : (cut : ℕ) (s : Stage) (xs ys : List FinishedRefresh) → with_done cut s (xs ++ ys) ≡ with_done cut s xs ++ ys
with_done-append cut (Waits view span) xs ys = refl
with_done-append cut (Done k) xs ys = refl

-- refreshes above p include none up to p
none_upto : (p low : ℕ) (rs : List Refresh) → p ≤ low → CutsRise low rs → upto p rs ≡ []
none_upto p low [] l rise = refl
none_upto p low (r ∷ rs) l rise =
    ap (λ t. cond t (r ∷ upto p rs) (upto p rs)) (out p r.cut (omega (arith, l, rise.0))) ∙ none_upto p r.cut rs (omega (arith, l, rise.0)) rise.1
  where
    out : (p n : ℕ) → p < n → nat_le n p ≡ false
    out p n l = grind arith

unknown_upto : (p low : ℕ) (rs : List Refresh) → p ≤ low → CutsRise low rs → pending_in rs p ≡ Unknown
unknown_upto p low [] l rise = refl
unknown_upto p low (r ∷ rs) l rise =
    ap (λ t. cond t (state_by r.stage) (pending_in rs p)) (out p r.cut (omega (arith, l, rise.0))) ∙ unknown_upto p r.cut rs (omega (arith, l, rise.0)) rise.1
  where
    out : (p n : ℕ) → p < n → (p == n) ≡ false
    out p n l = grind arith

-- one more number
done_next : (p low : ℕ) (rs : List Refresh) → CutsRise low rs → done_in (upto (suc p) rs) ≡ done_in (upto p rs) ++ finished_as (suc p) (pending_in rs (suc p))
done_next p low [] rise = refl
done_next p low (r ∷ rs) rise = by (nat_le r.cut p) refl (nat_le r.cut (suc p)) refl (done_next p r.cut rs rise.1)
  where
    Rest : Type 0
    Rest = done_in (upto (suc p) rs) ≡ done_in (upto p rs) ++ finished_as (suc p) (pending_in rs (suc p))

    other : (n : ℕ) → n ≤ p → (suc p == n) ≡ false
    other n l = grind arith

    apart : (n : ℕ) → suc p < n → (suc p == n) ≡ false
    apart n l = grind arith

    at_end : (s : Stage) → with_done r.cut s [] ≡ finished_as (suc p) (state_by s) → with_done r.cut s [] ≡ finished_as (suc p) (state_by s)
    at_end s e = e

    same : (n : ℕ) (s : Stage) → n ≡ suc p → with_done n s [] ≡ finished_as (suc p) (state_by s)
    same n (Waits view span) is = refl
    same n (Done k) is = ap (λ (m : ℕ). record { cut = m; built = k } ∷ []) is

    by : (t : Bool) → nat_le r.cut p ≡ t → (u : Bool) → nat_le r.cut (suc p) ≡ u → Rest → done_in (cond u (r ∷ upto (suc p) rs) (upto (suc p) rs)) ≡ done_in (cond t (r ∷ upto p rs) (upto p rs)) ++ finished_as (suc p) (cond (suc p == r.cut) (state_by r.stage) (pending_in rs (suc p)))
    by true e true f rest =
        ap (with_done r.cut r.stage) rest ∙ with_done-append r.cut r.stage (done_in (upto p rs)) (finished_as (suc p) (pending_in rs (suc p)))
        ∙ ap (λ b. with_done r.cut r.stage (done_in (upto p rs)) ++ finished_as (suc p) (cond b (state_by r.stage) (pending_in rs (suc p)))) (sym (other r.cut (leb-true r.cut p e)))
    by true e false f rest = absurd (true≢false (sym (higher r.cut e) ∙ f))
      where
        higher : (n : ℕ) → nat_le n p ≡ true → nat_le n (suc p) ≡ true
        higher n e = grind arith
    by false e true f rest =
        let is : r.cut ≡ suc p = at r.cut e f in
        let named : (suc p == r.cut) ≡ true = eq-eqb (suc p) r.cut (sym is) in
        ap (λ xs. with_done r.cut r.stage (done_in xs)) (none_upto (suc p) r.cut rs (omega (arith, is)) rise.1)
        ∙ same r.cut r.stage is
        ∙ ap (λ b. finished_as (suc p) (cond b (state_by r.stage) (pending_in rs (suc p)))) (sym named)
        ∙ ap (λ xs. done_in xs ++ finished_as (suc p) (cond (suc p == r.cut) (state_by r.stage) (pending_in rs (suc p)))) (sym (none_upto p r.cut rs (omega (arith, is)) rise.1))
      where
        at : (n : ℕ) → nat_le n p ≡ false → nat_le n (suc p) ≡ true → n ≡ suc p
        at n e f = grind arith
    by false e false f rest =
        let high : suc p < r.cut = over r.cut f in
        rest ∙ ap (λ b. done_in (upto p rs) ++ finished_as (suc p) (cond b (state_by r.stage) (pending_in rs (suc p)))) (sym (apart r.cut high))
      where
        over : (n : ℕ) → nat_le n (suc p) ≡ false → suc p < n
        over n f = grind arith

done_upto : (h : History) (rs : List Refresh) (p : ℕ) → CutsRise 0 rs → RefreshesStand h rs → done_in (upto p rs) ≡ finished_upto h p
done_upto h rs zero rise s = ap done_in (none_upto 0 0 rs (omega arith) rise)
done_upto h rs (suc p) rise s =
    done_next p 0 rs rise ∙ ap (λ fs. fs ++ finished_as (suc p) (pending_in rs (suc p))) (done_upto h rs p rise s)
    ∙ ap (λ q. finished_upto h p ++ finished_as (suc p) q) (s.pending (suc p))

all_upto : (p : ℕ) (rs : List Refresh) → CutsBelow (suc p) rs → upto p rs ≡ rs
all_upto p [] past = refl
all_upto p (r ∷ rs) past = ap (λ t. cond t (r ∷ upto p rs) (upto p rs)) (within p r.cut past.0) ∙ ap (λ xs. r ∷ xs) (all_upto p rs past.1)
  where
    within : (p n : ℕ) → n < suc p → nat_le n p ≡ true
    within p n l = grind arith

pub done_are : DoneAre
done_are h rs rise s = sym (ap done_in (all_upto (position h) rs s.past)) ∙ done_upto h rs (position h) rise s
