-- Names and kinds are never removed.
use Rattle.std.proofs.Common.{◌≡◌, ℕ, zero, suc, ◌+◌, ◌<◌, ◌≤◌, Bool, true, false, not, cond, nat_lt, ◌==◌, length, List, [], ◌∷◌, ◌++◌, Option, Some, None, sym, refl, ap, ◌∙◌, subst, arith}
use Rattle.std.specs.Prelude.{slice_get, position as place, unwrap_or}
use Rattle.std.specs.List.{prefix_len, position_or_len}
use Rattle.std.proofs.lemmas.Bool.{ltb-true, lt-ltb, cond-true, cond-false}
use Rattle.std.proofs.lemmas.Bool.Decides.{nat_tests}
use Rattle.std.proofs.lemmas.List.{length-append}
use Rattle.std.proofs.lemmas.List.Folds.{prefix_len-append}
use Rattle.ts_model.specs.declared.events.Event.{Event}
use Rattle.ts_model.specs.declared.events.Event.TheVariants.{Table, Hyper, View, Mode, Commit, Cut, Built}
use Rattle.ts_model.specs.declared.rosters.Roster.{Roster}
use Rattle.ts_model.specs.declared.tables.Hyper.{Hyper as HyperInfo}
use Rattle.ts_model.specs.declared.tables.TableInfo.{TableInfo}
use Rattle.ts_model.specs.declared.views.ViewDef.{ViewDef}
use Rattle.ts_model.specs.History.{History, ◌▸◌, same, further}
use Rattle.ts_model.specs.Roster.{IsOf, change_at, made_hyper, set_only, roster_after, roster, table_of, view_of, same_name}
use Rattle.ts_model.specs.Laws.{KeepsHyper, KeepsTable, KeepsView, KeepsRelations, RelationsStay}

-- ---- lists that grow at the end, and lists with one item changed

pub slice_get-append : {X : Type 0} (xs ys : List X) (i : ℕ) (x : X) → slice_get xs i ≡ Some x → slice_get (xs ++ ys) i ≡ Some x
slice_get-append [] ys i x e = absurd (cc)
slice_get-append (z ∷ xs) ys zero x e = e
slice_get-append (z ∷ xs) ys (suc i) x e = slice_get-append xs ys i x e

-- the item at place i after a change at place j is the old one, or the changed one
pub slice_get-change_at : {X : Type 0} (xs : List X) (j i : ℕ) (f : X → X) (x : X) → slice_get xs i ≡ Some x → (changed : Bool) × (slice_get (change_at xs j f) i ≡ Some (cond changed (f x) x))
slice_get-change_at [] j i f x e = absurd (cc)
slice_get-change_at (z ∷ xs) zero zero f x e = let same_item : z ≡ x = cc in (true, ap (λ y. Some (f y)) same_item)
slice_get-change_at (z ∷ xs) zero (suc i) f x e = (false, e)
slice_get-change_at (z ∷ xs) (suc j) zero f x e = (false, e)
slice_get-change_at (z ∷ xs) (suc j) (suc i) f x e = slice_get-change_at xs j i f x e

-- a place below the length stays below it if the list grows
place_stays : (a b m n t : ℕ) → a ≡ b → m ≤ n → cond (nat_lt a m) (Some a) None ≡ Some t → cond (nat_lt b n) (Some b) None ≡ Some t
place_stays a b m n t e l p =
    elim (nat_lt a m) as (λ x. nat_lt a m ≡ x → cond x (Some a) None ≡ Some t → cond (nat_lt b n) (Some b) None ≡ Some t) [
      | true ↦ λ below some.
          let less : a < m = ltb-true a m below in
          let here : b < n = omega arith in
          cond-true (nat_lt b n) (Some b) None (lt-ltb b n here) ∙ ap Some (sym e) ∙ some
      | false ↦ λ _ some. absurd (cc)
    ] refl p

place-append : {X : Type 0} (p : X → Bool) (xs ys : List X) (t : ℕ) → place p xs ≡ Some t → place p (xs ++ ys) ≡ Some t
place-append p xs ys t e =
    elim (nat_lt (position_or_len p xs) (length xs)) as (λ x. nat_lt (position_or_len p xs) (length xs) ≡ x → place p (xs ++ ys) ≡ Some t) [
      | true ↦ λ below.
          let less : position_or_len p xs < length xs = ltb-true _ _ below in
          let apart : (position_or_len p xs == length xs) ≡ false = grind (arith, nat_tests) in
          let stays : position_or_len p xs ≡ position_or_len p (xs ++ ys) = sym (prefix_len-append (λ x. not (p x)) xs ys ∙ cond-false (position_or_len p xs == length xs) _ _ apart) in
          let longer : length xs ≤ length (xs ++ ys) = simp length-append (omega arith) in
          place_stays (position_or_len p xs) (position_or_len p (xs ++ ys)) (length xs) (length (xs ++ ys)) t stays longer e
      | false ↦ λ above.
          let none : place p xs ≡ None = cond-false (nat_lt (position_or_len p xs) (length xs)) (Some (position_or_len p xs)) None above in
          absurd (cc)
    ] refl

prefix_len-change_at : {X : Type 0} (q : X → Bool) (xs : List X) (j : ℕ) (f : X → X) → ((x : X) → q (f x) ≡ q x) → prefix_len q (change_at xs j f) ≡ prefix_len q xs
prefix_len-change_at q [] j f e = refl
prefix_len-change_at q (x ∷ xs) zero f e = ap (λ b. cond b (1 + prefix_len q xs) 0) (e x)
prefix_len-change_at q (x ∷ xs) (suc j) f e = ap (λ n. cond (q x) (1 + n) 0) (prefix_len-change_at q xs j f e)

pub length-change_at : {X : Type 0} (xs : List X) (j : ℕ) (f : X → X) → length (change_at xs j f) ≡ length xs
length-change_at [] j f = refl
length-change_at (x ∷ xs) zero f = refl
length-change_at (x ∷ xs) (suc j) f = ap suc (length-change_at xs j f)

place-change_at : {X : Type 0} (p : X → Bool) (xs : List X) (j : ℕ) (f : X → X) (t : ℕ) → ((x : X) → p (f x) ≡ p x) → place p xs ≡ Some t → place p (change_at xs j f) ≡ Some t
place-change_at p xs j f t same_test e =
    let stays : position_or_len p xs ≡ position_or_len p (change_at xs j f) = sym (prefix_len-change_at (λ x. not (p x)) xs j f (λ x. ap not (same_test x))) in
    let as_long : length xs ≤ length (change_at xs j f) = omega (arith, length-change_at xs j f) in
    place_stays (position_or_len p xs) (position_or_len p (change_at xs j f)) (length xs) (length (change_at xs j f)) t stays as_long e

-- ---- one event

keeps_hyper_itself : (o : Option HyperInfo) → KeepsHyper o o
keeps_hyper_itself None = tt
keeps_hyper_itself (Some hyper) = refl

keeps_hyper_made : (o : Option HyperInfo) (hyper : HyperInfo) → KeepsHyper o (Some (unwrap_or o hyper))
keeps_hyper_made None hyper = tt
keeps_hyper_made (Some was) hyper = refl

keeps_hyper_trans : (o p q : Option HyperInfo) → KeepsHyper o p → KeepsHyper p q → KeepsHyper o q
keeps_hyper_trans None p q a b = tt
keeps_hyper_trans (Some was) p q a b = let P : Option HyperInfo → Type 0 = λ x. KeepsHyper x q in subst P a b

table_itself : (info : TableInfo) (found : Option TableInfo) → found ≡ Some info → KeepsTable info found
table_itself info found e = record { info = info; there = e; def = refl; hyper = keeps_hyper_itself info.hyper }

view_itself : (def : ViewDef) (found : Option ViewDef) → found ≡ Some def → KeepsView def found
view_itself def found e = record { only = def.only; there = e }

relations_themselves : (r : Roster) → KeepsRelations r r
relations_themselves r = record {
  tables = λ t info e. table_itself info (table_of r t) e;
  views = λ n def e. view_itself def (view_of r n) e;
  table_names = λ name t e. e;
  view_names = λ name n e. e;
}

pub relations_further : (r : Roster) (e : Event) → KeepsRelations r (roster_after r e)
relations_further r (Table def) = record {
  tables = λ t info e. table_itself info _ (slice_get-append r.tables (record { def = def; hyper = None } ∷ []) t info e);
  views = λ n view e. view_itself view (view_of r n) e;
  table_names = λ name t e. place-append (λ info. same_name info.def.name name) r.tables (record { def = def; hyper = None } ∷ []) t e;
  view_names = λ name n e. e;
}
relations_further r (Hyper u hyper) = record {
  tables = λ t info e.
      let changed = slice_get-change_at r.tables u t (made_hyper hyper) info e in
      let there : table_of (roster_after r (Hyper u hyper)) t ≡ Some (cond changed.0 (made_hyper hyper info) info) = changed.1 in
      elim changed.0 as (λ b. table_of (roster_after r (Hyper u hyper)) t ≡ Some (cond b (made_hyper hyper info) info) → KeepsTable info (table_of (roster_after r (Hyper u hyper)) t)) [
        | true ↦ λ f. record { info = made_hyper hyper info; there = f; def = refl; hyper = keeps_hyper_made info.hyper hyper }
        | false ↦ λ f. table_itself info _ f
      ] there;
  views = λ n view e. view_itself view (view_of r n) e;
  table_names = λ name t e. place-change_at (λ info. same_name info.def.name name) r.tables u (made_hyper hyper) t (λ info. refl) e;
  view_names = λ name n e. e;
}
relations_further r (View def) = record {
  tables = λ t info e. table_itself info (table_of r t) e;
  views = λ n view e. view_itself view _ (slice_get-append r.views (def ∷ []) n view e);
  table_names = λ name t e. e;
  view_names = λ name n e. place-append (λ view. same_name view.name name) r.views (def ∷ []) n e;
}
relations_further r (Mode v only) = record {
  tables = λ t info e. table_itself info (table_of r t) e;
  views = λ n view e.
      let changed = slice_get-change_at r.views v n (set_only only) view e in
      let there : view_of (roster_after r (Mode v only)) n ≡ Some (cond changed.0 (set_only only view) view) = changed.1 in
      elim changed.0 as (λ b. view_of (roster_after r (Mode v only)) n ≡ Some (cond b (set_only only view) view) → KeepsView view (view_of (roster_after r (Mode v only)) n)) [
        | true ↦ λ f. record { only = only; there = f }
        | false ↦ λ f. view_itself view _ f
      ] there;
  table_names = λ name t e. e;
  view_names = λ name n e. place-change_at (λ view. same_name view.name name) r.views v (set_only only) n (λ view. refl) e;
}
relations_further r (Commit ops) = relations_themselves r
relations_further r (Cut v span) = relations_themselves r
relations_further r (Built cut snap) = relations_themselves r

-- ---- many events

pub relations_trans : (q r s : Roster) → KeepsRelations q r → KeepsRelations r s → KeepsRelations q s
relations_trans q r s a b = record {
  tables = λ t info e.
      let first = a.tables t info e in
      let second = b.tables t first.info first.there in
      record { info = second.info; there = second.there; def = second.def ∙ first.def; hyper = keeps_hyper_trans info.hyper first.info.hyper second.info.hyper first.hyper second.hyper };
  views = λ n view e.
      let first = a.views n view e in
      let second = b.views n (set_only first.only view) first.there in
      record { only = second.only; there = second.there };
  table_names = λ name t e. b.table_names name t (a.table_names name t e);
  view_names = λ name n e. b.view_names name n (a.view_names name n e);
}

pub relations_stay : RelationsStay
relations_stay g h same = relations_themselves (roster g)
relations_stay g h (further {h = k} {e = e} q) = relations_trans (roster g) (roster k) (roster (k ▸ e)) (relations_stay g k q) (relations_further (roster k) e)

-- ---- an aggregate whose mode may have changed

of_before : (def : ViewDef) (was now : Option ViewDef) → ((d : ViewDef) → was ≡ Some d → KeepsView d now) → IsOf def now → IsOf def was
of_before def None now keeps e = tt
of_before def (Some d) now keeps e =
    let kept = keeps d refl in
    let P : Option ViewDef → Type 0 = λ o. IsOf def o in
    subst P kept.there e

-- an aggregate with a table and a grouping after an event had them before it
pub is_of_before : (def : ViewDef) (h : History) (e : Event) (n : ℕ) → IsOf def (view_of (roster (h ▸ e)) n) → IsOf def (view_of (roster h) n)
is_of_before def h e n i = of_before def (view_of (roster h) n) (view_of (roster (h ▸ e)) n) ((relations_further (roster h) e).views n) i

pub is_of_itself : (def : ViewDef) (o : Option ViewDef) → o ≡ Some def → IsOf def o
is_of_itself def o e = let P : Option ViewDef → Type 0 = λ x. IsOf def x in subst P (sym e) (refl, refl)
