-- What a name finds is in the roster at its number, and if it finds nothing the name is free.
use Rattle.std.proofs.Common.{◌≡◌, ◌∙◌, refl, sym, subst, ap, ℕ, suc, ◌+◌, Bool, true, false, cond, List, [], ◌∷◌, Option, Some, None, is_some, arith}
use Rattle.std.specs.Prelude.{slice_get, position as place}
use Rattle.std.specs.List.{position_from}
use Rattle.std.proofs.lemmas.Iterator.Adapters.{position_from-zero}
use Rattle.ts_model.specs.declared.rosters.Roster.{Roster}
use Rattle.ts_model.specs.declared.tables.TableInfo.{TableInfo}
use Rattle.ts_model.specs.declared.views.ViewDef.{ViewDef}
use Rattle.ts_model.specs.Roster.{same_name, is_taken}
use Rattle.ts_catalog.specs.declared.relations.Found.{Found}
use Rattle.ts_catalog.specs.declared.relations.Found.TheVariants as found
use Rattle.ts_catalog.specs.Relations.{found_in, or_else, table_from, table_kind, view_from}
use Rattle.stmt_check.specs.Refusals.{finds_nothing}

-- number n, counted from k, is the place of an item with a property
pub record StandsAt {X : Type 0} (k : ℕ) (items : List X) (n : ℕ) (P : X → Type 0) : Type 0 where
  pub place : ℕ
  pub item : X
  pub counted : n ≡ k + place
  pub at : slice_get items place ≡ Some item
  pub is : P item

further : {X : Type 0} (k : ℕ) (x : X) (xs : List X) (n : ℕ) (P : X → Type 0) → StandsAt (k + 1) xs n P → StandsAt k (x ∷ xs) n P
further k x xs n P s = record { place = suc s.place; item = s.item; counted = (let e : n ≡ k + 1 + s.place = s.counted in omega (arith, e)); at = s.at; is = s.is }

-- counted from 0, an item is at its number
pub record Stands {X : Type 0} (items : List X) (n : ℕ) (P : X → Type 0) : Type 0 where
  pub item : X
  pub at : slice_get items n ≡ Some item
  pub is : P item

stands : {X : Type 0} (items : List X) (n : ℕ) (P : X → Type 0) → StandsAt 0 items n P → Stands items n P
stands items n P s =
    let e : s.place ≡ n = omega (arith, s.counted) in
    record { item = s.item; at = subst (λ (i : ℕ). slice_get items i ≡ Some s.item) e s.at; is = s.is }

-- ---- tables

abbrev pub IsHyper : Bool → TableInfo → Type 0
IsHyper is t = is_some t.hyper ≡ is

abbrev TableAt : ℕ → List TableInfo → Found → Type 0
TableAt k ts found.None = Unit {0}
TableAt k ts (found.Plain n) = StandsAt k ts n (IsHyper false)
TableAt k ts (found.Hyper n) = StandsAt k ts n (IsHyper true)
TableAt k ts (found.View n) = ⊥

table_further : (k : ℕ) (t : TableInfo) (ts : List TableInfo) (f : Found) → TableAt (k + 1) ts f → TableAt k (t ∷ ts) f
table_further k t ts found.None s = tt
table_further k t ts (found.Plain n) s = further k t ts n (IsHyper false) s
table_further k t ts (found.Hyper n) s = further k t ts n (IsHyper true) s
table_further k t ts (found.View n) s = s

in_front : (k : ℕ) (t : TableInfo) (ts : List TableInfo) (is : Bool) → is_some t.hyper ≡ is → StandsAt k (t ∷ ts) k (IsHyper is)
in_front k t ts is e = record { place = 0; item = t; counted = omega arith; at = refl; is = e }

kind_at : (k : ℕ) (t : TableInfo) (ts : List TableInfo) (is : Bool) → is_some t.hyper ≡ is → TableAt k (t ∷ ts) (cond is (found.Hyper k) (found.Plain k))
kind_at k t ts true e = in_front k t ts true e
kind_at k t ts false e = in_front k t ts false e

table_or : (k : ℕ) (t : TableInfo) (ts : List TableInfo) (same : Bool) (rest : Found) → TableAt (k + 1) ts rest → TableAt k (t ∷ ts) (cond same (table_kind t k) rest)
table_or k t ts true rest s = kind_at k t ts (is_some t.hyper) refl
table_or k t ts false rest s = table_further k t ts rest s

table_at : (name : List ℕ) (k : ℕ) (ts : List TableInfo) → TableAt k ts (table_from name k ts)
table_at name k [] = tt
table_at name k (t ∷ ts) = table_or k t ts (same_name t.def.name name) (table_from name (k + 1) ts) (table_at name (k + 1) ts)

-- ---- aggregates

abbrev pub Any : ViewDef → Type 0
Any v = Unit {0}

abbrev ViewAt : ℕ → List ViewDef → Found → Type 0
ViewAt k vs found.None = Unit {0}
ViewAt k vs (found.Plain n) = ⊥
ViewAt k vs (found.Hyper n) = ⊥
ViewAt k vs (found.View n) = StandsAt k vs n Any

view_further : (k : ℕ) (v : ViewDef) (vs : List ViewDef) (f : Found) → ViewAt (k + 1) vs f → ViewAt k (v ∷ vs) f
view_further k v vs found.None s = tt
view_further k v vs (found.Plain n) s = s
view_further k v vs (found.Hyper n) s = s
view_further k v vs (found.View n) s = further k v vs n Any s

view_or : (k : ℕ) (v : ViewDef) (vs : List ViewDef) (same : Bool) (rest : Found) → ViewAt (k + 1) vs rest → ViewAt k (v ∷ vs) (cond same (found.View k) rest)
view_or k v vs true rest s = record { place = 0; item = v; counted = omega arith; at = refl; is = tt }
view_or k v vs false rest s = view_further k v vs rest s

view_at : (name : List ℕ) (k : ℕ) (vs : List ViewDef) → ViewAt k vs (view_from name k vs)
view_at name k [] = tt
view_at name k (v ∷ vs) = view_or k v vs (same_name v.name name) (view_from name (k + 1) vs) (view_at name (k + 1) vs)

-- ---- relations

abbrev pub RelationAt : Roster → Found → Type 0
RelationAt r found.None = Unit {0}
RelationAt r (found.Plain n) = Stands r.tables n (IsHyper false)
RelationAt r (found.Hyper n) = Stands r.tables n (IsHyper true)
RelationAt r (found.View n) = Stands r.views n Any

either_at : (r : Roster) (a b : Found) → TableAt 0 r.tables a → ViewAt 0 r.views b → RelationAt r (or_else a b)
either_at r found.None found.None t v = tt
either_at r found.None (found.Plain n) t v = absurd v
either_at r found.None (found.Hyper n) t v = absurd v
either_at r found.None (found.View n) t v = stands r.views n Any v
either_at r (found.Plain n) b t v = stands r.tables n (IsHyper false) t
either_at r (found.Hyper n) b t v = stands r.tables n (IsHyper true) t
either_at r (found.View n) b t v = absurd t

-- what is found exists
pub relation_at : (r : Roster) (name : List ℕ) → RelationAt r (found_in r name)
relation_at r name = either_at r (table_from name 0 r.tables) (view_from name 0 r.views) (table_at name 0 r.tables) (view_at name 0 r.views)

-- ---- free names

kind_is_some : (t : TableInfo) (k : ℕ) → finds_nothing (table_kind t k) ≡ false
kind_is_some t k = elim (is_some t.hyper) as (λ b. finds_nothing (cond b (found.Hyper k) (found.Plain k)) ≡ false) [ true ↦ refl | false ↦ refl ]

-- if nothing is found, no item has the name
no_table_here : (t : TableInfo) (k : ℕ) (same : Bool) (rest : Found) (o : Option ℕ) → (finds_nothing rest ≡ true → o ≡ None) → finds_nothing (cond same (table_kind t k) rest) ≡ true → cond same (Some k) o ≡ None
no_table_here t k true rest o f e = absurd (let g : true ≡ false = sym e ∙ kind_is_some t k in cc)
no_table_here t k false rest o f e = f e

no_table : (name : List ℕ) (k : ℕ) (ts : List TableInfo) → finds_nothing (table_from name k ts) ≡ true → position_from (λ t. same_name t.def.name name) k ts ≡ None
no_table name k [] e = refl
no_table name k (t ∷ ts) e = no_table_here t k (same_name t.def.name name) (table_from name (k + 1) ts) _ (no_table name (k + 1) ts) e

no_view_here : (k : ℕ) (same : Bool) (rest : Found) (o : Option ℕ) → (finds_nothing rest ≡ true → o ≡ None) → finds_nothing (cond same (found.View k) rest) ≡ true → cond same (Some k) o ≡ None
no_view_here k true rest o f e = absurd cc
no_view_here k false rest o f e = f e

no_view : (name : List ℕ) (k : ℕ) (vs : List ViewDef) → finds_nothing (view_from name k vs) ≡ true → position_from (λ v. same_name v.name name) k vs ≡ None
no_view name k [] e = refl
no_view name k (v ∷ vs) e = no_view_here k (same_name v.name name) (view_from name (k + 1) vs) _ (no_view name (k + 1) vs) e

no_place : {X : Type 0} (test : X → Bool) (xs : List X) → position_from test 0 xs ≡ None → is_some (place test xs) ≡ false
no_place test xs e = ap is_some (position_from-zero test xs ∙ e)

none_of : (a b : Found) → finds_nothing (or_else a b) ≡ true → (finds_nothing a ≡ true) × (finds_nothing b ≡ true)
none_of found.None b e = (refl, e)
none_of (found.Plain n) b e = absurd cc
none_of (found.Hyper n) b e = absurd cc
none_of (found.View n) b e = absurd cc

-- a name for which nothing is found isn't taken
pub name_is_free : (r : Roster) (name : List ℕ) → finds_nothing (found_in r name) ≡ true → is_taken r name ≡ false
name_is_free r name e =
    let both = none_of (table_from name 0 r.tables) (view_from name 0 r.views) e in
    let tables = no_place (λ t. same_name t.def.name name) r.tables (no_table name 0 r.tables both.0) in
    let views = no_place (λ v. same_name v.name name) r.views (no_view name 0 r.views both.1) in
    rw (tables, views) refl
