-- What a name finds is at its number.
use Rattle.std.proofs.Common.{◌≡◌, refl, sym, subst, ℕ, suc, ◌+◌, true, false, if◌then◌else◌, List, [], ◌∷◌, is_some, arith}
use Rattle.std.specs.Cmp.Lexicographic.{same_text}
use Rattle.ts_model.specs.declared.rosters.Roster.{Roster}
use Rattle.ts_model.specs.declared.tables.TableInfo.{TableInfo}
use Rattle.ts_model.specs.declared.views.ViewDef.{ViewDef}
use Rattle.ts_catalog.specs.declared.relations.Found.{Found}
use Rattle.ts_catalog.specs.declared.relations.Found.TheVariants as found
use Rattle.ts_model.specs.Roster.{same_name}
use Rattle.ts_catalog.specs.Relations.{HasItem, IsThere, found_in, or_else, table_from, table_kind, view_from}

-- number n, counted from k, is a place of the list
record IsNumbered {X : Type 0} (k : ℕ) (items : List X) (n : ℕ) (P : X → Type 0) : Type 0 where
  pub place : ℕ
  pub counted : n ≡ k + place
  pub there : HasItem items place P

-- the first item has the number that counting begins with
in_front : {X : Type 0} (k : ℕ) (x : X) (xs : List X) (P : X → Type 0) → P x → IsNumbered k (x ∷ xs) k P
in_front k x xs P p = record { place = 0; counted = omega arith; there = record { item = x; at = refl; is = p } }

-- one more item in front moves each place one further
one_further : {X : Type 0} (k : ℕ) (x : X) (xs : List X) (n : ℕ) (P : X → Type 0) → IsNumbered (k + 1) xs n P → IsNumbered k (x ∷ xs) n P
one_further k x xs n P i = record {
  place = suc i.place;
  counted = (let e : n ≡ k + 1 + i.place = i.counted in omega (arith, e));
  there = record { item = i.there.item; at = i.there.at; is = i.there.is };
}

-- counted from 0 a number is its place
from_zero : {X : Type 0} (xs : List X) (n : ℕ) (P : X → Type 0) → IsNumbered 0 xs n P → HasItem xs n P
from_zero xs n P i = let e : i.place ≡ n = omega (arith, i.counted) in subst (λ place. HasItem xs place P) e i.there

-- what is found among tables counted from k
abbrev TableIsThere : List ℕ → ℕ → List TableInfo → Found → Type 0
TableIsThere name k ts found.None = Unit {0}
TableIsThere name k ts (found.Plain n) = IsNumbered k ts n (λ t. (t.def.name ≡ name) × (is_some t.hyper ≡ false))
TableIsThere name k ts (found.Hyper n) = IsNumbered k ts n (λ t. (t.def.name ≡ name) × (is_some t.hyper ≡ true))
TableIsThere name k ts (found.View n) = Unit {0}

table_further : (name : List ℕ) (k : ℕ) (t : TableInfo) (ts : List TableInfo) (f : Found) → TableIsThere name (k + 1) ts f → TableIsThere name k (t ∷ ts) f
table_further name k t ts found.None i = tt
table_further name k t ts (found.Plain n) i = one_further k t ts n (λ t. (t.def.name ≡ name) × (is_some t.hyper ≡ false)) i
table_further name k t ts (found.Hyper n) i = one_further k t ts n (λ t. (t.def.name ≡ name) × (is_some t.hyper ≡ true)) i
table_further name k t ts (found.View n) i = tt

table_in_front : (name : List ℕ) (k : ℕ) (t : TableInfo) (ts : List TableInfo) → t.def.name ≡ name → TableIsThere name k (t ∷ ts) (table_kind t k)
table_in_front name k t ts e = elim (is_some t.hyper) as (λ b. is_some t.hyper ≡ b → TableIsThere name k (t ∷ ts) (if b then found.Hyper k else found.Plain k)) [
  | true ↦ λ h. in_front k t ts (λ t. (t.def.name ≡ name) × (is_some t.hyper ≡ true)) (e, h)
  | false ↦ λ h. in_front k t ts (λ t. (t.def.name ≡ name) × (is_some t.hyper ≡ false)) (e, h)
] refl

table_is_there : (name : List ℕ) (k : ℕ) (ts : List TableInfo) → TableIsThere name k ts (table_from name k ts)
table_is_there name k [] = tt
table_is_there name k (t ∷ ts) = elim (same_name t.def.name name) as (λ b. same_name t.def.name name ≡ b → TableIsThere name k (t ∷ ts) (if b then table_kind t k else table_from name (k + 1) ts)) [
  | true ↦ λ e. table_in_front name k t ts (same_text t.def.name name (sym e))
  | false ↦ λ _. table_further name k t ts (table_from name (k + 1) ts) (table_is_there name (k + 1) ts)
] refl

-- what is found among aggregates counted from k
abbrev ViewIsThere : List ℕ → ℕ → List ViewDef → Found → Type 0
ViewIsThere name k vs found.None = Unit {0}
ViewIsThere name k vs (found.Plain n) = Unit {0}
ViewIsThere name k vs (found.Hyper n) = Unit {0}
ViewIsThere name k vs (found.View n) = IsNumbered k vs n (λ v. v.name ≡ name)

view_further : (name : List ℕ) (k : ℕ) (v : ViewDef) (vs : List ViewDef) (f : Found) → ViewIsThere name (k + 1) vs f → ViewIsThere name k (v ∷ vs) f
view_further name k v vs found.None i = tt
view_further name k v vs (found.Plain n) i = tt
view_further name k v vs (found.Hyper n) i = tt
view_further name k v vs (found.View n) i = one_further k v vs n (λ v. v.name ≡ name) i

view_is_there : (name : List ℕ) (k : ℕ) (vs : List ViewDef) → ViewIsThere name k vs (view_from name k vs)
view_is_there name k [] = tt
view_is_there name k (v ∷ vs) = elim (same_name v.name name) as (λ b. same_name v.name name ≡ b → ViewIsThere name k (v ∷ vs) (if b then found.View k else view_from name (k + 1) vs)) [
  | true ↦ λ e. in_front k v vs (λ v. v.name ≡ name) (same_text v.name name (sym e))
  | false ↦ λ _. view_further name k v vs (view_from name (k + 1) vs) (view_is_there name (k + 1) vs)
] refl

-- what is found as a table is a table, and what is found as an aggregate is an aggregate
abbrev IsTable : Found → Type 0
IsTable found.None = Unit {0}
IsTable (found.Plain n) = Unit {0}
IsTable (found.Hyper n) = Unit {0}
IsTable (found.View n) = ⊥

abbrev IsView : Found → Type 0
IsView found.None = Unit {0}
IsView (found.Plain n) = ⊥
IsView (found.Hyper n) = ⊥
IsView (found.View n) = Unit {0}

kind_is_table : (t : TableInfo) (k : ℕ) → IsTable (table_kind t k)
kind_is_table t k = elim (is_some t.hyper) as (λ b. IsTable (if b then found.Hyper k else found.Plain k)) [ true ↦ tt | false ↦ tt ]

from_is_table : (name : List ℕ) (k : ℕ) (ts : List TableInfo) → IsTable (table_from name k ts)
from_is_table name k [] = tt
from_is_table name k (t ∷ ts) = elim (same_name t.def.name name) as (λ b. IsTable (if b then table_kind t k else table_from name (k + 1) ts)) [
  | true ↦ kind_is_table t k
  | false ↦ from_is_table name (k + 1) ts
]

from_is_view : (name : List ℕ) (k : ℕ) (vs : List ViewDef) → IsView (view_from name k vs)
from_is_view name k [] = tt
from_is_view name k (v ∷ vs) = elim (same_name v.name name) as (λ b. IsView (if b then found.View k else view_from name (k + 1) vs)) [
  | true ↦ tt
  | false ↦ from_is_view name (k + 1) vs
]

table_or_view : (roster : Roster) (name : List ℕ) (a b : Found) → IsTable a → IsView b → TableIsThere name 0 roster.tables a → ViewIsThere name 0 roster.views b → IsThere roster name (or_else a b)
table_or_view roster name found.None found.None ta vb ht hv = tt
table_or_view roster name found.None (found.Plain n) ta vb ht hv = absurd vb
table_or_view roster name found.None (found.Hyper n) ta vb ht hv = absurd vb
table_or_view roster name found.None (found.View n) ta vb ht hv = from_zero roster.views n (λ v. v.name ≡ name) hv
table_or_view roster name (found.Plain n) b ta vb ht hv = from_zero roster.tables n (λ t. (t.def.name ≡ name) × (is_some t.hyper ≡ false)) ht
table_or_view roster name (found.Hyper n) b ta vb ht hv = from_zero roster.tables n (λ t. (t.def.name ≡ name) × (is_some t.hyper ≡ true)) ht
table_or_view roster name (found.View n) b ta vb ht hv = absurd ta

-- what is found is in the roster
pub found_is_there : (roster : Roster) (name : List ℕ) → IsThere roster name (found_in roster name)
found_is_there roster name = table_or_view roster name (table_from name 0 roster.tables) (view_from name 0 roster.views)
    (from_is_table name 0 roster.tables) (from_is_view name 0 roster.views)
    (table_is_there name 0 roster.tables) (view_is_there name 0 roster.views)
