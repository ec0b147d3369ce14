-- A statement's names refer to the same relations as a history grows, and the statement requests the same.
use Rattle.std.proofs.Common.{◌≡◌, ◌∙◌, refl, sym, ap, subst, ℕ, zero, suc, ◌+◌, Bool, true, false, cond, not, List, [], ◌∷◌, ◌++◌, Option, Some, None, is_some, inl, inr}
use Rattle.std.specs.Prelude.{◌⊎◌, nat_lt, length}
use Rattle.std.proofs.lemmas.Bool.{and_parts, not-true}
use Rattle.std.proofs.lemmas.Option.{get_or_from_slice_get}
use Rattle.std.proofs.lemmas.Slice.Eq.{bytes_eq-Decides}
use Rattle.ts_model.specs.declared.events.Event.{Event}
use Rattle.ts_model.specs.declared.events.Event.TheVariants.{Table, Hyper, View, Mode, Commit, Cut, Built}
use Rattle.ts_model.specs.declared.rosters.Roster.{Roster}
use Rattle.ts_model.specs.declared.tables.Hyper.{Hyper as HyperInfo}
use Rattle.ts_model.specs.declared.tables.TableDef.{TableDef}
use Rattle.ts_model.specs.declared.tables.TableInfo.{TableInfo}
use Rattle.ts_model.specs.declared.views.ViewDef.{ViewDef}
use Rattle.ts_model.specs.History.{History, ◌▸◌, Begins, same, further}
use Rattle.ts_model.specs.Roster.{change_at, made_hyper, set_only, roster, roster_after, same_name, is_taken as name_is_taken}
use Rattle.ts_model.specs.Allowed.{all_allowed, allowed}
use Rattle.ts_model.specs.Laws.{KeepsHyper}
use Rattle.ts_model.specs.Limits.{most_relations}
use Rattle.ts_model.specs.Sound.{sound}
use Rattle.ts_model.specs.Timely.{timely_at}
use Rattle.ts_model.proofs.RosterLaws.{relations_stay}
use Rattle.ts_model.proofs.AllowedLaws.{consistent_next}
use Rattle.ts_model.proofs.SoundLaws.{timely_in_roster}
use Rattle.ts_catalog.specs.Relations.{found_in, or_else, table_from, table_kind, view_from}
use Rattle.ts_catalog.specs.declared.relations.Found.{Found}
use Rattle.ts_catalog.specs.declared.relations.Found.TheVariants as found
use Rattle.stmt_check.specs.Check.{no_table, table_at}
use Rattle.stmt_check.specs.Refusals.{finds_nothing}
use Rattle.stmt_check.proofs.FoundLaws.{IsHyper, RelationAt, Stands, name_is_free, relation_at}
use Rattle.stmt_check.proofs.ReadyLaws.{nothing_found}

-- ---- tables by their names

-- the first table with a name stays the first, and a hypertable stays one
abbrev pub TableStays : Found → Found → Type 0
TableStays found.None f = Unit {0}
TableStays (found.Plain n) f = (f ≡ found.Plain n) ⊎ (f ≡ found.Hyper n)
TableStays (found.Hyper n) f = f ≡ found.Hyper n
TableStays (found.View n) f = f ≡ found.View n

table_itself : (f : Found) → TableStays f f
table_itself found.None = tt
table_itself (found.Plain n) = inl refl
table_itself (found.Hyper n) = refl
table_itself (found.View n) = refl

table_trans : (a b c : Found) → TableStays a b → TableStays b c → TableStays a c
table_trans found.None b c s t = tt
table_trans (found.Plain n) b c (inl e) t = subst (λ x. TableStays x c) e t
table_trans (found.Plain n) b c (inr e) t = inr (subst (λ x. TableStays x c) e t)
table_trans (found.Hyper n) b c s t = subst (λ x. TableStays x c) s t
table_trans (found.View n) b c s t = subst (λ x. TableStays x c) s t

table_more : (name : List ℕ) (k : ℕ) (ts us : List TableInfo) → TableStays (table_from name k ts) (table_from name k (ts ++ us))
table_more name k [] us = tt
table_more name k (t ∷ ts) us =
    elim (same_name t.def.name name) as (λ b. TableStays (cond b (table_kind t k) (table_from name (k + 1) ts)) (cond b (table_kind t k) (table_from name (k + 1) (ts ++ us)))) [
      | true ↦ table_itself (table_kind t k)
      | false ↦ table_more name (k + 1) ts us
    ]

kind_made : (hyper : HyperInfo) (t : TableInfo) (k : ℕ) → TableStays (table_kind t k) (found.Hyper k)
kind_made hyper t k = elim (is_some t.hyper) as (λ b. TableStays (cond b (found.Hyper k) (found.Plain k)) (found.Hyper k)) [ true ↦ refl | false ↦ inr refl ]

table_changed : (name : List ℕ) (k : ℕ) (ts : List TableInfo) (i : ℕ) (hyper : HyperInfo) → TableStays (table_from name k ts) (table_from name k (change_at ts i (made_hyper hyper)))
table_changed name k [] i hyper = tt
table_changed name k (t ∷ ts) zero hyper =
    elim (same_name t.def.name name) as (λ b. TableStays (cond b (table_kind t k) (table_from name (k + 1) ts)) (cond b (found.Hyper k) (table_from name (k + 1) ts))) [
      | true ↦ kind_made hyper t k
      | false ↦ table_itself (table_from name (k + 1) ts)
    ]
table_changed name k (t ∷ ts) (suc i) hyper =
    elim (same_name t.def.name name) as (λ b. TableStays (cond b (table_kind t k) (table_from name (k + 1) ts)) (cond b (table_kind t k) (table_from name (k + 1) (change_at ts i (made_hyper hyper))))) [
      | true ↦ table_itself (table_kind t k)
      | false ↦ table_changed name (k + 1) ts i hyper
    ]

table_after : (name : List ℕ) (r : Roster) (e : Event) → TableStays (table_from name 0 r.tables) (table_from name 0 (roster_after r e).tables)
table_after name r (Table def) = table_more name 0 r.tables (record { def = def; hyper = None } ∷ [])
table_after name r (Hyper t hyper) = table_changed name 0 r.tables t hyper
table_after name r (View def) = table_itself (table_from name 0 r.tables)
table_after name r (Mode v only) = table_itself (table_from name 0 r.tables)
table_after name r (Commit ops) = table_itself (table_from name 0 r.tables)
table_after name r (Cut v span) = table_itself (table_from name 0 r.tables)
table_after name r (Built cut snap) = table_itself (table_from name 0 r.tables)

table_stays : {g h : History} (name : List ℕ) → Begins g h → TableStays (table_from name 0 (roster g).tables) (table_from name 0 (roster h).tables)
table_stays {g} name same = table_itself (table_from name 0 (roster g).tables)
table_stays {g} name (further {h} {e} b) = table_trans (table_from name 0 (roster g).tables) (table_from name 0 (roster h).tables) (table_from name 0 (roster (h ▸ e)).tables) (table_stays name b) (table_after name (roster h) e)

-- ---- aggregates by their names

-- the first aggregate with a name stays the first
abbrev pub ViewStays : Found → Found → Type 0
ViewStays found.None f = Unit {0}
ViewStays (found.Plain n) f = f ≡ found.Plain n
ViewStays (found.Hyper n) f = f ≡ found.Hyper n
ViewStays (found.View n) f = f ≡ found.View n

view_itself : (f : Found) → ViewStays f f
view_itself found.None = tt
view_itself (found.Plain n) = refl
view_itself (found.Hyper n) = refl
view_itself (found.View n) = refl

view_more : (name : List ℕ) (k : ℕ) (vs us : List ViewDef) → ViewStays (view_from name k vs) (view_from name k (vs ++ us))
view_more name k [] us = tt
view_more name k (v ∷ vs) us =
    elim (same_name v.name name) as (λ b. ViewStays (cond b (found.View k) (view_from name (k + 1) vs)) (cond b (found.View k) (view_from name (k + 1) (vs ++ us)))) [ true ↦ refl | false ↦ view_more name (k + 1) vs us ]

-- its mode isn't part of its name
view_changed : (name : List ℕ) (k : ℕ) (vs : List ViewDef) (i : ℕ) (only : Bool) → view_from name k (change_at vs i (set_only only)) ≡ view_from name k vs
view_changed name k [] i only = refl
view_changed name k (v ∷ vs) zero only = refl
view_changed name k (v ∷ vs) (suc i) only = ap (λ f. cond (same_name v.name name) (found.View k) f) (view_changed name (k + 1) vs i only)

-- ---- what is found

-- what a table is found as comes first
table_first : (a b : Found) (n : ℕ) → or_else a b ≡ found.Hyper n → (b ≡ found.Hyper n → ⊥) → a ≡ found.Hyper n
table_first found.None b n e other = absurd (other e)
table_first (found.Plain m) b n e other = e
table_first (found.Hyper m) b n e other = e
table_first (found.View m) b n e other = e

plain_first : (a b : Found) (n : ℕ) → or_else a b ≡ found.Plain n → (b ≡ found.Plain n → ⊥) → a ≡ found.Plain n
plain_first found.None b n e other = absurd (other e)
plain_first (found.Plain m) b n e other = e
plain_first (found.Hyper m) b n e other = e
plain_first (found.View m) b n e other = e

-- an aggregate is found only as an aggregate
no_hyper : (name : List ℕ) (k : ℕ) (vs : List ViewDef) (n : ℕ) → view_from name k vs ≡ found.Hyper n → ⊥
no_hyper name k [] n e = absurd cc
no_hyper name k (v ∷ vs) n e = elim (same_name v.name name) as (λ b. cond b (found.View k) (view_from name (k + 1) vs) ≡ found.Hyper n → ⊥) [ true ↦ λ f. absurd cc | false ↦ λ f. no_hyper name (k + 1) vs n f ] e

no_plain : (name : List ℕ) (k : ℕ) (vs : List ViewDef) (n : ℕ) → view_from name k vs ≡ found.Plain n → ⊥
no_plain name k [] n e = absurd cc
no_plain name k (v ∷ vs) n e = elim (same_name v.name name) as (λ b. cond b (found.View k) (view_from name (k + 1) vs) ≡ found.Plain n → ⊥) [ true ↦ λ f. absurd cc | false ↦ λ f. no_plain name (k + 1) vs n f ] e

-- a table isn't found as an aggregate
no_view : (name : List ℕ) (k : ℕ) (ts : List TableInfo) (n : ℕ) → table_from name k ts ≡ found.View n → ⊥
no_view name k [] n e = absurd cc
no_view name k (t ∷ ts) n e =
    elim (same_name t.def.name name) as (λ b. cond b (table_kind t k) (table_from name (k + 1) ts) ≡ found.View n → ⊥) [
      | true ↦ λ f. kind (is_some t.hyper) f
      | false ↦ λ f. no_view name (k + 1) ts n f
    ] e
  where
    kind : (b : Bool) → cond b (found.Hyper k) (found.Plain k) ≡ found.View n → ⊥
    kind true f = absurd cc
    kind false f = absurd cc

or_hyper : (a b : Found) (n : ℕ) → a ≡ found.Hyper n → or_else a b ≡ found.Hyper n
or_hyper a b n e = ap (λ x. or_else x b) e

or_plain : (a b : Found) (n : ℕ) → a ≡ found.Plain n → or_else a b ≡ found.Plain n
or_plain a b n e = ap (λ x. or_else x b) e

pub hyper_stays : {g h : History} (name : List ℕ) (n : ℕ) → Begins g h → found_in (roster g) name ≡ found.Hyper n → found_in (roster h) name ≡ found.Hyper n
hyper_stays {g} {h} name n b e =
    let T = table_from name 0 (roster g).tables in
    let first : T ≡ found.Hyper n = table_first T (view_from name 0 (roster g).views) n e (no_hyper name 0 (roster g).views n) in
    or_hyper (table_from name 0 (roster h).tables) (view_from name 0 (roster h).views) n (subst (λ x. TableStays x (table_from name 0 (roster h).tables)) first (table_stays name b))

pub plain_stays : {g h : History} (name : List ℕ) (n : ℕ) → Begins g h → found_in (roster g) name ≡ found.Plain n → (found_in (roster h) name ≡ found.Plain n) ⊎ (found_in (roster h) name ≡ found.Hyper n)
plain_stays {g} {h} name n b e =
    let T = table_from name 0 (roster g).tables in
    let U = table_from name 0 (roster h).tables in
    let V = view_from name 0 (roster h).views in
    let first : T ≡ found.Plain n = plain_first T (view_from name 0 (roster g).views) n e (no_plain name 0 (roster g).views n) in
    either U V n (subst (λ x. TableStays x U) first (table_stays name b))
  where
    either : (a b : Found) (n : ℕ) → (a ≡ found.Plain n) ⊎ (a ≡ found.Hyper n) → (or_else a b ≡ found.Plain n) ⊎ (or_else a b ≡ found.Hyper n)
    either a b n (inl e) = inl (or_plain a b n e)
    either a b n (inr e) = inr (or_hyper a b n e)

-- ---- names of aggregates stay free of tables

view_parts : (a b : Found) (n : ℕ) → or_else a b ≡ found.View n → (a ≡ found.View n → ⊥) → (a ≡ found.None) × (b ≡ found.View n)
view_parts found.None b n e other = (refl, e)
view_parts (found.Plain m) b n e other = absurd cc
view_parts (found.Hyper m) b n e other = absurd cc
view_parts (found.View m) b n e other = absurd (other e)

-- a table with another name doesn't change that nothing is found
other_table : (name : List ℕ) (k : ℕ) (ts : List TableInfo) (def : TableDef) → same_name def.name name ≡ false → table_from name k ts ≡ found.None → table_from name k (ts ++ record { def = def; hyper = None } ∷ []) ≡ found.None
other_table name k [] def other e = ap (λ b. cond b (found.Plain k) found.None) other
other_table name k (t ∷ ts) def other e =
    elim (same_name t.def.name name) as (λ b. cond b (table_kind t k) (table_from name (k + 1) ts) ≡ found.None → cond b (table_kind t k) (table_from name (k + 1) (ts ++ record { def = def; hyper = None } ∷ [])) ≡ found.None) [
      | true ↦ λ f. f
      | false ↦ λ f. other_table name (k + 1) ts def other f
    ] e

-- and neither does a hypertable
none_changed : (name : List ℕ) (k : ℕ) (ts : List TableInfo) (i : ℕ) (hyper : HyperInfo) → table_from name k ts ≡ found.None → table_from name k (change_at ts i (made_hyper hyper)) ≡ found.None
none_changed name k [] i hyper e = refl
none_changed name k (t ∷ ts) zero hyper e =
    elim (same_name t.def.name name) as (λ b. cond b (table_kind t k) (table_from name (k + 1) ts) ≡ found.None → cond b (found.Hyper k) (table_from name (k + 1) ts) ≡ found.None) [
      | true ↦ λ f. absurd (kind (is_some t.hyper) f)
      | false ↦ λ f. f
    ] e
  where
    kind : (b : Bool) → cond b (found.Hyper k) (found.Plain k) ≡ found.None → ⊥
    kind true f = absurd cc
    kind false f = absurd cc
none_changed name k (t ∷ ts) (suc i) hyper e =
    elim (same_name t.def.name name) as (λ b. cond b (table_kind t k) (table_from name (k + 1) ts) ≡ found.None → cond b (table_kind t k) (table_from name (k + 1) (change_at ts i (made_hyper hyper))) ≡ found.None) [
      | true ↦ λ f. f
      | false ↦ λ f. none_changed name (k + 1) ts i hyper f
    ] e

-- a name that is found is taken
pub found_is_taken : (r : Roster) (name : List ℕ) → name_is_taken r name ≡ not (finds_nothing (found_in r name))
found_is_taken r name =
    elim (name_is_taken r name) as (λ b. name_is_taken r name ≡ b → b ≡ not (finds_nothing (found_in r name))) [
      | true ↦ λ e. taken (finds_nothing (found_in r name)) refl e
      | false ↦ λ e. ap (λ f. not (finds_nothing f)) (sym (nothing_found r name e))
    ] refl
  where
    taken : (b : Bool) → finds_nothing (found_in r name) ≡ b → name_is_taken r name ≡ true → true ≡ not b
    taken true f e = sym (sym (name_is_free r name f) ∙ e)
    taken false f e = refl

-- the name of a table that comes next isn't that of an aggregate
another_name : (h : History) (def : TableDef) (name : List ℕ) (n : ℕ) → allowed h (Table def) ≡ true → found_in (roster h) name ≡ found.View n → same_name def.name name ≡ false
another_name h def name n ok e =
    elim (same_name def.name name) as (λ b. same_name def.name name ≡ b → b ≡ false) [
      | true ↦ λ is.
          let one : def.name ≡ name = (bytes_eq-Decides def.name name).0 is in
          let free : name_is_taken (roster h) def.name ≡ false = not-true _ (and_parts (not (name_is_taken (roster h) def.name)) (nat_lt (length (roster h).tables) most_relations) (timely_in_roster h (Table def) (and_parts (sound h (Table def)) (timely_at h (Table def)) (consistent_next h (Table def) ok)).1)).0 in
          let taken : name_is_taken (roster h) name ≡ true = found_is_taken (roster h) name ∙ ap (λ f. not (finds_nothing f)) e in
          sym taken ∙ ap (name_is_taken (roster h)) (sym one) ∙ free
      | false ↦ λ is. refl
    ] refl

view_after : (h : History) (x : Event) (name : List ℕ) (n : ℕ) → allowed h x ≡ true → found_in (roster h) name ≡ found.View n → found_in (roster (h ▸ x)) name ≡ found.View n
view_after h (Table def) name n ok e =
    let parts = view_parts (table_from name 0 (roster h).tables) (view_from name 0 (roster h).views) n e (no_view name 0 (roster h).tables n) in
    ap (λ t. or_else t (view_from name 0 (roster h).views)) (other_table name 0 (roster h).tables def (another_name h def name n ok e) parts.0) ∙ parts.1
view_after h (Hyper t hyper) name n ok e =
    let parts = view_parts (table_from name 0 (roster h).tables) (view_from name 0 (roster h).views) n e (no_view name 0 (roster h).tables n) in
    ap (λ f. or_else f (view_from name 0 (roster h).views)) (none_changed name 0 (roster h).tables t hyper parts.0) ∙ parts.1
view_after h (View def) name n ok e =
    let parts = view_parts (table_from name 0 (roster h).tables) (view_from name 0 (roster h).views) n e (no_view name 0 (roster h).tables n) in
    let more = view_from name 0 ((roster h).views ++ def ∷ []) in
    ap (λ t. or_else t more) parts.0 ∙ subst (λ f. ViewStays f more) parts.1 (view_more name 0 (roster h).views (def ∷ []))
view_after h (Mode v only) name n ok e = ap (λ f. or_else (table_from name 0 (roster h).tables) f) (view_changed name 0 (roster h).views v only) ∙ e
view_after h (Commit ops) name n ok e = e
view_after h (Cut v span) name n ok e = e
view_after h (Built cut snap) name n ok e = e

pub view_stays : {g h : History} (name : List ℕ) (n : ℕ) → Begins g h → all_allowed h ≡ true → found_in (roster g) name ≡ found.View n → found_in (roster h) name ≡ found.View n
view_stays name n same ok e = e
view_stays name n (further {h} {e = x} b) ok e =
    let parts = and_parts (all_allowed h) (allowed h x) ok in
    view_after h x name n parts.1 (view_stays name n b parts.0 e)

-- ---- what a table is

-- a table with the same definition and the same hypertable is the same
same_table : (a b : TableInfo) → b.def ≡ a.def → b.hyper ≡ a.hyper → b ≡ a
same_table a b d h =
    let whole : record { def = b.def; hyper = b.hyper } ≡ a = rw (d, h) refl in
    whole

kept_hyper : (was now : Option HyperInfo) → is_some was ≡ true → KeepsHyper was now → now ≡ was
kept_hyper None now is k = absurd cc
kept_hyper (Some hyper) now is k = k

stands_hyper : (r : Roster) (name : List ℕ) (n : ℕ) → found_in r name ≡ found.Hyper n → Stands r.tables n (IsHyper true)
stands_hyper r name n e = subst (λ f. RelationAt r f) e (relation_at r name)

stands_plain : (r : Roster) (name : List ℕ) (n : ℕ) → found_in r name ≡ found.Plain n → Stands r.tables n (IsHyper false)
stands_plain r name n e = subst (λ f. RelationAt r f) e (relation_at r name)

-- a hypertable stays as it is
pub hyper_info : {g h : History} (name : List ℕ) (n : ℕ) → Begins g h → found_in (roster g) name ≡ found.Hyper n → table_at (roster h) (found.Hyper n) ≡ table_at (roster g) (found.Hyper n)
hyper_info {g} {h} name n b e =
    let was = stands_hyper (roster g) name n e in
    let kept = (relations_stay g h b).tables n was.item was.at in
    get_or_from_slice_get (roster h).tables n kept.info no_table kept.there
    ∙ same_table was.item kept.info kept.def (kept_hyper was.item.hyper kept.info.hyper was.is kept.hyper)
    ∙ sym (get_or_from_slice_get (roster g).tables n was.item no_table was.at)

-- a table keeps its definition
pub plain_def : {g h : History} (name : List ℕ) (n : ℕ) → Begins g h → found_in (roster g) name ≡ found.Plain n → (table_at (roster h) (found.Plain n)).def ≡ (table_at (roster g) (found.Plain n)).def
plain_def {g} {h} name n b e =
    let was = stands_plain (roster g) name n e in
    let kept = (relations_stay g h b).tables n was.item was.at in
    ap (λ t. t.def) (get_or_from_slice_get (roster h).tables n kept.info no_table kept.there)
    ∙ kept.def
    ∙ ap (λ t. t.def) (sym (get_or_from_slice_get (roster g).tables n was.item no_table was.at))
