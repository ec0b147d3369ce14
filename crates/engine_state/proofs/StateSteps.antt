-- The effect of each event on a state that represents a history.
use Rattle.std.proofs.Common.{◌≡◌, ℕ, suc, zero, Bool, true, false, List, [], ◌∷◌, ◌++◌, set, Option, Some, None, sym, refl, ap, ◌∙◌, subst}
use Rattle.std.specs.Prelude.{is_none, unwrap_or}
use Rattle.std.specs.List.{slice_get}
use Rattle.std.specs.Option.{option_and_then}
use Rattle.std.proofs.lemmas.Bool.{true≢false, and_parts}
use Rattle.ts_model.specs.declared.events.Event.{Event}
use Rattle.ts_model.specs.declared.events.Event.TheVariants.{Table, Hyper, Mode, Commit}
use Rattle.ts_model.specs.declared.events.Op.{Op}
use Rattle.ts_model.specs.declared.tables.Hyper.{Hyper as HyperInfo}
use Rattle.ts_model.specs.declared.tables.TableInfo.{TableInfo}
use Rattle.ts_model.specs.declared.tables.TableDef.{TableDef}
use Rattle.ts_model.specs.declared.views.ViewDef.{ViewDef}
use Rattle.ts_model.specs.History.{History, start, ◌▸◌, position}
use Rattle.ts_model.specs.Roster.{roster, no_relations, roster_after, hyper_of, table_of, made_hyper, set_only}
use Rattle.ts_model.specs.Sound.{sound}
use Rattle.ts_model.specs.Allowed.{all_consistent, consistent}
use Rattle.row_versions.specs.Laws.{is_commit}
use Rattle.coverage.specs.Laws.{is_quiet}
use Rattle.refresh_list.specs.Refreshes.{RefreshesStand}
use Rattle.refresh_list.proofs.StepLaws.{refreshes_begin, others_stand}
use Rattle.engine_state.specs.Lists.{Each}
use Rattle.engine_state.specs.Tables.{TableValue, TableStands, TableIs, table_at}
use Rattle.engine_state.specs.Views.{ViewValue}
use Rattle.engine_state.specs.Stands.{StateValue, StandsFor, ViewIs, TableAt, ViewAt}
use Rattle.engine_state.specs.Steps.{TableGoes, GoesIf}
use Rattle.engine_state.proofs.EachLaws.{each_map, each_pushed, each_at, each_of, each_changed_at, each_both_at, each_joined}
use Rattle.engine_state.proofs.TableSteps.{table_is_still, table_begins, table_goes_on, entries_are}
use Rattle.engine_state.proofs.ViewSteps.{view_stays, view_of_mode, view_commits}

-- ---- no event yet

pub state_begins : (s : StateValue) → s.position ≡ 0 → s.roster ≡ no_relations → s.tables ≡ [] → s.views ≡ [] → s.refreshes ≡ [] → StandsFor start s
state_begins s end relations tables views refreshes = record {
  consistent = refl;
  position = end;
  roster = relations;
  tables = subst (Each (TableAt start) []) (sym tables) tt;
  views = subst (Each (ViewAt start s.tables) []) (sym views) tt;
  refreshes = subst (RefreshesStand start) (sym refreshes) refreshes_begin;
}

-- ---- what stays

pub all_before : (h : History) (e : Event) → all_consistent (h ▸ e) ≡ true → all_consistent h ≡ true
all_before h e ok = (and_parts (all_consistent h) (consistent h e) ok).0

pub event_consistent : (h : History) (e : Event) → all_consistent (h ▸ e) ≡ true → consistent h e ≡ true
event_consistent h e ok = (and_parts (all_consistent h) (consistent h e) ok).1

pub tables_stay : (h : History) (e : Event) (infos : List TableInfo) (tables : List (Option TableValue)) → is_commit e ≡ false → Each (TableAt h) infos tables → Each (TableAt (h ▸ e)) infos tables
tables_stay h e infos tables quiet s = each_map (TableAt h) (TableAt (h ▸ e)) 0 infos tables (λ t info table. table_is_still h t e info.hyper table quiet) s

pub view_is_still : (n : ℕ) (def : ViewDef) (h : History) (e : Event) (o : Option TableValue) (view : ViewValue) → all_consistent h ≡ true → is_quiet n h e ≡ true → ViewIs h n def o view → ViewIs (h ▸ e) n def o view
view_is_still n def h e None view ok quiet s = absurd s
view_is_still n def h e (Some table) view ok quiet s = view_stays n def h e table.log view ok quiet s

views_stay : (h : History) (e : Event) (tables : List (Option TableValue)) (defs : List ViewDef) (views : List ViewValue) → all_consistent h ≡ true → ((n : ℕ) → is_quiet n h e ≡ true) → Each (ViewAt h tables) defs views → Each (ViewAt (h ▸ e) tables) defs views
views_stay h e tables defs views ok quiet s = each_map (ViewAt h tables) (ViewAt (h ▸ e) tables) 0 defs views (λ n def view. view_is_still n def h e (table_at tables def.table) view ok (quiet n)) s

-- an aggregate's state stays right if each existing table keeps its state
view_is_moved : (h : History) (n : ℕ) (def : ViewDef) (old new : Option TableValue) (view : ViewValue) → ((table : TableValue) → old ≡ Some table → new ≡ Some table) → ViewIs h n def old view → ViewIs h n def new view
view_is_moved h n def None new view same s = absurd s
view_is_moved h n def (Some table) new view same s = subst (λ o. ViewIs h n def o view) (sym (same table refl)) s

views_moved : (h : History) (old new : List (Option TableValue)) (defs : List ViewDef) (views : List ViewValue) → ((t : ℕ) (table : TableValue) → table_at old t ≡ Some table → table_at new t ≡ Some table) → Each (ViewAt h old) defs views → Each (ViewAt h new) defs views
views_moved h old new defs views same s = each_map (ViewAt h old) (ViewAt h new) 0 defs views (λ n def view. view_is_moved h n def (table_at old def.table) (table_at new def.table) view (same def.table)) s

-- ---- a table

table_at-pushed : (tables : List (Option TableValue)) (o : Option TableValue) (t : ℕ) (table : TableValue) → table_at tables t ≡ Some table → table_at (tables ++ (o ∷ [])) t ≡ Some table
table_at-pushed [] o t table e = absurd (cc)
table_at-pushed (x ∷ xs) o zero table e = e
table_at-pushed (x ∷ xs) o (suc t) table e = table_at-pushed xs o t table e

pub state_of_table : (h : History) (def : TableDef) (s new : StateValue) → all_consistent (h ▸ Table def) ≡ true → StandsFor h s → new.position ≡ suc s.position → new.roster ≡ roster_after s.roster (Table def) → new.tables ≡ s.tables ++ (None ∷ []) → new.views ≡ s.views → new.refreshes ≡ s.refreshes → StandsFor (h ▸ Table def) new
state_of_table h def s new ok st end relations tables views refreshes =
    let e = Table def in
    let before = all_before h (Table def) ok in
    let moved = views_moved (h ▸ Table def) s.tables (s.tables ++ (None ∷ [])) (roster h).views s.views (table_at-pushed s.tables None) (views_stay h (Table def) s.tables (roster h).views s.views before (λ n. refl) st.views) in
    record {
      consistent = ok;
      position = end ∙ ap suc st.position;
      roster = relations ∙ ap (λ r. roster_after r e) st.roster;
      tables = subst (Each (TableAt (h ▸ Table def)) (roster (h ▸ Table def)).tables) (sym tables)
          (each_pushed (TableAt (h ▸ Table def)) 0 (roster h).tables s.tables (record { def = def; hyper = None }) None (tables_stay h (Table def) (roster h).tables s.tables refl st.tables) tt);
      views = subst (λ vs. Each (ViewAt (h ▸ Table def) new.tables) (roster h).views vs) (sym views)
          (subst (λ ts. Each (ViewAt (h ▸ Table def) ts) (roster h).views s.views) (sym tables) moved);
      refreshes = subst (RefreshesStand (h ▸ Table def)) (sym refreshes) (others_stand h (Table def) s.refreshes refl st.refreshes);
    }

-- ---- a hypertable

table_at-set : (tables : List (Option TableValue)) (t u : ℕ) (new table : TableValue) → table_at tables t ≡ None → table_at tables u ≡ Some table → table_at (set tables t (Some new)) u ≡ Some table
table_at-set [] t u new table none e = absurd (cc)
table_at-set (x ∷ xs) zero zero new table none e = absurd (cc)
table_at-set (x ∷ xs) zero (suc u) new table none e = e
table_at-set (x ∷ xs) (suc t) zero new table none e = e
table_at-set (x ∷ xs) (suc t) (suc u) new table none e = table_at-set xs t u new table none e

-- a table that isn't a hypertable has no state
no_state : (h : History) (t : ℕ) (infos : List TableInfo) (tables : List (Option TableValue)) (info : TableInfo) → Each (TableAt h) infos tables → slice_get infos t ≡ Some info → info.hyper ≡ None → table_at tables t ≡ None
no_state h t infos tables info s is none =
    let found = each_at (TableAt h) t infos tables info s is in
    by_state (found.0) found.1 (subst (λ o. TableIs h t o found.0) none found.2)
  where
    by_state : (o : Option TableValue) → slice_get tables t ≡ Some o → TableIs h t None o → table_at tables t ≡ None
    by_state None at is = ap (λ x. option_and_then (λ o. o) x) at
    by_state (Some table) at is = absurd is

hyper_none : (o : Option HyperInfo) → is_none o ≡ true → o ≡ None
hyper_none None e = refl
hyper_none (Some hyper) e = absurd (true≢false (sym e))

pub state_of_hyper : (h : History) (t : ℕ) (hyper : HyperInfo) (s new : StateValue) (table : TableValue) → all_consistent (h ▸ Hyper t hyper) ≡ true → StandsFor h s → table.rows.interval ≡ hyper.interval → table.rows.versions ≡ [] → table.log.entries ≡ [] → new.position ≡ suc s.position → new.roster ≡ roster_after s.roster (Hyper t hyper) → new.tables ≡ set s.tables t (Some table) → new.views ≡ s.views → new.refreshes ≡ s.refreshes → StandsFor (h ▸ Hyper t hyper) new
state_of_hyper h t hyper s new table ok st interval versions entries end relations tables views refreshes =
    let before = all_before h (Hyper t hyper) ok in
    let none : hyper_of (roster h) t ≡ None = hyper_none (hyper_of (roster h) t) (and_parts (sound h (Hyper t hyper)) _ (event_consistent h (Hyper t hyper) ok)).1 in
    let fresh = table_begins h t hyper table before none interval versions entries in
    let kept = λ (u : ℕ) (x : TableValue) (e : table_at s.tables u ≡ Some x). table_at-set s.tables t u table x (gone none) e in
    record {
      consistent = ok;
      position = end ∙ ap suc st.position;
      roster = relations ∙ ap (λ r. roster_after r (Hyper t hyper)) st.roster;
      tables = subst (Each (TableAt (h ▸ Hyper t hyper)) (roster (h ▸ Hyper t hyper)).tables) (sym tables)
          (each_both_at (TableAt h) (TableAt (h ▸ Hyper t hyper)) t (roster h).tables s.tables (made_hyper hyper) (Some table)
          (λ j info o. table_is_still h j (Hyper t hyper) info.hyper o refl) (λ info is. made info (own none info is) fresh) st.tables);
      views = subst (λ vs. Each (ViewAt (h ▸ Hyper t hyper) new.tables) (roster h).views vs) (sym views)
          (subst (λ ts. Each (ViewAt (h ▸ Hyper t hyper) ts) (roster h).views s.views) (sym tables)
          (views_moved (h ▸ Hyper t hyper) s.tables (set s.tables t (Some table)) (roster h).views s.views kept (views_stay h (Hyper t hyper) s.tables (roster h).views s.views before (λ n. refl) st.views)));
      refreshes = subst (RefreshesStand (h ▸ Hyper t hyper)) (sym refreshes) (others_stand h (Hyper t hyper) s.refreshes refl st.refreshes);
    }
  where
    own : hyper_of (roster h) t ≡ None → (info : TableInfo) → slice_get (roster h).tables t ≡ Some info → info.hyper ≡ None
    own none info is = sym (ap (option_and_then (λ i. i.hyper)) is) ∙ none

    made : (info : TableInfo) → info.hyper ≡ None → TableStands (h ▸ Hyper t hyper) t hyper table → TableIs (h ▸ Hyper t hyper) t (made_hyper hyper info).hyper (Some table)
    made info is fresh = subst (λ o. TableStands (h ▸ Hyper t hyper) t (unwrap_or o hyper) table) (sym is) fresh

    gone : hyper_of (roster h) t ≡ None → table_at s.tables t ≡ None
    gone none = by_info (table_of (roster h) t) refl
      where
        by_info : (o : Option TableInfo) → table_of (roster h) t ≡ o → table_at s.tables t ≡ None
        by_info None is = by_state (slice_get s.tables t) refl
          where
            by_state : (o : Option (Option TableValue)) → slice_get s.tables t ≡ o → table_at s.tables t ≡ None
            by_state None at = ap (option_and_then (λ o. o)) at
            by_state (Some o) at = let found = each_of (TableAt h) t (roster h).tables s.tables o st.tables at in absurd (cc_none found.1 is)
              where
                cc_none : {x : TableInfo} → slice_get (roster h).tables t ≡ Some x → table_of (roster h) t ≡ None → ⊥
                cc_none a b = cc
        by_info (Some info) is = no_state h t (roster h).tables s.tables info st.tables is (own none info is)

-- ---- a mode

view_takes_mode : (n : ℕ) (def : ViewDef) (only : Bool) (h : History) (o : Option TableValue) (view : ViewValue) → ViewIs h n def o view → ViewIs h n (set_only only def) o view
view_takes_mode n def only h None view s = absurd s
view_takes_mode n def only h (Some table) view s = view_of_mode n def only h table.log view s

pub state_of_mode : (h : History) (v : ℕ) (only : Bool) (s new : StateValue) → all_consistent (h ▸ Mode v only) ≡ true → StandsFor h s → new.position ≡ suc s.position → new.roster ≡ roster_after s.roster (Mode v only) → new.tables ≡ s.tables → new.views ≡ s.views → new.refreshes ≡ s.refreshes → StandsFor (h ▸ Mode v only) new
state_of_mode h v only s new ok st end relations tables views refreshes =
    let before = all_before h (Mode v only) ok in
    record {
      consistent = ok;
      position = end ∙ ap suc st.position;
      roster = relations ∙ ap (λ r. roster_after r (Mode v only)) st.roster;
      tables = subst (Each (TableAt (h ▸ Mode v only)) (roster h).tables) (sym tables) (tables_stay h (Mode v only) (roster h).tables s.tables refl st.tables);
      views = subst (λ vs. Each (ViewAt (h ▸ Mode v only) new.tables) (roster (h ▸ Mode v only)).views vs) (sym views)
          (subst (λ ts. Each (ViewAt (h ▸ Mode v only) ts) (roster (h ▸ Mode v only)).views s.views) (sym tables)
          (each_changed_at (ViewAt h s.tables) (ViewAt (h ▸ Mode v only) s.tables) v (roster h).views s.views (set_only only)
          (λ n def view. view_is_still n def h (Mode v only) (table_at s.tables def.table) view before refl)
          (λ def view def_is view_is p. view_takes_mode v def only (h ▸ Mode v only) (table_at s.tables def.table) view (view_is_still v def h (Mode v only) (table_at s.tables def.table) view before refl p)) st.views));
      refreshes = subst (RefreshesStand (h ▸ Mode v only)) (sym refreshes) (others_stand h (Mode v only) s.refreshes refl st.refreshes);
    }

-- ---- a commit

pub state_there : (tables : List (Option TableValue)) (t : ℕ) (table : TableValue) → table_at tables t ≡ Some table → slice_get tables t ≡ Some (Some table)
state_there tables t table e = by_state (slice_get tables t) refl e
  where
    by_state : (o : Option (Option TableValue)) → slice_get tables t ≡ o → option_and_then (λ x. x) o ≡ Some table → slice_get tables t ≡ Some (Some table)
    by_state None at e = absurd (cc)
    by_state (Some o) at e = at ∙ ap Some e

-- a table with a state is a hypertable, and the state is that of this table
pub stands_there : (h : History) (infos : List TableInfo) (tables : List (Option TableValue)) (t : ℕ) (table : TableValue) → Each (TableAt h) infos tables → table_at tables t ≡ Some table → (hyper : HyperInfo) × TableStands h t hyper table
stands_there h infos tables t table s e =
    let found = each_of (TableAt h) t infos tables (Some table) s (state_there tables t table e) in
    by_kind found.0.hyper found.2
  where
    by_kind : (o : Option HyperInfo) → TableIs h t o (Some table) → (hyper : HyperInfo) × TableStands h t hyper table
    by_kind None s = absurd s
    by_kind (Some hyper) s = (hyper, s)

goes_there : (ops : List Op) (pos t : ℕ) (olds news : List (Option TableValue)) (old : TableValue) → Each (GoesIf ops pos) olds news → table_at olds t ≡ Some old → (new : TableValue) × (table_at news t ≡ Some new) × TableGoes ops pos t old new
goes_there ops pos t olds news old goes e =
    let found = each_at (GoesIf ops pos) t olds news (Some old) goes (state_there olds t old e) in
    by_state found.0 found.1 found.2
  where
    by_state : (o : Option TableValue) → slice_get news t ≡ Some o → GoesIf ops pos t (Some old) o → (new : TableValue) × (table_at news t ≡ Some new) × TableGoes ops pos t old new
    by_state None at goes = absurd goes
    by_state (Some new) at goes = (new, ap (option_and_then (λ x. x)) at, goes)

view_goes_on : (h : History) (ops : List Op) (infos : List TableInfo) (olds news : List (Option TableValue)) (n : ℕ) (def : ViewDef) (view : ViewValue) → all_consistent h ≡ true → Each (TableAt h) infos olds → Each (GoesIf ops (suc (position h))) olds news → ViewAt h olds n def view → ViewAt (h ▸ Commit ops) news n def view
view_goes_on h ops infos olds news n def view ok s goes v = by_table (table_at olds def.table) refl v
  where
    by_table : (o : Option TableValue) → table_at olds def.table ≡ o → ViewIs h n def o view → ViewIs (h ▸ Commit ops) n def (table_at news def.table) view
    by_table None at v = absurd v
    by_table (Some old) at v =
        let there = stands_there h infos olds def.table old s at in
        let next = goes_there ops (suc (position h)) def.table olds news old goes at in
        subst (λ o. ViewIs (h ▸ Commit ops) n def o view) (sym next.1)
        (view_commits n def h ops old.log next.0.log view ok next.2.threshold (entries_are h def.table ops old next.0 there.1.rows next.2) v)

pub state_of_commit : (h : History) (ops : List Op) (s new : StateValue) → all_consistent (h ▸ Commit ops) ≡ true → StandsFor h s → new.position ≡ suc s.position → new.roster ≡ s.roster → Each (GoesIf ops (suc s.position)) s.tables new.tables → new.views ≡ s.views → new.refreshes ≡ s.refreshes → StandsFor (h ▸ Commit ops) new
state_of_commit h ops s new ok st end relations goes views refreshes =
    let before = all_before h (Commit ops) ok in
    let on : Each (GoesIf ops (suc (position h))) s.tables new.tables = subst (λ p. Each (GoesIf ops (suc p)) s.tables new.tables) st.position goes in
    record {
      consistent = ok;
      position = end ∙ ap suc st.position;
      roster = relations ∙ st.roster;
      tables = each_joined (TableAt h) (GoesIf ops (suc (position h))) (TableAt (h ▸ Commit ops)) (roster h).tables s.tables new.tables (λ t info old now. table_goes_on h t ops info.hyper old now ok) st.tables on;
      views = subst (Each (ViewAt (h ▸ Commit ops) new.tables) (roster h).views) (sym views)
          (each_map (ViewAt h s.tables) (ViewAt (h ▸ Commit ops) new.tables) 0 (roster h).views s.views (λ n def view. view_goes_on h ops (roster h).tables s.tables new.tables n def view before st.tables on) st.views);
      refreshes = subst (RefreshesStand (h ▸ Commit ops)) (sym refreshes) (others_stand h (Commit ops) s.refreshes refl st.refreshes);
    }
