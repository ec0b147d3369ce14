-- The effect of a new aggregate, a cut and a finish on a state that represents a history.
use Rattle.std.proofs.Common.{◌≡◌, ℕ, suc, zero, ◌+◌, ◌<◌, Bool, true, false, not, ◌==◌, cond, List, [], ◌∷◌, ◌++◌, length, map, set, ℤ, Option, Some, None, sym, refl, ap, ◌∙◌, subst, arith}
use Rattle.std.specs.List.{slice_get}
use Rattle.std.specs.Option.{option_and_then}
use Rattle.std.proofs.lemmas.Bool.{true≢false, and_parts, eqb-true, eq-eqb}
use Rattle.ts_bucket.specs.Spans.{in_span}
use Rattle.ts_bucket.specs.WholeSpans.{whole_span}
use Rattle.ts_bucket.specs.declared.spans.Span.{Span}
use Rattle.mat_log.specs.Logs.{pending_at, last_at}
use Rattle.partial_agg.specs.declared.groups.Group.{Group}
use Rattle.ts_model.specs.declared.events.Event.TheVariants.{View, Cut, Built}
use Rattle.ts_model.specs.declared.tables.Hyper.{Hyper as HyperInfo}
use Rattle.ts_model.specs.declared.tables.TableInfo.{TableInfo}
use Rattle.ts_model.specs.declared.views.ViewDef.{ViewDef}
use Rattle.ts_model.specs.History.{History, ◌▸◌}
use Rattle.ts_model.specs.Roster.{roster, roster_after, of_table, of_hyper, view_of}
use Rattle.ts_model.specs.Sound.{sound, sound_at, view_fits, span_fits}
use Rattle.ts_model.specs.Jobs.{Fits}
use Rattle.ts_model.specs.Refreshes.{span_of_cut}
use Rattle.ts_model.proofs.SoundLaws.{view_width}
use Rattle.refresh_list.specs.Refreshes.{newly_cut, finished_at}
use Rattle.ts_model.specs.Allowed.{all_consistent}
use Rattle.refresh_list.specs.Refreshes.{RefreshesStand}
use Rattle.refresh_list.proofs.StepLaws.{cuts_stand, finishes_stand, others_stand}
use Rattle.engine_state.specs.Lists.{Each}
use Rattle.engine_state.specs.Tables.{TableValue, TableIs, table_at}
use Rattle.engine_state.specs.Views.{ViewValue, ViewStands}
use Rattle.engine_state.specs.Stands.{StateValue, StandsFor, ViewIs, TableAt, ViewAt}
use Rattle.engine_state.specs.Groups.{AreRenewed}
use Rattle.engine_state.specs.Notes.{IsFedTo, LogStands, noted_in}
use Rattle.engine_state.specs.Steps.{TableCut, FedAt, FedIf, ViewFinished}
use Rattle.engine_state.proofs.StateSteps.{all_before, event_consistent, tables_stay, view_is_still, state_there}
use Rattle.engine_state.proofs.OneLaws.{never_marked, cut_of_no_other}
use Rattle.engine_state.proofs.EachLaws.{each_pushed, each_at, each_set_at, each_joined, each_map_below, each_placed}
use Rattle.engine_state.proofs.TableSteps.{table_is_still, table_cut}
use Rattle.engine_state.proofs.ViewSteps.{view_stays, view_begins, view_cut, fit_ends, view_finished, view_unfinished}

-- ---- a new aggregate

past_end : {X : Type 0} (xs : List X) → slice_get xs (length xs) ≡ None
past_end [] = refl
past_end (x ∷ xs) = past_end xs

-- an event other than a finish that doesn't name the new aggregate leaves the existing ones unchanged
not_yet : (n m : ℕ) → n < m → not (m == n) ≡ true
not_yet n m l = elim (m == n) as (λ t. (m == n) ≡ t → not t ≡ true) [ true ↦ λ e. let is : m ≡ n = eqb-true m n e in absurd (omega arith) | false ↦ λ _. refl ] refl

-- the table of a new aggregate has a state
view_table : (h : History) (def : ViewDef) (infos : List TableInfo) (tables : List (Option TableValue)) → Each (TableAt h) infos tables → of_table (view_fits def) (slice_get infos def.table) ≡ true → (table : TableValue) × (table_at tables def.table ≡ Some table) × LogStands h table.log
view_table h def infos tables s e = by_info (slice_get infos def.table) refl e
  where
    by_info : (o : Option TableInfo) → slice_get infos def.table ≡ o → of_table (view_fits def) o ≡ true → (table : TableValue) × (table_at tables def.table ≡ Some table) × LogStands h table.log
    by_info None is e = absurd (true≢false (sym e))
    by_info (Some info) is e =
        let found = each_at (TableAt h) def.table infos tables info s is in
        by_kind info.hyper e found.0 found.1 found.2
      where
        by_kind : (o : Option HyperInfo) → of_hyper (view_fits def) info.def o ≡ true → (state : Option TableValue) → slice_get tables def.table ≡ Some state → TableIs h def.table o state → (table : TableValue) × (table_at tables def.table ≡ Some table) × LogStands h table.log
        by_kind None e state at s = absurd (true≢false (sym e))
        by_kind (Some hyper) e None at s = absurd s
        by_kind (Some hyper) e (Some table) at s = (table, ap (option_and_then (λ x. x)) at, s.log)

pub state_of_view : (h : History) (def : ViewDef) (s new : StateValue) (view : ViewValue) → all_consistent (h ▸ View def) ≡ true → StandsFor h s → view.table ≡ def.table → view.log.width ≡ def.fold.width → ((b : ℤ) → pending_at view.log b ≡ cond (in_span (whole_span def.fold.width) b) (Some (suc s.position)) None) → ((b : ℤ) → last_at view.log b ≡ None) → view.groups ≡ [] → view.mark ≡ None → new.position ≡ suc s.position → new.roster ≡ roster_after s.roster (View def) → new.tables ≡ s.tables → new.views ≡ s.views ++ (view ∷ []) → new.refreshes ≡ s.refreshes → StandsFor (h ▸ View def) new
state_of_view h def s new view ok st table width pending refreshed groups mark end relations tables views refreshes =
    let before = all_before h (View def) ok in
    let there = view_table h def (roster h).tables s.tables st.tables (and_parts (sound_at h (View def)) _ (and_parts (sound h (View def)) _ (event_consistent h (View def) ok)).0).0 in
    let none : view_of (roster h) (length (roster h).views) ≡ None = past_end (roster h).views in
    let made : ViewStands (h ▸ View def) (length (roster h).views) def there.0.log view =
    view_begins (length (roster h).views) def h def there.0.log view before none there.2 table width (λ b. pending b ∙ ap (λ p. cond (in_span (whole_span def.fold.width) b) (Some (suc p)) None) st.position) refreshed groups mark (never_marked (length (roster h).views) def h before none) in
    let place : 0 + length (roster h).views ≡ length (roster h).views = omega arith in
    let last : ViewAt (h ▸ View def) s.tables (0 + length (roster h).views) def view =
    subst (λ n. ViewAt (h ▸ View def) s.tables n def view) (sym place) (subst (λ o. ViewIs (h ▸ View def) (length (roster h).views) def o view) (sym there.1) made) in
    let still = each_map_below (ViewAt h s.tables) (ViewAt (h ▸ View def) s.tables) 0 (roster h).views s.views (λ n d v l. view_is_still n d h (View def) (table_at s.tables d.table) v before (not_yet n (length (roster h).views) (omega (arith, l)))) st.views in
    record {
      consistent = ok;
      position = end ∙ ap suc st.position;
      roster = relations ∙ ap (λ r. roster_after r (View def)) st.roster;
      tables = subst (Each (TableAt (h ▸ View def)) (roster h).tables) (sym tables) (tables_stay h (View def) (roster h).tables s.tables refl st.tables);
      views = subst (Each (ViewAt (h ▸ View def) new.tables) (roster (h ▸ View def)).views) (sym views)
          (subst (λ ts. Each (ViewAt (h ▸ View def) ts) (roster (h ▸ View def)).views (s.views ++ (view ∷ []))) (sym tables)
          (each_pushed (ViewAt (h ▸ View def) s.tables) 0 (roster h).views s.views def view still last));
      refreshes = subst (RefreshesStand (h ▸ View def)) (sym refreshes) (others_stand h (View def) s.refreshes refl st.refreshes);
    }

-- ---- a cut

table_at-this : (tables : List (Option TableValue)) (t : ℕ) (old new : TableValue) → table_at tables t ≡ Some old → table_at (set tables t (Some new)) t ≡ Some new
table_at-this [] t old new e = absurd (cc)
table_at-this (x ∷ xs) zero old new e = refl
table_at-this (x ∷ xs) (suc t) old new e = table_at-this xs t old new e

table_at-other : (tables : List (Option TableValue)) (t u : ℕ) (new : TableValue) → (u ≡ t → ⊥) → table_at (set tables t (Some new)) u ≡ table_at tables u
table_at-other [] t u new differs = refl
table_at-other (x ∷ xs) zero zero new differs = absurd (differs refl)
table_at-other (x ∷ xs) zero (suc u) new differs = refl
table_at-other (x ∷ xs) (suc t) zero new differs = refl
table_at-other (x ∷ xs) (suc t) (suc u) new differs = table_at-other xs t u new (λ is. differs (ap suc is))

module _ (h : History) (v : ℕ) (span : Span) (s : StateValue) (def : ViewDef) (old_table new_table : TableValue) (ok : all_consistent (h ▸ Cut v span) ≡ true) (st : StandsFor h s) (there : view_of (roster h) v ≡ Some def) (at : table_at s.tables def.table ≡ Some old_table) (cut : TableCut span.hi old_table new_table) where
  fits_here : span_fits span (Some def) ≡ true
  fits_here = ap (span_fits span) (sym there) ∙ (and_parts (sound_at h (Cut v span)) _ (and_parts (sound h (Cut v span)) _ (event_consistent h (Cut v span) ok)).0).0

  cut_table : (info : TableInfo) → slice_get (roster h).tables def.table ≡ Some info → TableAt (h ▸ Cut v span) def.table info (Some new_table)
  cut_table info is =
      let found = each_at (TableAt h) def.table (roster h).tables s.tables info st.tables is in
      let same : found.0 ≡ Some old_table = one_state found.1 (state_there s.tables def.table old_table at) in
      by_kind info.hyper (subst (TableIs h def.table info.hyper) same found.2)
    where
      one_state : {x y : Option TableValue} → slice_get s.tables def.table ≡ Some x → slice_get s.tables def.table ≡ Some y → x ≡ y
      one_state a b = cc

      by_kind : (o : Option HyperInfo) → TableIs h def.table o (Some old_table) → TableIs (h ▸ Cut v span) def.table o (Some new_table)
      by_kind None x = absurd x
      by_kind (Some hyper) x = table_cut h def.table hyper (Cut v span) span.hi old_table new_table refl cut x

  -- a cut changes the aggregates over the table, and no others
  cut_view : (n : ℕ) (d : ViewDef) (old new : ViewValue) → slice_get (roster h).views n ≡ Some d → ViewAt h s.tables n d old → FedAt def.table old_table n old new → ViewAt (h ▸ Cut v span) (set s.tables def.table (Some new_table)) n d new
  cut_view n d old new d_is stands is_fed = by_table (table_at s.tables d.table) refl stands
    where
      same_def : {x y : ViewDef} → view_of (roster h) v ≡ Some x → slice_get (roster h).views n ≡ Some y → v ≡ n → x ≡ y
      same_def a b c = cc

      one_table : {x y : TableValue} → table_at s.tables d.table ≡ Some x → table_at s.tables def.table ≡ Some y → d.table ≡ def.table → x ≡ y
      one_table a b c = cc

      by_table : (o : Option TableValue) → table_at s.tables d.table ≡ o → ViewIs h n d o old → ViewIs (h ▸ Cut v span) n d (table_at (set s.tables def.table (Some new_table)) d.table) new
      by_table None is x = absurd x
      by_table (Some table) is x = by_name (old.table == def.table) refl is_fed
        where
          by_name : (t : Bool) → (old.table == def.table) ≡ t → FedIf t old_table old new → ViewIs (h ▸ Cut v span) n d (table_at (set s.tables def.table (Some new_table)) d.table) new
          by_name true named f =
              let own : d.table ≡ def.table = sym x.table ∙ eqb-true old.table def.table named in
              let now : table_at (set s.tables def.table (Some new_table)) d.table ≡ Some new_table = ap (table_at (set s.tables def.table (Some new_table))) own ∙ table_at-this s.tables def.table old_table new_table at in
              let before : ViewStands h n d old_table.log old = subst (λ t. ViewStands h n d t.log old) (one_table is at own) x in
              let width = view_width h n d (all_before h (Cut v span) ok) d_is in
              let P : ViewDef → Type 0 = λ e. span_fits span (Some e) ≡ true in
              let fed_to = subst (λ w. IsFedTo w (noted_in old_table.log.entries) old.log new.log) x.width f.log in
              subst (λ o. ViewIs (h ▸ Cut v span) n d o new) (sym now)
              (view_cut n d h v span old_table.log new_table.log old new (all_before h (Cut v span) ok) (λ e. fit_ends span d width (subst P (same_def there d_is (eqb-true v n e)) fits_here)) cut.threshold cut.entries f.table f.groups f.mark fed_to before)
          by_name false named f =
              let apart : d.table ≡ def.table → ⊥ = λ e. true≢false (sym (eq-eqb old.table def.table (x.table ∙ e)) ∙ named) in
              let quiet : not (v == n) ≡ true = elim (v == n) as (λ t. (v == n) ≡ t → not t ≡ true) [ true ↦ λ e. absurd (apart (ap (λ e. e.table) (sym (same_def there d_is (eqb-true v n e))))) | false ↦ λ _. refl ] refl in
              let still = view_stays n d h (Cut v span) table.log old (all_before h (Cut v span) ok) quiet x in
              subst (λ o. ViewIs (h ▸ Cut v span) n d o new) (sym (table_at-other s.tables def.table d.table new_table apart ∙ is)) (subst (λ w. ViewStands (h ▸ Cut v span) n d table.log w) (sym f) still)

  pub state_of_cut : (new : StateValue) → new.position ≡ suc s.position → new.roster ≡ s.roster → new.tables ≡ set s.tables def.table (Some new_table) → Each (FedAt def.table old_table) s.views new.views → new.refreshes ≡ s.refreshes ++ (newly_cut (suc s.position) v span ∷ []) → StandsFor (h ▸ Cut v span) new
  state_of_cut new end relations tables views refreshes = record {
    consistent = ok;
    position = end ∙ ap suc st.position;
    roster = relations ∙ st.roster;
    tables = subst (Each (TableAt (h ▸ Cut v span)) (roster h).tables) (sym tables)
        (each_set_at (TableAt h) (TableAt (h ▸ Cut v span)) def.table (roster h).tables s.tables (Some new_table) (λ j info o differs. table_is_still h j (Cut v span) info.hyper o refl) cut_table st.tables);
    views = subst (λ ts. Each (ViewAt (h ▸ Cut v span) ts) (roster h).views new.views) (sym tables)
        (each_joined (λ n d old. (slice_get (roster h).views n ≡ Some d) × ViewAt h s.tables n d old) (FedAt def.table old_table) (ViewAt (h ▸ Cut v span) (set s.tables def.table (Some new_table))) (roster h).views s.views new.views
        (λ n d old now placed f. cut_view n d old now placed.0 placed.1 f) (each_placed (ViewAt h s.tables) (roster h).views s.views st.views) views);
    refreshes = subst (RefreshesStand (h ▸ Cut v span)) (sym (refreshes ∙ ap (λ p. s.refreshes ++ (newly_cut (suc p) v span ∷ [])) st.position)) (cuts_stand h v span s.refreshes st.refreshes);
  }

-- ---- a finish

view_is_unfinished : (n : ℕ) (def : ViewDef) (h : History) (cut snap : ℕ) (o : Option TableValue) (view : ViewValue) → all_consistent h ≡ true → span_of_cut n h cut ≡ None → ViewIs h n def o view → ViewIs (h ▸ Built cut snap) n def o view
view_is_unfinished n def h cut snap None view ok other x = absurd x
view_is_unfinished n def h cut snap (Some table) view ok other x = view_unfinished n def h cut snap table.log view ok other x

pub state_of_finish : (h : History) (cut snap n : ℕ) (s new : StateValue) (def : ViewDef) (span : Span) (spans : List Span) (groups : List Group) (top : Option ℤ) (old_view new_view : ViewValue) (renewed : List Span) (put : List Group) → all_consistent (h ▸ Built cut snap) ≡ true → StandsFor h s → view_of (roster h) n ≡ Some def → Fits n def h cut snap span spans groups top → slice_get s.views n ≡ Some old_view → ViewFinished span snap top renewed put old_view new_view → AreRenewed n def h snap spans groups renewed put → new.position ≡ suc s.position → new.roster ≡ s.roster → new.tables ≡ s.tables → new.views ≡ set s.views n new_view → new.refreshes ≡ map (finished_at cut (suc s.position)) s.refreshes → StandsFor (h ▸ Built cut snap) new
state_of_finish h cut snap n s new def span spans groups top old_view new_view renewed put ok st there f old_is done renews end relations tables views refreshes =
    let before = all_before h (Built cut snap) ok in
    record {
      consistent = ok;
      position = end ∙ ap suc st.position;
      roster = relations ∙ st.roster;
      tables = subst (Each (TableAt (h ▸ Built cut snap)) (roster h).tables) (sym tables) (tables_stay h (Built cut snap) (roster h).tables s.tables refl st.tables);
      views = subst (Each (ViewAt (h ▸ Built cut snap) new.tables) (roster h).views) (sym views)
          (subst (λ ts. Each (ViewAt (h ▸ Built cut snap) ts) (roster h).views (set s.views n new_view)) (sym tables)
          (each_set_at (ViewAt h s.tables) (ViewAt (h ▸ Built cut snap) s.tables) n (roster h).views s.views new_view
          (λ m d view differs x. view_is_unfinished m d h cut snap (table_at s.tables d.table) view before (cut_of_no_other n m h cut span before f.cut_is differs) x)
          (λ d is. this before d is) st.views));
      refreshes = subst (RefreshesStand (h ▸ Built cut snap)) (sym (refreshes ∙ ap (λ p. map (finished_at cut (suc p)) s.refreshes) st.position)) (finishes_stand h cut snap s.refreshes st.refreshes);
    }
  where
    one_def : {x y : ViewDef} → view_of (roster h) n ≡ Some x → slice_get (roster h).views n ≡ Some y → x ≡ y
    one_def a b = cc

    one_view : {x y : ViewValue} → slice_get s.views n ≡ Some x → slice_get s.views n ≡ Some y → x ≡ y
    one_view a b = cc

    by_table : all_consistent h ≡ true → (o : Option TableValue) → ViewIs h n def o old_view → ViewIs (h ▸ Built cut snap) n def o new_view
    by_table before None x = absurd x
    by_table before (Some table) x = view_finished n def h cut snap span spans groups top table.log old_view new_view renewed put before there f done.table done.width done.pending done.refreshed done.mark renews done.groups x

    this : all_consistent h ≡ true → (d : ViewDef) → slice_get (roster h).views n ≡ Some d → ViewAt (h ▸ Built cut snap) s.tables n d new_view
    this before d is =
        let found = each_at (ViewAt h s.tables) n (roster h).views s.views def st.views there in
        let old : ViewAt h s.tables n def old_view = subst (ViewAt h s.tables n def) (one_view found.1 old_is) found.2 in
        subst (λ e. ViewAt (h ▸ Built cut snap) s.tables n e new_view) (one_def there is) (by_table before (table_at s.tables def.table) old)
