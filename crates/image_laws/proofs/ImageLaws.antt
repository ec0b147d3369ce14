-- An allowed history and its image are alike.
use Rattle.std.proofs.Common.{◌≡◌, ℕ, zero, suc, ◌+◌, ◌<◌, ◌≤◌, Bool, true, false, ◌&&◌, ◌||◌, not, cond, nat_lt, nat_le, ◌==◌, List, [], ◌∷◌, ◌++◌, map, filter, length, length-append, ℤ, Option, Some, None, ◌⊎◌, inl, inr, ⊎_elim, sym, refl, ap, ◌∙◌, subst, arith}
use Rattle.std.specs.Prelude.{is_some, unwrap_or, slice_get}
use Rattle.std.specs.List.{list_all, list_any}
use Rattle.std.specs.Ordering.{is_lt, nat_cmp}
use Rattle.std.proofs.lemmas.Bool.{true≢false, and_parts, and_from, and_left, and_right, cond-true, cond-false, lt-ltb, ltb-true, leb-true, eqb-true, eq-eqb, cases_Bool, cases_lt}
use Rattle.std.proofs.lemmas.Bool.Decides.{nat_tests}
use Rattle.std.proofs.lemmas.List.{append-nil, append_assoc}
use Rattle.std.proofs.lemmas.Option.{slice_get_past}
use Rattle.ts_num.specs.Aggregates.{greater}
use Rattle.ts_bucket.specs.Bucket.{is_bucket}
use Rattle.ts_bucket.specs.Positions.{later, is_above}
use Rattle.ts_bucket.specs.declared.spans.Span.{Span}
use Rattle.ts_bucket.proofs.PositionLaws.{is_above-later, is_above-greater}
use Rattle.ts_schema.specs.declared.rows.Row.{Row}
use Rattle.ts_model.specs.declared.events.Event.{Event}
use Rattle.ts_model.specs.declared.events.Event.TheVariants.{Table, Hyper, View, Mode, Commit, Cut, Built}
use Rattle.ts_model.specs.declared.events.Op.TheVariants.{Insert}
use Rattle.ts_model.specs.declared.images.Finished.{Finished as FinishedRefresh}
use Rattle.ts_model.specs.declared.images.Image.{Image}
use Rattle.ts_model.specs.declared.images.SavedView.{SavedView}
use Rattle.ts_model.specs.declared.refreshes.Pending.{Pending}
use Rattle.ts_model.specs.declared.refreshes.Pending.TheVariants.{Waiting, Finished, Unknown}
use Rattle.ts_model.specs.declared.refreshes.Waiting.{Waiting as WaitingRefresh}
use Rattle.ts_model.specs.declared.rosters.Roster.{Roster}
use Rattle.ts_model.specs.declared.tables.Hyper.{Hyper as HyperInfo}
use Rattle.ts_model.specs.declared.tables.TableDef.{TableDef}
use Rattle.ts_model.specs.declared.tables.TableInfo.{TableInfo}
use Rattle.ts_model.specs.declared.views.ViewDef.{ViewDef}
use Rattle.ts_model.specs.History.{History, start, resumed, ◌▸◌, position, prefix}
use Rattle.ts_model.specs.Saved.{appended_by, all_appended, appended_over, span_among, finished_among, pending_among, nothing_saved, saved_view, saved_last, is_dirty, saved_groups, pos_in}
use Rattle.ts_model.specs.Roster.{IsOf, no_relations, change_at, made_hyper, roster_after, roster_over, roster, view_of, table_of, of_table}
use Rattle.ts_model.specs.Rows.{in_order, rows}
use Rattle.ts_model.specs.Groups.{groups_in, groups_at_last, groups_at}
use Rattle.ts_model.specs.Pending.{finished_by, is_waiting, is_known, pending, waiting}
use Rattle.ts_model.specs.Refreshes.{span_of_cut, is_covered, last, touches, last_touch, touched, top_of, is_invalid, invalid, watermark}
use Rattle.ts_model.specs.Laws.{Rises, fits_table}
use Rattle.std.specs.declared.cmp.Ordering.TheVariants.{Less, Equal, Greater}
use Rattle.ts_model.specs.RefreshLaws.{waiting_over, waiting_as}
use Rattle.ts_model.specs.Allowed.{allowed, all_allowed}
use Rattle.ts_model.specs.Sound.{span_fits, row_fits, sound}
use Rattle.ts_model.specs.Valid.{image_roster, valid, is_number}
use Rattle.image_laws.specs.Alike.{AlikeView, Alike}
use Rattle.image_laws.specs.Images.{hyper_events, table_events, roster_events, held_events, row_events, finished_as, finished_upto, groups_left, was_left, IsSavedView, IsImage, ImagesAreAlike}
use Rattle.ts_model.proofs.ValidLaws.{span_told, known_among, valid_is, among_at, absent_kept, lasts_below, waiting_rising}
use Rattle.ts_model.proofs.HistoryLaws.{prefix_end}
use Rattle.ts_model.proofs.RosterLaws.{relations_further}
use Rattle.ts_model.proofs.AllowedLaws.{consistent_next, consistent_of, cut_bounded}
use Rattle.ts_model.proofs.CutLaws.{cut_sound}
use Rattle.ts_model.proofs.FitLaws.{rows_fit_tables}
use Rattle.ts_model.proofs.OrderLaws.{rows_stand_in_order}
use Rattle.ts_model.proofs.RowLaws.{in_order-is}
use Rattle.ts_model.proofs.RefreshLaws.{later_is, covered_snap, built_bounds}
use Rattle.ts_model.proofs.WaitingLaws.{waiting_exact}
use Rattle.image_laws.proofs.AlikeLaws.{none_above}

-- ---- the roster

over_append : (r : Roster) (xs ys : List Event) → roster_over r (xs ++ ys) ≡ roster_over (roster_over r xs) ys
over_append r [] ys = refl
over_append r (x ∷ xs) ys = over_append (roster_after r x) xs ys

changed_last : {X : Type 0} (xs : List X) (x : X) (f : X → X) → change_at (xs ++ (x ∷ [])) (length xs) f ≡ xs ++ (f x ∷ [])
changed_last [] x f = refl
changed_last (y ∷ xs) x f = ap (λ ys. y ∷ ys) (changed_last xs x f)

table_again : (r : Roster) (def : TableDef) (o : Option HyperInfo) → roster_over r (Table def ∷ hyper_events (length r.tables) o) ≡ record r { tables = r.tables ++ (record { def = def; hyper = o } ∷ []) }
table_again r def None = refl
table_again r def (Some hyper) = λ i. record r { tables = changed_last r.tables (record { def = def; hyper = None }) (made_hyper hyper) i }

tables_again : (r : Roster) (t : ℕ) (infos : List TableInfo) → length r.tables ≡ t → roster_over r (table_events t infos) ≡ record r { tables = r.tables ++ infos }
tables_again r t [] e = λ i. record r { tables = sym (append-nil r.tables) i }
tables_again r t (info ∷ infos) e =
    let now : Roster = record r { tables = r.tables ++ (info ∷ []) } in
    let longer : length now.tables ≡ suc t = omega (arith, length-append r.tables (info ∷ []), e) in
    over_append r (Table info.def ∷ hyper_events t info.hyper) (table_events (suc t) infos)
    ∙ ap (λ k. roster_over (roster_over r (Table info.def ∷ hyper_events k info.hyper)) (table_events (suc t) infos)) (sym e)
    ∙ ap (λ s. roster_over s (table_events (suc t) infos)) (table_again r info.def info.hyper)
    ∙ tables_again now (suc t) infos longer
    ∙ (λ i. record r { tables = append_assoc r.tables (info ∷ []) infos i })

views_again : (r : Roster) (defs : List ViewDef) → roster_over r (map View defs) ≡ record r { views = r.views ++ defs }
views_again r [] = λ i. record r { views = sym (append-nil r.views) i }
views_again r (def ∷ defs) = views_again (roster_after r (View def)) defs ∙ (λ i. record r { views = append_assoc r.views (def ∷ []) defs i })

pub roster_again : (r : Roster) → roster_over no_relations (roster_events r) ≡ r
roster_again r =
    over_append no_relations (table_events 0 r.tables) (map View r.views)
    ∙ ap (λ s. roster_over s (map View r.views)) (tables_again no_relations 0 r.tables refl)
    ∙ views_again (record { tables = r.tables; views = [] }) r.views

-- ---- the rows

appended_append : (t : ℕ) (xs ys : List Event) → appended_over t (xs ++ ys) ≡ appended_over t xs ++ appended_over t ys
appended_append t [] ys = refl
appended_append t (Commit ops ∷ xs) ys = ap (λ zs. all_appended t ops ++ zs) (appended_append t xs ys) ∙ sym (append_assoc (all_appended t ops) (appended_over t xs) (appended_over t ys))
appended_append t (Table def ∷ xs) ys = appended_append t xs ys
appended_append t (Hyper u hyper ∷ xs) ys = appended_append t xs ys
appended_append t (View def ∷ xs) ys = appended_append t xs ys
appended_append t (Mode v only ∷ xs) ys = appended_append t xs ys
appended_append t (Cut v span ∷ xs) ys = appended_append t xs ys
appended_append t (Built cut snap ∷ xs) ys = appended_append t xs ys

held_is : (t u : ℕ) (xs : List Row) → appended_over t (held_events u xs) ≡ cond (u == t) xs []
held_is t u [] = let none : List Row = [] in elim (u == t) as (λ c. none ≡ cond c none none) [ true ↦ refl | false ↦ refl ]
held_is t u (x ∷ xs) = append-nil _ ∙ append-nil _

over_none : (h : History) (t u n : ℕ) → (t < u) ⊎ (u + n ≤ t) → appended_over t (row_events h u n) ≡ []
over_none h t u zero l = refl
over_none h t u (suc n) l =
    let other : (u == t) ≡ false = ⊎_elim (λ below. apart u t below) (λ above. apart_above u n t above) l in
    appended_append t (held_events u (rows u h)) (row_events h (suc u) n)
    ∙ ap (λ xs. xs ++ appended_over t (row_events h (suc u) n)) (held_is t u (rows u h) ∙ cond-false (u == t) (rows u h) [] other)
    ∙ over_none h t (suc u) n (⊎_elim (λ below. inl (next u t below)) (λ above. inr (next_above u n t above)) l)
  where
    apart : (u t : ℕ) → t < u → (u == t) ≡ false
    apart u t l = grind (arith, nat_tests)

    apart_above : (u n t : ℕ) → u + suc n ≤ t → (u == t) ≡ false
    apart_above u n t l = let m : u < t = omega arith in grind (arith, nat_tests)

    next : (u t : ℕ) → t < u → t < suc u
    next u t l = omega arith

    next_above : (u n t : ℕ) → u + suc n ≤ t → suc u + n ≤ t
    next_above u n t l = omega arith

over_found : (h : History) (t u n : ℕ) → u ≤ t → t < u + n → appended_over t (row_events h u n) ≡ rows t h
over_found h t u zero l m = absurd (omega arith)
over_found h t u (suc n) l m =
    appended_append t (held_events u (rows u h)) (row_events h (suc u) n)
    ∙ ap (λ xs. xs ++ appended_over t (row_events h (suc u) n)) (held_is t u (rows u h))
    ∙ elim (u == t) as (λ c. (u == t) ≡ c → cond c (rows u h) [] ++ appended_over t (row_events h (suc u) n) ≡ rows t h) [
      | true ↦ λ here.
          let is : u ≡ t = eqb-true u t here in
          ap (λ ys. rows u h ++ ys) (over_none h t (suc u) n (inl (omega arith))) ∙ append-nil (rows u h) ∙ ap (λ v. rows v h) is
      | false ↦ λ other. over_found h t (suc u) n (further u t l other) (omega arith)
    ] refl
  where
    further : (u t : ℕ) → u ≤ t → (u == t) ≡ false → suc u ≤ t
    further u t l e = let m : u < t = grind (arith, nat_tests) in omega arith

-- a missing table has no rows
rows_past : (t : ℕ) (h : History) → all_allowed h ≡ true → length (roster h).tables ≤ t → rows t h ≡ []
rows_past t h ok l = none (rows t h) fit
  where
    fit : list_all (fits_table (roster h) t) (rows t h) ≡ true
    fit = ap (λ g. list_all (fits_table (roster h) t) (rows t g)) (sym (prefix_end h (position h) (omega arith))) ∙ rows_fit_tables.rows t h (position h) (consistent_of h ok)

    absent : table_of (roster h) t ≡ None
    absent = slice_get_past (roster h).tables t l

    none : (xs : List Row) → list_all (fits_table (roster h) t) xs ≡ true → xs ≡ []
    none [] e = refl
    none (x ∷ xs) e = absurd (true≢false (sym (and_parts (fits_table (roster h) t x) (list_all (fits_table (roster h) t) xs) e).0 ∙ ap (of_table (λ def hyper. row_fits def hyper x)) absent))

pub rows_again : (t : ℕ) (h : History) → all_allowed h ≡ true → in_order (appended_over t (row_events h 0 (length (roster h).tables))) ≡ rows t h
rows_again t h ok =
    ⊎_elim
    (λ (here : t < length (roster h).tables). ap in_order (over_found h t 0 (length (roster h).tables) (omega arith) (omega arith)) ∙ in_order-is (rows t h) (rows_stand_in_order t h))
    (λ (past : length (roster h).tables ≤ t). ap in_order (over_none h t 0 (length (roster h).tables) (inr (omega arith))) ∙ sym (rows_past t h ok past))
    (cases_lt t (length (roster h).tables))

-- ---- refreshes

pub turned : (a b : ℕ) → (a == b) ≡ (b == a)
turned a b = grind (arith, nat_tests)

less_apart : (c k d : ℕ) → c ≡ k → is_lt (nat_cmp c d) ≡ true → (k == d) ≡ false
less_apart c k d e f =
    let below : nat_lt c d ≡ true = elim (nat_lt c d) as (λ t. is_lt (cond t Less (cond (c == d) Equal Greater)) ≡ true → t ≡ true) [ true ↦ λ _. refl | false ↦ λ g. elim (c == d) as (λ t. is_lt (cond t Equal Greater) ≡ true → false ≡ true) [ true ↦ λ x. x | false ↦ λ x. x ] g ] f in
    grind (arith, nat_tests)

-- a refresh that waits has a span
abbrev HasSpan : ℕ → History → ℕ → Type 0
HasSpan m h k = (span : Span) × (span_of_cut m h k ≡ Some span)

not_waiting : (fs : List FinishedRefresh) (k m : ℕ) → finished_among fs k ≡ Waiting m → ⊥
not_waiting [] k m e = absurd (cc)
not_waiting (f ∷ fs) k m e = elim (k == f.cut) as (λ t. cond t (Finished f.built) (finished_among fs k) ≡ Waiting m → ⊥) [ true ↦ λ g. absurd (cc) | false ↦ λ g. not_waiting fs k m g ] e

among_span : (ws : List WaitingRefresh) (fs : List FinishedRefresh) (k m : ℕ) → pending_among ws fs k ≡ Waiting m → (span : Span) × (span_among m ws k ≡ Some span)
among_span [] fs k m e = absurd (not_waiting fs k m e)
among_span (w ∷ ws) fs k m e =
    elim (k == w.cut) as (λ t. cond t (Waiting w.view) (pending_among ws fs k) ≡ Waiting m → (span : Span) × (cond (t && w.view == m) (Some w.span) (span_among m ws k) ≡ Some span)) [
      | true ↦ λ f. let view : w.view ≡ m = cc in (w.span, cond-true (w.view == m) (Some w.span) (span_among m ws k) (eq-eqb w.view m view))
      | false ↦ λ f. among_span ws fs k m f
    ] e

never_finished : (by : ℕ) (q : Pending) (m : ℕ) → finished_by by q ≡ Waiting m → ⊥
never_finished by (Waiting n) m e = absurd (cc)
never_finished by (Finished f) m e = absurd (cc)
never_finished by Unknown m e = absurd (cc)

waiting_span : (h : History) (k m : ℕ) → pending h k ≡ Waiting m → HasSpan m h k
waiting_span start k m e = absurd (cc)
waiting_span (resumed i) k m e =
    elim (nat_le k i.pos) as (λ t. cond t (pending_among i.waiting i.done k) Unknown ≡ Waiting m → (span : Span) × (cond t (span_among m i.waiting k) None ≡ Some span)) [
      | true ↦ λ f. among_span i.waiting i.done k m f
      | false ↦ λ f. absurd (cc)
    ] e
waiting_span (h ▸ Cut v span) k m e =
    elim (k == suc (position h)) as (λ t. cond t (Waiting v) (pending h k) ≡ Waiting m → (s : Span) × (cond (t && v == m) (Some span) (span_of_cut m h k) ≡ Some s)) [
      | true ↦ λ f. let view : v ≡ m = cc in (span, cond-true (v == m) (Some span) (span_of_cut m h k) (eq-eqb v m view))
      | false ↦ λ f. waiting_span h k m f
    ] e
waiting_span (h ▸ Built cut snap) k m e =
    elim (k == cut) as (λ t. cond t (finished_by (suc (position h)) (pending h k)) (pending h k) ≡ Waiting m → HasSpan m h k) [
      | true ↦ λ f. absurd (never_finished (suc (position h)) (pending h k) m f)
      | false ↦ λ f. waiting_span h k m f
    ] e
waiting_span (h ▸ x) k m e = waiting_span h k m e

-- and its span is of no other aggregate
one_among : (ws : List WaitingRefresh) (fs : List FinishedRefresh) (k m n : ℕ) → Rises nat_cmp (map (λ (w : WaitingRefresh). w.cut) ws) → pending_among ws fs k ≡ Waiting m → (m == n) ≡ false → span_among n ws k ≡ None
one_among [] fs k m n r e other = refl
one_among (w ∷ ws) fs k m n r e other =
    elim (k == w.cut) as (λ t. (k == w.cut) ≡ t → cond t (Waiting w.view) (pending_among ws fs k) ≡ Waiting m → cond (t && w.view == n) (Some w.span) (span_among n ws k) ≡ None) [
      | true ↦ λ here f.
          let view : w.view ≡ m = cc in
          let apart : (w.view == n) ≡ false = ap (λ v. v == n) view ∙ other in
          cond-false (w.view == n) (Some w.span) (span_among n ws k) apart ∙ none_later w.cut k n ws (sym (eqb-true k w.cut here)) r.0
      | false ↦ λ _ f. one_among ws fs k m n r.1 f other
    ] refl e
  where
    none_later : (c k n : ℕ) (ws : List WaitingRefresh) → c ≡ k → list_all (λ d. is_lt (nat_cmp c d)) (map (λ (w : WaitingRefresh). w.cut) ws) ≡ true → span_among n ws k ≡ None
    none_later c k n [] e f = refl
    none_later c k n (w ∷ ws) e f =
        let parts = and_parts (is_lt (nat_cmp c w.cut)) (list_all (λ d. is_lt (nat_cmp c d)) (map (λ (w : WaitingRefresh). w.cut) ws)) f in
        cond-false (k == w.cut && w.view == n) (Some w.span) (span_among n ws k) (and_left _ _ (less_apart c k w.cut e parts.0)) ∙ none_later c k n ws e parts.1

one_aggregate : (h : History) (k m n : ℕ) → all_allowed h ≡ true → pending h k ≡ Waiting m → (m == n) ≡ false → span_of_cut n h k ≡ None
one_aggregate start k m n ok e other = refl
one_aggregate (resumed i) k m n ok e other =
    elim (nat_le k i.pos) as (λ t. cond t (pending_among i.waiting i.done k) Unknown ≡ Waiting m → cond t (span_among n i.waiting k) None ≡ None) [
      | true ↦ λ f. one_among i.waiting i.done k m n (waiting_rising i ok) f other
      | false ↦ λ f. refl
    ] e
one_aggregate (h ▸ Cut v span) k m n ok e other =
    let before = (and_parts (all_allowed h) _ ok).0 in
    elim (k == suc (position h)) as (λ t. (k == suc (position h)) ≡ t → cond t (Waiting v) (pending h k) ≡ Waiting m → cond (t && v == n) (Some span) (span_of_cut n h k) ≡ None) [
      | true ↦ λ here f.
          let view : v ≡ m = cc in
          let apart : (v == n) ≡ false = ap (λ x. x == n) view ∙ other in
          let is : k ≡ suc (position h) = eqb-true k (suc (position h)) here in
          cond-false (v == n) (Some span) (span_of_cut n h k) apart ∙ none_above n h k before (omega arith)
      | false ↦ λ _ f. one_aggregate h k m n before f other
    ] refl e
one_aggregate (h ▸ Built cut snap) k m n ok e other =
    elim (k == cut) as (λ t. cond t (finished_by (suc (position h)) (pending h k)) (pending h k) ≡ Waiting m → span_of_cut n h k ≡ None) [
      | true ↦ λ f. absurd (never_finished (suc (position h)) (pending h k) m f)
      | false ↦ λ f. one_aggregate h k m n (and_parts (all_allowed h) _ ok).0 f other
    ] e
one_aggregate (h ▸ x) k m n ok e other = one_aggregate h k m n (and_parts (all_allowed h) _ ok).0 e other

number_bounds : (p c k : ℕ) → k ≡ c → is_number p c ≡ true → (0 < k) × (k ≤ p)
number_bounds p c k is e =
    let parts = and_parts (nat_lt 0 c) (nat_le c p) e in
    let z : 0 < c = ltb-true 0 c parts.0 in
    let l : c ≤ p = leb-true c p parts.1 in
    (omega arith, omega arith)

abbrev pub done_fits_one : Image → FinishedRefresh → Bool
done_fits_one i f = is_number i.pos f.cut && nat_lt f.cut f.built && nat_le f.built i.pos && not (list_any (λ (w : WaitingRefresh). w.cut == f.cut) i.waiting)

among_bounds : (p : ℕ) (ws : List WaitingRefresh) (fs : List FinishedRefresh) (k : ℕ) → list_all (λ (w : WaitingRefresh). is_number p w.cut) ws ≡ true → list_all (λ (f : FinishedRefresh). is_number p f.cut) fs ≡ true → is_known (pending_among ws fs k) ≡ true → (0 < k) × (k ≤ p)
among_bounds p [] [] k ws fs e = absurd (true≢false (sym e))
among_bounds p [] (f ∷ fs) k w_ok f_ok e =
    let parts = and_parts (is_number p f.cut) (list_all (λ (f : FinishedRefresh). is_number p f.cut) fs) f_ok in
    elim (k == f.cut) as (λ t. (k == f.cut) ≡ t → is_known (cond t (Finished f.built) (finished_among fs k)) ≡ true → (0 < k) × (k ≤ p)) [
      | true ↦ λ here _. number_bounds p f.cut k (eqb-true k f.cut here) parts.0
      | false ↦ λ _ g. among_bounds p [] fs k refl parts.1 g
    ] refl e
among_bounds p (w ∷ ws) fs k w_ok f_ok e =
    let parts = and_parts (is_number p w.cut) (list_all (λ (w : WaitingRefresh). is_number p w.cut) ws) w_ok in
    elim (k == w.cut) as (λ t. (k == w.cut) ≡ t → is_known (cond t (Waiting w.view) (pending_among ws fs k)) ≡ true → (0 < k) × (k ≤ p)) [
      | true ↦ λ here _. number_bounds p w.cut k (eqb-true k w.cut here) parts.0
      | false ↦ λ _ g. among_bounds p ws fs k parts.1 f_ok g
    ] refl e

all_weaker : {X : Type 0} (q p : X → Bool) → ((x : X) → p x ≡ true → q x ≡ true) → (xs : List X) → list_all p xs ≡ true → list_all q xs ≡ true
all_weaker q p f [] e = refl
all_weaker q p f (x ∷ xs) e = let parts = and_parts (p x) (list_all p xs) e in and_from _ _ (f x parts.0) (all_weaker q p f xs parts.1)

waiting_numbers : (i : Image) → valid i ≡ true → list_all (λ (w : WaitingRefresh). is_number i.pos w.cut) i.waiting ≡ true
waiting_numbers i ok =
    all_weaker (λ (w : WaitingRefresh). is_number i.pos w.cut) (λ (w : WaitingRefresh). is_number i.pos w.cut && span_fits w.span (view_of (image_roster i) w.view)) (λ w e. (and_parts (is_number i.pos w.cut) _ e).0) i.waiting
    (and_parts (list_all (λ (w : WaitingRefresh). is_number i.pos w.cut && span_fits w.span (view_of (image_roster i) w.view)) i.waiting) _ (valid_is i ok).waiting).0

done_numbers : (i : Image) → valid i ≡ true → list_all (λ (f : FinishedRefresh). is_number i.pos f.cut) i.done ≡ true
done_numbers i ok =
    all_weaker (λ (f : FinishedRefresh). is_number i.pos f.cut) (done_fits_one i) (λ f e. (and_parts (is_number i.pos f.cut) _ (and_parts _ (nat_le f.built i.pos) (and_parts _ (not (list_any (λ (w : WaitingRefresh). w.cut == f.cut) i.waiting)) e).0).0).0) i.done
    (and_parts (list_all (done_fits_one i) i.done) _ (valid_is i ok).done).0

-- a known refresh has a number up to the position
pub known_bounds : (h : History) (k : ℕ) → all_allowed h ≡ true → is_known (pending h k) ≡ true → (0 < k) × (k ≤ position h)
known_bounds start k ok e = absurd (true≢false (sym e))
known_bounds (resumed i) k ok e = among_bounds i.pos i.waiting i.done k (waiting_numbers i ok) (done_numbers i ok) (ap is_known (known_among i k (pending (resumed i) k) e refl) ∙ e)
known_bounds (h ▸ Cut v span) k ok e =
    elim (k == suc (position h)) as (λ t. (k == suc (position h)) ≡ t → is_known (cond t (Waiting v) (pending h k)) ≡ true → (0 < k) × (k ≤ suc (position h))) [
      | true ↦ λ here _. let is : k ≡ suc (position h) = eqb-true k (suc (position h)) here in (omega arith, omega arith)
      | false ↦ λ _ f. let b = known_bounds h k (and_parts (all_allowed h) _ ok).0 f in (b.0, omega (arith, b.1))
    ] refl e
known_bounds (h ▸ Built cut snap) k ok e =
    let b = known_bounds h k (and_parts (all_allowed h) _ ok).0 (by_case (k == cut) e) in
    (b.0, omega (arith, b.1))
  where
    was_known : (q : Pending) → is_known (finished_by (suc (position h)) q) ≡ true → is_known q ≡ true
    was_known (Waiting n) e = refl
    was_known (Finished f) e = refl
    was_known Unknown e = e

    by_case : (t : Bool) → is_known (cond t (finished_by (suc (position h)) (pending h k)) (pending h k)) ≡ true → is_known (pending h k) ≡ true
    by_case true e = was_known (pending h k) e
    by_case false e = e
known_bounds (h ▸ x) k ok e = let b = known_bounds h k (and_parts (all_allowed h) _ ok).0 e in (b.0, omega (arith, b.1))

-- the refresh with a number, by the list of waiting refreshes
first_waits : (k : ℕ) (ws : List WaitingRefresh) (fs : List FinishedRefresh) (w : WaitingRefresh) → filter (λ (r : WaitingRefresh). r.cut == k) ws ≡ w ∷ [] → pending_among ws fs k ≡ Waiting w.view
first_waits k [] fs w e = absurd (cc)
first_waits k (x ∷ ws) fs w e =
    elim (x.cut == k) as (λ t. (x.cut == k) ≡ t → cond t (x ∷ filter (λ (r : WaitingRefresh). r.cut == k) ws) (filter (λ (r : WaitingRefresh). r.cut == k) ws) ≡ w ∷ [] → pending_among (x ∷ ws) fs k ≡ Waiting w.view) [
      | true ↦ λ here f.
          let is : x ≡ w = cc in
          cond-true (k == x.cut) (Waiting x.view) (pending_among ws fs k) (turned k x.cut ∙ here) ∙ ap (λ (r : WaitingRefresh). Waiting r.view) is
      | false ↦ λ other f. cond-false (k == x.cut) (Waiting x.view) (pending_among ws fs k) (turned k x.cut ∙ other) ∙ first_waits k ws fs w f
    ] refl e

first_none : (k : ℕ) (ws : List WaitingRefresh) (fs : List FinishedRefresh) → filter (λ (r : WaitingRefresh). r.cut == k) ws ≡ [] → pending_among ws fs k ≡ finished_among fs k
first_none k [] fs e = refl
first_none k (x ∷ ws) fs e =
    elim (x.cut == k) as (λ t. (x.cut == k) ≡ t → cond t (x ∷ filter (λ (r : WaitingRefresh). r.cut == k) ws) (filter (λ (r : WaitingRefresh). r.cut == k) ws) ≡ [] → pending_among (x ∷ ws) fs k ≡ finished_among fs k) [
      | true ↦ λ here f. absurd (cc)
      | false ↦ λ other f. cond-false (k == x.cut) (Waiting x.view) (pending_among ws fs k) (turned k x.cut ∙ other) ∙ first_none k ws fs f
    ] refl e

-- the span of a refresh, by the list of waiting refreshes
span_first : (n k : ℕ) (ws : List WaitingRefresh) → span_among n ws k ≡ span_among n (filter (λ (r : WaitingRefresh). r.cut == k) ws) k
span_first n k [] = refl
span_first n k (x ∷ ws) =
    elim (x.cut == k) as (λ t. (x.cut == k) ≡ t → cond (k == x.cut && x.view == n) (Some x.span) (span_among n ws k) ≡ span_among n (cond t (x ∷ filter (λ (r : WaitingRefresh). r.cut == k) ws) (filter (λ (r : WaitingRefresh). r.cut == k) ws)) k) [
      | true ↦ λ _. ap (cond (k == x.cut && x.view == n) (Some x.span)) (span_first n k ws)
      | false ↦ λ other. cond-false (k == x.cut && x.view == n) (Some x.span) (span_among n ws k) (and_left _ _ (turned k x.cut ∙ other)) ∙ span_first n k ws
    ] refl

-- the finished refreshes, by their list
abbrev or_else : Pending → Pending → Pending
or_else (Waiting n) q = Waiting n
or_else (Finished f) q = Finished f
or_else Unknown q = q

abbrev only_finished : Pending → Pending
only_finished (Waiting n) = Unknown
only_finished (Finished f) = Finished f
only_finished Unknown = Unknown

among_append : (xs ys : List FinishedRefresh) (k : ℕ) → finished_among (xs ++ ys) k ≡ or_else (finished_among xs k) (finished_among ys k)
among_append [] ys k = refl
among_append (x ∷ xs) ys k =
    elim (k == x.cut) as (λ t. cond t (Finished x.built) (finished_among (xs ++ ys) k) ≡ or_else (cond t (Finished x.built) (finished_among xs k)) (finished_among ys k)) [ true ↦ refl | false ↦ among_append xs ys k ]

among_as : (j k : ℕ) (q : Pending) → finished_among (finished_as j q) k ≡ cond (k == j) (only_finished q) Unknown
among_as j k (Waiting n) = elim (k == j) as (λ t. Unknown ≡ cond t Unknown Unknown) [ true ↦ refl | false ↦ refl ]
among_as j k (Finished f) = refl
among_as j k Unknown = elim (k == j) as (λ t. Unknown ≡ cond t Unknown Unknown) [ true ↦ refl | false ↦ refl ]

or_unknown : (q : Pending) → or_else q Unknown ≡ q
or_unknown (Waiting n) = refl
or_unknown (Finished f) = refl
or_unknown Unknown = refl

upto_past : (h : History) (p k : ℕ) → p < k → finished_among (finished_upto h p) k ≡ Unknown
upto_past h zero k l = refl
upto_past h (suc p) k l =
    among_append (finished_upto h p) (finished_as (suc p) (pending h (suc p))) k
    ∙ ap (λ q. or_else q (finished_among (finished_as (suc p) (pending h (suc p))) k)) (upto_past h p k (omega arith))
    ∙ among_as (suc p) k (pending h (suc p))
    ∙ cond-false (k == suc p) (only_finished (pending h (suc p))) Unknown (apart (suc p) k l)
  where
    apart : (a k : ℕ) → a < k → (k == a) ≡ false
    apart a k l = grind (arith, nat_tests)

upto_is : (h : History) (p k : ℕ) → 0 < k → k ≤ p → finished_among (finished_upto h p) k ≡ only_finished (pending h k)
upto_is h zero k l m = absurd (omega arith)
upto_is h (suc p) k l m =
    among_append (finished_upto h p) (finished_as (suc p) (pending h (suc p))) k
    ∙ ap (or_else (finished_among (finished_upto h p) k)) (among_as (suc p) k (pending h (suc p)))
    ∙ elim (k == suc p) as (λ t. (k == suc p) ≡ t → or_else (finished_among (finished_upto h p) k) (cond t (only_finished (pending h (suc p))) Unknown) ≡ only_finished (pending h k)) [
      | true ↦ λ here.
          let is : k ≡ suc p = eqb-true k (suc p) here in
          ap (λ q. or_else q (only_finished (pending h (suc p)))) (upto_past h p k (omega arith)) ∙ ap (λ j. only_finished (pending h j)) (sym is)
      | false ↦ λ other. or_unknown (finished_among (finished_upto h p) k) ∙ upto_is h p k l (below k p m other)
    ] refl
  where
    below : (k p : ℕ) → k ≤ suc p → (k == suc p) ≡ false → k ≤ p
    below k p m e = let l : k < suc p = grind (arith, nat_tests) in omega arith

zero_unknown : (h : History) (p : ℕ) → finished_among (finished_upto h p) 0 ≡ Unknown
zero_unknown h zero = refl
zero_unknown h (suc p) =
    among_append (finished_upto h p) (finished_as (suc p) (pending h (suc p))) 0
    ∙ ap (λ q. or_else q (finished_among (finished_as (suc p) (pending h (suc p))) 0)) (zero_unknown h p)
    ∙ among_as (suc p) 0 (pending h (suc p))
    ∙ cond-false (0 == suc p) (only_finished (pending h (suc p))) Unknown (none p)
  where
    none : (p : ℕ) → (0 == suc p) ≡ false
    none p = grind (arith, nat_tests)

upto_unknown : (h : History) (k : ℕ) → k ≤ position h → pending h k ≡ Unknown → finished_among (finished_upto h (position h)) k ≡ Unknown
upto_unknown h zero l e = zero_unknown h (position h)
upto_unknown h (suc k) l e = upto_is h (position h) (suc k) (omega arith) l ∙ ap only_finished e

pending_again : (h : History) (k : ℕ) → all_allowed h ≡ true → pending h k ≡ pending_among (waiting h) (finished_upto h (position h)) k
pending_again h k ok = by_case (pending h k) refl
  where
    fs : List FinishedRefresh
    fs = finished_upto h (position h)

    unknown_or : (q : Pending) → pending h k ≡ q → only_finished q ≡ q → is_waiting q ≡ false → finished_among fs k ≡ q
    unknown_or (Waiting n) is same w = absurd (true≢false w)
    unknown_or (Finished f) is same w =
        let b = known_bounds h k ok (ap is_known is) in
        upto_is h (position h) k b.0 b.1 ∙ ap only_finished is
    unknown_or Unknown is same w =
        ⊎_elim
        (λ (past : position h < k). upto_past h (position h) k past)
        (λ (within : k ≤ position h). upto_unknown h k within is)
        (cases_lt (position h) k)

    by_case : (q : Pending) → pending h k ≡ q → q ≡ pending_among (waiting h) fs k
    by_case (Waiting m) is =
        let span = waiting_span h k m is in
        let found : filter (λ (r : WaitingRefresh). r.cut == k) (waiting h) ≡ record { cut = k; view = m; span = span.0 } ∷ [] = waiting_exact h k (consistent_of h ok) ∙ ap (waiting_as h k) is ∙ ap (waiting_over k m) span.1 in
        sym (first_waits k (waiting h) fs (record { cut = k; view = m; span = span.0 }) found)
    by_case (Finished f) is = sym (first_none k (waiting h) fs (waiting_exact h k (consistent_of h ok) ∙ ap (waiting_as h k) is) ∙ unknown_or (Finished f) is refl refl)
    by_case Unknown is = sym (first_none k (waiting h) fs (waiting_exact h k (consistent_of h ok) ∙ ap (waiting_as h k) is) ∙ unknown_or Unknown is refl refl)

pending_upto : (h : History) (k : ℕ) → all_allowed h ≡ true → pending h k ≡ cond (nat_le k (position h)) (pending_among (waiting h) (finished_upto h (position h)) k) Unknown
pending_upto h k ok =
    elim (nat_le k (position h)) as (λ t. nat_le k (position h) ≡ t → pending h k ≡ cond t (pending_among (waiting h) (finished_upto h (position h)) k) Unknown) [
      | true ↦ λ _. pending_again h k ok
      | false ↦ λ above. unknown above (is_known (pending h k)) refl
    ] refl
  where
    not_known : (q : Pending) → is_known q ≡ false → q ≡ Unknown
    not_known (Waiting n) e = absurd (true≢false e)
    not_known (Finished f) e = absurd (true≢false e)
    not_known Unknown e = refl

    past : (k p : ℕ) → nat_le k p ≡ false → p < k
    past k p e = grind (arith, nat_tests)

    unknown : nat_le k (position h) ≡ false → (t : Bool) → is_known (pending h k) ≡ t → pending h k ≡ Unknown
    unknown above true e = absurd (let l : k ≤ position h = (known_bounds h k ok e).1 in let m : position h < k = past k (position h) above in omega arith)
    unknown above false e = not_known (pending h k) e

span_again : (h : History) (n k : ℕ) → all_allowed h ≡ true → is_waiting (pending h k) ≡ true → span_of_cut n h k ≡ span_among n (waiting h) k
span_again h n k ok w = by_case (pending h k) refl w
  where
    by_view : (m : ℕ) → pending h k ≡ Waiting m → (s : Span) → span_of_cut m h k ≡ Some s → (t : Bool) → (m == n) ≡ t → span_of_cut n h k ≡ cond ((k == k) && t) (Some s) None
    by_view m is s e true same_view = ap (λ v. span_of_cut v h k) (sym (eqb-true m n same_view)) ∙ e ∙ sym (cond-true ((k == k) && true) (Some s) None (and_from _ _ (eq-eqb k k refl) refl))
    by_view m is s e false other = one_aggregate h k m n ok is other ∙ sym (cond-false ((k == k) && false) (Some s) None (and_right (k == k) false refl))

    by_case : (q : Pending) → pending h k ≡ q → is_waiting q ≡ true → span_of_cut n h k ≡ span_among n (waiting h) k
    by_case (Waiting m) is w =
        let span = waiting_span h k m is in
        let found : filter (λ (r : WaitingRefresh). r.cut == k) (waiting h) ≡ record { cut = k; view = m; span = span.0 } ∷ [] = waiting_exact h k (consistent_of h ok) ∙ ap (waiting_as h k) is ∙ ap (waiting_over k m) span.1 in
        by_view m is span.0 span.1 (m == n) refl ∙ sym (span_first n k (waiting h) ∙ ap (λ ws. span_among n ws k) found)
    by_case (Finished f) is w = absurd (true≢false (sym w))
    by_case Unknown is w = absurd (true≢false (sym w))

-- ---- a missing aggregate

absent_before : (h : History) (e : Event) (n : ℕ) → view_of (roster (h ▸ e)) n ≡ None → view_of (roster h) n ≡ None
absent_before h e n none = by_view (view_of (roster h) n) refl
  where
    by_view : (o : Option ViewDef) → view_of (roster h) n ≡ o → o ≡ None
    by_view None is = refl
    by_view (Some def) is = let kept = (relations_further (roster h) e).views n def is in let there = kept.there in absurd (cc)

never_cut : (n : ℕ) (h : History) (k : ℕ) → all_allowed h ≡ true → view_of (roster h) n ≡ None → span_of_cut n h k ≡ None
never_cut n h k ok none = by_span (span_of_cut n h k) refl
  where
    by_span : (o : Option Span) → span_of_cut n h k ≡ o → o ≡ None
    by_span None is = refl
    by_span (Some span) is = absurd (true≢false (sym (cut_sound n h k span (consistent_of h ok) is) ∙ ap (span_fits span) none))

never_refreshed : (n : ℕ) (h : History) (b : ℤ) → all_allowed h ≡ true → view_of (roster h) n ≡ None → last n h b ≡ None
never_refreshed n start b ok none = refl
never_refreshed n (resumed i) b ok none = ap (λ v. pos_in v.lasts b) (absent_kept n i ok none)
never_refreshed n (h ▸ Built cut snap) b ok none =
    ap (λ p. later p (cond (is_covered b (span_of_cut n h cut)) (Some snap) None)) (never_refreshed n h b (and_parts (all_allowed h) _ ok).0 none)
    ∙ ap (λ o. cond (is_covered b o) (Some snap) None) (never_cut n h cut (and_parts (all_allowed h) _ ok).0 none)
never_refreshed n (h ▸ x) b ok none = never_refreshed n h b (and_parts (all_allowed h) _ ok).0 (absent_before h x n none)

never_marked : (n : ℕ) (def : ViewDef) (h : History) → all_allowed h ≡ true → view_of (roster h) n ≡ None → watermark n def h ≡ None
never_marked n def start ok none = refl
never_marked n def (resumed i) ok none = ap (λ v. v.mark) (absent_kept n i ok none)
never_marked n def (h ▸ Built cut snap) ok none =
    ap (λ m. greater m (top_of def h snap (span_of_cut n h cut))) (never_marked n def h (and_parts (all_allowed h) _ ok).0 none)
    ∙ ap (top_of def h snap) (never_cut n h cut (and_parts (all_allowed h) _ ok).0 none)
never_marked n def (h ▸ x) ok none = never_marked n def h (and_parts (all_allowed h) _ ok).0 (absent_before h x n none)

-- an image keeps nothing of an aggregate that the history doesn't have
none_past : {X : Type 0} (xs : List X) (n : ℕ) → slice_get xs n ≡ None → length xs ≤ n
none_past [] n e = omega arith
none_past (x ∷ xs) zero e = absurd (cc)
none_past (x ∷ xs) (suc n) e = omega (arith, none_past xs n e)

pub saved_none : (n : ℕ) (h : History) (i : Image) → IsImage h i → view_of (roster h) n ≡ None → saved_view n i ≡ nothing_saved
saved_none n h i is none =
    let past : length (roster h).views ≤ n = none_past (roster h).views n none in
    let as_many : length i.views ≡ length (roster h).views = is.as_many in
    ap (λ o. unwrap_or o nothing_saved) (slice_get_past i.views n (omega arith))

-- ---- names and modes have no effect

abbrev relabel : List ℕ → List (List ℕ) → Bool → ViewDef → ViewDef
relabel name names only def = record { name = name; table = def.table; fold = def.fold; names = names; only = only }

module _ (name : List ℕ) (names : List (List ℕ)) (only : Bool) (n : ℕ) (def : ViewDef) where
  mark_as : (h : History) → watermark n (relabel name names only def) h ≡ watermark n def h
  mark_as start = refl
  mark_as (resumed i) = refl
  mark_as (h ▸ Built cut snap) = ap (λ m. greater m (top_of def h snap (span_of_cut n h cut))) (mark_as h)
  mark_as (h ▸ x) = mark_as h

  touch_as : (h : History) (b : ℤ) → last_touch n (relabel name names only def) h b ≡ last_touch n def h b
  touch_as start b = refl
  touch_as (resumed i) b = refl
  touch_as (h ▸ Commit ops) b = ap (λ p. later p (cond (touches def ops h b) (Some (suc (position h))) None)) (touch_as h b)
  touch_as (h ▸ x) b = touch_as h b

  stood_as : (h : History) (s : ℕ) (b : ℤ) → groups_at_last n (relabel name names only def) h s b ≡ groups_at_last n def h s b
  stood_as start s b = refl
  stood_as (resumed i) s b = refl
  stood_as (h ▸ x) s b = refl

  alike_as : (g h : History) → AlikeView n (relabel name names only def) g h → AlikeView n def g h
  alike_as g h v = record {
    marks = sym (mark_as g) ∙ v.marks ∙ mark_as h;
    lasts = v.lasts;
    touches = λ b s bucket l. sym (ap (is_above s) (touch_as g b)) ∙ v.touches b s bucket l ∙ ap (is_above s) (touch_as h b);
    left = λ b s bucket l t.
        sym (stood_as (prefix g s) s b) ∙ v.left b s bucket l (ap (is_above s) (touch_as g b) ∙ t) ∙ stood_as (prefix h s) s b;
  }

alike_of : (n : ℕ) (def found : ViewDef) (g h : History) → found.table ≡ def.table → found.fold ≡ def.fold → AlikeView n found g h → AlikeView n def g h
alike_of n def found g h table fold v =
    let same_view : found ≡ relabel found.name found.names found.only def = (λ i. record { name = found.name; table = table i; fold = fold i; names = found.names; only = found.only }) in
    alike_as found.name found.names found.only n def g h (subst (λ d. AlikeView n d g h) same_view v)

-- ---- what is kept of an aggregate

-- a last refresh is before the history
pub last_before : (n : ℕ) (h : History) (b : ℤ) (s : ℕ) → all_allowed h ≡ true → last n h b ≡ Some s → s < position h
last_before n start b s ok e = absurd (cc)
last_before n (resumed i) b s ok e = lasts_below n i ok b s e
last_before n (h ▸ Built cut snap) b s ok e =
    ⊎_elim
    (λ before. omega (arith, last_before n h b s (and_parts (all_allowed h) _ ok).0 before))
    (λ now. let l : snap ≤ position h = built_bounds h cut snap (consistent_next h (Built cut snap) (and_parts (all_allowed h) (allowed h (Built cut snap)) ok).1) in let is : snap ≡ s = (covered_snap _ snap s now).1 in omega arith)
    (later_is (last n h b) (cond (is_covered b (span_of_cut n h cut)) (Some snap) None) s e)
last_before n (h ▸ x) b s ok e = omega (arith, last_before n h b s (and_parts (all_allowed h) _ ok).0 e)

view_again : (n : ℕ) (def : ViewDef) (h : History) (i : Image) → all_allowed h ≡ true → i.pos ≡ position h → IsSavedView n def h (saved_view n i) → AlikeView n def h (resumed i)
view_again n def h i ok pos v = record {
  marks = sym v.mark;
  lasts = λ b bucket. sym (v.lasts b bucket);
  touches = λ b s bucket l. touched_as b s bucket l (touched n def h b s) refl;
  left = λ b s bucket l t.
      let dirty : is_dirty n i b ≡ true = dirty_is b s bucket l ∙ t in
      let below : nat_lt s i.pos ≡ true = lt-ltb s i.pos (before b s l) in
      sym
      (cond-true (nat_lt s i.pos && is_dirty n i b) (saved_groups n i b) (groups_in def.fold (rows def.table (resumed i)) b) (and_from _ _ below dirty)
      ∙ v.groups b bucket
      ∙ cond-true (was_left n def h b) (groups_left n def h b (last n h b)) [] (sym (v.dirty b bucket) ∙ dirty)
      ∙ ap (groups_left n def h b) l);
}
  where
    before : (b : ℤ) (s : ℕ) → last n h b ≡ Some s → s < i.pos
    before b s l = let m : s < position h = last_before n h b s ok l in omega arith

    dirty_is : (b : ℤ) (s : ℕ) → is_bucket def.fold.width b ≡ true → last n h b ≡ Some s → is_dirty n i b ≡ touched n def h b s
    dirty_is b s bucket l = v.dirty b bucket ∙ ap (λ o. is_some o && is_invalid n def h b o) l

    touched_as : (b : ℤ) (s : ℕ) → is_bucket def.fold.width b ≡ true → last n h b ≡ Some s → (t : Bool) → touched n def h b s ≡ t → t ≡ is_above s (cond (is_dirty n i b) (Some i.pos) None)
    touched_as b s bucket l true t = sym (ap (λ d. is_above s (cond d (Some i.pos) None)) (dirty_is b s bucket l ∙ t) ∙ lt-ltb s i.pos (before b s l))
    touched_as b s bucket l false t = sym (ap (λ d. is_above s (cond d (Some i.pos) None)) (dirty_is b s bucket l ∙ t))

-- ---- the law

waiting_known : (q : Pending) → is_waiting q ≡ true → is_known q ≡ true
waiting_known (Waiting n) e = refl
waiting_known (Finished f) e = absurd (true≢false (sym e))
waiting_known Unknown e = absurd (true≢false (sym e))

views_alike : (h : History) (i : Image) → all_allowed h ≡ true → IsImage h i → (n : ℕ) (def : ViewDef) (o : Option ViewDef) → view_of (roster h) n ≡ o → IsOf def o → AlikeView n def h (resumed i)
views_alike h i ok is n def None there of = record {
  marks = never_marked n def h ok there ∙ sym (ap (λ v. v.mark) gone);
  lasts = λ b bucket. never_refreshed n h b ok there ∙ sym (ap (λ v. pos_in v.lasts b) gone);
  touches = λ b s bucket l. absurd (none_some (sym (never_refreshed n h b ok there) ∙ l));
  left = λ b s bucket l t. absurd (none_some (sym (never_refreshed n h b ok there) ∙ l));
}
  where
    gone : saved_view n i ≡ nothing_saved
    gone = saved_none n h i is there

    none_some : {s : ℕ} → (let none : Option ℕ = None in none ≡ Some s) → ⊥
    none_some e = absurd (cc)
views_alike h i ok is n def (Some found) there of = alike_of n def found h (resumed i) of.0 of.1 (view_again n found h i ok is.pos (is.views n found there))

pub images_are_alike : ImagesAreAlike
images_are_alike h i ok is = record {
  places = sym is.pos;
  relations = sym (ap (roster_over no_relations) is.relations ∙ roster_again (roster h));
  stored = λ t. sym (ap (λ es. in_order (appended_over t es)) is.held ∙ rows_again t h ok);
  refreshes = λ k. pending_upto h k ok ∙ (λ j. cond (nat_le k (sym is.pos j)) (pending_among (sym is.waits j) (sym is.done j) k) Unknown);
  spans = λ n k w. span_again h n k ok w ∙ ap (λ ws. span_among n ws k) (sym is.waits) ∙ sym (span_told i n k (let l : k ≤ position h = (known_bounds h k ok (waiting_known (pending h k) w)).1 in let p : i.pos ≡ position h = is.pos in omega arith));
  views = λ n def of. views_alike h i ok is n def (view_of (roster h) n) refl of;
}
