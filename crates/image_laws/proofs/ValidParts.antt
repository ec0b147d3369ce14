-- The image of an allowed history is valid, part by part: its rows and its refreshes.
use Rattle.std.proofs.Common.{◌≡◌, ℕ, zero, suc, ◌+◌, ◌<◌, ◌≤◌, Bool, true, false, ◌&&◌, ◌||◌, not, cond, nat_lt, nat_le, ◌==◌, List, [], ◌∷◌, ◌++◌, map, filter, length, ℤ, Option, Some, None, sym, refl, ap, ◌∙◌, subst, arith}
use Rattle.std.specs.List.{list_all, list_any}
use Rattle.std.specs.Ordering.{is_gt, is_lt, nat_cmp}
use Rattle.std.specs.declared.cmp.Ordering.{Ordering}
use Rattle.std.specs.declared.cmp.Ordering.TheVariants.{Less, Equal, Greater}
use Rattle.std.proofs.lemmas.Bool.{true≢false, and_parts, and_from, lt-ltb, ltb-true, le-leb, leb-true, eqb-true, cond-true, cond-false}
use Rattle.std.proofs.lemmas.Bool.Decides.{nat_tests}
use Rattle.std.proofs.lemmas.List.{append-nil}
use Rattle.std.proofs.lemmas.List.Folds.{list_all-append}
use Rattle.ts_bucket.specs.declared.spans.Span.{Span}
use Rattle.ts_schema.specs.declared.rows.Row.{Row}
use Rattle.ts_schema.specs.Rows.{row_cmp}
use Rattle.ts_model.specs.declared.events.Event.{Event}
use Rattle.ts_model.specs.declared.events.Event.TheVariants.{Table, Hyper, View, Mode, Commit, Cut, Built}
use Rattle.ts_model.specs.declared.events.Op.TheVariants.{Insert}
use Rattle.ts_model.specs.declared.images.Finished.{Finished as FinishedRefresh}
use Rattle.ts_model.specs.declared.images.Image.{Image}
use Rattle.ts_model.specs.declared.refreshes.Pending.{Pending}
use Rattle.ts_model.specs.declared.refreshes.Pending.TheVariants.{Waiting, Finished, Unknown}
use Rattle.ts_model.specs.declared.refreshes.Waiting.{Waiting as WaitingRefresh}
use Rattle.ts_model.specs.declared.rosters.Roster.{Roster}
use Rattle.ts_model.specs.declared.tables.Hyper.{Hyper as HyperInfo}
use Rattle.ts_model.specs.declared.tables.TableInfo.{TableInfo}
use Rattle.ts_model.specs.declared.tables.TableDef.{TableDef}
use Rattle.ts_model.specs.History.{History, start, resumed, ◌▸◌, position, prefix}
use Rattle.ts_model.specs.Saved.{pending_among, finished_among}
use Rattle.ts_model.specs.Roster.{roster, table_of, of_table, of_hyper, view_of}
use Rattle.ts_model.specs.Rows.{rows}
use Rattle.ts_model.specs.Pending.{finished_by, is_known, pending, waiting}
use Rattle.ts_model.specs.RefreshLaws.{waiting_as}
use Rattle.ts_model.specs.Laws.{InOrder, Rises, fits_table}
use Rattle.ts_model.specs.Limits.{last_position}
use Rattle.ts_model.specs.Allowed.{allowed, all_allowed}
use Rattle.ts_model.specs.Sound.{row_fits, rows_fit, op_fits, span_fits, sound_in, sound}
use Rattle.ts_model.specs.Timely.{timely_at, has_room, timely}
use Rattle.ts_model.specs.Valid.{all_rise, all_stand, hold_rows, is_number, waiting_fits, done_fits, image_roster, valid}
use Rattle.image_laws.specs.Images.{held_events, row_events, finished_as, finished_upto}
use Rattle.ts_model.proofs.ValidLaws.{known_among, valid_is}
use Rattle.ts_model.proofs.HistoryLaws.{prefix_end}
use Rattle.ts_model.proofs.RosterLaws.{relations_further}
use Rattle.ts_model.proofs.AllowedLaws.{consistent_of, sound_in_stays}
use Rattle.ts_model.proofs.FitLaws.{rows_fit_tables}
use Rattle.ts_model.proofs.OrderLaws.{rows_stand_in_order}
use Rattle.ts_model.proofs.WaitingLaws.{waiting_is_pending}
use Rattle.image_laws.proofs.ImageLaws.{known_bounds, done_fits_one, turned}

-- ---- the position

room_next : (p : ℕ) → nat_lt p last_position ≡ true → nat_le (suc p) last_position ≡ true
room_next p e = le-leb (suc p) last_position (let l : p < last_position = ltb-true p last_position e in omega arith)

pub position_fits : (h : History) → all_allowed h ≡ true → nat_le (position h) last_position ≡ true
position_fits start ok = refl
position_fits (resumed i) ok = (valid_is i ok).bounded
position_fits (h ▸ e) ok =
    let next = (and_parts (all_allowed h) (allowed h e) ok).1 in
    room_next (position h) (and_parts (timely_at h e) (has_room h) (and_parts (sound h e) (timely h e) next).1).1

-- ---- the rows

stands_is : {K : Type 0} (cmp : K → K → Ordering) (ks : List K) → InOrder cmp ks → all_stand cmp ks ≡ true
stands_is cmp [] o = refl
stands_is cmp (k ∷ ks) o = and_from _ _ o.0 (stands_is cmp ks o.1)

rise_is : {K : Type 0} (cmp : K → K → Ordering) (ks : List K) → Rises cmp ks → all_rise cmp ks ≡ true
rise_is cmp [] r = refl
rise_is cmp (k ∷ ks) r = and_from _ _ r.0 (rise_is cmp ks r.1)

of_hyper_rows : (def : TableDef) (o : Option HyperInfo) (row : Row) (rest : List Row) → list_all (λ row. of_hyper (λ def hyper. row_fits def hyper row) def o) (row ∷ rest) ≡ true → of_hyper (λ def hyper. rows_fit def hyper (row ∷ rest)) def o ≡ true
of_hyper_rows def None row rest e = absurd (true≢false (sym e))
of_hyper_rows def (Some hyper) row rest e = and_from (nat_lt 0 (length (row ∷ rest))) _ (lt-ltb 0 (length (row ∷ rest)) (omega arith)) e

of_table_rows : (o : Option TableInfo) (row : Row) (rest : List Row) → list_all (λ row. of_table (λ def hyper. row_fits def hyper row) o) (row ∷ rest) ≡ true → of_table (λ def hyper. rows_fit def hyper (row ∷ rest)) o ≡ true
of_table_rows None row rest e = absurd (true≢false (sym e))
of_table_rows (Some info) row rest e = of_hyper_rows info.def info.hyper row rest e

pub rows_now : (t : ℕ) (h : History) → all_allowed h ≡ true → list_all (fits_table (roster h) t) (rows t h) ≡ true
rows_now t h ok = ap (λ g. list_all (fits_table (roster h) t) (rows t g)) (sym (prefix_end h (position h) (omega arith))) ∙ rows_fit_tables.rows t h (position h) (consistent_of h ok)

held_from : (r : Roster) (u low : ℕ) (xs : List Row) (more : List Event) → low ≤ u → list_all (fits_table r u) xs ≡ true → InOrder row_cmp xs → ((low : ℕ) → low ≤ suc u → hold_rows r low more ≡ true) → hold_rows r low (held_events u xs ++ more) ≡ true
held_from r u low [] more l fit o rest = rest low (omega arith)
held_from r u low (x ∷ xs) more l fit o rest =
    and_from _ _ (and_from _ _ (and_from _ _ (le-leb low u l) (of_table_rows (table_of r u) x xs fit)) (stands_is row_cmp (x ∷ xs) o)) (rest (suc u) (omega arith))

pub rows_are_held : (h : History) (u n : ℕ) → all_allowed h ≡ true → (low : ℕ) → low ≤ u → hold_rows (roster h) low (row_events h u n) ≡ true
rows_are_held h u zero ok low l = refl
rows_are_held h u (suc n) ok low l =
    held_from (roster h) u low (rows u h) (row_events h (suc u) n) l (rows_now u h ok) (rows_stand_in_order u h) (λ low m. rows_are_held h (suc u) n ok low m)

-- ---- the refreshes that wait

abbrev waits_well : Roster → ℕ → WaitingRefresh → Bool
waits_well r p w = is_number p w.cut && span_fits w.span (view_of r w.view)

number_next : (p k : ℕ) → is_number p k ≡ true → is_number (suc p) k ≡ true
number_next p k e =
    let parts = and_parts (nat_lt 0 k) (nat_le k p) e in
    let l : k ≤ p = leb-true k p parts.1 in
    and_from _ _ parts.0 (le-leb k (suc p) (omega arith))

wait_on : (h : History) (e : Event) (ws : List WaitingRefresh) → list_all (waits_well (roster h) (position h)) ws ≡ true → list_all (waits_well (roster (h ▸ e)) (suc (position h))) ws ≡ true
wait_on h e [] all = refl
wait_on h e (w ∷ ws) all =
    let parts = and_parts (waits_well (roster h) (position h) w) (list_all (waits_well (roster h) (position h)) ws) all in
    let own = and_parts (is_number (position h) w.cut) (span_fits w.span (view_of (roster h) w.view)) parts.0 in
    and_from _ _ (and_from _ _ (number_next (position h) w.cut own.0) (sound_in_stays (roster h) (roster (h ▸ e)) (Cut w.view w.span) (relations_further (roster h) e) own.1)) (wait_on h e ws parts.1)

all_kept : {X : Type 0} (p q : X → Bool) (xs : List X) → list_all p xs ≡ true → list_all p (filter q xs) ≡ true
all_kept p q [] e = refl
all_kept p q (x ∷ xs) e =
    let parts = and_parts (p x) (list_all p xs) e in
    elim (q x) as (λ t. list_all p (cond t (x ∷ filter q xs) (filter q xs)) ≡ true) [ true ↦ and_from _ _ parts.0 (all_kept p q xs parts.1) | false ↦ all_kept p q xs parts.1 ]

wait_well : (h : History) → all_allowed h ≡ true → list_all (waits_well (roster h) (position h)) (waiting h) ≡ true
wait_well start ok = refl
wait_well (resumed i) ok = (and_parts (list_all (waits_well (image_roster i) i.pos) i.waiting) _ (valid_is i ok).waiting).0
wait_well (h ▸ Cut v span) ok =
    let parts = and_parts (all_allowed h) (allowed h (Cut v span)) ok in
    let fits = (and_parts (span_fits span (view_of (roster h) v)) _ (and_parts (sound h (Cut v span)) _ parts.1).0).0 in
    let number : is_number (suc (position h)) (suc (position h)) ≡ true = and_from _ _ (lt-ltb 0 (suc (position h)) (omega arith)) (le-leb (suc (position h)) (suc (position h)) (omega arith)) in
    list_all-append (waits_well (roster h) (suc (position h))) (waiting h) (record { cut = suc (position h); view = v; span = span } ∷ [])
    ∙ and_from _ _ (wait_on h (Cut v span) (waiting h) (wait_well h parts.0)) (and_from _ _ (and_from _ _ number fits) refl)
wait_well (h ▸ Built cut snap) ok = all_kept _ (λ r. not (r.cut == cut)) (waiting h) (wait_on h (Built cut snap) (waiting h) (wait_well h (and_parts (all_allowed h) _ ok).0))
wait_well (h ▸ Table def) ok = wait_on h (Table def) (waiting h) (wait_well h (and_parts (all_allowed h) _ ok).0)
wait_well (h ▸ Hyper t hyper) ok = wait_on h (Hyper t hyper) (waiting h) (wait_well h (and_parts (all_allowed h) _ ok).0)
wait_well (h ▸ View def) ok = wait_on h (View def) (waiting h) (wait_well h (and_parts (all_allowed h) _ ok).0)
wait_well (h ▸ Mode v only) ok = wait_on h (Mode v only) (waiting h) (wait_well h (and_parts (all_allowed h) _ ok).0)
wait_well (h ▸ Commit ops) ok = wait_on h (Commit ops) (waiting h) (wait_well h (and_parts (all_allowed h) _ ok).0)

pub waiting_is_fit : (h : History) → all_allowed h ≡ true → waiting_fits (roster h) (position h) (waiting h) ≡ true
waiting_is_fit h ok = and_from _ _ (wait_well h ok) (rise_is nat_cmp (map (λ (w : WaitingRefresh). w.cut) (waiting h)) (waiting_is_pending.rising h (consistent_of h ok)))

-- ---- the finished ones

-- a finish is after its cut and not after the history
among_after : (p : ℕ) (fs : List FinishedRefresh) (k f : ℕ) → list_all (λ (x : FinishedRefresh). nat_lt x.cut x.built && nat_le x.built p) fs ≡ true → finished_among fs k ≡ Finished f → (k < f) × (f ≤ p)
among_after p [] k f all e = absurd (cc)
among_after p (x ∷ fs) k f all e =
    let parts = and_parts (nat_lt x.cut x.built && nat_le x.built p) (list_all (λ (x : FinishedRefresh). nat_lt x.cut x.built && nat_le x.built p) fs) all in
    elim (k == x.cut) as (λ t. (k == x.cut) ≡ t → cond t (Finished x.built) (finished_among fs k) ≡ Finished f → (k < f) × (f ≤ p)) [
      | true ↦ λ here g.
          let own = and_parts (nat_lt x.cut x.built) (nat_le x.built p) parts.0 in
          let number : k ≡ x.cut = eqb-true k x.cut here in
          let built : x.built ≡ f = cc in
          let low : x.cut < x.built = ltb-true x.cut x.built own.0 in
          let high : x.built ≤ p = leb-true x.built p own.1 in
          (omega arith, omega arith)
      | false ↦ λ _ g. among_after p fs k f parts.1 g
    ] refl e

pending_after : (p : ℕ) (ws : List WaitingRefresh) (fs : List FinishedRefresh) (k f : ℕ) → list_all (λ (x : FinishedRefresh). nat_lt x.cut x.built && nat_le x.built p) fs ≡ true → pending_among ws fs k ≡ Finished f → (k < f) × (f ≤ p)
pending_after p [] fs k f all e = among_after p fs k f all e
pending_after p (w ∷ ws) fs k f all e =
    elim (k == w.cut) as (λ t. cond t (Waiting w.view) (pending_among ws fs k) ≡ Finished f → (k < f) × (f ≤ p)) [
      | true ↦ λ g. absurd (cc)
      | false ↦ λ g. pending_after p ws fs k f all g
    ] e

weaker : (i : Image) (fs : List FinishedRefresh) → list_all (done_fits_one i) fs ≡ true → list_all (λ (x : FinishedRefresh). nat_lt x.cut x.built && nat_le x.built i.pos) fs ≡ true
weaker i [] e = refl
weaker i (x ∷ fs) e =
    let parts = and_parts (done_fits_one i x) (list_all (done_fits_one i) fs) e in
    let apart = and_parts _ (not (list_any (λ (w : WaitingRefresh). w.cut == x.cut) i.waiting)) parts.0 in
    let high = and_parts _ (nat_le x.built i.pos) apart.0 in
    let low = and_parts (is_number i.pos x.cut) (nat_lt x.cut x.built) high.0 in
    and_from _ _ (and_from _ _ low.1 high.1) (weaker i fs parts.1)

-- after one more finish
after_built : (h : History) (cut k f : ℕ) → all_allowed h ≡ true → ((g : ℕ) → pending h k ≡ Finished g → (k < g) × (g ≤ position h)) → cond (k == cut) (finished_by (suc (position h)) (pending h k)) (pending h k) ≡ Finished f → (k < f) × (f ≤ suc (position h))
after_built h cut k f ok before e = by_case (k == cut) e
  where
    by_state : (q : Pending) → pending h k ≡ q → finished_by (suc (position h)) q ≡ Finished f → (k < f) × (f ≤ suc (position h))
    by_state (Waiting n) is g =
        let now : suc (position h) ≡ f = cc in
        let b = known_bounds h k ok (ap is_known is) in
        (omega (arith, b.1), omega arith)
    by_state (Finished g) is e = let same_finish : g ≡ f = cc in let b = before g is in (omega (arith, b.0), omega (arith, b.1))
    by_state Unknown is g = absurd (cc)

    by_case : (t : Bool) → cond t (finished_by (suc (position h)) (pending h k)) (pending h k) ≡ Finished f → (k < f) × (f ≤ suc (position h))
    by_case true g = by_state (pending h k) refl g
    by_case false g = let b = before f g in (b.0, omega (arith, b.1))

pub finished_after : (h : History) (k f : ℕ) → all_allowed h ≡ true → pending h k ≡ Finished f → (k < f) × (f ≤ position h)
finished_after start k f ok e = absurd (cc)
finished_after (resumed i) k f ok e = pending_after i.pos i.waiting i.done k f (weaker i i.done (and_parts (list_all (done_fits_one i) i.done) _ (valid_is i ok).done).0) (known_among i k (Finished f) refl e)
finished_after (h ▸ Cut v span) k f ok e =
    elim (k == suc (position h)) as (λ t. cond t (Waiting v) (pending h k) ≡ Finished f → (k < f) × (f ≤ suc (position h))) [
      | true ↦ λ g. absurd (cc)
      | false ↦ λ g. let b = finished_after h k f (and_parts (all_allowed h) _ ok).0 g in (b.0, omega (arith, b.1))
    ] e
finished_after (h ▸ Built cut snap) k f ok e = after_built h cut k f (and_parts (all_allowed h) _ ok).0 (λ g is. finished_after h k g (and_parts (all_allowed h) _ ok).0 is) e
finished_after (h ▸ x) k f ok e = let b = finished_after h k f (and_parts (all_allowed h) _ ok).0 e in (b.0, omega (arith, b.1))

none_any : (k : ℕ) (ws : List WaitingRefresh) → filter (λ (r : WaitingRefresh). r.cut == k) ws ≡ [] → list_any (λ (r : WaitingRefresh). r.cut == k) ws ≡ false
none_any k [] e = refl
none_any k (w ∷ ws) e =
    elim (w.cut == k) as (λ t. cond t (w ∷ filter (λ (r : WaitingRefresh). r.cut == k) ws) (filter (λ (r : WaitingRefresh). r.cut == k) ws) ≡ [] → (t || list_any (λ (r : WaitingRefresh). r.cut == k) ws) ≡ false) [
      | true ↦ λ f. absurd (cc)
      | false ↦ λ f. none_any k ws f
    ] e

abbrev done_well : ℕ → List WaitingRefresh → FinishedRefresh → Bool
done_well p ws f = is_number p f.cut && nat_lt f.cut f.built && nat_le f.built p && not (list_any (λ (w : WaitingRefresh). w.cut == f.cut) ws)

all_as : (p : FinishedRefresh → Bool) (k : ℕ) (q : Pending) → ((f : ℕ) → q ≡ Finished f → p (record { cut = k; built = f }) ≡ true) → list_all p (finished_as k q) ≡ true
all_as p k (Waiting n) each = refl
all_as p k (Finished f) each = and_from _ _ (each f refl) refl
all_as p k Unknown each = refl

done_all : (h : History) (q : ℕ) → all_allowed h ≡ true → q ≤ position h → list_all (done_well (position h) (waiting h)) (finished_upto h q) ≡ true
done_all h zero ok l = refl
done_all h (suc q) ok l =
    list_all-append (done_well (position h) (waiting h)) (finished_upto h q) (finished_as (suc q) (pending h (suc q)))
    ∙ and_from _ _ (done_all h q ok (omega arith))
    (all_as (done_well (position h) (waiting h)) (suc q) (pending h (suc q)) (λ f is.
    let b = finished_after h (suc q) f ok is in
    and_from _ _ (and_from _ _ (and_from _ _ (and_from _ _ (lt-ltb 0 (suc q) (omega arith)) (le-leb (suc q) (position h) l)) (lt-ltb (suc q) f b.0)) (le-leb f (position h) b.1))
    (ap not (none_any (suc q) (waiting h) (waiting_is_pending.exact h (suc q) (consistent_of h ok) ∙ ap (waiting_as h (suc q)) is)))))

-- their cuts rise
cuts_upto : (h : History) (q : ℕ) → list_all (λ (f : FinishedRefresh). nat_le f.cut q) (finished_upto h q) ≡ true
cuts_upto h zero = refl
cuts_upto h (suc q) =
    list_all-append (λ (f : FinishedRefresh). nat_le f.cut (suc q)) (finished_upto h q) (finished_as (suc q) (pending h (suc q)))
    ∙ and_from _ _ (further (finished_upto h q) (cuts_upto h q)) (all_as (λ f. nat_le f.cut (suc q)) (suc q) (pending h (suc q)) (λ f is. le-leb (suc q) (suc q) (omega arith)))
  where
    further : (fs : List FinishedRefresh) → list_all (λ (f : FinishedRefresh). nat_le f.cut q) fs ≡ true → list_all (λ (f : FinishedRefresh). nat_le f.cut (suc q)) fs ≡ true
    further [] e = refl
    further (f ∷ fs) e = let parts = and_parts (nat_le f.cut q) (list_all (λ (f : FinishedRefresh). nat_le f.cut q) fs) e in let l : f.cut ≤ q = leb-true f.cut q parts.0 in and_from _ _ (le-leb f.cut (suc q) (omega arith)) (further fs parts.1)

less_is : (a b : ℕ) → a < b → is_lt (nat_cmp a b) ≡ true
less_is a b l = ap is_lt (cond-true (nat_lt a b) Less (cond (a == b) Equal Greater) (lt-ltb a b l))

rise_pushed : (q f : ℕ) (fs : List FinishedRefresh) → list_all (λ (x : FinishedRefresh). nat_le x.cut q) fs ≡ true → all_rise nat_cmp (map (λ (x : FinishedRefresh). x.cut) fs) ≡ true → all_rise nat_cmp (map (λ (x : FinishedRefresh). x.cut) (fs ++ (record { cut = suc q; built = f } ∷ []))) ≡ true
rise_pushed q f [] low r = refl
rise_pushed q f (x ∷ fs) low r =
    let first = and_parts (nat_le x.cut q) (list_all (λ (y : FinishedRefresh). nat_le y.cut q) fs) low in
    let parts = and_parts (list_all (λ y. is_lt (nat_cmp x.cut y)) (map (λ (y : FinishedRefresh). y.cut) fs)) _ r in
    let l : x.cut ≤ q = leb-true x.cut q first.0 in
    and_from _ _ (below x.cut fs (omega arith) parts.0) (rise_pushed q f fs first.1 parts.1)
  where
    below : (c : ℕ) (fs : List FinishedRefresh) → c < suc q → list_all (λ y. is_lt (nat_cmp c y)) (map (λ (y : FinishedRefresh). y.cut) fs) ≡ true → list_all (λ y. is_lt (nat_cmp c y)) (map (λ (y : FinishedRefresh). y.cut) (fs ++ (record { cut = suc q; built = f } ∷ []))) ≡ true
    below c [] l e = and_from _ _ (less_is c (suc q) l) refl
    below c (y ∷ fs) l e = let parts = and_parts (is_lt (nat_cmp c y.cut)) (list_all (λ z. is_lt (nat_cmp c z)) (map (λ (z : FinishedRefresh). z.cut) fs)) e in and_from _ _ parts.0 (below c fs l parts.1)

one_more : (h : History) (q : ℕ) (s : Pending) → all_rise nat_cmp (map (λ (f : FinishedRefresh). f.cut) (finished_upto h q)) ≡ true → all_rise nat_cmp (map (λ (f : FinishedRefresh). f.cut) (finished_upto h q ++ finished_as (suc q) s)) ≡ true
one_more h q (Waiting n) r = ap (λ fs. all_rise nat_cmp (map (λ (f : FinishedRefresh). f.cut) fs)) (append-nil (finished_upto h q)) ∙ r
one_more h q (Finished f) r = rise_pushed q f (finished_upto h q) (cuts_upto h q) r
one_more h q Unknown r = ap (λ fs. all_rise nat_cmp (map (λ (f : FinishedRefresh). f.cut) fs)) (append-nil (finished_upto h q)) ∙ r

done_rise : (h : History) (q : ℕ) → all_rise nat_cmp (map (λ (f : FinishedRefresh). f.cut) (finished_upto h q)) ≡ true
done_rise h zero = refl
done_rise h (suc q) = one_more h q (pending h (suc q)) (done_rise h q)

pub done_is_fit : (h : History) → all_allowed h ≡ true → done_fits (position h) (waiting h) (finished_upto h (position h)) ≡ true
done_is_fit h ok = and_from _ _ (done_all h (position h) ok (omega arith)) (done_rise h (position h))
