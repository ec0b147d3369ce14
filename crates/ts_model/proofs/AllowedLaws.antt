-- Laws of allowed events: sound events stay sound, calls create allowed events, and jobs that fit still do.
use Rattle.std.proofs.Common.{◌≡◌, ℕ, suc, ◌≤◌, Bool, true, false, ◌&&◌, cond, nat_le, ◌==◌, List, [], ◌∷◌, ℤ, Option, Some, None, sym, refl, ap, ◌∙◌, subst, arith}
use Rattle.std.specs.Prelude.{is_some}
use Rattle.std.specs.List.{list_all}
use Rattle.std.proofs.lemmas.Bool.{true≢false, or_left, and_parts, and_from, leb-true, le-leb, eqb-true}
use Rattle.std.proofs.lemmas.Bool.Decides.{nat_tests}
use Rattle.ts_bucket.specs.Positions.{is_above}
use Rattle.ts_bucket.specs.declared.spans.Span.{Span}
use Rattle.ts_model.specs.declared.events.Event.{Event}
use Rattle.ts_model.specs.declared.events.Event.TheVariants.{Table, Hyper, View, Mode, Commit, Cut, Built}
use Rattle.ts_model.specs.declared.events.Op.{Op}
use Rattle.ts_model.specs.declared.events.Op.TheVariants.{Insert, Delete}
use Rattle.ts_model.specs.declared.refreshes.Pending.{Pending}
use Rattle.ts_model.specs.declared.refreshes.Pending.TheVariants.{Waiting, Finished, Unknown}
use Rattle.ts_model.specs.declared.rosters.Roster.{Roster}
use Rattle.ts_model.specs.declared.tables.Hyper.{Hyper as HyperInfo}
use Rattle.ts_model.specs.declared.tables.TableDef.{TableDef}
use Rattle.ts_model.specs.declared.tables.TableInfo.{TableInfo}
use Rattle.ts_model.specs.declared.views.ViewDef.{ViewDef}
use Rattle.ts_model.specs.History.{History, start, resumed, ◌▸◌, position, base_position, Begins, same, further}
use Rattle.ts_model.specs.Roster.{roster, table_of, view_of, of_hyper, of_table}
use Rattle.ts_model.specs.Rows.{rows, rows_at}
use Rattle.ts_model.specs.Refreshes.{span_of_cut, last_touch, last_touch_at, was_refreshed}
use Rattle.ts_model.specs.Answers.{answer}
use Rattle.ts_model.specs.Groups.{groups_of}
use Rattle.ts_model.specs.Windows.{last_end}
use Rattle.ts_model.specs.Timely.{has_room, timely, timely_at}
use Rattle.ts_model.specs.Sound.{sound, op_fits, hyper_fits, view_fits, span_fits, finish_fits, sound_in, sound_at}
use Rattle.ts_model.specs.Allowed.{all_allowed, all_consistent, allowed, consistent}
use Rattle.ts_model.specs.Pending.{finished_by, pending, is_known}
use Rattle.ts_model.specs.Jobs.{rows_of_spans, job_rows}
use Rattle.ts_model.specs.Laws.{KeepsHyper, KeepsTable, KeepsView, KeepsRelations, SoundStays, AnswersStay, FitsStays}
use Rattle.ts_model.proofs.HistoryLaws.{position_begins, base_begins, prefix_begins, prefix_stays}
use Rattle.ts_model.proofs.ValidLaws.{span_within}
use Rattle.ts_model.proofs.RosterLaws.{relations_stay}

-- ---- what an event names stays there

hyper_stays : (test : TableDef → HyperInfo → Bool) (def : TableDef) (was now : Option HyperInfo) → KeepsHyper was now → of_hyper test def was ≡ true → of_hyper test def now ≡ true
hyper_stays test def None now k e = absurd (true≢false (sym e))
hyper_stays test def (Some hyper) now k e = ap (of_hyper test def) k ∙ e

pub table_stays : (test : TableDef → HyperInfo → Bool) (was found : Option TableInfo) → ((info : TableInfo) → was ≡ Some info → KeepsTable info found) → of_table test was ≡ true → of_table test found ≡ true
table_stays test None found k e = absurd (true≢false (sym e))
table_stays test (Some info) found k e =
    let kept = k info refl in
    ap (of_table test) kept.there ∙ (ap (λ def. of_hyper test def kept.info.hyper) kept.def ∙ hyper_stays test info.def info.hyper kept.info.hyper kept.hyper e)

hyper_fits_stays : (hyper : HyperInfo) (was found : Option TableInfo) → ((info : TableInfo) → was ≡ Some info → KeepsTable info found) → hyper_fits hyper was ≡ true → hyper_fits hyper found ≡ true
hyper_fits_stays hyper None found k e = absurd (true≢false (sym e))
hyper_fits_stays hyper (Some info) found k e =
    let kept = k info refl in
    let P : TableDef → Type 0 = λ def. hyper_fits hyper (Some (record { def = def; hyper = kept.info.hyper })) ≡ true in
    ap (hyper_fits hyper) kept.there ∙ subst P (sym kept.def) e

view_stays : (was found : Option ViewDef) → ((def : ViewDef) → was ≡ Some def → KeepsView def found) → is_some was ≡ true → is_some found ≡ true
view_stays None found k e = absurd (true≢false (sym e))
view_stays (Some def) found k e = ap is_some (k def refl).there

span_stays : (span : Span) (was found : Option ViewDef) → ((def : ViewDef) → was ≡ Some def → KeepsView def found) → span_fits span was ≡ true → span_fits span found ≡ true
span_stays span None found k e = absurd (true≢false (sym e))
span_stays span (Some def) found k e = ap (span_fits span) (k def refl).there ∙ e

op_stays : (r s : Roster) (op : Op) → KeepsRelations r s → op_fits r op ≡ true → op_fits s op ≡ true
op_stays r s (Insert t new) k e = table_stays _ (table_of r t) (table_of s t) (k.tables t) e
op_stays r s (Delete t tests) k e = table_stays _ (table_of r t) (table_of s t) (k.tables t) e

ops_stay : (r s : Roster) (ops : List Op) → KeepsRelations r s → list_all (op_fits r) ops ≡ true → list_all (op_fits s) ops ≡ true
ops_stay r s [] k e = refl
ops_stay r s (op ∷ ops) k e =
    let parts = and_parts (op_fits r op) (list_all (op_fits r) ops) e in
    and_from _ _ (op_stays r s op k parts.0) (ops_stay r s ops k parts.1)

-- ---- refreshes stay known

known_finished : (k : ℕ) (p : Pending) → is_known p ≡ true → is_known (finished_by k p) ≡ true
known_finished k (Waiting n) e = refl
known_finished k (Finished f) e = refl
known_finished k Unknown e = e

known_further : (h : History) (x : Event) (k : ℕ) → is_known (pending h k) ≡ true → is_known (pending (h ▸ x) k) ≡ true
known_further h (Cut v span) k e = elim (k == suc (position h)) as (λ t. is_known (cond t (Waiting v) (pending h k)) ≡ true) [ true ↦ refl | false ↦ e ]
known_further h (Built cut snap) k e = elim (k == cut) as (λ t. is_known (cond t (finished_by (suc (position h)) (pending h k)) (pending h k)) ≡ true) [ true ↦ known_finished (suc (position h)) (pending h k) e | false ↦ e ]
known_further h x k e = e

pub known_stays : {g h : History} (k : ℕ) → Begins g h → is_known (pending g k) ≡ true → is_known (pending h k) ≡ true
known_stays k same e = e
known_stays k (further {h = h} {e = x} q) e = known_further h x k (known_stays k q e)

-- ---- what is sound stays sound

pub sound_in_stays : (r s : Roster) (e : Event) → KeepsRelations r s → sound_in r e ≡ true → sound_in s e ≡ true
sound_in_stays r s (Table def) k e = e
sound_in_stays r s (Hyper t hyper) k e = hyper_fits_stays hyper (table_of r t) (table_of s t) (k.tables t) e
sound_in_stays r s (View def) k e = table_stays (view_fits def) (table_of r def.table) (table_of s def.table) (k.tables def.table) e
sound_in_stays r s (Mode v only) k e = view_stays (view_of r v) (view_of s v) (k.views v) e
sound_in_stays r s (Commit ops) k e =
    let parts = and_parts _ (list_all (op_fits r) ops) e in
    and_from _ _ parts.0 (ops_stay r s ops k parts.1)
sound_in_stays r s (Cut v span) k e = span_stays span (view_of r v) (view_of s v) (k.views v) e
sound_in_stays r s (Built cut snap) k e = refl

finish_stays : (g h : History) (cut snap : ℕ) → Begins g h → finish_fits g cut snap ≡ true → finish_fits h cut snap ≡ true
finish_stays g h cut snap q e =
    let parts = and_parts _ (nat_le snap (position g)) e in
    let first = and_parts _ (nat_le (base_position g) snap) parts.0 in
    let cuts = and_parts (is_known (pending g cut)) (nat_le cut snap) first.0 in
    let before : snap ≤ position g = leb-true snap (position g) parts.1 in
    let longer : position g ≤ position h = position_begins q in
    let from_base : nat_le (base_position h) snap ≡ true = ap (λ p. nat_le p snap) (base_begins q) ∙ first.1 in
    and_from _ _ (and_from _ _ (and_from _ _ (known_stays cut q cuts.0) cuts.1) from_base) (le-leb snap (position h) (omega arith))

sound_at_stays : (g h : History) (e : Event) → Begins g h → sound_at g e ≡ true → sound_at h e ≡ true
sound_at_stays g h (Built cut snap) q e = finish_stays g h cut snap q e
sound_at_stays g h x q e = sound_in_stays (roster g) (roster h) x (relations_stay g h q) e

pub sound_stays : SoundStays
sound_stays g h e q s =
    let parts = and_parts (sound_at g e) _ s in
    and_from _ _ (sound_at_stays g h e q parts.0) parts.1

-- every history that an allowed one begins with is allowed
pub allowed_begins : {g h : History} → Begins g h → all_allowed h ≡ true → all_allowed g ≡ true
allowed_begins same ok = ok
allowed_begins (further {h = h} q) ok = allowed_begins q (and_parts (all_allowed h) _ ok).0

-- an allowed event is consistent, and so is an allowed history, which also has room
pub consistent_next : (h : History) (e : Event) → allowed h e ≡ true → consistent h e ≡ true
consistent_next h e ok =
    let parts = and_parts (sound h e) (timely h e) ok in
    and_from _ _ parts.0 (and_parts (timely_at h e) (has_room h) parts.1).0

pub consistent_of : (h : History) → all_allowed h ≡ true → all_consistent h ≡ true
consistent_of start ok = refl
consistent_of (resumed i) ok = ok
consistent_of (h ▸ e) ok =
    let parts = and_parts (all_allowed h) (allowed h e) ok in
    and_from _ _ (consistent_of h parts.0) (consistent_next h e parts.1)

-- every history that a consistent one begins with is consistent
pub consistent_begins : {g h : History} → Begins g h → all_consistent h ≡ true → all_consistent g ≡ true
consistent_begins same ok = ok
consistent_begins (further {h = h} q) ok = consistent_begins q (and_parts (all_consistent h) _ ok).0

-- ---- answers stay

pub answers_stay : AnswersStay
answers_stay query g h q = ap (answer query) (prefix_begins q)

-- ---- jobs that fit still do later

-- a cut is not after the history
pub cut_bounded : (n : ℕ) (h : History) (k : ℕ) (span : Span) → span_of_cut n h k ≡ Some span → k ≤ position h
cut_bounded n start k span e = absurd (cc)
cut_bounded n (resumed i) k span e = (span_within i n k span e).0
cut_bounded n (h ▸ Cut v made) k span e =
    elim ((k == suc (position h)) && (v == n)) as (λ t. ((k == suc (position h)) && (v == n)) ≡ t → cond t (Some made) (span_of_cut n h k) ≡ Some span → k ≤ suc (position h)) [
      | true ↦ λ here _.
          let is : k ≡ suc (position h) = eqb-true k (suc (position h)) (and_parts _ _ here).0 in
          omega arith
      | false ↦ λ _ f. omega (arith, cut_bounded n h k span f)
    ] refl e
cut_bounded n (h ▸ x) k span e = omega (arith, cut_bounded n h k span e)

pub cut_further : (n : ℕ) (h : History) (x : Event) (k : ℕ) (span : Span) → span_of_cut n h k ≡ Some span → span_of_cut n (h ▸ x) k ≡ Some span
cut_further n h (Cut v made) k span e =
    let l : k ≤ position h = cut_bounded n h k span e in
    let other : (k == suc (position h)) ≡ false = grind (arith, nat_tests) in
    ap (λ t. cond (t && (v == n)) (Some made) (span_of_cut n h k)) other ∙ e
cut_further n h x k span e = e

-- a cut of an aggregate stays
pub cut_stays : (n : ℕ) {g h : History} (k : ℕ) (span : Span) → Begins g h → span_of_cut n g k ≡ Some span → span_of_cut n h k ≡ Some span
cut_stays n k span same e = e
cut_stays n k span (further {h = h} {e = x} q) e = cut_further n h x k span (cut_stays n k span q e)

-- rows and last touches of an earlier position stay
pub rows_at_stay : (t : ℕ) {g h : History} (s : ℕ) → Begins g h → s ≤ position g → rows_at t h s ≡ rows_at t g s
rows_at_stay t s q l = ap (rows t) (prefix_stays s q l)

pub last_touch_at_stays : (n : ℕ) (def : ViewDef) {g h : History} (s : ℕ) (b : ℤ) → Begins g h → s ≤ position g → last_touch_at n def h s b ≡ last_touch_at n def g s b
last_touch_at_stays n def s b q l = ap (λ g. last_touch n def g b) (prefix_stays s q l)

refreshed_further : (n : ℕ) (h : History) (x : Event) (b : ℤ) (r : ℕ) → was_refreshed n h b r ≡ true → was_refreshed n (h ▸ x) b r ≡ true
refreshed_further n h (Built cut snap) b r e = or_left _ _ e
refreshed_further n h x b r e = e

pub refreshed_stays : (n : ℕ) {g h : History} (b : ℤ) (r : ℕ) → Begins g h → was_refreshed n g b r ≡ true → was_refreshed n h b r ≡ true
refreshed_stays n b r same e = e
refreshed_stays n b r (further {h = h} {e = x} q) e = refreshed_further n h x b r (refreshed_stays n b r q e)

pub fits_stays : FitsStays
fits_stays n def g h cut snap span spans groups top q f =
    let longer : position g ≤ position h = position_begins q in
    let same_base : base_position h ≡ base_position g = base_begins q in
    let above_base : base_position g ≤ snap = f.above_base in
    let same_rows : job_rows def h snap spans ≡ job_rows def g snap spans = ap (rows_of_spans def.fold spans) (rows_at_stay def.table snap q f.taken) in
    let taken : snap ≤ position h = omega (arith, f.taken) in (
      record {
        cut_is = cut_stays n cut span q f.cut_is;
        after_cut = f.after_cut;
        above_base = omega arith;
        taken = taken;
        whole = f.whole;
        groups_are = f.groups_are ∙ ap (groups_of def.fold) (sym same_rows);
        top_is = f.top_is ∙ ap (last_end def.fold.width) (sym same_rows);
        others = λ b bucket inside apart.
            let other = f.others b bucket inside apart in
            (other.0, other.1, refreshed_stays n b other.0 q other.2, ap (is_above other.0) (last_touch_at_stays n def snap b q f.taken) ∙ other.3);
      },
      same_rows,
    )
