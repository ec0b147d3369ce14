-- The parts of an image, table by table, aggregate by aggregate and range by range, combined.
use Rattle.std.proofs.Common.{◌≡◌, ℕ, zero, suc, nat_lt, get_or, ◌+◌, ◌<◌, ◌≤◌, Bool, true, false, ◌&&◌, ◌||◌, ℤ, ◌<ℤ◌, ◌≤ℤ◌, int_lt, List, [], ◌∷◌, ◌++◌, map, filter, cond, length, Option, Some, refl, sym, ap, ◌∙◌, subst, arith, append_assoc}
use Rattle.std.specs.Prelude.{slice_get, unwrap_or}
use Rattle.std.specs.List.{AllByRecursion, list_all}
use Rattle.std.specs.Ordering.{int_eq, is_lt}
use Rattle.std.proofs.lemmas.Bool.{and_parts, and_from, or_left, or_right, true≢false, ltb-true, ltb-false}
use Rattle.std.proofs.lemmas.Int.{ints}
use Rattle.std.proofs.lemmas.List.{append-nil, map-append, get_or_append_left}
use Rattle.std.proofs.lemmas.List.Elements.{filter-append}
use Rattle.std.proofs.lemmas.List.Folds.{list_all-append, list_all-map}
use Rattle.std.proofs.lemmas.Option.{slice_get_within, unwrap_or-slice_get}
use Rattle.std.proofs.Math.Seq.{get_or-append_seam}
use Rattle.ts_bucket.specs.Bucket.{is_bucket}
use Rattle.ts_bucket.specs.Ranges.{lies_in, IsWholeRange, RiseApart}
use Rattle.ts_bucket.specs.Spans.{in_span}
use Rattle.ts_bucket.specs.declared.spans.Span.{Span}
use Rattle.ts_bucket.specs.declared.widths.Width.{Width}
use Rattle.ts_bucket.proofs.SpanLaws.{in_span-ends}
use Rattle.ts_schema.proofs.Cases.{by_test}
use Rattle.partial_agg.specs.Groups.{group_cmp}
use Rattle.ts_schema.specs.declared.rows.Row.{Row}
use Rattle.ts_model.specs.declared.events.Event.{Event}
use Rattle.ts_model.specs.declared.events.Event.TheVariants.{Table}
use Rattle.ts_model.specs.declared.images.Finished.{Finished as FinishedRefresh}
use Rattle.ts_model.specs.declared.images.SavedGroup.{SavedGroup}
use Rattle.ts_model.specs.declared.images.SavedLast.{SavedLast}
use Rattle.ts_model.specs.declared.images.SavedView.{SavedView}
use Rattle.ts_model.specs.declared.refreshes.Waiting.{Waiting as WaitingRefresh}
use Rattle.ts_model.specs.declared.rosters.Roster.{Roster}
use Rattle.ts_model.specs.declared.tables.TableInfo.{TableInfo}
use Rattle.ts_model.specs.declared.views.ViewDef.{ViewDef}
use Rattle.ts_model.specs.History.{History, position}
use Rattle.ts_model.specs.Pending.{waiting}
use Rattle.ts_model.specs.Refreshes.{last, watermark}
use Rattle.ts_model.specs.Roster.{roster, view_of}
use Rattle.ts_model.specs.Rows.{rows}
use Rattle.ts_model.specs.Saved.{nothing_saved, group_of, groups_among}
use Rattle.ts_model.specs.Valid.{all_rise}
use Rattle.image_laws.specs.Images.{finished_upto, groups_left, held_events, hyper_events, roster_events, row_events, table_events, IsImage, IsSavedView}
use Rattle.base_image.specs.Taking.{AreDirty, AreKept, AreLasts, AreLeft}

-- ---- groups of one range before those of later ones

abbrev lie : List Span → List SavedGroup → Bool
lie ss gs = list_all (λ (g : SavedGroup). lies_in ss g.start) gs

apart : (s : ℤ) (b : ℤ) (t : Bool) → int_eq s b ≡ true → s ≡ b
apart s b t e = grind (arith, ints)

elsewhere : (ss : List Span) (gs : List SavedGroup) (b : ℤ) → lie ss gs ≡ true → lies_in ss b ≡ false → groups_among gs b ≡ []
elsewhere ss [] b l out = refl
elsewhere ss (g ∷ gs) b l out =
    let parts = and_parts (lies_in ss g.start) (lie ss gs) l in
    by_test (int_eq g.start b) (λ here. absurd (true≢false (sym parts.0 ∙ ap (lies_in ss) (apart g.start b true here) ∙ out))) (λ there.
    ap (λ (t : Bool). map group_of (cond t (g ∷ filter (λ (x : SavedGroup). int_eq x.start b) gs) (filter (λ (x : SavedGroup). int_eq x.start b) gs))) there
    ∙ elsewhere ss gs b parts.1 out
    )

widened : (ss ts : List Span) (gs : List SavedGroup) → ((b : ℤ) → lies_in ss b ≡ true → lies_in ts b ≡ true) → lie ss gs ≡ true → lie ts gs ≡ true
widened ss ts [] more l = refl
widened ss ts (g ∷ gs) more l =
    let parts = and_parts (lies_in ss g.start) (lie ss gs) l in
    and_from (lies_in ts g.start) (lie ts gs) (more g.start parts.0) (widened ss ts gs more parts.1)

-- numbers in later ranges are above the end of the first
later_above : (w : Width) (s : Span) (ss : List Span) (b : ℤ) → AllByRecursion (IsWholeRange w) ss → RiseApart (s ∷ ss) → lies_in ss b ≡ true → s.hi <ℤ b
later_above w s [] b whole rise l = absurd (true≢false (sym l))
later_above w s (t ∷ ss) b whole rise l =
    let above : s.hi <ℤ t.lo = rise.0 in
    by_test (in_span t b) (λ here. let low : t.lo ≤ℤ b = (in_span-ends t b here).0 in omega (arith, ints)) (λ past.
    let some : t.lo <ℤ t.hi = whole.0.some in
    let next : t.hi <ℤ b = later_above w t ss b whole.1 rise.1 (sym (ap (λ (x : Bool). x || lies_in ss b) past) ∙ l) in
    omega (arith, ints)
    )

-- a single range
alone : (s : Span) (b : ℤ) → lies_in (s ∷ []) b ≡ in_span s b
alone s b = elim (in_span s b) as (λ (t : Bool). (t || false) ≡ t) [ true ↦ refl | false ↦ refl ]

comes_first : (g k : SavedGroup) → g.start <ℤ k.start → is_lt (group_cmp (group_of g) (group_of k)) ≡ true
comes_first g k l = grind (arith, ints)

-- a group below all of these comes before each
before_all : (g : SavedGroup) (c : ℤ) (gs : List SavedGroup) → g.start <ℤ c → list_all (λ (k : SavedGroup). int_lt c k.start) gs ≡ true → list_all (λ y. is_lt (group_cmp (group_of g) y)) (map group_of gs) ≡ true
before_all g c [] l above = refl
before_all g c (k ∷ gs) l above =
    let parts = and_parts (int_lt c k.start) (list_all (λ (x : SavedGroup). int_lt c x.start) gs) above in
    let high : c <ℤ k.start = over c k.start parts.0 in
    and_from _ _ (comes_first g k (omega (arith, ints))) (before_all g c gs l parts.1)
  where
    over : (x y : ℤ) → int_lt x y ≡ true → x <ℤ y
    over x y e = grind (arith, ints)

rise_after : (c : ℤ) (gs ks : List SavedGroup) → list_all (λ (g : SavedGroup). int_lt g.start c) gs ≡ true → list_all (λ (k : SavedGroup). int_lt c k.start) ks ≡ true → all_rise group_cmp (map group_of gs) ≡ true → all_rise group_cmp (map group_of ks) ≡ true → all_rise group_cmp (map group_of (gs ++ ks)) ≡ true
rise_after c [] ks low high rise_g rise_k = rise_k
rise_after c (g ∷ gs) ks low high rise_g rise_k =
    let below = and_parts (int_lt g.start c) (list_all (λ (x : SavedGroup). int_lt x.start c) gs) low in
    let risen = and_parts (list_all (λ y. is_lt (group_cmp (group_of g) y)) (map group_of gs)) (all_rise group_cmp (map group_of gs)) rise_g in
    let first : list_all (λ y. is_lt (group_cmp (group_of g) y)) (map group_of (gs ++ ks)) ≡ true =
    ap (list_all (λ y. is_lt (group_cmp (group_of g) y))) (map-append group_of gs ks)
    ∙ list_all-append (λ y. is_lt (group_cmp (group_of g) y)) (map group_of gs) (map group_of ks)
    ∙ and_from _ _ risen.0 (before_all g c ks (under g.start c below.0) high) in
    and_from _ _ first (rise_after c gs ks below.1 high risen.1 rise_k)
  where
    under : (x y : ℤ) → int_lt x y ≡ true → x <ℤ y
    under x y e = grind (arith, ints)

all_by : (p q : SavedGroup → Bool) (gs : List SavedGroup) → ((g : SavedGroup) → p g ≡ true → q g ≡ true) → list_all p gs ≡ true → list_all q gs ≡ true
all_by p q [] more l = refl
all_by p q (g ∷ gs) more l =
    let parts = and_parts (p g) (list_all p gs) l in
    and_from (q g) (list_all q gs) (more g parts.0) (all_by p q gs more parts.1)

less : (x y : ℤ) → x <ℤ y → int_lt x y ≡ true
less x y l = grind (arith, ints)

module _ (n : ℕ) (def : ViewDef) (h : History) (s : Span) (ss : List Span) (whole : AllByRecursion (IsWholeRange def.fold.width) ss) (rise : RiseApart (s ∷ ss)) (gs ks : List SavedGroup) (first : AreLeft n def h (s ∷ []) gs) (rest : AreLeft n def h ss ks) where
  outside : (b : ℤ) → in_span s b ≡ true → lies_in ss b ≡ false
  outside b here =
      by_test (lies_in ss b) (λ there.
      let low : b <ℤ s.hi = (in_span-ends s b here).1 in
      let high : s.hi <ℤ b = later_above def.fold.width s ss b whole rise there in
      absurd (omega (arith, ints))
      ) (λ e. e)

  halves : (b : ℤ) → groups_among (gs ++ ks) b ≡ groups_among gs b ++ groups_among ks b
  halves b = ap (map group_of) (filter-append (λ (g : SavedGroup). int_eq g.start b) gs ks) ∙ map-append group_of (filter (λ (g : SavedGroup). int_eq g.start b) gs) (filter (λ (g : SavedGroup). int_eq g.start b) ks)

  left_at : (b : ℤ) → is_bucket def.fold.width b ≡ true → lies_in (s ∷ ss) b ≡ true → groups_among (gs ++ ks) b ≡ groups_left n def h b (last n h b)
  left_at b bucket l =
      by_test (in_span s b) (λ here.
      halves b ∙ ap (λ xs. groups_among gs b ++ xs) (elsewhere ss ks b rest.within (outside b here)) ∙ append-nil (groups_among gs b)
      ∙ first.exact b bucket (alone s b ∙ here)
      ) (λ past.
      halves b ∙ ap (λ xs. xs ++ groups_among ks b) (elsewhere (s ∷ []) gs b first.within (alone s b ∙ past))
      ∙ rest.exact b bucket (sym (ap (λ (t : Bool). t || lies_in ss b) past) ∙ l)
      )

  pub front_left : AreLeft n def h (s ∷ ss) (gs ++ ks)
  front_left = record {
    rise =
        let low = all_by (λ (g : SavedGroup). lies_in (s ∷ []) g.start) (λ (g : SavedGroup). int_lt g.start s.hi) gs (λ g l. less g.start s.hi (in_span-ends s g.start (sym (alone s g.start) ∙ l)).1) first.within in
        let high = all_by (λ (g : SavedGroup). lies_in ss g.start) (λ (g : SavedGroup). int_lt s.hi g.start) ks (λ g l. less s.hi g.start (later_above def.fold.width s ss g.start whole rise l)) rest.within in
        rise_after s.hi gs ks low high first.rise rest.rise;
    whole = list_all-append (λ (g : SavedGroup). is_bucket def.fold.width g.start) gs ks ∙ and_from _ _ first.whole rest.whole;
    within =
        list_all-append (λ (g : SavedGroup). lies_in (s ∷ ss) g.start) gs ks
        ∙ and_from _ _ (widened (s ∷ []) (s ∷ ss) gs (λ b l. or_left (in_span s b) (lies_in ss b) (sym (alone s b) ∙ l)) first.within)
        (widened ss (s ∷ ss) ks (λ b l. or_right (in_span s b) (lies_in ss b) l) rest.within);
    exact = left_at;
  }

pub none_left_in : (n : ℕ) (def : ViewDef) (h : History) → AreLeft n def h [] []
none_left_in n def h = record { rise = refl; whole = refl; within = refl; exact = λ b bucket l. absurd (true≢false (sym l)) }

-- ---- one more aggregate

pub none_kept : (h : History) → AreKept h 0 []
none_kept h = record { as_many = refl; each = λ n def l. absurd (omega (arith, l)) }

last_place : (n k m : ℕ) → n < suc k → nat_lt n k ≡ false → m ≡ k → n ≡ m
last_place n k m l e is = let above : k ≤ n = ltb-false n k e in omega (arith, l, above, is)

kept_on : (h : History) (k : ℕ) (vs : List SavedView) (v : SavedView) → AreKept h k vs → ((def : ViewDef) → view_of (roster h) k ≡ Some def → IsSavedView k def h v) → AreKept h (suc k) (vs ++ v ∷ [])
kept_on h k vs v kept this = record {
  as_many = longer vs kept.as_many;
  each = λ n def l is. by_place n def l is;
}
  where
    longer : (xs : List SavedView) {m : ℕ} → length xs ≡ m → length (xs ++ v ∷ []) ≡ suc m
    longer [] e = ap suc e
    longer (x ∷ xs) e = ap suc (longer xs refl) ∙ ap suc e

    at : (n : ℕ) → unwrap_or (slice_get (vs ++ v ∷ []) n) nothing_saved ≡ get_or (vs ++ v ∷ []) n nothing_saved
    at n = unwrap_or-slice_get (vs ++ v ∷ []) n nothing_saved

    by_place : (n : ℕ) (def : ViewDef) → n < suc k → view_of (roster h) n ≡ Some def → IsSavedView n def h (unwrap_or (slice_get (vs ++ v ∷ []) n) nothing_saved)
    by_place n def l is =
        by_test (nat_lt n k) (λ e.
        let below : n < k = ltb-true n k e in
        let old : unwrap_or (slice_get vs n) nothing_saved ≡ unwrap_or (slice_get (vs ++ v ∷ []) n) nothing_saved =
        unwrap_or-slice_get vs n nothing_saved ∙ sym (get_or_append_left vs (v ∷ []) nothing_saved n (subst (λ m. n < m) (sym kept.as_many) below)) ∙ sym (at n) in
        subst (IsSavedView n def h) old (kept.each n def below is)
        ) (λ e.
        let same : n ≡ length vs = last_place n k (length vs) l e kept.as_many in
        let new : v ≡ unwrap_or (slice_get (vs ++ v ∷ []) n) nothing_saved = sym (at n ∙ ap (λ m. get_or (vs ++ v ∷ []) m nothing_saved) same ∙ get_or-append_seam vs v [] nothing_saved) in
        let place : k ≡ n = sym kept.as_many ∙ sym same in
        subst (IsSavedView n def h) new (subst (λ m. IsSavedView m def h v) place (this def (ap (view_of (roster h)) place ∙ is)))
        )

pub one_more_kept : (h : History) (k : ℕ) (vs : List SavedView) (v : SavedView) → AreKept h k vs → ((def : ViewDef) → view_of (roster h) k ≡ Some def → IsSavedView k def h v) → AreKept h (k + 1) (vs ++ v ∷ [])
one_more_kept h k vs v kept this =
    let next : suc k ≡ k + 1 = omega arith in
    subst (λ m. AreKept h m (vs ++ v ∷ [])) next (kept_on h k vs v kept this)

-- ---- groups of ranges, from the first range on

-- the ranges left, whose groups all come after those of the earlier ranges
pub record IsLeftSoFar (n : ℕ) (def : ViewDef) (h : History) (ranges left : List Span) (groups : List SavedGroup) : Type 0 where
  pub whole : AllByRecursion (IsWholeRange def.fold.width) left
  pub rise : RiseApart left
  pub more : (ks : List SavedGroup) → AreLeft n def h left ks → AreLeft n def h ranges (groups ++ ks)

pub left_begins : (n : ℕ) (def : ViewDef) (h : History) (ranges : List Span) (gs : List SavedGroup) → AllByRecursion (IsWholeRange def.fold.width) ranges → RiseApart ranges → gs ≡ [] → IsLeftSoFar n def h ranges ranges gs
left_begins n def h ranges gs whole rise none = record {
  whole = whole;
  rise = rise;
  more = λ ks here. subst (λ xs. AreLeft n def h ranges (xs ++ ks)) (sym none) here;
}

pub left_first_whole : (n : ℕ) (def : ViewDef) (h : History) (ranges left rest : List Span) (s : Span) (gs : List SavedGroup) → left ≡ s ∷ rest → IsLeftSoFar n def h ranges left gs → IsWholeRange def.fold.width s
left_first_whole n def h ranges left rest s gs is so_far = (subst (AllByRecursion (IsWholeRange def.fold.width)) is so_far.whole).0

tail_apart : (s : Span) (ss : List Span) → RiseApart (s ∷ ss) → RiseApart ss
tail_apart s [] r = tt
tail_apart s (t ∷ ss) r = r.1

pub left_goes_on : (n : ℕ) (def : ViewDef) (h : History) (ranges left rest : List Span) (s : Span) (gs new : List SavedGroup) → left ≡ s ∷ rest → IsLeftSoFar n def h ranges left gs → AreLeft n def h (s ∷ []) new → IsLeftSoFar n def h ranges rest (gs ++ new)
left_goes_on n def h ranges left rest s gs new is so_far here =
    let whole = subst (AllByRecursion (IsWholeRange def.fold.width)) is so_far.whole in
    let rise = subst RiseApart is so_far.rise in
    record {
      whole = whole.1;
      rise = tail_apart s rest rise;
      more = λ ks later.
          let all = so_far.more (new ++ ks) (subst (λ ss. AreLeft n def h ss (new ++ ks)) (sym is) (front_left n def h s rest whole.1 rise new ks here later)) in
          subst (AreLeft n def h ranges) (sym (append_assoc gs new ks)) all;
    }

pub left_ends : (n : ℕ) (def : ViewDef) (h : History) (ranges left : List Span) (gs : List SavedGroup) → left ≡ [] → IsLeftSoFar n def h ranges left gs → AreLeft n def h ranges gs
left_ends n def h ranges left gs none so_far =
    subst (AreLeft n def h ranges) (append-nil gs) (so_far.more [] (subst (λ ss. AreLeft n def h ss []) (sym none) (none_left_in n def h)))

-- ---- an aggregate

pub saved_is : (n : ℕ) (def : ViewDef) (h : History) (lasts : List SavedLast) (dirty : List Span) (groups : List SavedGroup) (mark : Option ℤ) → AreLasts n def h lasts → AreDirty n def h dirty → AreLeft n def h dirty groups → mark ≡ watermark n def h → IsSavedView n def h (record { lasts = lasts; dirty = dirty; groups = groups; mark = mark })
saved_is n def h lasts dirty groups mark ls ds gs m = record {
  lasts_whole = ls.whole;
  lasts_rise = ls.rise;
  lasts = ls.exact;
  dirty_whole = ds.whole;
  dirty_rise = ds.rise;
  dirty = ds.exact;
  groups_rise = gs.rise;
  groups_whole = gs.whole;
  groups = λ b bucket. by_test (lies_in dirty b)
      (λ there. gs.exact b bucket there ∙ sym (ap (λ t. cond t (groups_left n def h b (last n h b)) []) (sym (ds.exact b bucket) ∙ there)))
      (λ out. elsewhere dirty groups b gs.within out ∙ sym (ap (λ t. cond t (groups_left n def h b (last n h b)) []) (sym (ds.exact b bucket) ∙ out)));
  mark = m;
}

-- ---- the roster and the rows

pub tables_go_on : (events after before : List Event) (t : ℕ) (info : TableInfo) (left rest all : List TableInfo) → left ≡ info ∷ rest → after ≡ events ++ Table info.def ∷ hyper_events t info.hyper → events ++ table_events t left ≡ before ++ table_events 0 all → after ++ table_events (t + 1) rest ≡ before ++ table_events 0 all
tables_go_on events after before t info left rest all is pushed so_far =
    let next : t + 1 ≡ suc t = omega arith in
    ap (λ xs. xs ++ table_events (t + 1) rest) pushed
    ∙ ap (λ m. (events ++ Table info.def ∷ hyper_events t info.hyper) ++ table_events m rest) next
    ∙ append_assoc events (Table info.def ∷ hyper_events t info.hyper) (table_events (suc t) rest)
    ∙ sym (ap (λ xs. events ++ table_events t xs) is)
    ∙ so_far

pub fewer_left : (t : ℕ) (left rest : List TableInfo) (info : TableInfo) (all : ℕ) → left ≡ info ∷ rest → t + length left ≡ all → (t + 1) + length rest ≡ all
fewer_left t left rest info all is so_far =
    let longer : length left ≡ suc (length rest) = ap length is in
    omega (arith, longer, so_far)

pub tables_end : (events before : List Event) (t : ℕ) (left all : List TableInfo) → left ≡ [] → events ++ table_events t left ≡ before ++ table_events 0 all → events ≡ before ++ table_events 0 all
tables_end events before t left all none so_far = sym (append-nil events) ∙ sym (ap (λ xs. events ++ table_events t xs) none) ∙ so_far

-- one more table
held_more : (h : History) (t k : ℕ) → row_events h t (suc k) ≡ row_events h t k ++ held_events (t + k) (rows (t + k) h)
held_more h t zero =
    let here : t + 0 ≡ t = omega arith in
    append-nil (held_events t (rows t h)) ∙ sym (ap (λ m. held_events m (rows m h)) here)
held_more h t (suc k) =
    let there : suc t + k ≡ t + suc k = omega arith in
    ap (λ xs. held_events t (rows t h) ++ xs) (held_more h (suc t) k)
    ∙ sym (append_assoc (held_events t (rows t h)) (row_events h (suc t) k) (held_events (suc t + k) (rows (suc t + k) h)))
    ∙ ap (λ m. (held_events t (rows t h) ++ row_events h (suc t) k) ++ held_events m (rows m h)) there

pub one_more_held : (h : History) (k : ℕ) (events : List Event) (found : List Row) → events ≡ row_events h 0 k → found ≡ rows k h → events ++ held_events k found ≡ row_events h 0 (k + 1)
one_more_held h k events found so_far is =
    let next : suc k ≡ k + 1 = omega arith in
    let place : k ≡ 0 + k = omega arith in
    ap (λ xs. xs ++ held_events k found) so_far ∙ ap (λ xs. row_events h 0 k ++ held_events k xs) is
    ∙ ap (λ m. row_events h 0 k ++ held_events m (rows m h)) place ∙ sym (held_more h 0 k) ∙ ap (row_events h 0) next

-- ---- the image

pub image_is : (h : History) (p : ℕ) (r : Roster) (roster_made held : List Event) (views : List SavedView) (ws : List WaitingRefresh) (fs : List FinishedRefresh) → p ≡ position h → r ≡ roster h → roster_made ≡ roster_events r → held ≡ row_events h 0 (length (roster h).tables) → AreKept h (length (roster h).views) views → ws ≡ waiting h → fs ≡ finished_upto h (position h) → IsImage h (record { pos = p; roster = roster_made; rows = held; views = views; waiting = ws; done = fs })
image_is h p r made held views ws fs at same relations stored kept waits done = record {
  pos = at;
  relations = relations ∙ ap roster_events same;
  held = stored;
  as_many = kept.as_many;
  views = λ n def is. kept.each n def (slice_get_within (roster h).views n def is) is;
  waits = waits;
  done = done;
}
