-- The rows of chained spans, span by span, are all rows.
use Rattle.std.proofs.Common.{◌≡◌, ℕ, Bool, true, false, ◌&&◌, not, cond, List, [], ◌∷◌, ◌++◌, filter, ℤ, pos, ◌+ℤ◌, ◌≤ℤ◌, ◌<ℤ◌, int_le, int_lt, Option, Some, None, Result, Ok, Err, IfOk, refl, sym, ap, ◌∙◌, subst, arith}
use Rattle.std.specs.Prelude.{OnOk}
use Rattle.std.specs.List.{list_all}
use Rattle.std.specs.Ordering.{is_gt}
use Rattle.std.proofs.lemmas.Bool.{and_parts, and_from}
use Rattle.std.proofs.lemmas.Int.{ints}
use Rattle.ts_bucket.specs.Bucket.{is_time, max_time, min_time}
use Rattle.ts_bucket.specs.Spans.{in_span}
use Rattle.ts_bucket.specs.declared.spans.Span.{Span}
use Rattle.ts_schema.proofs.Cases.{by_test, int_le-true, le-int_le, int_lt-true}
use Rattle.ts_schema.specs.declared.rows.Row.{Row}
use Rattle.ts_schema.specs.Rows.{row_cmp}
use Rattle.ts_model.specs.History.{History}
use Rattle.ts_model.specs.Laws.{InOrder}
use Rattle.ts_model.specs.Rows.{in_order, rows}
use Rattle.ts_model.proofs.OrderLaws.{in_order-with_rows}
use Rattle.ts_model.proofs.RowLaws.{all-in_order, filter-in_order}
use Rattle.chunk_catalog.specs.Chunks.{HaveTimes}
use Rattle.row_versions.specs.Tables.{rows_of_span}
use Rattle.base_image.specs.Outlines.{rows_in, span_rows}
use Rattle.realtime_union.proofs.LiveLaws.{all_scanned}
use Rattle.engine_state.specs.ChunkParts.{AreChained, rows_held, state_rows}
use Rattle.engine_state.specs.Scans.{seen_rows}
use Rattle.engine_state.specs.Stands.{StateValue, Stands, StandsFor}
use Rattle.engine_state.specs.Tables.{TableValue, table_at}
use Rattle.engine_state.proofs.AnswerFacts.{table_tells}
use Rattle.engine_state.proofs.ImageFacts.{no_rows}

-- ---- spans that are chained

-- one more at the end
pub chain_push : (lo : ℤ) (s : Span) (ss : List Span) (m : ℤ) → AreChained lo m ss → m ≡ s.lo → s.lo ≤ℤ s.hi → AreChained lo s.hi (ss ++ (s ∷ []))
chain_push lo s [] m c is l = (c ∙ is, (l, refl))
chain_push lo s (x ∷ ss) m c is l = (c.0, (c.1.0, chain_push x.hi s ss m c.1.1 is l))

pub pushed : {A E : Type 0} (r : Result A E) (lo : ℤ) (s : Span) (old new : List Span) → s.lo ≤ℤ s.hi → IfOk r (λ _. new ≡ old ++ (s ∷ [])) → AreChained lo s.lo old → OnOk r (AreChained lo s.hi new)
pushed (Ok x) lo s old new l is c = subst (AreChained lo s.hi) (sym is) (chain_push lo s old s.lo c refl l)
pushed (Err e) lo s old new l is c = tt

chain_up : (lo hi : ℤ) (ss : List Span) → AreChained lo hi ss → lo ≤ℤ hi
chain_up lo hi [] c = omega (arith, ints, c)
chain_up lo hi (s ∷ ss) c = omega (arith, ints, c.0, c.1.0, chain_up s.hi hi ss c.1.1)

-- ---- rows in order

abbrev from_to : ℤ → ℤ → List Row → List Row
from_to lo hi rows = filter (λ row. in_span (record { lo = lo; hi = hi }) row.at) rows

no_earlier : (x y : Row) → not (is_gt (row_cmp x y)) ≡ true → x.at ≤ℤ y.at
no_earlier x y e = grind (arith, ints)

below : (m b t : ℤ) → t <ℤ m → (int_le m t && int_lt t b) ≡ false
below m b t l = grind (arith, ints)

below_both : (a m b t : ℤ) → m ≤ℤ b → t <ℤ m → (int_le a t && int_lt t m) ≡ (int_le a t && int_lt t b)
below_both a m b t mb l = grind (arith, ints)

above : (a m t : ℤ) → m ≤ℤ t → (int_le a t && int_lt t m) ≡ false
above a m t l = grind (arith, ints)

above_both : (a m b t : ℤ) → a ≤ℤ m → m ≤ℤ t → (int_le m t && int_lt t b) ≡ (int_le a t && int_lt t b)
above_both a m b t am l = grind (arith, ints)

nowhere : (a t : ℤ) → (int_le a t && int_lt t a) ≡ false
nowhere a t = grind (arith, ints)

no_time : (a : ℤ) (rows : List Row) → from_to a a rows ≡ []
no_time a [] = refl
no_time a (x ∷ xs) = ap (λ t. cond t (x ∷ from_to a a xs) (from_to a a xs)) (nowhere a x.at) ∙ no_time a xs

module _ (a m b : ℤ) (am : a ≤ℤ m) (mb : m ≤ℤ b) where
  abbrev are_late : List Row → Bool
  are_late rows = list_all (λ row. int_le m row.at) rows

  none_before : (rows : List Row) → are_late rows ≡ true → from_to a m rows ≡ []
  none_before [] late = refl
  none_before (x ∷ xs) late =
      let both = and_parts (int_le m x.at) (are_late xs) late in
      ap (λ t. cond t (x ∷ from_to a m xs) (from_to a m xs)) (above a m x.at (int_le-true m x.at both.0)) ∙ none_before xs both.1

  same_after : (rows : List Row) → are_late rows ≡ true → from_to m b rows ≡ from_to a b rows
  same_after [] late = refl
  same_after (x ∷ xs) late =
      let both = and_parts (int_le m x.at) (are_late xs) late in
      ap (λ t. cond t (x ∷ from_to m b xs) (from_to m b xs)) (above_both a m b x.at am (int_le-true m x.at both.0))
      ∙ ap (λ rs. cond (int_le a x.at && int_lt x.at b) (x ∷ rs) rs) (same_after xs both.1)

  late_rest : (x : Row) (xs : List Row) → m ≤ℤ x.at → list_all (λ y. not (is_gt (row_cmp x y))) xs ≡ true → are_late xs ≡ true
  late_rest x [] l o = refl
  late_rest x (y ∷ ys) l o =
      let both = and_parts (not (is_gt (row_cmp x y))) (list_all (λ z. not (is_gt (row_cmp x z))) ys) o in
      let next : x.at ≤ℤ y.at = no_earlier x y both.0 in
      and_from _ _ (le-int_le m y.at (omega (arith, ints, l, next))) (late_rest x ys l both.1)

  -- the rows before a time, and those from it on
  parted : (rows : List Row) → InOrder row_cmp rows → from_to a m rows ++ from_to m b rows ≡ from_to a b rows
  parted [] o = refl
  parted (x ∷ xs) o =
      by_test (int_lt x.at m)
      (λ before.
      let l : x.at <ℤ m = int_lt-true x.at m before in
      ap (λ t. cond (int_le a x.at && int_lt x.at m) (x ∷ from_to a m xs) (from_to a m xs) ++ cond t (x ∷ from_to m b xs) (from_to m b xs)) (below m b x.at l)
      ∙ heads (parted xs o.1) (int_le a x.at && int_lt x.at m)
      ∙ ap (λ t. cond t (x ∷ from_to a b xs) (from_to a b xs)) (below_both a m b x.at mb l))
      (λ not_before.
      let l : m ≤ℤ x.at = from_here x.at not_before in
      let late : are_late (x ∷ xs) ≡ true = and_from _ _ (le-int_le m x.at l) (late_rest x xs l o.0) in
      ap (λ rs. rs ++ from_to m b (x ∷ xs)) (none_before (x ∷ xs) late) ∙ same_after (x ∷ xs) late)
    where
      from_here : (t : ℤ) → int_lt t m ≡ false → m ≤ℤ t
      from_here t e = grind (arith, ints)

      heads : from_to a m xs ++ from_to m b xs ≡ from_to a b xs → (t : Bool) → cond t (x ∷ from_to a m xs) (from_to a m xs) ++ from_to m b xs ≡ cond t (x ∷ from_to a b xs) (from_to a b xs)
      heads rest true = ap (λ rs. x ∷ rs) rest
      heads rest false = rest

covered : (rows : List Row) → InOrder row_cmp rows → (lo hi : ℤ) (ss : List Span) → AreChained lo hi ss → span_rows rows ss ≡ from_to lo hi rows
covered rows o lo hi [] c = sym (ap (λ h. from_to lo h rows) (sym c) ∙ no_time lo rows)
covered rows o lo hi (s ∷ ss) c =
    ap (λ rs. rows_in s rows ++ rs) (covered rows o s.hi hi ss c.1.1)
    ∙ parted s.lo s.hi hi c.1.0 (chain_up s.hi hi ss c.1.1) rows o
    ∙ ap (λ l. from_to l hi rows) (sym c.0)

-- ---- the rows of a state

held_by : (p : ℕ) (table : TableValue) (ss : List Span) → HaveTimes (seen_rows p table) → AreChained min_time (max_time +ℤ pos 1) ss → span_rows (in_order (seen_rows p table)) ss ≡ in_order (seen_rows p table)
held_by p table ss times c =
    let all = in_order (seen_rows p table) in
    covered all (in_order-with_rows (seen_rows p table) [] tt) min_time (max_time +ℤ pos 1) ss c
    ∙ all_scanned all (all-in_order (λ row. is_time row.at) (seen_rows p table) ∙ times)

pub spans_part : (s : StateValue) (t : ℕ) (table : TableValue) (ss : List Span) → Stands s → table_at s.tables t ≡ Some table → AreChained min_time (max_time +ℤ pos 1) ss → span_rows (state_rows s t) ss ≡ state_rows s t
spans_part s t table ss st at c =
    subst (λ (o : Option TableValue). span_rows (rows_held s.position o) ss ≡ rows_held s.position o) (sym at)
    (held_by s.position table ss (table_tells st.history t s table st.stands at).times c)

pub no_spans : (s : StateValue) (t : ℕ) (ss : List Span) → table_at s.tables t ≡ None → ss ≡ [] → span_rows (state_rows s t) ss ≡ state_rows s t
no_spans s t ss none is =
    ap (span_rows (state_rows s t)) is ∙ sym (ap (rows_held s.position) none)

pub held_is : (h : History) (t : ℕ) (s : StateValue) → StandsFor h s → state_rows s t ≡ rows t h
held_is h t s st = by (table_at s.tables t) refl
  where
    by : (o : Option TableValue) → table_at s.tables t ≡ o → rows_held s.position o ≡ rows t h
    by None none = no_rows h t s st none
    by (Some table) at = (table_tells h t s table st at).rows_are

pub span_of : (s : StateValue) (t : ℕ) (table : TableValue) (span : Span) (found sorted : List Row) → table_at s.tables t ≡ Some table → found ≡ rows_of_span span (seen_rows s.position table) → sorted ≡ in_order found → sorted ≡ rows_in span (state_rows s t)
span_of s t table span found sorted at is order =
    order ∙ ap in_order is ∙ sym (filter-in_order (λ row. in_span span row.at) (seen_rows s.position table))
    ∙ ap (λ (o : Option TableValue). rows_in span (rows_held s.position o)) (sym at)

pub span_of_none : (s : StateValue) (t : ℕ) (span : Span) (found : List Row) → table_at s.tables t ≡ None → found ≡ [] → found ≡ rows_in span (state_rows s t)
span_of_none s t span found none is = is ∙ ap (λ (o : Option TableValue). rows_in span (rows_held s.position o)) (sym none)
