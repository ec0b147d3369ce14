-- Laws of marks: the watermark is the end of a bucket that holds a time.
use Rattle.std.proofs.Common.{◌≡◌, ℕ, true, false, ◌&&◌, cond, List, [], ◌∷◌, ℤ, ◌+ℤ◌, ◌≤ℤ◌, ◌<ℤ◌, int_lt, int_le, Option, Some, None, sym, ap, ◌∙◌, arith}
use Rattle.std.specs.Prelude.{IfSome}
use Rattle.std.specs.List.{list_all}
use Rattle.std.proofs.lemmas.Bool.{and_parts}
use Rattle.std.proofs.lemmas.Int.{ints}
use Rattle.ts_num.specs.Aggregates.{greater}
use Rattle.ts_bucket.specs.Bucket.{IsWidth, is_time, min_time, max_time, bucket_of}
use Rattle.ts_bucket.specs.Spans.{in_span}
use Rattle.ts_bucket.specs.declared.spans.Span.{Span}
use Rattle.ts_bucket.specs.declared.widths.Width.{Width}
use Rattle.ts_bucket.proofs.BucketLaws.{bucket_of_meets, is_bucket-bucket_of, is_bucket-next}
use Rattle.ts_schema.specs.declared.rows.Row.{Row}
use Rattle.ts_schema.specs.Conditions.{passes_all}
use Rattle.ts_model.specs.declared.events.Event.TheVariants.{Built}
use Rattle.ts_model.specs.declared.views.Fold.{Fold}
use Rattle.ts_model.specs.declared.views.ViewDef.{ViewDef}
use Rattle.ts_model.specs.History.{History, start, resumed, ◌▸◌, position}
use Rattle.ts_model.specs.Roster.{IsOf, roster, view_of}
use Rattle.ts_model.specs.Rows.{rows, rows_at}
use Rattle.ts_model.specs.Refreshes.{span_of_cut, top_in, top_of, watermark}
use Rattle.ts_model.specs.Windows.{last_end}
use Rattle.ts_model.specs.Allowed.{all_consistent, consistent}
use Rattle.ts_model.specs.Laws.{MarksAreEnds}
use Rattle.ts_bucket.specs.WholeSpans.{IsMark}
use Rattle.ts_model.proofs.ValidLaws.{kept_facts}
use Rattle.ts_model.proofs.RosterLaws.{is_of_before, is_of_itself}
use Rattle.ts_model.proofs.HistoryLaws.{prefix_end}
use Rattle.ts_model.proofs.FitLaws.{rows_are_times}
use Rattle.ts_model.proofs.SoundLaws.{view_width}

-- the end of the bucket of a time
pub end_of : (w : Width) (t : ℤ) → IsWidth w → is_time t ≡ true → IsMark w (bucket_of w t +ℤ w.step)
end_of w t width e =
    let held = bucket_of_meets w t width in
    let at_or_below : bucket_of w t ≤ℤ t = held.at_or_below in
    let end_above : t <ℤ (bucket_of w t +ℤ w.step) = held.end_above in
    let times = and_parts _ _ e in
    let from = low t times.0 in
    let to = high t times.1 in
    record {
      ends = is_bucket-next w (bucket_of w t) width ∙ is_bucket-bucket_of w t width;
      above_a_time = omega (arith, ints, from);
      starts_at_or_below_a_time = omega (arith, ints, to);
    }
  where
    low : (t : ℤ) → int_le min_time t ≡ true → min_time ≤ℤ t
    low t e = grind (arith, ints)

    high : (t : ℤ) → int_le t max_time ≡ true → t ≤ℤ max_time
    high t e = grind (arith, ints)

pub greater_some : (P : ℤ → Type 0) (x y : Option ℤ) → IfSome x P → IfSome y P → IfSome (greater x y) P
greater_some P None y p q = q
greater_some P (Some x) None p q = p
greater_some P (Some x) (Some y) p q = elim (int_lt y x) as (λ c. P (cond c x y)) [ true ↦ p | false ↦ q ]

top_ends : (fold : Fold) (span : Span) (xs : List Row) → IsWidth fold.width → list_all (λ row. is_time row.at) xs ≡ true → IfSome (top_in fold span xs) (IsMark fold.width)
top_ends fold span [] width e = tt
top_ends fold span (row ∷ xs) width e =
    let parts = and_parts (is_time row.at) (list_all (λ row. is_time row.at) xs) e in
    greater_some (IsMark fold.width) (cond (in_span span (bucket_of fold.width row.at) && passes_all row fold.tests) (Some (bucket_of fold.width row.at +ℤ fold.width.step)) None) (top_in fold span xs)
    (elim (in_span span (bucket_of fold.width row.at) && passes_all row fold.tests) as (λ c. IfSome (cond c (Some (bucket_of fold.width row.at +ℤ fold.width.step)) None) (IsMark fold.width)) [ true ↦ end_of fold.width row.at width parts.0 | false ↦ tt ])
    (top_ends fold span xs width parts.1)

pub last_end_ends : (w : Width) (xs : List Row) → IsWidth w → list_all (λ row. is_time row.at) xs ≡ true → IfSome (last_end w xs) (IsMark w)
last_end_ends w [] width e = tt
last_end_ends w (row ∷ xs) width e =
    let parts = and_parts (is_time row.at) (list_all (λ row. is_time row.at) xs) e in
    greater_some (IsMark w) (Some (bucket_of w row.at +ℤ w.step)) (last_end w xs) (end_of w row.at width parts.0) (last_end_ends w xs width parts.1)

top_of_ends : (def : ViewDef) (h : History) (s : ℕ) (o : Option Span) → IsWidth def.fold.width → all_consistent h ≡ true → IfSome (top_of def h s o) (IsMark def.fold.width)
top_of_ends def h s None width ok = tt
top_of_ends def h s (Some span) width ok = top_ends def.fold span (rows_at def.table h s) width (rows_are_times.rows def.table h s ok)

-- the watermark of an aggregate whose mode may have changed
pub watermark_ends : (n : ℕ) (def : ViewDef) (h : History) → IsWidth def.fold.width → IsOf def (view_of (roster h) n) → all_consistent h ≡ true → IfSome (watermark n def h) (IsMark def.fold.width)
watermark_ends n def start width is ok = tt
watermark_ends n def (resumed i) width is ok = (kept_facts n def i ok is).marked
watermark_ends n def (h ▸ Built cut snap) width is ok =
    let before = (and_parts (all_consistent h) (consistent h (Built cut snap)) ok).0 in
    greater_some (IsMark def.fold.width) (watermark n def h) (top_of def h snap (span_of_cut n h cut)) (watermark_ends n def h width is before) (top_of_ends def h snap (span_of_cut n h cut) width before)
watermark_ends n def (h ▸ x) width is ok = watermark_ends n def h width (is_of_before def h x n is) (and_parts (all_consistent h) _ ok).0

rows_times : (t : ℕ) (h : History) → all_consistent h ≡ true → list_all (λ row. is_time row.at) (rows t h) ≡ true
rows_times t h ok = ap (λ g. list_all (λ row. is_time row.at) (rows t g)) (sym (prefix_end h (position h) (omega arith))) ∙ rows_are_times.rows t h (position h) ok

pub window_ends : (n : ℕ) (def : ViewDef) (h : History) → IsWidth def.fold.width → IsOf def (view_of (roster h) n) → all_consistent h ≡ true → IfSome (greater (watermark n def h) (last_end def.fold.width (rows def.table h))) (IsMark def.fold.width)
window_ends n def h width is ok = greater_some (IsMark def.fold.width) (watermark n def h) (last_end def.fold.width (rows def.table h)) (watermark_ends n def h width is ok) (last_end_ends def.fold.width (rows def.table h) width (rows_times def.table h ok))

pub marks_are_ends : MarksAreEnds
marks_are_ends = record {
  marks = λ n def h ok there. watermark_ends n def h (view_width h n def ok there) (is_of_itself def (view_of (roster h) n) there) ok;
  ends = λ n def h ok there. window_ends n def h (view_width h n def ok there) (is_of_itself def (view_of (roster h) n) there) ok;
}
