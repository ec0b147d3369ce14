-- The watermark is the end of a bucket that had a result row when a finished refresh read it.
use Rattle.std.proofs.Common.{◌≡◌, ◌≢◌, ◌⊎◌, inl, inr, ⊎_elim, ℕ, Bool, true, false, ◌&&◌, cond, List, [], ◌∷◌, map, ℤ, ◌+ℤ◌, Option, Some, None, refl, sym, ap, ◌∙◌, subst, arith}
use Rattle.std.specs.Prelude.{IfSome}
use Rattle.std.specs.BTreeSet.{insert_key}
use Rattle.std.specs.Ordering.{match_ordering}
use Rattle.std.specs.declared.cmp.Ordering.{Ordering}
use Rattle.std.specs.declared.cmp.Ordering.TheVariants.{Less, Equal, Greater}
use Rattle.std.proofs.lemmas.Bool.{and_parts}
use Rattle.ts_bucket.specs.Bucket.{IsWidth, holds, bucket_of}
use Rattle.ts_bucket.specs.Spans.{in_span}
use Rattle.ts_bucket.specs.declared.spans.Span.{Span}
use Rattle.ts_bucket.proofs.BucketLaws.{holds-bucket_of}
use Rattle.ts_schema.specs.declared.rows.Row.{Row}
use Rattle.ts_schema.specs.Rows.{values_cmp}
use Rattle.ts_schema.specs.Conditions.{passes_all}
use Rattle.ts_model.specs.declared.events.Event.{Event}
use Rattle.ts_model.specs.declared.events.Event.TheVariants.{Table, Hyper, View, Mode, Commit, Cut, Built}
use Rattle.ts_model.specs.declared.views.Fold.{Fold}
use Rattle.ts_model.specs.declared.views.ViewDef.{ViewDef}
use Rattle.ts_model.specs.History.{History, start, resumed, ◌▸◌, Begins, same, further, prefix, root}
use Rattle.ts_model.specs.Roster.{IsOf, roster, view_of}
use Rattle.ts_model.specs.Rows.{rows_at}
use Rattle.ts_model.specs.Scratch.{bucket_rows, group_rows, key_lists, keys_of, once, result_row, with_keys}
use Rattle.ts_model.specs.Refreshes.{span_of_cut, top_in, top_of, watermark}
use Rattle.ts_model.specs.RefreshLaws.{EndsARow, MarksEndRows}
use Rattle.ts_model.proofs.MarkLaws.{greater_some}
use Rattle.ts_model.proofs.SoundLaws.{view_width}

-- ---- rows and result rows

-- rows have result rows
once_some : {K : Type 0} (cmp : K → K → Ordering) (k : K) (ks : List K) → once cmp (k ∷ ks) ≡ [] → ⊥
once_some cmp k ks none = never (once cmp ks) none
  where
    never : (xs : List _) → insert_key cmp xs k ≡ [] → ⊥
    never [] e = cc e
    never (x ∷ xs) e =
        elim (cmp k x) as (λ o. match_ordering o (k ∷ x ∷ xs) (x ∷ xs) (x ∷ insert_key cmp xs k) ≡ [] → ⊥) [
          | Less ↦ λ e. cc e
          | Equal ↦ λ e. cc e
          | Greater ↦ λ e. cc e
        ] e

map_some : {X Y : Type 0} (f : X → Y) (xs : List X) → map f xs ≡ [] → xs ≡ []
map_some f [] e = refl
map_some f (x ∷ xs) e = absurd (some e)
  where
    some : f x ∷ map f xs ≡ [] → ⊥
    some e = cc e

results_some : (fold : Fold) (b : ℤ) (group : List Row) → group ≢ [] → group_rows fold b group ≢ []
results_some fold b [] some none = some refl
results_some fold b (row ∷ rows) some none =
    once_some values_cmp (keys_of fold.keys row) (map (keys_of fold.keys) rows)
    (map_some (λ keys. result_row fold b keys (with_keys fold keys (row ∷ rows))) (key_lists fold (row ∷ rows)) none)

-- ---- the greatest end

-- m is the end of a bucket of the span that holds a row which passes every test
record EndsAmong (fold : Fold) (span : Span) (xs : List Row) (m : ℤ) : Type 0 where
  bucket : ℤ
  covered : in_span span bucket ≡ true
  some : bucket_rows fold bucket xs ≢ []
  ends : bucket +ℤ fold.width.step ≡ m

module _ (fold : Fold) (span : Span) where
  -- one more row keeps those that pass
  ends_further : (row : Row) (xs : List Row) (m : ℤ) → EndsAmong fold span xs m → EndsAmong fold span (row ∷ xs) m
  ends_further row xs m e = record {
    bucket = e.bucket;
    covered = e.covered;
    some =
        elim (holds fold.width e.bucket row.at && passes_all row fold.tests) as (λ t. cond t (row ∷ bucket_rows fold e.bucket xs) (bucket_rows fold e.bucket xs) ≢ []) [
          | true ↦ λ none. cc none
          | false ↦ e.some
        ];
    ends = e.ends;
  }

  -- the bucket of a row that passes holds it
  ends_here : (row : Row) (xs : List Row) → IsWidth fold.width → (in_span span (bucket_of fold.width row.at) && passes_all row fold.tests) ≡ true → EndsAmong fold span (row ∷ xs) (bucket_of fold.width row.at +ℤ fold.width.step)
  ends_here row xs width e =
      let parts = and_parts (in_span span (bucket_of fold.width row.at)) (passes_all row fold.tests) e in
      let held : (holds fold.width (bucket_of fold.width row.at) row.at && passes_all row fold.tests) ≡ true = grind (arith, holds-bucket_of fold.width row.at width, parts.1) in
      record {
        bucket = bucket_of fold.width row.at;
        covered = parts.0;
        some = λ none. first (subst (λ t. cond t (row ∷ bucket_rows fold (bucket_of fold.width row.at) xs) (bucket_rows fold (bucket_of fold.width row.at) xs) ≡ []) held none);
        ends = refl;
      }
    where
      first : {ys : List Row} → row ∷ ys ≡ [] → ⊥
      first e = cc e

  top_ends_some : (xs : List Row) → IsWidth fold.width → IfSome (top_in fold span xs) (EndsAmong fold span xs)
  top_ends_some [] width = tt
  top_ends_some (row ∷ xs) width =
      greater_some (EndsAmong fold span (row ∷ xs))
      (cond (in_span span (bucket_of fold.width row.at) && passes_all row fold.tests) (Some (bucket_of fold.width row.at +ℤ fold.width.step)) None)
      (top_in fold span xs)
      (elim (in_span span (bucket_of fold.width row.at) && passes_all row fold.tests) as (λ t. (in_span span (bucket_of fold.width row.at) && passes_all row fold.tests) ≡ t → IfSome (cond t (Some (bucket_of fold.width row.at +ℤ fold.width.step)) None) (EndsAmong fold span (row ∷ xs))) [
        | true ↦ λ e. ends_here row xs width e
        | false ↦ λ e. tt
      ] refl)
      (later (top_in fold span xs) (top_ends_some xs width))
    where
      later : (o : Option ℤ) → IfSome o (EndsAmong fold span xs) → IfSome o (EndsAmong fold span (row ∷ xs))
      later None e = tt
      later (Some m) e = ends_further row xs m e

-- ---- histories

-- an end of a bucket with a row before an event is one after the event
row_further : (n : ℕ) (def : ViewDef) (h : History) (x : Event) (m : ℤ) → EndsARow n def h m → EndsARow n def (h ▸ x) m
row_further n def h x m e = record {
  before = e.before;
  cut = e.cut;
  snap = e.snap;
  span = e.span;
  bucket = e.bucket;
  finished = further e.finished;
  cut_over = e.cut_over;
  covered = e.covered;
  had_row = e.had_row;
  ends = e.ends;
}

abbrev MarkOf : ℕ → ViewDef → History → ℤ → Type 0
MarkOf n def h m = (watermark n def (root h) ≡ Some m) ⊎ EndsARow n def h m

mark_further : (n : ℕ) (def : ViewDef) (h : History) (x : Event) (o : Option ℤ) → IfSome o (MarkOf n def h) → IfSome o (MarkOf n def (h ▸ x))
mark_further n def h x None e = tt
mark_further n def h x (Some m) e = ⊎_elim (λ base. inl base) (λ row. inr (row_further n def h x m row)) e

-- the top of a finish
top_row : (n : ℕ) (def : ViewDef) (h : History) (cut snap : ℕ) (o : Option Span) → IsWidth def.fold.width → span_of_cut n h cut ≡ o → IfSome (top_of def h snap o) (MarkOf n def (h ▸ Built cut snap))
top_row n def h cut snap None width is = tt
top_row n def h cut snap (Some span) width is = given (top_in def.fold span (rows_at def.table h snap)) (top_ends_some def.fold span (rows_at def.table h snap) width)
  where
    given : (o : Option ℤ) → IfSome o (EndsAmong def.fold span (rows_at def.table h snap)) → IfSome o (MarkOf n def (h ▸ Built cut snap))
    given None e = tt
    given (Some m) e = inr (record {
      before = h;
      cut = cut;
      snap = snap;
      span = span;
      bucket = e.bucket;
      finished = same;
      cut_over = is;
      covered = e.covered;
      had_row = results_some def.fold e.bucket _ e.some;
      ends = e.ends;
    })

marks_of : (n : ℕ) (def : ViewDef) (h : History) → IsWidth def.fold.width → IfSome (watermark n def h) (MarkOf n def h)
marks_of n def start width = tt
marks_of n def (resumed i) width = at_root (watermark n def (resumed i)) refl
  where
    at_root : (o : Option ℤ) → watermark n def (resumed i) ≡ o → IfSome o (MarkOf n def (resumed i))
    at_root None is = tt
    at_root (Some m) is = inl is
marks_of n def (h ▸ Built cut snap) width =
    greater_some (MarkOf n def (h ▸ Built cut snap)) (watermark n def h) (top_of def h snap (span_of_cut n h cut))
    (mark_further n def h (Built cut snap) (watermark n def h) (marks_of n def h width))
    (top_row n def h cut snap (span_of_cut n h cut) width refl)
marks_of n def (h ▸ x) width = mark_further n def h x (watermark n def h) (marks_of n def h width)

pub marks_end_rows : MarksEndRows
marks_end_rows n def h ok there = marks_of n def h (view_width h n def ok there)
