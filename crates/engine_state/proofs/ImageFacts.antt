-- The parts of a history's image, read from a state that represents the history.
use Rattle.std.proofs.Common.{◌≡◌, ℕ, suc, zero, ◌+◌, ◌<◌, Bool, true, false, ◌&&◌, ◌||◌, cond, List, [], ◌∷◌, ◌++◌, map, filter, take, length, get_or, add-one, ℤ, pos, ◌≤ℤ◌, ◌<ℤ◌, Option, Some, None, Result, Ok, Err, IfOk, sym, refl, ap, ◌∙◌, subst, arith}
use Rattle.std.specs.Prelude.{is_none, is_some, IsSome}
use Rattle.std.specs.List.{AllByRecursion, list_all}
use Rattle.std.specs.List.Sorted.{IsStrictlySortedBy}
use Rattle.std.specs.Ordering.{int_eq, is_lt}
use Rattle.std.specs.declared.cmp.Ordering.TheVariants.{Less}
use Rattle.std.proofs.lemmas.Bool.{true≢false, and_parts, and_from}
use Rattle.std.proofs.lemmas.Int.{ints}
use Rattle.ts_bucket.specs.Bucket.{IsWidth, bucket_of, first_of, is_bucket}
use Rattle.ts_bucket.specs.Ranges.{AreRanges, is_asked, lies_in}
use Rattle.ts_bucket.specs.Spans.{in_span}
use Rattle.ts_bucket.specs.WholeSpans.{IsWholeSpan, greatest, whole_span, is_below}
use Rattle.ts_bucket.specs.declared.widths.Width.{Width}
use Rattle.ts_bucket.proofs.WholeSpanLaws.{is_bucket-range_end}
use Rattle.ts_bucket.specs.declared.spans.Span.{Span}
use Rattle.ts_bucket.proofs.BucketLaws.{bucket_of-last, is_bucket-first}
use Rattle.ts_bucket.proofs.SpanLaws.{in_span-ends, in_span-from_ends}
use Rattle.ts_schema.proofs.Cases.{le-int_le}
use Rattle.ts_schema.specs.declared.rows.Row.{Row}
use Rattle.partial_agg.specs.Groups.{AreInOrder, group_cmp}
use Rattle.partial_agg.specs.Summaries.{Summary}
use Rattle.partial_agg.specs.declared.groups.Group.{Group}
use Rattle.span_map.specs.declared.pieces.Piece.{Piece}
use Rattle.span_map.specs.Pieces.{piece_at}
use Rattle.mat_log.specs.Feeding.{is_changed_with, is_dirty_with, pending_with}
use Rattle.mat_log.specs.Lasts.{AreLasts as AreLastPieces, PiecesRise}
use Rattle.mat_log.specs.Logs.{last_at}
use Rattle.mat_rows.specs.Replacing.{of_bucket, within}
use Rattle.mat_rows.proofs.PlaceLaws.{order_within}
use Rattle.mat_rows.proofs.ReplaceLaws.{of_bucket-within}
use Rattle.ts_model.specs.declared.images.SavedGroup.{SavedGroup}
use Rattle.ts_model.specs.declared.images.SavedLast.{SavedLast}
use Rattle.ts_model.specs.declared.tables.Hyper.{Hyper}
use Rattle.ts_model.specs.declared.views.ViewDef.{ViewDef}
use Rattle.ts_model.specs.History.{History, position}
use Rattle.ts_model.specs.Roster.{hyper_of, roster, view_of}
use Rattle.ts_model.specs.Rows.{in_order, rows}
use Rattle.ts_model.specs.Refreshes.{invalid, last}
use Rattle.ts_model.specs.Saved.{group_of, groups_among, pos_in, summary_of}
use Rattle.ts_model.specs.Allowed.{all_consistent}
use Rattle.ts_model.specs.Valid.{all_rise}
use Rattle.ts_model.proofs.CutLaws.{IsSpanned, last_spanned}
use Rattle.ts_model.proofs.HistoryLaws.{prefix_end}
use Rattle.ts_model.proofs.RosterLaws.{is_of_itself}
use Rattle.ts_model.proofs.SoundLaws.{view_width}
use Rattle.chunk_catalog.specs.Chunks.{ChunksValue}
use Rattle.row_versions.specs.Tables.{rows_of_span}
use Rattle.row_versions.proofs.FitLaws.{tables_begin}
use Rattle.image_laws.specs.Images.{LastsRise, was_left}
use Rattle.base_image.specs.Taking.{AreDirty, AreLasts, AreLeft}
use Rattle.realtime_union.specs.Live.{all_times}
use Rattle.realtime_union.proofs.LiveLaws.{all_scanned}
use Rattle.engine_state.specs.Groups.{is_materialised}
use Rattle.engine_state.specs.Images.{last_of, saved_group, sums_of}
use Rattle.engine_state.specs.Scans.{seen_rows}
use Rattle.engine_state.specs.Shown.{IsViewOf}
use Rattle.engine_state.specs.Stands.{StateValue, StandsFor}
use Rattle.engine_state.specs.Tables.{TableValue, table_at}
use Rattle.engine_state.specs.Views.{ViewValue}
use Rattle.engine_state.proofs.AnswerFacts.{table_tells, table_there}
use Rattle.engine_state.proofs.ShownFacts.{dirty_is}
use Rattle.engine_state.proofs.StartFacts.{cut_span}

-- ---- rows

-- all rows that a position sees, in order
pub rows_taken : (h : History) (t : ℕ) (s : StateValue) (table : TableValue) (found sorted : List Row) → StandsFor h s → table_at s.tables t ≡ Some table → found ≡ rows_of_span all_times (seen_rows s.position table) → sorted ≡ in_order found → sorted ≡ rows t h
rows_taken h t s table found sorted st at is order =
    let tells = table_tells h t s table st at in
    order ∙ ap in_order (is ∙ all_scanned (seen_rows s.position table) tells.times) ∙ tells.rows_are

-- a table without a state has no rows
pub no_rows : (h : History) (t : ℕ) (s : StateValue) → StandsFor h s → table_at s.tables t ≡ None → [] ≡ rows t h
no_rows h t s st none = by_hyper (hyper_of (roster h) t) refl
  where
    clash : (o : Option TableValue) → o ≡ None → IsSome o → ⊥
    clash None e some = true≢false (sym some)
    clash (Some x) e some = cc

    by_hyper : (o : Option Hyper) → hyper_of (roster h) t ≡ o → [] ≡ rows t h
    by_hyper (Some hyper) is = absurd (clash (table_at s.tables t) none (table_there h t s st (ap is_some is)))
    by_hyper None is =
        let empty : ChunksValue = record { interval = pos 1; versions = []; levels = 0 } in
        (tables_begin t h empty st.consistent is refl).seen (position h) ∙ ap (rows t) (prefix_end h (position h) (omega arith))

-- ---- last refreshes

-- the range of buckets is a span of whole buckets
pub whole_is : (w : Width) → IsWidth w → IsWholeSpan w (whole_span w)
whole_is w wide = record { starts = is_bucket-first w wide; ends = is_bucket-range_end w wide; from_first = omega (arith, ints) }

-- a bucket with a last refresh is one of the range of buckets
pub spanned_inside : (def : ViewDef) (b : ℤ) → IsWidth def.fold.width → IsSpanned def b → in_span (whole_span def.fold.width) b ≡ true
spanned_inside def b wide is =
    let span = cut_span is.span def is.fits in
    let ends = in_span-ends is.span b is.inside in
    let from : first_of def.fold.width ≤ℤ is.span.lo = span.from_first in
    let upto : is.span.hi ≤ℤ bucket_of def.fold.width greatest = bucket_of-last def.fold.width is.span.hi greatest wide span.ends span.upto in
    let low : is.span.lo ≤ℤ b = ends.0 in
    let high : b <ℤ is.span.hi = ends.1 in
    in_span-from_ends (whole_span def.fold.width) b (omega (arith, ints)) (omega (arith, ints))

pub last_inside : (h : History) (n : ℕ) (def : ViewDef) (b : ℤ) (s : ℕ) → all_consistent h ≡ true → view_of (roster h) n ≡ Some def → last n h b ≡ Some s → in_span (whole_span def.fold.width) b ≡ true
last_inside h n def b s ok there at = spanned_inside def b (view_width h n def ok there) (last_spanned n def h b s (is_of_itself def (view_of (roster h) n) there) ok at)

pos_of_pieces : (ps : List Piece) (b : ℤ) → pos_in (map last_of ps) b ≡ piece_at ps b
pos_of_pieces [] b = refl
pos_of_pieces (p ∷ ps) b = ap (cond (in_span p.span b) (Some p.pos)) (pos_of_pieces ps b)

whole_mapped : (P : Span → Type 0) (ps : List Piece) → AllByRecursion (λ (p : Piece). P p.span) ps → AllByRecursion (λ (l : SavedLast). P l.span) (map last_of ps)
whole_mapped P [] all = tt
whole_mapped P (p ∷ ps) all = (all.0, whole_mapped P ps all.1)

rise_mapped : (ps : List Piece) → PiecesRise ps → LastsRise (map last_of ps)
rise_mapped [] rise = tt
rise_mapped (p ∷ []) rise = tt
rise_mapped (p ∷ q ∷ ps) rise = (record { above = rise.0.above; other = rise.0.other }, rise_mapped (q ∷ ps) rise.1)

pub lasts_taken : (h : History) (n position : ℕ) (def : ViewDef) (view : ViewValue) (table : TableValue) (pieces : List Piece) → all_consistent h ≡ true → IsViewOf h n position def view table → AreLastPieces view.log.width (last_at view.log) pieces → AreLasts n def h (map last_of pieces)
lasts_taken h n position def view table pieces ok is found =
    let are = subst (λ w. AreLastPieces w (last_at view.log) pieces) is.stands.width found in
    record {
      whole = whole_mapped _ pieces are.whole;
      rise = rise_mapped pieces are.rise;
      exact = λ b bucket. pos_of_pieces pieces b ∙ are.exact b bucket ∙ by b bucket (last n h b) refl;
    }
  where
    by : (b : ℤ) → is_bucket def.fold.width b ≡ true → (o : Option ℕ) → last n h b ≡ o → cond (in_span (whole_span def.fold.width) b) (last_at view.log b) None ≡ last n h b
    by b bucket (Some s) at = ap (λ t. cond t (last_at view.log b) None) (last_inside h n def b s ok is.there at) ∙ is.stands.covered.refreshed b bucket
    by b bucket None at =
        ap (λ v. cond (in_span (whole_span def.fold.width) b) v None) (is.stands.covered.refreshed b bucket ∙ at) ∙ nothing (in_span (whole_span def.fold.width) b) ∙ sym at
      where
        nothing : (t : Bool) → cond {A = Option ℕ} t None None ≡ None
        nothing true = refl
        nothing false = refl

-- ---- buckets touched after their last refresh

pub dirty_taken : (h : History) (n position : ℕ) (def : ViewDef) (view : ViewValue) (table : TableValue) (found : List Span) → all_consistent h ≡ true → IsViewOf h n position def view table → AreRanges def.fold.width (whole_span def.fold.width) (is_changed_with view.log table.log.entries) found → AreDirty n def h found
dirty_taken h n position def view table found ok is are = record {
  whole = are.whole;
  rise = are.rising;
  exact = λ b bucket. are.exact b bucket ∙ by b bucket (last n h b) refl;
}
  where
    asked : (b : ℤ) → is_bucket def.fold.width b ≡ true → in_span (whole_span def.fold.width) b ≡ true → is_asked def.fold.width (whole_span def.fold.width) b ≡ true
    asked b bucket inside =
        let from : first_of def.fold.width ≤ℤ b = (in_span-ends (whole_span def.fold.width) b inside).0 in
        and_from _ _ inside (and_from _ _ bucket (le-int_le (first_of def.fold.width) b from))

    by : (b : ℤ) → is_bucket def.fold.width b ≡ true → (o : Option ℕ) → last n h b ≡ o → (is_asked def.fold.width (whole_span def.fold.width) b && is_changed_with view.log table.log.entries b) ≡ was_left n def h b
    by b bucket None at =
        let none : last_at view.log b ≡ None = is.stands.covered.refreshed b bucket ∙ at in
        ap (λ v. is_asked def.fold.width (whole_span def.fold.width) b && (is_some v && is_some (pending_with view.log table.log.entries b))) none
        ∙ no (is_asked def.fold.width (whole_span def.fold.width) b)
        ∙ sym (ap (λ v. is_some v && invalid n def h b) at)
      where
        no : (t : Bool) → (t && false) ≡ false
        no true = refl
        no false = refl
    by b bucket (Some s) at =
        let some : last_at view.log b ≡ Some s = is.stands.covered.refreshed b bucket ∙ at in
        let inside : in_span (whole_span def.fold.width) b ≡ true = last_inside h n def b s ok is.there at in
        let dirty : is_dirty_with view.log table.log.entries b ≡ invalid n def h b = dirty_is h n def table view ok is.there is.stands b bucket inside in
        ap (λ t. t && is_changed_with view.log table.log.entries b) (asked b bucket inside)
        ∙ ap (λ v. is_some v && is_some (pending_with view.log table.log.entries b)) some
        ∙ sym (ap (λ v. is_none v || is_some (pending_with view.log table.log.entries b)) some)
        ∙ dirty
        ∙ sym (ap (λ v. is_some v && invalid n def h b) at)

-- ---- groups

pub sums_back : (parts : List Summary) → map summary_of (map sums_of parts) ≡ parts
sums_back [] = refl
sums_back (p ∷ ps) = ap (λ qs. p ∷ qs) (sums_back ps)

group_back : (g : Group) → group_of (saved_group g) ≡ g
group_back g = ap (λ ps. record { start = g.start; keys = g.keys; parts = ps }) (sums_back g.parts)

pub groups_back : (gs : List Group) → map group_of (map saved_group gs) ≡ gs
groups_back [] = refl
groups_back (g ∷ gs) = λ i. group_back g i ∷ groups_back gs i

among_saved : (gs : List Group) (b : ℤ) → groups_among (map saved_group gs) b ≡ of_bucket b gs
among_saved [] b = refl
among_saved (g ∷ gs) b =
    elim (int_eq g.start b) as (λ t. map group_of (cond t (saved_group g ∷ filter (λ x. int_eq x.start b) (map saved_group gs)) (filter (λ x. int_eq x.start b) (map saved_group gs))) ≡ cond t (g ∷ of_bucket b gs) (of_bucket b gs)) [
      | true ↦ (λ i. group_back g i ∷ among_saved gs b i)
      | false ↦ among_saved gs b
    ]

-- a list in order rises
pub order_rises : (gs : List Group) → AreInOrder gs → all_rise group_cmp gs ≡ true
unfolding IsStrictlySortedBy
order_rises [] order = refl
order_rises (g ∷ gs) order = and_from _ _ (below gs order.0) (order_rises gs order.1)
  where
    below : (hs : List Group) → AllByRecursion (λ y. group_cmp g y ≡ Less) hs → list_all (λ y. is_lt (group_cmp g y)) hs ≡ true
    below [] all = refl
    below (h ∷ hs) all = and_from _ _ (ap is_lt all.0) (below hs all.1)

all_mapped : (p : ℤ → Bool) (gs : List Group) → list_all (λ g. p g.start) gs ≡ true → list_all (λ (g : SavedGroup). p g.start) (map saved_group gs) ≡ true
all_mapped p [] e = refl
all_mapped p (g ∷ gs) e =
    let parts = and_parts (p g.start) (list_all (λ g. p g.start) gs) e in
    and_from _ _ parts.0 (all_mapped p gs parts.1)

bucket_starts : (def : ViewDef) (mark : Option ℤ) (span : Span) (gs : List Group) → list_all (is_materialised def mark) gs ≡ true → list_all (λ g. is_bucket def.fold.width g.start) (within span gs) ≡ true
bucket_starts def mark span [] e = refl
bucket_starts def mark span (g ∷ gs) e =
    let parts = and_parts (is_materialised def mark g) (list_all (is_materialised def mark) gs) e in
    let own = (and_parts (is_bucket def.fold.width g.start) (is_below g.start mark) parts.0).0 in
    elim (in_span span g.start) as (λ t. list_all (λ g. is_bucket def.fold.width g.start) (cond t (g ∷ within span gs) (within span gs)) ≡ true) [
      | true ↦ and_from _ _ own (bucket_starts def mark span gs parts.1)
      | false ↦ bucket_starts def mark span gs parts.1
    ]

starts_within : (span : Span) (gs : List Group) → list_all (λ g. lies_in (span ∷ []) g.start) (within span gs) ≡ true
starts_within span [] = refl
starts_within span (g ∷ gs) =
    elim (in_span span g.start) as (λ t. in_span span g.start ≡ t → list_all (λ g. lies_in (span ∷ []) g.start) (cond t (g ∷ within span gs) (within span gs)) ≡ true) [
      | true ↦ λ e. and_from _ _ (ap (λ b. b || false) e) (starts_within span gs)
      | false ↦ λ _. starts_within span gs
    ] refl

pub groups_taken : (h : History) (n position : ℕ) (def : ViewDef) (view : ViewValue) (table : TableValue) (span : Span) → IsViewOf h n position def view table → AreLeft n def h (span ∷ []) (map saved_group (within span view.groups))
groups_taken h n position def view table span is =
    let gs = within span view.groups in
    record {
      rise = ap (all_rise group_cmp) (groups_back (within span view.groups)) ∙ order_rises gs (order_within span view.groups is.stands.groups.in_order);
      whole = all_mapped (is_bucket def.fold.width) gs (bucket_starts def view.mark span view.groups is.stands.groups.all);
      within = all_mapped (lies_in (span ∷ [])) gs (starts_within span view.groups);
      exact = λ b bucket inside. among_saved gs b ∙ of_bucket-within b span view.groups
          ∙ ap (λ t. cond t (of_bucket b view.groups) []) (alone (in_span span b) inside)
          ∙ is.stands.groups.exact b bucket;
    }
  where
    alone : (t : Bool) → (t || false) ≡ true → t ≡ true
    alone true e = refl
    alone false e = e

-- one more item, mapped
pub mapped_more : {A B : Type 0} (f : A → B) (xs : List A) (i : ℕ) (x : A) → i < length xs → x ≡ get_or xs i x → map f (take i xs) ++ (f x ∷ []) ≡ map f (take (i + 1) xs)
mapped_more f xs i x l is = step xs i l is ∙ ap (λ n. map f (take n xs)) (sym (add-one i))
  where
    step : (xs : List _) (i : ℕ) → i < length xs → x ≡ get_or xs i x → map f (take i xs) ++ (f x ∷ []) ≡ map f (take (suc i) xs)
    step [] i l is = absurd (omega arith)
    step (y ∷ ys) zero l is = ap (λ z. f z ∷ []) is
    step (y ∷ ys) (suc i) l is = ap (λ zs. f y ∷ zs) (step ys i (omega arith) is)

-- the same for results
pub mapped_ok : {A B E : Type 0} (r : Result (List B) E) (f : A → B) (xs : List A) (P : List B → Type 0) → P (map f xs) → IfOk r (λ ys. ys ≡ map f xs) → IfOk r P
mapped_ok (Ok ys) f xs P p is = subst P (sym is) p
mapped_ok (Err e) f xs P p is = tt

-- an aggregate has only one definition
pub one_def : (r : Rattle.ts_model.specs.declared.rosters.Roster.Roster) (n : ℕ) (a b : ViewDef) → view_of r n ≡ Some a → view_of r n ≡ Some b → a ≡ b
one_def r n a b x y = cc
