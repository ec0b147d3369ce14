-- The answer of an aggregate's state, compared with a history.
use Rattle.std.proofs.Common.{◌≡◌, ℕ, Bool, true, false, not, ◌&&◌, ◌||◌, cond, List, [], ◌∷◌, map, filter, ℤ, ◌+ℤ◌, ◌-ℤ◌, ◌≤ℤ◌, ◌<ℤ◌, int_le, int_lt, Option, Some, None, sym, refl, ap, ◌∙◌, subst, arith}
use Rattle.std.specs.Prelude.{IfSome, is_none, is_some}
use Rattle.std.specs.Option.{ForSome}
use Rattle.std.specs.List.{flat_map, list_all}
use Rattle.std.specs.Ordering.{int_eq}
use Rattle.std.proofs.lemmas.Bool.{true≢false, and_parts, and_from}
use Rattle.std.proofs.lemmas.Bool.Decides.{Decides-int_eq}
use Rattle.std.proofs.lemmas.Int.{ints}
use Rattle.ts_bucket.specs.Bucket.{IsWidth, bucket_of, first_of, holds, is_bucket, is_time, max_step, max_time, min_time}
use Rattle.ts_bucket.specs.Ranges.{AreRanges, is_asked}
use Rattle.ts_bucket.specs.Spans.{bucket_span, in_span}
use Rattle.ts_bucket.specs.WholeSpans.{IsMark, greatest, is_below, whole_span}
use Rattle.ts_bucket.specs.declared.spans.Span.{Span}
use Rattle.ts_bucket.specs.declared.widths.Width.{Width}
use Rattle.ts_bucket.proofs.BucketLaws.{bucket_of_meets, first_of-least, holds-is}
use Rattle.ts_bucket.proofs.SpanLaws.{in_span-from_ends}
use Rattle.ts_schema.specs.declared.rows.Row.{Row}
use Rattle.partial_agg.specs.declared.groups.Group.{Group}
use Rattle.mat_log.specs.Feeding.{AreWithin, is_dirty_with, is_stale_with, pending_after_all}
use Rattle.mat_log.specs.Logs.{last_at, pending_at}
use Rattle.mat_rows.specs.Replacing.{of_bucket, within}
use Rattle.mat_rows.proofs.PlaceLaws.{order_within}
use Rattle.mat_rows.proofs.ReplaceLaws.{of_bucket-within}
use Rattle.ts_model.specs.declared.queries.Answer.{Answer}
use Rattle.ts_model.specs.declared.queries.Query.TheVariants.{Aggregate}
use Rattle.ts_model.specs.declared.views.Fold.{Fold}
use Rattle.ts_model.specs.declared.views.ViewDef.{ViewDef}
use Rattle.ts_model.specs.History.{History}
use Rattle.ts_model.specs.Limits.{is_word}
use Rattle.ts_model.specs.Roster.{IsOf, roster, view_of}
use Rattle.ts_model.proofs.CutLaws.{last_spanned}
use Rattle.ts_model.proofs.RosterLaws.{is_of_itself}
use Rattle.ts_model.specs.Rows.{in_order, rows}
use Rattle.ts_model.specs.Scratch.{bucket_rows, scratch}
use Rattle.ts_model.specs.Groups.{cells_of, groups_in}
use Rattle.ts_model.specs.Refreshes.{invalid, is_invalid, last, stale, watermark}
use Rattle.ts_model.specs.Reads.{rows_inserted, reads, reads_of_view, rows_near, rows_near_in}
use Rattle.ts_model.specs.Answers.{answer, answer_of_view, buckets_in, left_by, ranges, shown}
use Rattle.ts_model.specs.Allowed.{all_consistent}
use Rattle.ts_model.proofs.GroupLaws.{cells_are_scratch}
use Rattle.ts_model.proofs.MarkLaws.{watermark_ends}
use Rattle.ts_model.proofs.RangeLaws.{among-buckets_in, ranges_are_maximal}
use Rattle.ts_model.proofs.SameRanges.{one_list_of_ranges}
use Rattle.ts_model.proofs.SoundLaws.{view_width}
use Rattle.ts_model.proofs.UntouchedLaws.{untouched_keeps}
use Rattle.coverage.specs.Laws.{TellsFed}
use Rattle.coverage.proofs.TellLaws.{covered_tells_fed}
use Rattle.group_fold.proofs.Occurring.{flat_map-same}
use Rattle.realtime_union.specs.Laws.{AreKept, groups_shown}
use Rattle.realtime_union.specs.Live.{union_rows}
use Rattle.realtime_union.proofs.UnionLaws.{all_among, unions_are_of_buckets}
use Rattle.engine_state.specs.Groups.{groups_left, is_materialised}
use Rattle.engine_state.specs.Notes.{notes_in}
use Rattle.engine_state.specs.Scans.{seen_rows}
use Rattle.engine_state.specs.Shown.{IsShown, IsTableOf, IsViewOf, view_reads}
use Rattle.engine_state.specs.Stands.{StateValue}
use Rattle.engine_state.specs.Tables.{TableValue, table_at}
use Rattle.engine_state.specs.Views.{ViewValue, ViewStands}
use Rattle.engine_state.proofs.AnswerFacts.{answer_is}
use Rattle.engine_state.proofs.FeedSteps.{fed_as_noted, noted_within}
use Rattle.engine_state.proofs.WindowFacts.{if_there}
use Rattle.ts_schema.proofs.Cases.{by_test, int_le-true}

-- ---- no group is of a bucket below the first

low_not_held : (w : Width) (b t : ℤ) → IsWidth w → is_bucket w b ≡ true → is_time t ≡ true → int_le (first_of w) b ≡ false → holds w b t ≡ false
low_not_held w b t wide bucket time low =
    holds-is w b t wide bucket
    ∙ by_test (int_eq b (bucket_of w t))
    (λ e.
    let from : min_time ≤ℤ t = int_le-true min_time t (and_parts (int_le min_time t) (int_le t max_time) time).0 in
    let first : first_of w ≤ℤ bucket_of w t = first_of-least w t wide from in
    let same : b ≡ bucket_of w t = (Decides-int_eq b (bucket_of w t)).0 e in
    let high : int_le (first_of w) b ≡ true = grind (arith, ints, first, same) in
    absurd (true≢false (sym high ∙ low)))
    (λ e. e)

no_low_rows : (fold : Fold) (b : ℤ) (xs : List Row) → IsWidth fold.width → is_bucket fold.width b ≡ true → int_le (first_of fold.width) b ≡ false → list_all (λ row. is_time row.at) xs ≡ true → bucket_rows fold b xs ≡ []
no_low_rows fold b [] wide bucket low times = refl
no_low_rows fold b (row ∷ xs) wide bucket low times =
    let parts = and_parts (is_time row.at) (list_all (λ r. is_time r.at) xs) times in
    rw (low_not_held fold.width b row.at wide bucket parts.0 low) (no_low_rows fold b xs wide bucket low parts.1)

-- a bucket with a last refresh isn't below the first
no_low_groups : (n : ℕ) (def : ViewDef) (h : History) (b : ℤ) (o : Option ℕ) → IsOf def (view_of (roster h) n) → all_consistent h ≡ true → last n h b ≡ o → int_le (first_of def.fold.width) b ≡ false → groups_left n def h b o ≡ []
no_low_groups n def h b None is ok at low = refl
no_low_groups n def h b (Some s) is ok at low =
    let l = last_spanned n def h b s is ok at in
    let words = and_parts _ (is_word l.span.lo) (and_parts _ (is_word l.span.hi) l.fits).0 in
    let from = (and_parts _ (int_le (first_of def.fold.width) l.span.lo) words.0).1 in
    let below = (and_parts (int_le l.span.lo b) (int_lt b l.span.hi) l.inside).0 in
    absurd (true≢false (sym (up (first_of def.fold.width) l.span.lo b from below) ∙ low))
  where
    up : (a c b : ℤ) → int_le a c ≡ true → int_le c b ≡ true → int_le a b ≡ true
    up a c b e f = grind (arith, ints)

from_first : (def : ViewDef) (mark : Option ℤ) (groups : List Group) → ((b : ℤ) → is_bucket def.fold.width b ≡ true → int_le (first_of def.fold.width) b ≡ false → of_bucket b groups ≡ []) → list_all (is_materialised def mark) groups ≡ true → list_all (λ g. is_bucket def.fold.width g.start && (int_le (first_of def.fold.width) g.start && is_below g.start mark)) groups ≡ true
from_first def mark [] none all = refl
from_first def mark (g ∷ gs) none all =
    let parts = and_parts (is_materialised def mark g) (list_all (is_materialised def mark) gs) all in
    let own = and_parts (is_bucket def.fold.width g.start) (is_below g.start mark) parts.0 in
    let high : int_le (first_of def.fold.width) g.start ≡ true =
    by_test (int_le (first_of def.fold.width) g.start) (λ e. e)
    (λ low. absurd (not_none g (of_bucket g.start gs) (sym (ap (λ t. cond t (g ∷ of_bucket g.start gs) (of_bucket g.start gs)) ((Decides-int_eq g.start g.start).1 refl)) ∙ none g.start own.0 low))) in
    and_from _ _ (and_from _ _ own.0 (and_from _ _ high own.1))
    (from_first def mark gs (λ b bucket low. rest_none g b gs (none b bucket low)) parts.1)
  where
    not_none : (g : Group) (gs : List Group) → g ∷ gs ≡ [] → ⊥
    not_none g gs e = absurd (cc)

    rest_none : (g : Group) (b : ℤ) (gs : List Group) → of_bucket b (g ∷ gs) ≡ [] → of_bucket b gs ≡ []
    rest_none g b gs e = by_test (int_eq g.start b) (λ here. absurd (not_none g (of_bucket b gs) (sym (ap (λ t. cond t (g ∷ of_bucket b gs) (of_bucket b gs)) here) ∙ e))) (λ other. sym (ap (λ t. cond t (g ∷ of_bucket b gs) (of_bucket b gs)) other) ∙ e)

asked_within : (w : Width) (mark : Option ℤ) (starts : Span) (groups : List Group) → list_all (λ g. is_bucket w g.start && (int_le (first_of w) g.start && is_below g.start mark)) groups ≡ true → list_all (λ g. is_asked w starts g.start && is_below g.start mark) (within starts groups) ≡ true
asked_within w mark starts [] all = refl
asked_within w mark starts (g ∷ gs) all =
    let parts = and_parts (is_bucket w g.start && (int_le (first_of w) g.start && is_below g.start mark)) (list_all (λ x. is_bucket w x.start && (int_le (first_of w) x.start && is_below x.start mark)) gs) all in
    let own = and_parts (is_bucket w g.start) (int_le (first_of w) g.start && is_below g.start mark) parts.0 in
    let low = and_parts (int_le (first_of w) g.start) (is_below g.start mark) own.1 in
    by_test (in_span starts g.start)
    (λ inside.
    let asked : is_asked w starts g.start ≡ true = and_from _ _ inside (and_from _ _ own.0 low.0) in
    ap (λ t. list_all (λ x. is_asked w starts x.start && is_below x.start mark) (cond t (g ∷ within starts gs) (within starts gs))) inside
    ∙ and_from _ _ (and_from _ _ asked low.1) (asked_within w mark starts gs parts.1))
    (λ outside. ap (λ t. list_all (λ x. is_asked w starts x.start && is_below x.start mark) (cond t (g ∷ within starts gs) (within starts gs))) outside ∙ asked_within w mark starts gs parts.1)

-- an aggregate with the table found for it
pub seen_view : (h : History) (n : ℕ) (s : StateValue) (def : ViewDef) (view : ViewValue) (own found : TableValue) (position : ℕ) → view_of (roster h) n ≡ Some def → table_at s.tables def.table ≡ Some own → ViewStands h n def own.log view → table_at s.tables def.table ≡ Some found → IsTableOf h def.table position found → IsViewOf h n position def view found
seen_view h n s def view own found position there own_at stands found_at told =
    let same : own ≡ found = one (sym own_at ∙ found_at) in
    record { there = there; stands = subst (λ (t : TableValue). ViewStands h n def t.log view) same stands; table_is = told }
  where
    one : {x y : TableValue} → Some x ≡ Some y → x ≡ y
    one e = cc

-- the requirements of its answer
pub record ViewAsks (def : ViewDef) (view : ViewValue) (table : TableValue) : Type 0 where
  pub width : view.log.width ≡ def.fold.width
  pub mark : ForSome view.mark (IsMark view.log.width)
  pub within : AreWithin table.log.entries view.log

pub view_asks : (h : History) (n position : ℕ) (def : ViewDef) (view : ViewValue) (table : TableValue) → all_consistent h ≡ true → IsViewOf h n position def view table → ViewAsks def view table
view_asks h n position def view table ok is =
    let wide : IsWidth def.fold.width = view_width h n def ok is.there in
    let ends : IfSome view.mark (IsMark view.log.width) = subst (λ w. IfSome view.mark (IsMark w)) (sym is.stands.width) (subst (λ m. IfSome m (IsMark def.fold.width)) (sym is.stands.mark) (watermark_ends n def h wide (is_of_itself def (view_of (roster h) n) is.there) ok)) in
    record {
      width = is.stands.width;
      mark = if_there view.mark (IsMark view.log.width) ends;
      within = noted_within table.log.entries view.log (subst IsWidth (sym is.stands.width) wide) is.table_is.stands.log.times;
    }

-- ---- an aggregate of a consistent history

module _ (h : History) (n : ℕ) (def : ViewDef) (table : TableValue) (view : ViewValue) (ok : all_consistent h ≡ true) (there : view_of (roster h) n ≡ Some def) (stands : ViewStands h n def table.log view) where
  wide : IsWidth def.fold.width
  wide = view_width h n def ok there

  kept_within : (starts : Span) → AreKept def.fold.width view.mark starts (within starts view.groups)
  kept_within starts = record {
    in_order = order_within starts view.groups stands.groups.in_order;
    all = asked_within def.fold.width view.mark starts view.groups
        (from_first def view.mark view.groups (λ b bucket low. stands.groups.exact b bucket ∙ no_low_groups n def h b (last n h b) (is_of_itself def (view_of (roster h) n) there) ok refl low) stands.groups.all);
  }

  -- what the last refresh of a bucket stored, as it is shown
  left_shown : (b : ℤ) (o : Option ℕ) → map (cells_of def.fold) (groups_left n def h b o) ≡ left_by n def h b o
  left_shown b None = refl
  left_shown b (Some s) = refl

  -- a bucket below the mark that isn't stale shows what its last refresh stored
  still_left : (b : ℤ) (o : Option ℕ) → is_invalid n def h b o ≡ false → left_by n def h b o ≡ scratch def h b
  still_left b None valid = absurd (true≢false valid)
  still_left b (Some s) valid = sym (untouched_keeps n def h b s valid)

  bucket_shown : (starts : Span) (b : ℤ) → is_asked def.fold.width starts b ≡ true → map (cells_of def.fold) (groups_shown def (within starts view.groups) view.mark (rows def.table h) b) ≡ shown n def h b
  bucket_shown starts b asked =
      let parts = and_parts (in_span starts b) (is_bucket def.fold.width b && int_le (first_of def.fold.width) b) asked in
      let bucket : is_bucket def.fold.width b ≡ true = (and_parts _ _ parts.1).0 in
      let sliced : of_bucket b (within starts view.groups) ≡ groups_left n def h b (last n h b) =
      of_bucket-within b starts view.groups ∙ (ap (λ t. cond t (of_bucket b view.groups) []) parts.0 ∙ stands.groups.exact b bucket) in
      by_test (is_below b (watermark n def h))
      (λ below.
      let below_mark : is_below b view.mark ≡ true = ap (is_below b) stands.mark ∙ below in
      ap (λ t. map (cells_of def.fold) (cond t (of_bucket b (within starts view.groups)) (cond def.only [] (groups_in def.fold (rows def.table h) b)))) below_mark
      ∙ (ap (map (cells_of def.fold)) sliced ∙ (left_shown b (last n h b)
      ∙ by_test (invalid n def h b)
      (λ dirty. rw (below, dirty) refl)
      (λ clean. rw (below, clean) (still_left b (last n h b) clean)))))
      (λ above.
      let above_mark : is_below b view.mark ≡ false = ap (is_below b) stands.mark ∙ above in
      ap (λ t. map (cells_of def.fold) (cond t (of_bucket b (within starts view.groups)) (cond def.only [] (groups_in def.fold (rows def.table h) b)))) above_mark
      ∙ (by_mode def.only b ∙ sym (rw above refl)))
    where
      by_mode : (only : Bool) (b : ℤ) → map (cells_of def.fold) (cond only [] (groups_in def.fold (rows def.table h) b)) ≡ cond only [] (scratch def h b)
      by_mode true b = refl
      by_mode false b = cells_are_scratch def.fold (rows def.table h) b

  pub rows_shown : (starts : Span) → union_rows def (within starts view.groups) view.mark starts (rows def.table h) ≡ flat_map (shown n def h) (buckets_in def.fold.width starts)
  rows_shown starts =
      unions_are_of_buckets def (within starts view.groups) view.mark starts (rows def.table h) wide (kept_within starts)
      ∙ flat_map-same (λ b. map (cells_of def.fold) (groups_shown def (within starts view.groups) view.mark (rows def.table h) b)) (shown n def h) (buckets_in def.fold.width starts)
      (all_among (λ b. map (cells_of def.fold) (groups_shown def (within starts view.groups) view.mark (rows def.table h) b) ≡ shown n def h b) (buckets_in def.fold.width starts)
      (λ b e. bucket_shown starts b (sym (among-buckets_in def.fold.width starts b) ∙ e)))

  -- ---- what is out of date

  tells : TellsFed n def h (notes_in table.log view.log)
  tells = covered_tells_fed n def h (notes_in table.log view.log) ok (ap is_some there) stands.covered

  pub dirty_is : (b : ℤ) → is_bucket def.fold.width b ≡ true → in_span (whole_span def.fold.width) b ≡ true → is_dirty_with view.log table.log.entries b ≡ invalid n def h b
  dirty_is b bucket inside =
      ap (λ o. is_none (last_at view.log b) || is_some o)
      (ap (λ w. pending_after_all w b (last_at view.log b) table.log.entries (pending_at view.log b)) stands.width
      ∙ fed_as_noted def.fold.width b (last_at view.log b) table.log.entries (pending_at view.log b))
      ∙ tells.dirty b bucket inside

  -- a bucket from the first on that is below the mark is one of the range of buckets
  below_inside : (b mark : ℤ) → IsMark def.fold.width mark → int_le (first_of def.fold.width) b ≡ true → int_lt b mark ≡ true → in_span (whole_span def.fold.width) b ≡ true
  below_inside b mark is from below =
      let least : first_of def.fold.width ≤ℤ b = int_le-true (first_of def.fold.width) b from in
      let start : (mark -ℤ def.fold.width.step) ≤ℤ max_time = is.starts_at_or_below_a_time in
      let last : greatest <ℤ (bucket_of def.fold.width greatest +ℤ def.fold.width.step) = (bucket_of_meets def.fold.width greatest wide).end_above in
      let bounded : def.fold.width.step ≤ℤ max_step = wide.bounded in
      let less : b <ℤ mark = grind (arith, ints, below) in
      in_span-from_ends (whole_span def.fold.width) b least (omega (arith, ints, less, start, last, bounded))

  stale_at : (starts : Span) (b : ℤ) → is_bucket def.fold.width b ≡ true → (is_asked def.fold.width starts b && is_stale_with view.log table.log.entries view.mark b) ≡ (is_asked def.fold.width starts b && stale n def h b)
  stale_at starts b bucket =
      by_test (is_asked def.fold.width starts b)
      (λ asked. ap (λ t. t && is_stale_with view.log table.log.entries view.mark b) asked
      ∙ (stale_of (watermark n def h) stands.mark (watermark_ends n def h wide (is_of_itself def (view_of (roster h) n) there) ok) asked ∙ sym (ap (λ t. t && stale n def h b) asked)))
      (λ other. ap (λ t. t && is_stale_with view.log table.log.entries view.mark b) other ∙ sym (ap (λ t. t && stale n def h b) other))
    where
      stale_of : (mark : Option ℤ) → view.mark ≡ mark → IfSome mark (IsMark def.fold.width) → is_asked def.fold.width starts b ≡ true → is_stale_with view.log table.log.entries view.mark b ≡ stale n def h b
      stale_of None is ends asked =
          ap (λ m. is_below b m && is_dirty_with view.log table.log.entries b) is
          ∙ sym (ap (λ m. is_below b m && invalid n def h b) (sym stands.mark ∙ is))
      stale_of (Some mark) is ends asked =
          let from = (and_parts _ _ (and_parts (in_span starts b) (is_bucket def.fold.width b && int_le (first_of def.fold.width) b) asked).1).1 in
          ap (λ m. is_below b m && is_dirty_with view.log table.log.entries b) is
          ∙ (by_test (int_lt b mark)
          (λ below. ap (λ t. int_lt b mark && t) (dirty_is b bucket (below_inside b mark ends from below)))
          (λ above. ap (λ t. t && is_dirty_with view.log table.log.entries b) above ∙ sym (ap (λ t. t && invalid n def h b) above))
          ∙ sym (ap (λ m. is_below b m && invalid n def h b) (sym stands.mark ∙ is)))

  pub stale_shown : (starts : Span) (found : List Span) → AreRanges def.fold.width starts (is_stale_with view.log table.log.entries view.mark) found → found ≡ ranges def.fold.width (stale n def h) (buckets_in def.fold.width starts)
  stale_shown starts found are =
      one_list_of_ranges def.fold.width starts (stale n def h) found (ranges def.fold.width (stale n def h) (buckets_in def.fold.width starts))
      (record { whole = are.whole; rising = are.rising; exact = λ b bucket. are.exact b bucket ∙ stale_at starts b bucket })
      (ranges_are_maximal def.fold.width starts (stale n def h) wide)

  pub view_answered : (starts : Span) (position : ℕ) (found : Answer) → in_order (seen_rows position table) ≡ rows def.table h → IsShown def view table.log.entries starts (seen_rows position table) found → found ≡ answer (Aggregate n starts) h
  view_answered starts position found rows_are is =
      answer_is found (answer_of_view n h starts (Some def))
      (is.rows_are ∙ (ap (union_rows def (within starts view.groups) view.mark starts) rows_are ∙ rows_shown starts))
      (stale_shown starts found.stale is.stale_are)
      ∙ sym (ap (answer_of_view n h starts) there)

  -- the rows read are those of the history
  pub view_read : (starts : Span) (position : ℕ) → IsTableOf h def.table position table → view_reads def view.mark starts table ≡ reads (Aggregate n starts) h
  view_read starts position told =
      let live : Option ℤ → List Span = λ m. map (bucket_span def.fold.width) (filter (λ b. not (is_below b m)) (buckets_in def.fold.width starts)) in
      ap (cond def.only 0)
      (told.reads_are (live view.mark)
      ∙ (ap (λ m. rows_near told.hyper.interval (rows_inserted def.table h) (live m)) stands.mark
      ∙ sym (ap (λ o. rows_near_in o (rows_inserted def.table h) (live (watermark n def h))) told.hyper_is)))
      ∙ sym (ap (reads_of_view n h starts) there)
