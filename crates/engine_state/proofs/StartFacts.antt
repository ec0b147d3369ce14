-- Jobs computed from the rows of a state, compared with a history.
use Rattle.std.proofs.Common.{◌≡◌, ℕ, suc, ◌+◌, ◌≤◌, nat_le, nat_lt, Bool, true, false, cond, ◌==◌, ◌&&◌, List, [], ◌∷◌, filter, ℤ, ◌+ℤ◌, ◌≤ℤ◌, ◌<ℤ◌, int_le, int_lt, Option, Some, None, Result, Ok, Err, IfOk, sym, refl, ap, ◌∙◌, subst, arith}
use Rattle.std.specs.Prelude.{IsSome, sum_by}
use Rattle.std.specs.List.{AllByRecursion, list_all}
use Rattle.std.proofs.lemmas.Bool.{true≢false, and_parts, and_from, eqb-true, leb-true, or_left, or_parts, or_right}
use Rattle.std.proofs.lemmas.Int.{ints}
use Rattle.std.proofs.lemmas.List.Sums.{sum_by-cons}
use Rattle.ts_bucket.specs.Bucket.{IsWidth, bucket_of, first_of, is_bucket, is_time}
use Rattle.ts_bucket.specs.Positions.{is_above}
use Rattle.ts_bucket.proofs.PositionLaws.{at_or_below}
use Rattle.ts_bucket.specs.Ranges.{AreRanges, IsWholeRange, is_asked, lies_in}
use Rattle.ts_bucket.specs.Spans.{in_span}
use Rattle.ts_bucket.specs.WholeSpans.{IsWholeSpan, greatest, whole_span}
use Rattle.ts_bucket.specs.declared.spans.Span.{Span}
use Rattle.ts_bucket.specs.declared.widths.Width.{Width}
use Rattle.ts_bucket.proofs.BucketLaws.{bucket_of_meets, buckets_apart}
use Rattle.ts_bucket.proofs.RangeLaws.{AreRanges-same}
use Rattle.ts_bucket.proofs.SpanLaws.{in_span-ends, in_span-from_ends}
use Rattle.ts_schema.specs.declared.rows.Row.{Row}
use Rattle.ts_schema.specs.Conditions.{passes_all}
use Rattle.mat_log.specs.Feeding.{is_dirty_with, is_redone_with}
use Rattle.mat_log.specs.Logs.{is_refreshed_after}
use Rattle.ts_model.specs.declared.views.Fold.{Fold}
use Rattle.ts_model.specs.declared.views.ViewDef.{ViewDef}
use Rattle.ts_model.specs.History.{History, start, resumed, ◌▸◌, base_position, position, prefix}
use Rattle.ts_model.specs.declared.events.Event.{Event}
use Rattle.ts_model.specs.declared.events.Event.TheVariants.{Table, Hyper, View, Mode, Commit, Cut, Built}
use Rattle.ts_model.specs.Roster.{roster, hyper_of, view_of}
use Rattle.ts_model.specs.Rows.{in_order, rows, rows_at}
use Rattle.ts_model.specs.Groups.{groups_of}
use Rattle.ts_model.specs.Jobs.{Fits, is_part_of, rows_of_spans}
use Rattle.ts_model.specs.Refreshes.{invalid, is_invalid, last, last_touch, last_touch_at, span_of_cut, touches, was_refreshed}
use Rattle.ts_model.specs.Reads.{dirty_ranges, rows_inserted, job_reads, job_reads_of, reads_of_snapshot, rows_near, rows_near_in}
use Rattle.ts_model.specs.Allowed.{all_consistent, consistent}
use Rattle.ts_model.specs.Answers.{ranges}
use Rattle.ts_model.specs.Limits.{is_word}
use Rattle.ts_model.specs.Sound.{finish_fits, sound, span_fits}
use Rattle.ts_model.specs.Timely.{timely_at}
use Rattle.ts_model.specs.Pending.{is_known, is_waiting, pending}
use Rattle.ts_model.specs.declared.refreshes.Pending.TheVariants.{Waiting}
use Rattle.refresh_list.specs.declared.refreshes.Refresh.{Refresh as Listed}
use Rattle.refresh_list.specs.declared.refreshes.Stage.TheVariants.{Waits, Done}
use Rattle.refresh_list.specs.declared.refreshes.Stage.{Stage}
use Rattle.ts_model.specs.declared.refreshes.Waiting.{Waiting as WaitingRefresh}
use Rattle.refresh_list.specs.Refreshes.{IsCut, as_waiting, pending_in, state_by, waits_in}
use Rattle.ts_model.proofs.AllowedLaws.{cut_bounded}
use Rattle.ts_model.proofs.CutLaws.{cut_sound, lasts_are_last}
use Rattle.ts_model.proofs.FitLaws.{rows_are_times}
use Rattle.ts_model.proofs.HistoryLaws.{base_below, prefix_end}
use Rattle.ts_model.proofs.RangeLaws.{ranges_are_maximal}
use Rattle.ts_model.proofs.RefreshLaws.{last_bounded}
use Rattle.ts_model.proofs.RowLaws.{filter-in_order, in_order-twice, all-in_order}
use Rattle.ts_model.proofs.SoundLaws.{view_width}
use Rattle.group_fold.proofs.BucketGroups.{order_plays_no_part}
use Rattle.group_fold.specs.Laws.{end_of_last}
use Rattle.group_fold.specs.Spans.{HaveTimes, near_each}
use Rattle.refresh_build.specs.declared.jobs.Job.{Job}
use Rattle.refresh_build.specs.declared.jobs.Refresh.{Refresh}
use Rattle.refresh_build.specs.Fitting.{FitsView, IsJobOf, JobFits}
use Rattle.refresh_build.specs.Jobs.{IsFor, IsMadeOf}
use Rattle.refresh_build.proofs.JobLaws.{top_of_groups}
use Rattle.engine_state.specs.Shown.{IsRefreshOf, IsTableOf, IsViewOf}
use Rattle.engine_state.specs.Stands.{StateValue, StandsFor}
use Rattle.engine_state.specs.Scans.{seen_rows, stored_rows}
use Rattle.engine_state.specs.Tables.{TableValue}
use Rattle.engine_state.specs.Views.{ViewValue, ViewStands}
use Rattle.engine_state.proofs.ShownFacts.{dirty_is}
use Rattle.ts_schema.proofs.Cases.{by_test, int_le-true, le-int_le, lt-int_lt}
use Rattle.coverage.proofs.StepLaws.{low_before}

-- ---- ranges of a span

-- the span of a cut
pub record IsCutSpan (w : Width) (span : Span) : Type 0 where
  pub starts : is_bucket w span.lo ≡ true
  pub ends : is_bucket w span.hi ≡ true
  pub from_first : first_of w ≤ℤ span.lo
  pub upto : span.hi ≤ℤ greatest

pub cut_span : (span : Span) (def : ViewDef) → span_fits span (Some def) ≡ true → IsCutSpan def.fold.width span
cut_span span def e =
    let high = and_parts _ (is_word span.hi) e in
    let low = and_parts _ (is_word span.lo) high.0 in
    let first = and_parts _ (int_le (first_of def.fold.width) span.lo) low.0 in
    let some = and_parts _ (int_lt span.lo span.hi) first.0 in
    let ends = and_parts (is_bucket def.fold.width span.lo) (is_bucket def.fold.width span.hi) some.0 in
    record { starts = ends.0; ends = ends.1; from_first = int_le-true (first_of def.fold.width) span.lo first.1; upto = int_le-true span.hi greatest (and_parts _ (int_le span.hi greatest) high.1).1 }

-- a bucket of a span is requested by the span, and is in the range of buckets
in_asked : (w : Width) (span : Span) (b : ℤ) → IsCutSpan w span → is_bucket w b ≡ true → in_span span b ≡ true → is_asked w span b ≡ true
in_asked w span b s bucket inside =
    let from : span.lo ≤ℤ b = (in_span-ends span b inside).0 in
    let first : first_of w ≤ℤ span.lo = s.from_first in
    let high : int_le (first_of w) b ≡ true = le-int_le (first_of w) b (omega (arith, ints, from, first)) in
    and_from _ _ inside (and_from _ _ bucket high)

in_whole : (w : Width) (span : Span) (b : ℤ) → IsWidth w → IsCutSpan w span → is_bucket w b ≡ true → in_span span b ≡ true → in_span (whole_span w) b ≡ true
in_whole w span b wide s bucket inside =
    let ends = in_span-ends span b inside in
    let from : span.lo ≤ℤ b = ends.0 in
    let below : b <ℤ span.hi = ends.1 in
    let first : first_of w ≤ℤ span.lo = s.from_first in
    let fits : (b +ℤ w.step) ≤ℤ span.hi = buckets_apart w b span.hi wide bucket s.ends below in
    let upto : span.hi ≤ℤ greatest = s.upto in
    let last : greatest <ℤ (bucket_of w greatest +ℤ w.step) = (bucket_of_meets w greatest wide).end_above in
    in_span-from_ends (whole_span w) b (omega (arith, ints, first, from)) (omega (arith, ints, fits, upto, last))

-- ranges whose buckets lie in a span are parts of it
parts_of : (w : Width) (span : Span) (found : List Span) → IsCutSpan w span → AllByRecursion (IsWholeRange w) found → ((b : ℤ) → is_bucket w b ≡ true → lies_in found b ≡ true → in_span span b ≡ true) → list_all (is_part_of w span) found ≡ true
parts_of w span [] s whole inside = refl
parts_of w span (r ∷ rs) s whole inside =
    let some : r.lo <ℤ r.hi = whole.0.some in
    let start : in_span r r.lo ≡ true = in_span-from_ends r r.lo (omega (arith, ints)) some in
    let low = in_span-ends span r.lo (inside r.lo whole.0.starts (or_left _ _ start)) in
    let from : span.lo ≤ℤ r.lo = low.0 in
    let before : r.lo <ℤ span.hi = low.1 in
    let upto : int_le r.hi span.hi ≡ true =
    by_test (int_le r.hi span.hi) (λ e. e)
    (λ e.
    let past : span.hi <ℤ r.hi = less r.hi span.hi e in
    let held : in_span r span.hi ≡ true = in_span-from_ends r span.hi (omega (arith, ints, before)) past in
    let end = (in_span-ends span span.hi (inside span.hi s.ends (or_left _ _ held))).1 in
    absurd (not_less span.hi end)) in
    and_from _ _ (and_from _ _ (and_from _ _ (and_from _ _ (and_from _ _ whole.0.starts whole.0.ends) (le-int_le span.lo r.lo from)) (lt-int_lt r.lo r.hi some)) upto)
    (parts_of w span rs s whole.1 (λ b bucket e. inside b bucket (or_right (in_span r b) (lies_in rs b) e)))
  where
    less : (x y : ℤ) → int_le x y ≡ false → y <ℤ x
    less x y e = grind (arith, ints, e)

    not_less : (x : ℤ) → x <ℤ x → ⊥
    not_less x l = omega (arith, ints, l)

-- ---- rows in another order

same_of_spans : (fold : Fold) (spans : List Span) (xs ys : List Row) → in_order xs ≡ ys → in_order (rows_of_spans fold spans xs) ≡ in_order (rows_of_spans fold spans ys)
same_of_spans fold spans xs ys same =
    let chosen : Row → Bool = λ row. lies_in spans (bucket_of fold.width row.at) && passes_all row fold.tests in
    sym (in_order-twice (filter chosen xs)) ∙ (ap in_order (sym (filter-in_order chosen xs)) ∙ ap (λ zs. in_order (filter chosen zs)) same)

-- the rows of a job may be in any order
pub made_in_order : (fold : Fold) (xs ys : List Row) (job : Job) → IsWidth fold.width → in_order xs ≡ ys → IsMadeOf fold xs job → IsMadeOf fold ys job
made_in_order fold xs ys job wide same made =
    let groups : job.groups ≡ groups_of fold (rows_of_spans fold job.spans ys) = made.groups_are ∙ order_plays_no_part fold (rows_of_spans fold job.spans xs) (rows_of_spans fold job.spans ys) wide (same_of_spans fold job.spans xs ys same) in
    let end : job.top ≡ end_of_last fold.width job.groups = made.top_is ∙ sym (top_of_groups fold job.spans xs job.groups (end_of_last fold.width job.groups) wide made.groups_are refl) in
    record { groups_are = groups; top_is = top_of_groups fold job.spans ys job.groups job.top wide groups end }

-- ---- buckets that no commit touched after a position

-- no earlier position has a later touch
pub untouched_before : (n : ℕ) (def : ViewDef) (h : History) (b : ℤ) (r s : ℕ) → is_above r (last_touch n def h b) ≡ false → is_above r (last_touch_at n def h s b) ≡ false
untouched_before n def start b r s e = e
untouched_before n def (resumed i) b r s e = e
untouched_before n def (h ▸ x) b r s e =
    elim (nat_lt (position h) s) as (λ t. is_above r (last_touch n def (cond t (h ▸ x) (prefix h s)) b) ≡ false) [ true ↦ e | false ↦ untouched_before n def h b r s (before x e) ]
  where
    before : (x : Event) → is_above r (last_touch n def (h ▸ x) b) ≡ false → is_above r (last_touch n def h b) ≡ false
    before (Table t) e = e
    before (Hyper t hyper) e = e
    before (View made) e = e
    before (Mode v only) e = e
    before (Commit ops) e = low_before r (last_touch n def h b) (cond (touches def ops h b) (Some (suc (position h))) None) e
    before (Cut v span) e = e
    before (Built c k) e = e

-- ---- an aggregate of a consistent history

module _ (h : History) (n : ℕ) (def : ViewDef) (table : TableValue) (view : ViewValue) (ok : all_consistent h ≡ true) (there : view_of (roster h) n ≡ Some def) (stands : ViewStands h n def table.log view) (wide : IsWidth def.fold.width) (cut : ℕ) (span : Span) (cut_is : span_of_cut n h cut ≡ Some span) where
  pub span_is : IsCutSpan def.fold.width span
  span_is = cut_span span def (ap (span_fits span) (sym there) ∙ cut_sound n h cut span ok cut_is)

  dirty_at : (b : ℤ) → is_bucket def.fold.width b ≡ true → in_span span b ≡ true → is_dirty_with view.log table.log.entries b ≡ invalid n def h b
  dirty_at b bucket inside = dirty_is h n def table view ok there stands b bucket (in_whole def.fold.width span b wide span_is bucket inside)

  -- a bucket that isn't stale was refreshed, and not touched since
  clean_at : (b : ℤ) (o : Option ℕ) → last n h b ≡ o → is_invalid n def h b o ≡ false → (r : ℕ) × (r ≤ position h) × (was_refreshed n h b r ≡ true) × (is_above r (last_touch n def h b) ≡ false)
  clean_at b None is clean = absurd (true≢false clean)
  clean_at b (Some r) is clean = (r, last_bounded n h b r ok is, lasts_are_last.refreshed n h b r is, clean)

  -- the condition on a bucket that a job leaves unchanged
  abbrev IsLeft : ℕ → ℤ → Type 0
  IsLeft snap b = (r : ℕ) × (r ≤ snap) × (was_refreshed n h b r ≡ true) × (is_above r (last_touch_at n def h snap b) ≡ false)

  -- a job of the rows that a position saw fits, if each bucket that it leaves unchanged was refreshed and not
  -- touched since
  fits_from : (snap : ℕ) (seen : List Row) (job : Job) (test : ℤ → Bool) → cut ≤ snap → base_position h ≤ snap → snap ≤ position h → in_order seen ≡ rows_at def.table h snap → AreRanges def.fold.width span test job.spans → IsMadeOf def.fold seen job → ((b : ℤ) → is_bucket def.fold.width b ≡ true → in_span span b ≡ true → test b ≡ false → IsLeft snap b) → Fits n def h cut snap span job.spans job.groups job.top
  fits_from snap seen job test after base taken rows_are ranges_are made left =
      let ordered : IsMadeOf def.fold (rows_at def.table h snap) job = made_in_order def.fold seen (rows_at def.table h snap) job wide rows_are made in
      record {
        cut_is = cut_is;
        after_cut = after;
        above_base = base;
        taken = taken;
        whole = parts_of def.fold.width span job.spans span_is ranges_are.whole (λ b bucket e. asked_inside b (sym (ranges_are.exact b bucket) ∙ e));
        groups_are = ordered.groups_are;
        top_is = ordered.top_is;
        others = λ b bucket inside out. left b bucket inside (not_passing b (in_asked def.fold.width span b span_is bucket inside) (sym (ranges_are.exact b bucket) ∙ out));
      }
    where
      asked_inside : (b : ℤ) → (is_asked def.fold.width span b && test b) ≡ true → in_span span b ≡ true
      asked_inside b e = (and_parts (in_span span b) (is_bucket def.fold.width b && int_le (first_of def.fold.width) b) (and_parts (is_asked def.fold.width span b) (test b) e).0).0

      not_passing : (b : ℤ) → is_asked def.fold.width span b ≡ true → (is_asked def.fold.width span b && test b) ≡ false → test b ≡ false
      not_passing b asked e = sym (ap (λ t. t && test b) asked) ∙ e

  -- a job of the rows of the whole history fits it, if its ranges are the stale ones
  pub fits_now : (seen : List Row) (job : Job) → in_order seen ≡ rows def.table h → AreRanges def.fold.width span (is_dirty_with view.log table.log.entries) job.spans → IsMadeOf def.fold seen job → Fits n def h cut (position h) span job.spans job.groups job.top
  fits_now seen job rows_are ranges_are made =
      let end : prefix h (position h) ≡ h = prefix_end h (position h) (omega arith) in
      fits_from (position h) seen job (is_dirty_with view.log table.log.entries) (cut_bounded n h cut span cut_is) (base_below h) (omega arith) (rows_are ∙ ap (rows def.table) (sym end)) ranges_are made
      (λ b bucket inside clean.
      let found = clean_at b (last n h b) refl (sym (dirty_at b bucket inside) ∙ clean) in
      (found.0, found.1, found.2, ap (λ g. is_above found.0 (last_touch n def g b)) end ∙ found.3))

  -- a job of an earlier snapshot fits too, if its ranges are those that are stale or were refreshed later
  pub fits_then : (snap : ℕ) (seen : List Row) (job : Job) → cut ≤ snap → base_position h ≤ snap → snap ≤ position h → in_order seen ≡ rows_at def.table h snap → AreRanges def.fold.width span (is_redone_with view.log table.log.entries snap) job.spans → IsMadeOf def.fold seen job → Fits n def h cut snap span job.spans job.groups job.top
  fits_then snap seen job after base taken rows_are ranges_are made =
      fits_from snap seen job (is_redone_with view.log table.log.entries snap) after base taken rows_are ranges_are made
      (λ b bucket inside out.
      let parts = or_parts (is_dirty_with view.log table.log.entries b) (is_refreshed_after view.log snap b) out in
      let earlier : is_above snap (last n h b) ≡ false = ap (is_above snap) (sym (stands.covered.refreshed b bucket)) ∙ parts.1 in
      let found = early_at b (last n h b) refl earlier (sym (dirty_at b bucket inside) ∙ parts.0) in
      (found.0, found.1, found.2, untouched_before n def h b found.0 snap found.3))
    where
      early_at : (b : ℤ) (o : Option ℕ) → last n h b ≡ o → is_above snap o ≡ false → is_invalid n def h b o ≡ false → (r : ℕ) × (r ≤ snap) × (was_refreshed n h b r ≡ true) × (is_above r (last_touch n def h b) ≡ false)
      early_at b None is above clean = absurd (true≢false clean)
      early_at b (Some r) is above clean = (r, at_or_below snap r above, lasts_are_last.refreshed n h b r is, clean)

  -- the stale ranges of the history
  pub dirty_are : AreRanges def.fold.width span (is_dirty_with view.log table.log.entries) (dirty_ranges n def h span)
  dirty_are =
      AreRanges-same def.fold.width span span (invalid n def h) (is_dirty_with view.log table.log.entries) (dirty_ranges n def h span)
      (λ b bucket. by_test (is_asked def.fold.width span b)
      (λ asked. ap (λ t. is_asked def.fold.width span b && t) (sym (dirty_at b bucket (and_parts (in_span span b) (is_bucket def.fold.width b && int_le (first_of def.fold.width) b) asked).0)))
      (λ other. ap (λ t. t && invalid n def h b) other ∙ sym (ap (λ t. t && is_dirty_with view.log table.log.entries b) other)))
      (ranges_are_maximal def.fold.width span (invalid n def h) wide)

-- the rows read, range by range
pub near_is : (h : History) (t position : ℕ) (table : TableValue) (spans : List Span) → IsTableOf h t position table → near_each table.rows.interval (stored_rows table) spans ≡ sum_by (λ range. rows_near_in (hyper_of (roster h) t) (rows_inserted t h) (range ∷ [])) spans
near_is h t position table [] is = refl
near_is h t position table (s ∷ ss) is =
    let near : Span → ℕ = λ range. rows_near_in (hyper_of (roster h) t) (rows_inserted t h) (range ∷ []) in
    let here : rows_near table.rows.interval (stored_rows table) (s ∷ []) ≡ near s = is.reads_are (s ∷ []) ∙ sym (ap (λ o. rows_near_in o (rows_inserted t h) (s ∷ [])) is.hyper_is) in
    ap (λ m. m + near_each table.rows.interval (stored_rows table) ss) here ∙ (ap (λ m. near s + m) (near_is h t position table ss is) ∙ sym (sum_by-cons near s ss))

-- ---- a refresh that waits

-- a waiting refresh of a list has a number and an aggregate there
pub record IsWaitingRefresh (refreshes : List Listed) (cut : ℕ) (w : WaitingRefresh) : Type 0 where
  pub waits : pending_in refreshes cut ≡ Waiting w.view
  pub cut_is : w.cut ≡ cut

waits_as : (cut : ℕ) (s : Stage) (w : WaitingRefresh) → as_waiting cut s ≡ Some w → (state_by s ≡ Waiting w.view) × (w.cut ≡ cut)
waits_as cut (Waits view span) w e = (let same : view ≡ w.view = cc in ap Waiting same, cc)
waits_as cut (Done k) w e = absurd (cc)

pub waiting_there : (refreshes : List Listed) (cut : ℕ) (w : WaitingRefresh) → waits_in refreshes cut ≡ Some w → IsWaitingRefresh refreshes cut w
waiting_there [] cut w e = absurd (cc)
waiting_there (r ∷ rs) cut w e =
    by_test (cut == r.cut)
    (λ here.
    let own = waits_as r.cut r.stage w (sym (ap (λ t. cond t (as_waiting r.cut r.stage) (waits_in rs cut)) here) ∙ e) in
    record { waits = ap (λ t. cond t (state_by r.stage) (pending_in rs cut)) here ∙ own.0; cut_is = own.1 ∙ sym (eqb-true cut r.cut here) })
    (λ later.
    let rest = waiting_there rs cut w (sym (ap (λ t. cond t (as_waiting r.cut r.stage) (waits_in rs cut)) later) ∙ e) in
    record { waits = ap (λ t. cond t (state_by r.stage) (pending_in rs cut)) later ∙ rest.waits; cut_is = rest.cut_is })

-- a waiting refresh is in the list
pub waits_there : (refreshes : List Listed) (cut : ℕ) → is_waiting (pending_in refreshes cut) ≡ true → waits_in refreshes cut ≡ None → ⊥
waits_there [] cut waits none = true≢false (sym waits)
waits_there (r ∷ rs) cut waits none =
    by_test (cut == r.cut)
    (λ here. own r.stage (sym (ap (λ t. is_waiting (cond t (state_by r.stage) (pending_in rs cut))) here) ∙ waits) (sym (ap (λ t. cond t (as_waiting r.cut r.stage) (waits_in rs cut)) here) ∙ none))
    (λ later. waits_there rs cut (sym (ap (λ t. is_waiting (cond t (state_by r.stage) (pending_in rs cut))) later) ∙ waits) (sym (ap (λ t. cond t (as_waiting r.cut r.stage) (waits_in rs cut)) later) ∙ none))
  where
    own : (s : Stage) → is_waiting (state_by s) ≡ true → as_waiting r.cut s ≡ None → ⊥
    own (Waits view span) w n = cc
    own (Done k) w n = true≢false (sym w)

cut_of_waiting : (h : History) (cut : ℕ) (s : Stage) (w : WaitingRefresh) → IsCut h cut s → as_waiting cut s ≡ Some w → span_of_cut w.view h w.cut ≡ Some w.span
cut_of_waiting h cut (Waits view span) w is e = let same : record { cut = cut; view = view; span = span } ≡ w = cc in subst (λ (v : WaitingRefresh). span_of_cut v.view h v.cut ≡ Some v.span) same is
cut_of_waiting h cut (Done k) w is e = absurd (cc)

span_of_waiting : (h : History) (rs : List Listed) (cut : ℕ) (w : WaitingRefresh) → AllByRecursion (λ x. IsCut h x.cut x.stage) rs → waits_in rs cut ≡ Some w → span_of_cut w.view h w.cut ≡ Some w.span
span_of_waiting h [] cut w spans e = absurd (cc)
span_of_waiting h (x ∷ xs) cut w spans e =
    by_test (cut == x.cut)
    (λ here. cut_of_waiting h x.cut x.stage w spans.0 (sym (ap (λ t. cond t (as_waiting x.cut x.stage) (waits_in xs cut)) here) ∙ e))
    (λ later. span_of_waiting h xs cut w spans.1 (sym (ap (λ t. cond t (as_waiting x.cut x.stage) (waits_in xs cut)) later) ∙ e))

fitting_view : (span : Span) (o : Option ViewDef) → span_fits span o ≡ true → IsSome o
fitting_view span None e = absurd (true≢false (sym e))
fitting_view span (Some def) e = refl

-- a waiting refresh of a state is one of the history
pub refresh_is : (h : History) (s : StateValue) (cut : ℕ) (w : WaitingRefresh) (refresh : Refresh) → StandsFor h s → waits_in s.refreshes cut ≡ Some w → refresh.view ≡ w.view → refresh.cut ≡ w.cut → refresh.span ≡ w.span → IsRefreshOf h cut refresh
refresh_is h s cut w refresh st found view_is cut_is span_is =
    let there = waiting_there s.refreshes cut w found in
    let own_span : span_of_cut w.view h cut ≡ Some w.span = subst (λ k. span_of_cut w.view h k ≡ Some w.span) there.cut_is (span_of_waiting h s.refreshes cut w st.refreshes.spans found) in
    record {
      waits = sym (st.refreshes.pending cut) ∙ (there.waits ∙ ap Waiting (sym view_is));
      cut_is = cut_is ∙ there.cut_is;
      span_is = subst (λ n. span_of_cut n h cut ≡ Some refresh.span) (sym view_is) (own_span ∙ ap Some (sym span_is));
      view_is = subst (λ n. IsSome (view_of (roster h) n)) (sym view_is) (fitting_view w.span (view_of (roster h) w.view) (cut_sound w.view h cut w.span st.consistent own_span));
    }

-- ---- a job for a refresh

-- the span of a cut is one of whole buckets
pub whole_cut : (h : History) (n cut : ℕ) (span : Span) (def : ViewDef) → all_consistent h ≡ true → view_of (roster h) n ≡ Some def → span_of_cut n h cut ≡ Some span → IsWholeSpan def.fold.width span
whole_cut h n cut span def ok there cut_is =
    let found = cut_span span def (ap (span_fits span) (sym there) ∙ cut_sound n h cut span ok cut_is) in
    record { starts = found.starts; ends = found.ends; from_first = found.from_first }

-- the rows that a position saw have times
pub times_then : (h : History) (t position snap : ℕ) (table : TableValue) → all_consistent h ≡ true → IsTableOf h t position table → HaveTimes (seen_rows snap table)
times_then h t position snap table ok is =
    sym (all-in_order (λ row. is_time row.at) (seen_rows snap table))
    ∙ (ap (list_all (λ row. is_time row.at)) (is.stands.rows.seen snap) ∙ rows_are_times.rows t h snap ok)

-- the combination of three facts of a result
pub three_ok : {T E : Type 0} (r : Result T E) (P Q R S : T → Type 0) → ((x : T) → P x → Q x → R x → S x) → IfOk r P → IfOk r Q → IfOk r R → IfOk r S
three_ok (Ok x) P Q R S f p q s = f x p q s
three_ok (Err e) P Q R S f p q s = tt

-- a job with the numbers and the span of one that fits also fits
job_as : (h : History) (job : Job) (def : ViewDef) (n cut snap : ℕ) (span : Span) → job.view ≡ n → job.cut ≡ cut → job.snap ≡ snap → job.span ≡ span → view_of (roster h) n ≡ Some def → Fits n def h cut snap span job.spans job.groups job.top → JobFits h job
job_as h job def n cut snap span view_is cut_is snap_is span_is there fits =
    subst (λ o. FitsView o h job) (sym (ap (view_of (roster h)) view_is ∙ there))
    (subst (λ v. Fits v def h job.cut job.snap job.span job.spans job.groups job.top) (sym view_is)
    (subst (λ k. Fits n def h k job.snap job.span job.spans job.groups job.top) (sym cut_is)
    (subst (λ p. Fits n def h cut p job.span job.spans job.groups job.top) (sym snap_is)
    (subst (λ s. Fits n def h cut snap s job.spans job.groups job.top) (sym span_is) fits))))

-- a job of the rows of a history's position fits the history
pub job_now : (h : History) (cut p : ℕ) (refresh : Refresh) (def : ViewDef) (view : ViewValue) (table : TableValue) (job : Job) → all_consistent h ≡ true → IsRefreshOf h cut refresh → IsViewOf h refresh.view p def view table → refresh.snap ≡ position h
    → AreRanges def.fold.width refresh.span (is_dirty_with view.log table.log.entries) job.spans → IsFor refresh job.spans job → IsMadeOf def.fold (seen_rows p table) job → JobFits h job × (job.cut ≡ cut) × (job.snap ≡ position h)
job_now h cut p refresh def view table job ok r v snap_is ranges is_for made =
    let cut_is : job.cut ≡ cut = is_for.cut ∙ r.cut_is in
    let taken : job.snap ≡ position h = is_for.snap ∙ snap_is in
    let fits = fits_now h refresh.view def table view ok v.there v.stands (view_width h refresh.view def ok v.there) cut refresh.span r.span_is (seen_rows p table) job v.table_is.rows_are ranges made in
    (job_as h job def refresh.view cut (position h) refresh.span is_for.view cut_is taken is_for.span v.there fits, cut_is, taken)

-- the number of stored rows that its snapshot reads
pub job_read : (h : History) (cut p : ℕ) (refresh : Refresh) (def : ViewDef) (view : ViewValue) (table : TableValue) → IsRefreshOf h cut refresh → IsViewOf h refresh.view p def view table → near_each table.rows.interval (stored_rows table) (dirty_ranges refresh.view def h refresh.span) ≡ job_reads h cut
job_read h cut p refresh def view table r v =
    near_is h def.table p table (dirty_ranges refresh.view def h refresh.span) v.table_is
    ∙ sym (ap (job_reads_of h cut) r.waits
    ∙ (ap (λ o. reads_of_snapshot refresh.view h o (span_of_cut refresh.view h cut)) v.there
    ∙ ap (reads_of_snapshot refresh.view h (Some def)) r.span_is))

-- ---- a finish that may come next

-- its refresh waits
pub finish_waits : (h : History) (s : StateValue) (cut snap : ℕ) → StandsFor h s → consistent h (Built cut snap) ≡ true → is_waiting (pending_in s.refreshes cut) ≡ true
finish_waits h s cut snap st next = ap is_waiting (st.refreshes.pending cut) ∙ (and_parts (sound h (Built cut snap)) (timely_at h (Built cut snap)) next).1

-- a job of the rows that its snapshot saw is a job of it
pub job_then : (h : History) (cut snap p : ℕ) (refresh : Refresh) (def : ViewDef) (view : ViewValue) (table : TableValue) (job : Job) → all_consistent h ≡ true → consistent h (Built cut snap) ≡ true → IsRefreshOf h cut refresh → IsViewOf h refresh.view p def view table → refresh.snap ≡ snap
    → AreRanges def.fold.width refresh.span (is_redone_with view.log table.log.entries snap) job.spans → IsFor refresh job.spans job → IsMadeOf def.fold (seen_rows snap table) job → IsJobOf h cut snap job
job_then h cut snap p refresh def view table job ok next r v snap_is ranges is_for made =
    let sound_next = (and_parts (finish_fits h cut snap) _ (and_parts (sound h (Built cut snap)) (timely_at h (Built cut snap)) next).0).0 in
    let upto = and_parts _ (nat_le snap (position h)) sound_next in
    let above = and_parts _ (nat_le (base_position h) snap) upto.0 in
    let after = and_parts (is_known (pending h cut)) (nat_le cut snap) above.0 in
    let cut_is : job.cut ≡ cut = is_for.cut ∙ r.cut_is in
    let taken : job.snap ≡ snap = is_for.snap ∙ snap_is in
    let fits =
    fits_then h refresh.view def table view ok v.there v.stands (view_width h refresh.view def ok v.there) cut refresh.span r.span_is snap (seen_rows snap table) job
    (leb-true cut snap after.1) (leb-true (base_position h) snap above.1) (leb-true snap (position h) upto.1) (v.table_is.stands.rows.seen snap) ranges made in
    (cut_is, taken, job_as h job def refresh.view cut snap refresh.span is_for.view cut_is taken is_for.span v.there fits)
