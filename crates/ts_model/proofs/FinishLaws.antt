-- A finish of a job that fits raises the watermark to the job's top.
use Rattle.std.proofs.Common.{◌≡◌, ℕ, ◌≤◌, Bool, true, false, ◌&&◌, ◌||◌, cond, nat_lt, ◌==◌, List, [], ◌∷◌, ℤ, ◌+ℤ◌, ◌≤ℤ◌, int_le, int_lt, Option, Some, None, sym, refl, ap, ◌∙◌, subst, arith}
use Rattle.std.specs.Prelude.{IfSome}
use Rattle.std.specs.Int.{int_max}
use Rattle.std.specs.List.{list_all}
use Rattle.std.proofs.lemmas.Bool.{true≢false, and_parts, and_from, or_parts, eqb-true, lt-ltb}
use Rattle.std.proofs.lemmas.Int.{ints, clamps}
use Rattle.ts_num.specs.Aggregates.{greater}
use Rattle.ts_num.proofs.EndLaws.{greater_assoc, greater_comm}
use Rattle.ts_bucket.specs.Bucket.{IsWidth, holds, is_bucket, bucket_of}
use Rattle.ts_bucket.specs.Ranges.{lies_in}
use Rattle.ts_bucket.specs.Spans.{in_span}
use Rattle.ts_bucket.specs.WholeSpans.{is_below}
use Rattle.ts_bucket.specs.declared.spans.Span.{Span}
use Rattle.ts_bucket.specs.declared.widths.Width.{Width}
use Rattle.ts_bucket.proofs.BucketLaws.{buckets_apart, holds-bucket_of, is_bucket-bucket_of}
use Rattle.ts_schema.specs.declared.rows.Row.{Row}
use Rattle.ts_schema.specs.Conditions.{passes_all}
use Rattle.partial_agg.specs.declared.groups.Group.{Group}
use Rattle.ts_model.specs.declared.events.Event.{Event}
use Rattle.ts_model.specs.declared.events.Event.TheVariants.{Built}
use Rattle.ts_model.specs.declared.images.Image.{Image}
use Rattle.ts_model.specs.declared.views.Fold.{Fold}
use Rattle.ts_model.specs.declared.views.ViewDef.{ViewDef}
use Rattle.ts_model.specs.History.{History, start, resumed, ◌▸◌, position, root, prefix}
use Rattle.ts_model.specs.Roster.{IsOf, roster, view_of}
use Rattle.ts_model.specs.Saved.{saved_view, saved_last, is_dirty}
use Rattle.ts_model.specs.Rows.{rows, rows_at}
use Rattle.ts_model.specs.Scratch.{bucket_rows}
use Rattle.ts_model.specs.Refreshes.{span_of_cut, is_covered, was_refreshed, touched, top_in, top_of, watermark}
use Rattle.ts_bucket.specs.Positions.{is_above}
use Rattle.std.specs.Prelude.{is_some}
use Rattle.ts_model.specs.Windows.{last_end}
use Rattle.ts_model.specs.Allowed.{all_consistent, consistent}
use Rattle.ts_model.specs.Jobs.{rows_of_spans, is_part_of, Fits}
use Rattle.ts_bucket.specs.WholeSpans.{IsMark}
use Rattle.ts_model.specs.RefreshLaws.{FinishesMark}
use Rattle.ts_model.proofs.ValidLaws.{KeptFacts, kept_facts, lasts_below}
use Rattle.ts_model.proofs.CutLaws.{pos_is}
use Rattle.ts_model.proofs.RosterLaws.{is_of_before, is_of_itself}
use Rattle.ts_model.proofs.HistoryLaws.{begins_prefix, root_begins, prefix_prefix, prefix_further}
use Rattle.ts_model.proofs.SoundLaws.{view_width}
use Rattle.ts_model.proofs.UntouchedLaws.{untouched_rows, touched_root}
use Rattle.ts_model.proofs.RefreshLaws.{is_below-greater, none_above, built_bounds}
use Rattle.ts_model.proofs.MarkLaws.{watermark_ends}
use Rattle.ts_schema.proofs.Cases.{int_lt-true}

-- ---- a refreshed bucket at or above the watermark had no row at its snapshot

none_covered : (n : ℕ) (def : ViewDef) (h : History) (b : ℤ) (snap : ℕ) (o : Option Span) → IsWidth def.fold.width → is_bucket def.fold.width b ≡ true → is_covered b o ≡ true → is_below b (top_of def h snap o) ≡ false → bucket_rows def.fold b (rows_at def.table h snap) ≡ []
none_covered n def h b snap None width bucket covered e = absurd (true≢false (sym covered))
none_covered n def h b snap (Some span) width bucket covered e = none_above def.fold span b (rows_at def.table h snap) width bucket covered e

-- the rows of an earlier position, one event later
rows_further : (t : ℕ) (h : History) (x : Event) (r : ℕ) → r ≤ position h → rows_at t (h ▸ x) r ≡ rows_at t h r
rows_further t h x r l = ap (rows t) (prefix_further h x r l)

refreshed_bounded : (n : ℕ) (h : History) (b : ℤ) (r : ℕ) → all_consistent h ≡ true → was_refreshed n h b r ≡ true → r ≤ position h
refreshed_bounded n start b r ok e = absurd (true≢false (sym e))
refreshed_bounded n (resumed i) b r ok e = omega (arith, lasts_below n i ok b r (pos_is (saved_last n i b) r e))
refreshed_bounded n (h ▸ Built cut snap) b r ok e =
    let parts = and_parts (all_consistent h) (consistent h (Built cut snap)) ok in
    let bound : snap ≤ position h = built_bounds h cut snap parts.1 in
    elim (was_refreshed n h b r) as (λ t. was_refreshed n h b r ≡ t → (t || (snap == r && is_covered b (span_of_cut n h cut))) ≡ true → r ≤ position (h ▸ Built cut snap)) [
      | true ↦ λ before _. omega (arith, refreshed_bounded n h b r parts.0 before)
      | false ↦ λ _ now.
          let is : snap ≡ r = eqb-true snap r (and_parts (snap == r) _ now).0 in
          omega arith
    ] refl e
refreshed_bounded n (h ▸ x) b r ok e = omega (arith, refreshed_bounded n h b r (and_parts (all_consistent h) _ ok).0 e)

none_built : (n : ℕ) (def : ViewDef) (h : History) (cut snap : ℕ) (b : ℤ) (r : ℕ) → IsWidth def.fold.width → is_bucket def.fold.width b ≡ true → all_consistent (h ▸ Built cut snap) ≡ true → was_refreshed n (h ▸ Built cut snap) b r ≡ true → is_below b (watermark n def (h ▸ Built cut snap)) ≡ false → (was_refreshed n h b r ≡ true → is_below b (watermark n def h) ≡ false → bucket_rows def.fold b (rows_at def.table h r) ≡ []) → bucket_rows def.fold b (rows_at def.table (h ▸ Built cut snap) r) ≡ []
none_built n def h cut snap b r width bucket ok e mark before =
    let parts = and_parts (all_consistent h) (consistent h (Built cut snap)) ok in
    let marks = or_parts _ _ (sym (is_below-greater b (watermark n def h) (top_of def h snap (span_of_cut n h cut))) ∙ mark) in
    elim (was_refreshed n h b r) as (λ t. was_refreshed n h b r ≡ t → (t || (snap == r && is_covered b (span_of_cut n h cut))) ≡ true → bucket_rows def.fold b (rows_at def.table (h ▸ Built cut snap) r) ≡ []) [
      | true ↦ λ earlier _. ap (bucket_rows def.fold b) (rows_further def.table h (Built cut snap) r (refreshed_bounded n h b r parts.0 earlier)) ∙ before earlier marks.0
      | false ↦ λ _ now.
          let this = and_parts (snap == r) (is_covered b (span_of_cut n h cut)) now in
          let is : snap ≡ r = eqb-true snap r this.0 in
          subst (λ k. bucket_rows def.fold b (rows_at def.table (h ▸ Built cut snap) k) ≡ []) is
          (ap (bucket_rows def.fold b) (rows_further def.table h (Built cut snap) snap (built_bounds h cut snap parts.1)) ∙ none_covered n def h b snap (span_of_cut n h cut) width bucket this.1 marks.1)
    ] refl e

-- an image keeps no row at or above the mark in a bucket that isn't dirty
none_kept : (n : ℕ) (def : ViewDef) (i : Image) (b : ℤ) (r : ℕ) → IsWidth def.fold.width → is_bucket def.fold.width b ≡ true → KeptFacts def i (saved_view n i) → saved_last n i b ≡ Some r → touched n def (resumed i) b r ≡ false → is_below b (saved_view n i).mark ≡ false → bucket_rows def.fold b (rows def.table (resumed i)) ≡ []
none_kept n def i b r width bucket facts e apart mark =
    let below : nat_lt r i.pos ≡ true = lt-ltb r i.pos (facts.lasts b r e).below in
    let clean : is_dirty n i b ≡ false = elim (is_dirty n i b) as (λ t. is_above r (cond t (Some i.pos) None) ≡ false → t ≡ false) [ true ↦ λ f. absurd (true≢false (sym below ∙ f)) | false ↦ λ _. refl ] apart in
    facts.rows_below b width bucket (ap is_some e) clean mark

none_refreshed : (n : ℕ) (def : ViewDef) (h : History) (b : ℤ) (r : ℕ) → IsWidth def.fold.width → is_bucket def.fold.width b ≡ true → IsOf def (view_of (roster h) n) → touched n def (root h) b r ≡ false → all_consistent h ≡ true → was_refreshed n h b r ≡ true → is_below b (watermark n def h) ≡ false → bucket_rows def.fold b (rows_at def.table h r) ≡ []
none_refreshed n def start b r width bucket is apart ok e mark = absurd (true≢false (sym e))
none_refreshed n def (resumed i) b r width bucket is apart ok e mark = none_kept n def i b r width bucket (kept_facts n def i ok is) (pos_is (saved_last n i b) r e) apart mark
none_refreshed n def (h ▸ Built cut snap) b r width bucket is apart ok e mark = none_built n def h cut snap b r width bucket ok e mark (λ earlier below. none_refreshed n def h b r width bucket is apart (and_parts (all_consistent h) _ ok).0 earlier below)
none_refreshed n def (h ▸ x) b r width bucket is apart ok e mark =
    let before = (and_parts (all_consistent h) _ ok).0 in
    ap (bucket_rows def.fold b) (rows_further def.table h x r (refreshed_bounded n h b r before e)) ∙ none_refreshed n def h b r width bucket (is_of_before def h x n is) apart before e mark

-- so a bucket outside a fitting job's spans is below the watermark, or has no row at the job's snapshot
outside_empty : (n : ℕ) (def : ViewDef) (h : History) (cut snap : ℕ) (span : Span) (spans : List Span) (groups : List Group) (top : Option ℤ) → all_consistent h ≡ true → IsWidth def.fold.width → IsOf def (view_of (roster h) n) → Fits n def h cut snap span spans groups top → (b : ℤ) → is_bucket def.fold.width b ≡ true → in_span span b ≡ true → lies_in spans b ≡ false → is_below b (watermark n def h) ≡ false → bucket_rows def.fold b (rows_at def.table h snap) ≡ []
outside_empty n def h cut snap span spans groups top ok width is f b bucket inside apart mark =
    let other = f.others b bucket inside apart in
    let r = other.0 in
    let untouched : bucket_rows def.fold b (rows def.table (prefix h snap)) ≡ bucket_rows def.fold b (rows_at def.table (prefix h snap) r) = untouched_rows n def (prefix h snap) b r other.3 in
    untouched ∙ ap (λ g. bucket_rows def.fold b (rows def.table g)) (prefix_prefix h r snap other.1) ∙ none_refreshed n def h b r width bucket is (ap (λ g. touched n def g b r) (root_begins (begins_prefix h snap)) ∙ touched_root n def (prefix h snap) b r other.3) ok other.2 mark

-- ---- the top of the spans and the top of the whole span, compared with the watermark

pub covers_part : (w : Width) (whole : Span) (parts : List Span) (b : ℤ) → list_all (is_part_of w whole) parts ≡ true → lies_in parts b ≡ true → in_span whole b ≡ true
covers_part w whole [] b e inside = absurd (true≢false (sym inside))
covers_part w whole (part ∷ parts) b e inside =
    let first = and_parts (is_part_of w whole part) (list_all (is_part_of w whole) parts) e in
    let high = and_parts _ (int_le part.hi whole.hi) first.0 in
    let some = and_parts _ (int_lt part.lo part.hi) high.0 in
    let low = and_parts _ (int_le whole.lo part.lo) some.0 in
    elim (in_span part b) as (λ t. in_span part b ≡ t → (t || lies_in parts b) ≡ true → in_span whole b ≡ true) [
      | true ↦ λ here _. within part.lo part.hi whole.lo whole.hi b low.1 high.1 here
      | false ↦ λ _ rest. covers_part w whole parts b first.1 rest
    ] refl inside
  where
    within : (lo hi low high b : ℤ) → int_le low lo ≡ true → int_le hi high ≡ true → (int_le lo b && int_lt b hi) ≡ true → (int_le low b && int_lt b high) ≡ true
    within lo hi low high b e f g = grind (arith, ints)

-- a number at or below a mark doesn't change it
mark_stays : (x : ℤ) (mark : Option ℤ) → (y : ℤ) → mark ≡ Some y → x ≤ℤ y → greater (Some x) mark ≡ mark
mark_stays x None y e l = absurd (cc)
mark_stays x (Some z) y e l = let is : z ≡ y = cc in ap Some (top x z (subst (λ m. x ≤ℤ m) (sym is) l))
  where
    top : (x z : ℤ) → x ≤ℤ z → int_max x z ≡ z
    top x z l = omega (arith, ints, clamps)

-- the end of a bucket below a mark is at or below it
below_mark : (w : Width) (b : ℤ) (mark : Option ℤ) → IsWidth w → is_bucket w b ≡ true → IfSome mark (IsMark w) → is_below b mark ≡ true → greater (Some (b +ℤ w.step)) mark ≡ mark
below_mark w b None width bucket m e = absurd (true≢false (sym e))
below_mark w b (Some mark) width bucket m e = mark_stays (b +ℤ w.step) (Some mark) mark refl (buckets_apart w b mark width bucket m.ends (int_lt-true b mark e))

pub greater_swap : (x a b : Option ℤ) → greater x (greater a b) ≡ greater a (greater x b)
greater_swap x a b = sym (greater_assoc x a b) ∙ ap (λ m. greater m b) (greater_comm x a) ∙ greater_assoc a x b

-- a number at or below the mark doesn't raise it
absorbed : (x mark b : Option ℤ) → greater x mark ≡ mark → greater mark (greater x b) ≡ greater mark b
absorbed x mark b e = sym (greater_assoc mark x b) ∙ ap (λ m. greater m b) (greater_comm mark x ∙ e)

module _ (fold : Fold) (span : Span) (spans : List Span) (mark : Option ℤ) (width : IsWidth fold.width) (marked : IfSome mark (IsMark fold.width)) (parts : list_all (is_part_of fold.width span) spans ≡ true) where
  -- each bucket of the span outside the spans is below the mark or has none of these rows
  abbrev Outside : List Row → Type 0
  Outside xs = (b : ℤ) → is_bucket fold.width b ≡ true → in_span span b ≡ true → lies_in spans b ≡ false → is_below b mark ≡ false → bucket_rows fold b xs ≡ []

  kept_none : (row : Row) (xs : List Row) (b : ℤ) → bucket_rows fold b (row ∷ xs) ≡ [] → ((holds fold.width b row.at && passes_all row fold.tests) ≡ false) × (bucket_rows fold b xs ≡ [])
  kept_none row xs b e =
      elim (holds fold.width b row.at && passes_all row fold.tests) as (λ t. cond t (row ∷ bucket_rows fold b xs) (bucket_rows fold b xs) ≡ [] → (t ≡ false) × (bucket_rows fold b xs ≡ [])) [
        | true ↦ λ f. absurd (cc)
        | false ↦ λ f. (refl, f)
      ] e

  row_kept : (row : Row) → passes_all row fold.tests ≡ true → (holds fold.width (bucket_of fold.width row.at) row.at && passes_all row fold.tests) ≡ true
  row_kept row passes = and_from _ _ (holds-bucket_of fold.width row.at width) passes

  -- one row: its effect on the top of the spans, and on that of the whole span
  one_row : (row : Row) (xs : List Row) (rest_a rest_b : Option ℤ) → Outside (row ∷ xs) → greater mark rest_a ≡ greater mark rest_b → (inside lies passes : Bool) → in_span span (bucket_of fold.width row.at) ≡ inside → lies_in spans (bucket_of fold.width row.at) ≡ lies → passes_all row fold.tests ≡ passes → greater mark (cond (lies && passes) (greater (Some (bucket_of fold.width row.at +ℤ fold.width.step)) rest_a) rest_a) ≡ greater mark (greater (cond (inside && passes) (Some (bucket_of fold.width row.at +ℤ fold.width.step)) None) rest_b)
  one_row row xs rest_a rest_b out same_rest true true true i l p =
      let end : Option ℤ = Some (bucket_of fold.width row.at +ℤ fold.width.step) in
      greater_swap mark end rest_a ∙ ap (greater end) same_rest ∙ sym (greater_swap mark end rest_b)
  one_row row xs rest_a rest_b out same_rest true true false i l p = same_rest
  one_row row xs rest_a rest_b out same_rest true false true i l p =
      let b = bucket_of fold.width row.at in
      let bucket = is_bucket-bucket_of fold.width row.at width in
      elim (is_below b mark) as (λ t. is_below b mark ≡ t → greater mark rest_a ≡ greater mark (greater (Some (b +ℤ fold.width.step)) rest_b)) [
        | true ↦ λ below. same_rest ∙ sym (absorbed (Some (b +ℤ fold.width.step)) mark rest_b (below_mark fold.width b mark width bucket marked below))
        | false ↦ λ above. absurd (true≢false (sym (row_kept row p) ∙ (kept_none row xs b (out b bucket i l above)).0))
      ] refl
  one_row row xs rest_a rest_b out same_rest true false false i l p = same_rest
  one_row row xs rest_a rest_b out same_rest false true passes i l p = absurd (true≢false (sym (covers_part fold.width span spans (bucket_of fold.width row.at) parts l) ∙ i))
  one_row row xs rest_a rest_b out same_rest false false passes i l p = same_rest

  same_top : (xs : List Row) → Outside xs → greater mark (last_end fold.width (rows_of_spans fold spans xs)) ≡ greater mark (top_in fold span xs)
  same_top [] out = refl
  same_top (row ∷ xs) out =
      let rest = same_top xs (λ b bucket i l above. (kept_none row xs b (out b bucket i l above)).1) in
      let lies = lies_in spans (bucket_of fold.width row.at) && passes_all row fold.tests in
      let kept = rows_of_spans fold spans xs in
      choose lies row kept
      ∙ one_row row xs (last_end fold.width kept) (top_in fold span xs) out rest (in_span span (bucket_of fold.width row.at)) (lies_in spans (bucket_of fold.width row.at)) (passes_all row fold.tests) refl refl refl
    where
      choose : (t : Bool) (row : Row) (kept : List Row) → greater mark (last_end fold.width (cond t (row ∷ kept) kept)) ≡ greater mark (cond t (greater (Some (bucket_of fold.width row.at +ℤ fold.width.step)) (last_end fold.width kept)) (last_end fold.width kept))
      choose true row kept = refl
      choose false row kept = refl

pub finishes_mark : FinishesMark
finishes_mark n def h cut snap span spans groups top ok there f =
    let width = view_width h n def ok there in
    let mark = watermark n def h in
    ap (λ o. greater mark (top_of def h snap o)) f.cut_is
    ∙ sym (ap (greater mark) f.top_is ∙ same_top def.fold span spans mark width (watermark_ends n def h width (is_of_itself def (view_of (roster h) n) there) ok) f.whole (rows_at def.table h snap) (outside_empty n def h cut snap span spans groups top ok width (is_of_itself def (view_of (roster h) n) there) f))
