-- Laws of refreshes: last refreshes stay, buckets at or above the watermark had no rows, and watermark and
-- threshold never fall.
use Rattle.std.proofs.Common.{◌≡◌, ℕ, ◌<◌, ◌≤◌, max, Bool, true, false, ◌&&◌, ◌||◌, cond, nat_lt, nat_le, List, [], ◌∷◌, map, ℤ, ◌+ℤ◌, int_lt, Option, Some, None, ◌⊎◌, inl, inr, ⊎_elim, sym, refl, ap, ◌∙◌, subst, arith}
use Rattle.std.proofs.lemmas.Bool.{true≢false, or_parts, or_left, and_left, and_right, and_parts, leb-true, lt-ltb, cond-false, cases_Bool, cases_lt}
use Rattle.std.specs.Prelude.{is_some}
use Rattle.std.proofs.lemmas.Int.{ints}
use Rattle.ts_num.specs.Aggregates.{greater}
use Rattle.ts_bucket.specs.Bucket.{IsWidth, holds, is_bucket, bucket_of}
use Rattle.ts_bucket.specs.Spans.{in_span}
use Rattle.ts_bucket.specs.Positions.{later}
use Rattle.ts_bucket.specs.declared.spans.Span.{Span}
use Rattle.ts_bucket.specs.declared.widths.Width.{Width}
use Rattle.ts_bucket.proofs.BucketLaws.{holds-one}
use Rattle.ts_schema.specs.declared.rows.Row.{Row}
use Rattle.ts_schema.specs.Conditions.{passes_all}
use Rattle.ts_model.specs.declared.events.Event.{Event}
use Rattle.ts_model.specs.declared.events.Event.TheVariants.{Cut, Built}
use Rattle.ts_model.specs.declared.images.Image.{Image}
use Rattle.ts_model.specs.declared.views.ViewDef.{ViewDef}
use Rattle.ts_model.specs.declared.views.Fold.{Fold}
use Rattle.ts_model.specs.History.{History, start, resumed, ◌▸◌, position, base_position, Begins, same, further}
use Rattle.ts_model.specs.Saved.{saved_view, saved_last, is_dirty, saved_groups}
use Rattle.ts_model.specs.Roster.{IsOf, roster, view_of}
use Rattle.ts_model.specs.Rows.{rows, rows_at}
use Rattle.ts_model.specs.Scratch.{bucket_rows, group_rows, scratch}
use Rattle.ts_model.specs.Groups.{bucket_groups, groups_in, cells_of, groups_at_last, scratch_at}
use Rattle.ts_model.specs.Refreshes.{span_of_cut, last, is_covered, top_in, top_at, top_of, watermark, is_over, threshold}
use Rattle.ts_bucket.specs.WholeSpans.{is_below}
use Rattle.ts_model.specs.Allowed.{consistent, all_consistent}
use Rattle.ts_model.specs.Sound.{finish_fits, sound}
use Rattle.ts_model.specs.Laws.{NothingAboveWatermark, WatermarkNeverFalls, ThresholdNeverFalls}
use Rattle.ts_model.proofs.ValidLaws.{KeptFacts, kept_facts, lasts_below}
use Rattle.ts_model.proofs.HistoryLaws.{base_below, prefix_end, prefix_stays}
use Rattle.ts_model.proofs.RosterLaws.{is_of_before, is_of_itself}
use Rattle.ts_model.proofs.GroupLaws.{scratch_at_is}
use Rattle.ts_model.proofs.SoundLaws.{view_width}

-- ---- what a history has at an earlier position

-- at its end, or later, a history has its own aggregation
pub scratch_at_end : (n : ℕ) (def : ViewDef) (h : History) (s : ℕ) (b : ℤ) → position h ≤ s → scratch_at n def h s b ≡ scratch def h b
scratch_at_end n def h s b l = scratch_at_is n def h s b (omega (arith, base_below h)) ∙ ap (λ g. scratch def g b) (prefix_end h s l)

-- more events change no aggregation of an earlier position
pub scratch_at_begins : (n : ℕ) (def : ViewDef) {g h : History} (s : ℕ) (b : ℤ) → Begins g h → s ≤ position g → scratch_at n def h s b ≡ scratch_at n def g s b
scratch_at_begins n def s b q l = ap (λ k. map (cells_of def.fold) (groups_at_last n def k s b)) (prefix_stays s q l)

pub scratch_at_further : (n : ℕ) (def : ViewDef) (h : History) (e : Event) (s : ℕ) (b : ℤ) → s ≤ position h → scratch_at n def (h ▸ e) s b ≡ scratch_at n def h s b
scratch_at_further n def h e s b l = scratch_at_begins n def s b (further same) l

-- ---- marks and positions

-- a bucket is below the greater of two marks if and only if it is below one of them
pub is_below-greater : (b : ℤ) (x y : Option ℤ) → is_below b (greater x y) ≡ (is_below b x || is_below b y)
is_below-greater b None y = refl
is_below-greater b (Some x) None = elim (int_lt b x) as (λ t. t ≡ (t || false)) [ true ↦ refl | false ↦ refl ]
is_below-greater b (Some x) (Some y) = grind (arith, ints)

-- the later of two positions is one of them
pub later_is : (p q : Option ℕ) (s : ℕ) → later p q ≡ Some s → (p ≡ Some s) ⊎ (q ≡ Some s)
later_is None q s e = inr e
later_is (Some p) None s e = inl e
later_is (Some p) (Some q) s e =
    ⊎_elim (λ (l : p < q). let m : max p q ≡ q = omega arith in inr (sym (ap Some m) ∙ e)) (λ (l : q ≤ p). let m : max p q ≡ p = omega arith in inl (sym (ap Some m) ∙ e)) (cases_lt p q)

-- ---- no row of a bucket at or above the top of a span that holds it

row_missed : (w : Width) (span : Span) (b t : ℤ) (passes : Bool) → IsWidth w → is_bucket w b ≡ true → in_span span b ≡ true → is_below b (cond (in_span span (bucket_of w t) && passes) (Some (bucket_of w t +ℤ w.step)) None) ≡ false → (holds w b t && passes) ≡ false
row_missed w span b t false width bucket inside e = and_right (holds w b t) false refl
row_missed w span b t true width bucket inside e =
    ⊎_elim
    (λ (held : holds w b t ≡ true).
    let P : ℤ → Type 0 = λ c. is_below b (cond (in_span span c && true) (Some (c +ℤ w.step)) None) ≡ false in
    let here : P b = subst P (sym (holds-one w b t width bucket held)) e in
    let Q : Bool → Type 0 = λ i. is_below b (cond (i && true) (Some (b +ℤ w.step)) None) ≡ false in
    let below : int_lt b (b +ℤ w.step) ≡ false = subst Q inside here in
    let positive = width.positive in
    absurd (grind (arith, ints)))
    (λ (apart : holds w b t ≡ false). and_left (holds w b t) true apart)
    (cases_Bool (holds w b t))

pub none_above : (fold : Fold) (span : Span) (b : ℤ) (xs : List Row) → IsWidth fold.width → is_bucket fold.width b ≡ true → in_span span b ≡ true → is_below b (top_in fold span xs) ≡ false → bucket_rows fold b xs ≡ []
none_above fold span b [] width bucket inside e = refl
none_above fold span b (row ∷ xs) width bucket inside e =
    let parts = or_parts _ _ (sym (is_below-greater b (cond (in_span span (bucket_of fold.width row.at) && passes_all row fold.tests) (Some (bucket_of fold.width row.at +ℤ fold.width.step)) None) (top_in fold span xs)) ∙ e) in
    cond-false _ (row ∷ bucket_rows fold b xs) (bucket_rows fold b xs) (row_missed fold.width span b row.at (passes_all row fold.tests) width bucket inside parts.0)
    ∙ none_above fold span b xs width bucket inside parts.1

-- a bucket of a span at or above the span's top at a position had no result row there
pub none_at : (n : ℕ) (def : ViewDef) (h : History) (s : ℕ) (span : Span) (b : ℤ) → base_position h ≤ s → IsWidth def.fold.width → is_bucket def.fold.width b ≡ true → in_span span b ≡ true → is_below b (top_at def h s span) ≡ false → scratch_at n def h s b ≡ []
none_at n def h s span b from_base width bucket inside e = scratch_at_is n def h s b from_base ∙ ap (group_rows def.fold b) (none_above def.fold span b (rows_at def.table h s) width bucket inside e)

-- ---- the last refresh

-- a snapshot of a consistent finish is not after the history
pub built_bounds : (h : History) (cut snap : ℕ) → consistent h (Built cut snap) ≡ true → snap ≤ position h
built_bounds h cut snap e =
    let is_sound = and_parts (finish_fits h cut snap) _ (and_parts (sound h (Built cut snap)) _ e).0 in
    leb-true snap (position h) (and_parts _ (nat_le snap (position h)) is_sound.0).1

-- and not before the base
pub built_from_base : (h : History) (cut snap : ℕ) → consistent h (Built cut snap) ≡ true → base_position h ≤ snap
built_from_base h cut snap e =
    let is_sound = and_parts (finish_fits h cut snap) _ (and_parts (sound h (Built cut snap)) _ e).0 in
    let taken = and_parts _ (nat_le snap (position h)) is_sound.0 in
    leb-true (base_position h) snap (and_parts _ (nat_le (base_position h) snap) taken.0).1

pub covered_snap : (covered : Bool) (snap s : ℕ) → cond covered (Some snap) None ≡ Some s → (covered ≡ true) × (snap ≡ s)
covered_snap true snap s e = (refl, cc)
covered_snap false snap s e = absurd (cc)

-- the last refresh of a bucket is not after the history
pub last_bounded : (n : ℕ) (h : History) (b : ℤ) (s : ℕ) → all_consistent h ≡ true → last n h b ≡ Some s → s ≤ position h
last_bounded n start b s ok e = absurd (cc)
last_bounded n (resumed i) b s ok e = omega (arith, lasts_below n i ok b s e)
last_bounded n (h ▸ Built cut snap) b s ok e =
    ⊎_elim
    (λ before. omega (arith, last_bounded n h b s (and_parts _ _ ok).0 before))
    (λ now. omega (arith, built_bounds h cut snap (and_parts _ _ ok).1, (covered_snap _ snap s now).1))
    (later_is (last n h b) (cond (is_covered b (span_of_cut n h cut)) (Some snap) None) s e)
last_bounded n (h ▸ x) b s ok e = omega (arith, last_bounded n h b s (and_parts _ _ ok).0 e)

covering : (n : ℕ) (def : ViewDef) (h : History) (snap : ℕ) (b : ℤ) (o : Option Span) → base_position h ≤ snap → IsWidth def.fold.width → is_bucket def.fold.width b ≡ true → is_covered b o ≡ true → is_below b (top_of def h snap o) ≡ false → scratch_at n def h snap b ≡ []
covering n def h snap b None from_base width bucket covered e = absurd (true≢false (sym covered))
covering n def h snap b (Some span) from_base width bucket covered e = none_at n def h snap span b from_base width bucket covered e

nothing_above_further : (n : ℕ) (def : ViewDef) (h : History) (x : Event) (b : ℤ) (s : ℕ) → all_consistent (h ▸ x) ≡ true → last n h b ≡ Some s → scratch_at n def h s b ≡ [] → scratch_at n def (h ▸ x) s b ≡ []
nothing_above_further n def h x b s ok e before =
    scratch_at_further n def h x s b (last_bounded n h b s (and_parts _ _ ok).0 e) ∙ before

nothing_above_built : (n : ℕ) (def : ViewDef) (h : History) (cut snap : ℕ) (b : ℤ) (s : ℕ) → IsWidth def.fold.width → is_bucket def.fold.width b ≡ true → all_consistent (h ▸ Built cut snap) ≡ true → last n (h ▸ Built cut snap) b ≡ Some s → is_below b (watermark n def (h ▸ Built cut snap)) ≡ false → (last n h b ≡ Some s → is_below b (watermark n def h) ≡ false → scratch_at n def h s b ≡ []) → scratch_at n def (h ▸ Built cut snap) s b ≡ []
nothing_above_built n def h cut snap b s width bucket ok e mark before =
    let marks = or_parts _ _ (sym (is_below-greater b (watermark n def h) (top_of def h snap (span_of_cut n h cut))) ∙ mark) in
    ⊎_elim
    (λ earlier. nothing_above_further n def h (Built cut snap) b s ok earlier (before earlier marks.0))
    (λ now.
    let this = covered_snap (is_covered b (span_of_cut n h cut)) snap s now in
    let none : scratch_at n def h snap b ≡ [] = covering n def h snap b (span_of_cut n h cut) (built_from_base h cut snap (and_parts _ _ ok).1) width bucket this.0 marks.1 in
    let P : ℕ → Type 0 = λ k. scratch_at n def (h ▸ Built cut snap) k b ≡ [] in
    subst P this.1 (scratch_at_further n def h (Built cut snap) snap b (built_bounds h cut snap (and_parts _ _ ok).1) ∙ none))
    (later_is (last n h b) (cond (is_covered b (span_of_cut n h cut)) (Some snap) None) s e)

-- an image keeps nothing at or above the mark
nothing_kept : (n : ℕ) (def : ViewDef) (i : Image) (b : ℤ) (s : ℕ) → IsWidth def.fold.width → is_bucket def.fold.width b ≡ true → KeptFacts def i (saved_view n i) → saved_last n i b ≡ Some s → is_below b (saved_view n i).mark ≡ false → scratch_at n def (resumed i) s b ≡ []
nothing_kept n def i b s width bucket facts e mark =
    let below : nat_lt s i.pos ≡ true = lt-ltb s i.pos (facts.lasts b s e).below in
    elim (is_dirty n i b) as (λ t. is_dirty n i b ≡ t → map (cells_of def.fold) (cond (nat_lt s i.pos && t) (saved_groups n i b) (groups_in def.fold (rows def.table (resumed i)) b)) ≡ []) [
      | true ↦ λ _. ap (λ c. map (cells_of def.fold) (cond (c && true) (saved_groups n i b) (groups_in def.fold (rows def.table (resumed i)) b))) below ∙ ap (map (cells_of def.fold)) (facts.groups_below b mark)
      | false ↦ λ clean.
          ap (λ c. map (cells_of def.fold) (cond c (saved_groups n i b) (groups_in def.fold (rows def.table (resumed i)) b))) (and_right (nat_lt s i.pos) false refl)
          ∙ ap (λ xs. map (cells_of def.fold) (bucket_groups def.fold b xs)) (facts.rows_below b width bucket (ap is_some e) clean mark)
    ] refl

nothing_above : (n : ℕ) (def : ViewDef) (h : History) (b : ℤ) (s : ℕ) → IsWidth def.fold.width → is_bucket def.fold.width b ≡ true → IsOf def (view_of (roster h) n) → all_consistent h ≡ true → last n h b ≡ Some s → is_below b (watermark n def h) ≡ false → scratch_at n def h s b ≡ []
nothing_above n def start b s width bucket is ok e mark = refl
nothing_above n def (resumed i) b s width bucket is ok e mark = nothing_kept n def i b s width bucket (kept_facts n def i ok is) e mark
nothing_above n def (h ▸ Built cut snap) b s width bucket is ok e mark =
    nothing_above_built n def h cut snap b s width bucket ok e mark (λ earlier below. nothing_above n def h b s width bucket is (and_parts _ _ ok).0 earlier below)
nothing_above n def (h ▸ x) b s width bucket is ok e mark = nothing_above_further n def h x b s ok e (nothing_above n def h b s width bucket (is_of_before def h x n is) (and_parts _ _ ok).0 e mark)

pub nothing_above_watermark : NothingAboveWatermark
nothing_above_watermark n def h b s ok there bucket e mark = nothing_above n def h b s (view_width h n def ok there) bucket (is_of_itself def (view_of (roster h) n) there) ok e mark

-- ---- watermark and threshold never fall

watermark_further : (n : ℕ) (def : ViewDef) (h : History) (e : Event) (b : ℤ) → is_below b (watermark n def h) ≡ true → is_below b (watermark n def (h ▸ e)) ≡ true
watermark_further n def h (Built cut snap) b l = is_below-greater b (watermark n def h) (top_of def h snap (span_of_cut n h cut)) ∙ or_left _ _ l
watermark_further n def h e b l = l

pub watermark_never_falls : WatermarkNeverFalls
watermark_never_falls n def g h b same l = l
watermark_never_falls n def g h b (further {h = k} {e = e} q) l = watermark_further n def k e b (watermark_never_falls n def g k b q l)

threshold_further : (t : ℕ) (h : History) (e : Event) (b : ℤ) → is_below b (threshold t h) ≡ true → is_below b (threshold t (h ▸ e)) ≡ true
threshold_further t h (Cut v span) b l = is_below-greater b (threshold t h) (cond (is_over t (view_of (roster h) v)) (Some span.hi) None) ∙ or_left _ _ l
threshold_further t h e b l = l

pub threshold_never_falls : ThresholdNeverFalls
threshold_never_falls t g h b same l = l
threshold_never_falls t g h b (further {h = k} {e = e} q) l = threshold_further t k e b (threshold_never_falls t g k b q l)
