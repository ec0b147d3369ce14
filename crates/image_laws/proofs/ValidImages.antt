-- The image of an allowed history is valid.
use Rattle.std.proofs.Common.{◌≡◌, ℕ, zero, suc, ◌<◌, ◌≤◌, Bool, true, false, ◌&&◌, cond, nat_lt, nat_le, List, [], ◌∷◌, map, filter, length, ℤ, Option, Some, None, ◌⊎◌, ⊎_elim, sym, refl, ap, ◌∙◌, subst, arith}
use Rattle.std.specs.Prelude.{is_some, slice_get, unwrap_or}
use Rattle.std.specs.List.{list_all}
use Rattle.std.specs.Ordering.{int_eq, match_ordering}
use Rattle.std.specs.declared.cmp.Ordering.{Ordering}
use Rattle.std.specs.declared.cmp.Ordering.TheVariants.{Less, Equal, Greater}
use Rattle.std.specs.BTreeSet.{insert_key}
use Rattle.std.proofs.lemmas.Bool.{true≢false, and_parts, and_from, and_left, or_left, cases_Bool}
use Rattle.ts_bucket.specs.Bucket.{IsWidth, is_bucket}
use Rattle.ts_bucket.specs.Ranges.{lies_in}
use Rattle.ts_bucket.specs.WholeSpans.{is_below}
use Rattle.ts_bucket.specs.declared.spans.Span.{Span}
use Rattle.ts_num.specs.declared.values.Datum.{Datum}
use Rattle.partial_agg.specs.declared.groups.Group.{Group}
use Rattle.ts_schema.specs.declared.rows.Row.{Row}
use Rattle.ts_schema.specs.Rows.{values_cmp}
use Rattle.ts_model.specs.declared.events.Event.{Event}
use Rattle.ts_model.specs.declared.images.Image.{Image}
use Rattle.ts_model.specs.declared.images.SavedGroup.{SavedGroup}
use Rattle.ts_model.specs.declared.images.SavedView.{SavedView}
use Rattle.ts_model.specs.declared.views.Fold.{Fold}
use Rattle.ts_model.specs.declared.views.ViewDef.{ViewDef}
use Rattle.ts_model.specs.History.{History, start, resumed, ◌▸◌, position, prefix, Begins}
use Rattle.ts_model.specs.Saved.{appended_over, saved_view, nothing_saved, is_dirty, saved_groups, group_of, groups_among, pos_in}
use Rattle.ts_model.specs.Roster.{IsOf, set_only, no_relations, roster, roster_over, view_of}
use Rattle.ts_model.specs.Rows.{in_order, rows}
use Rattle.ts_model.specs.Limits.{last_position}
use Rattle.ts_model.specs.Scratch.{once, keys_of, key_lists, bucket_rows, scratch}
use Rattle.ts_model.specs.Groups.{cells_of, group_at, groups_in, groups_at_last, groups_at, scratch_at}
use Rattle.ts_model.specs.Refreshes.{last, is_invalid, invalid, touched, watermark}
use Rattle.ts_model.specs.Allowed.{all_allowed}
use Rattle.ts_model.specs.Laws.{fits_table}
use Rattle.ts_model.specs.Valid.{lasts_fit, dirty_fits, group_fits, groups_fit, mark_fits, row_marked, view_kept, views_kept, hold_rows, make_relations, waiting_fits, done_fits, all_rise, image_roster, valid}
use Rattle.image_laws.specs.Images.{row_events, roster_events, finished_upto, groups_left, was_left, IsSavedView, IsImage, AreFew, ImagesAreValid}
use Rattle.ts_model.proofs.ValidLaws.{image_rows, kept_of}
use Rattle.ts_model.proofs.HistoryLaws.{begins_prefix, prefix_end}
use Rattle.ts_model.proofs.GroupLaws.{cells_are_scratch}
use Rattle.ts_model.proofs.RosterLaws.{relations_stay, is_of_itself}
use Rattle.ts_model.proofs.AllowedLaws.{allowed_begins, consistent_of}
use Rattle.ts_model.proofs.FitLaws.{rows_fit_tables}
use Rattle.ts_model.proofs.MarkLaws.{watermark_ends}
use Rattle.ts_model.proofs.RefreshLaws.{nothing_above_watermark}
use Rattle.ts_model.proofs.SoundLaws.{rosters_are_sound, view_width}
use Rattle.ts_model.proofs.UntouchedLaws.{untouched_groups}
use Rattle.ts_model.proofs.CutLaws.{IsSpanned, last_spanned}
use Rattle.image_laws.proofs.ImageLaws.{roster_again, rows_again, last_before}
use Rattle.image_laws.proofs.NameLaws.{names_apart, roster_follows}
use Rattle.image_laws.proofs.ValidParts.{position_fits, rows_now, rows_are_held, waiting_is_fit, done_is_fit}
use Rattle.image_laws.proofs.ValidRanges.{lasts_are_fit, dirty_is_fit, mark_is_fit, rows_are_marked}
use Rattle.image_laws.proofs.ValidGroups.{is_few, group_shape, groups_each, group_is_fit, fit_shape, groups_have_shape, all_words}

-- ---- groups have their shape

all_shapes : (def : ViewDef) (dirty : List Span) (gs : List SavedGroup) (b : ℤ) → list_all (group_fits def dirty) gs ≡ true → list_all (group_shape def.fold) (groups_among gs b) ≡ true
all_shapes def dirty [] b e = refl
all_shapes def dirty (g ∷ gs) b e =
    let parts = and_parts (group_fits def dirty g) (list_all (group_fits def dirty) gs) e in
    let rest = all_shapes def dirty gs b parts.1 in
    elim (int_eq g.start b) as (λ t. list_all (group_shape def.fold) (map group_of (cond t (g ∷ filter (λ g. int_eq g.start b) gs) (filter (λ g. int_eq g.start b) gs))) ≡ true) [
      | true ↦ and_from _ _ (fit_shape def dirty g parts.0) rest
      | false ↦ rest
    ]

saved_shapes : (n : ℕ) (def : ViewDef) (i : Image) (b : ℤ) → valid i ≡ true → IsOf def (view_of (image_roster i) n) → list_all (group_shape def.fold) (saved_groups n i b) ≡ true
saved_shapes n def i b ok is =
    kept_of n i (λ o v. IsOf def o → list_all (group_shape def.fold) (groups_among v.groups b) ≡ true) ok
    (λ _. refl)
    (λ found v kept is.
    let rows_marked = and_parts _ (list_all (row_marked found.fold v) (image_rows i found.table)) kept in
    let groups_marked = and_parts _ (list_all (λ g. is_below g.start v.mark) v.groups) rows_marked.0 in
    let marks = and_parts _ (mark_fits found.fold.width v.mark) groups_marked.0 in
    let groups = and_parts _ (groups_fit found v.dirty v.groups) marks.0 in
    let fits = (and_parts (list_all (group_fits found v.dirty) v.groups) (all_rise _ (map group_of v.groups)) groups.1).0 in
    subst (λ (f : Fold). list_all (group_shape f) (groups_among v.groups b) ≡ true) is.1 (all_shapes found v.dirty v.groups b fits))
    is

stood_shape : (n : ℕ) (def : ViewDef) (g : History) (s : ℕ) (b : ℤ) → all_allowed g ≡ true → IsOf def (view_of (roster g) n) → list_all (group_shape def.fold) (groups_at_last n def g s b) ≡ true
stood_shape n def start s b ok is = groups_have_shape def.fold [] b refl
stood_shape n def (resumed i) s b ok is =
    elim (nat_lt s i.pos && is_dirty n i b) as (λ t. list_all (group_shape def.fold) (cond t (saved_groups n i b) (groups_in def.fold (rows def.table (resumed i)) b)) ≡ true) [
      | true ↦ saved_shapes n def i b ok is
      | false ↦ groups_have_shape def.fold (rows def.table (resumed i)) b (all_words (roster (resumed i)) def.table (rows def.table (resumed i)) (rows_now def.table (resumed i) ok))
    ]
stood_shape n def (g ▸ e) s b ok is = groups_have_shape def.fold (rows def.table (g ▸ e)) b (all_words (roster (g ▸ e)) def.table (rows def.table (g ▸ e)) (rows_now def.table (g ▸ e) ok))

is_of_earlier : (def : ViewDef) (g h : History) (n : ℕ) → Begins g h → view_of (roster h) n ≡ Some def → IsOf def (view_of (roster g) n)
is_of_earlier def g h n q there = by_view (view_of (roster g) n) refl
  where
    by_view : (o : Option ViewDef) → view_of (roster g) n ≡ o → IsOf def o
    by_view None is = tt
    by_view (Some found) is =
        let kept = (relations_stay g h q).views n found is in
        let same_view : Some (set_only kept.only found) ≡ Some def = sym kept.there ∙ there in
        let now : set_only kept.only found ≡ def = some_same same_view in
        (ap (λ (d : ViewDef). d.table) now, ap (λ (d : ViewDef). d.fold) now)
      where
        some_same : {x y : ViewDef} → Some x ≡ Some y → x ≡ y
        some_same e = cc

-- ---- nothing at or above the mark

no_groups : (fold : Fold) (gs : List Group) → map (cells_of fold) gs ≡ [] → gs ≡ []
no_groups fold [] e = refl
no_groups fold (g ∷ gs) e = absurd (cc)

key_stays : (ks : List (List (Option ℤ))) (k : List (Option ℤ)) → insert_key values_cmp ks k ≡ [] → ⊥
key_stays [] k e = absurd (cc)
key_stays (x ∷ ks) k e = by_order (values_cmp k x) e
  where
    by_order : (o : Ordering) → match_ordering o (k ∷ x ∷ ks) (x ∷ ks) (x ∷ insert_key values_cmp ks k) ≡ [] → ⊥
    by_order Less e = absurd (cc)
    by_order Equal e = absurd (cc)
    by_order Greater e = absurd (cc)

no_found : (fold : Fold) (b : ℤ) (found : List Row) → map (group_at fold b found) (key_lists fold found) ≡ [] → found ≡ []
no_found fold b [] e = refl
no_found fold b (x ∷ xs) e = absurd (key_stays (once values_cmp (map (keys_of fold.keys) xs)) (keys_of fold.keys x) (unmapped (key_lists fold (x ∷ xs)) e))
  where
    unmapped : (qs : List (List (Option ℤ))) → map (group_at fold b (x ∷ xs)) qs ≡ [] → qs ≡ []
    unmapped [] e = refl
    unmapped (q ∷ qs) e = absurd (cc)

-- ---- one aggregate

module _ (n : ℕ) (def : ViewDef) (h : History) (v : SavedView) (ok : all_allowed h ≡ true) (few : AreFew h) (there : view_of (roster h) n ≡ Some def) (s : IsSavedView n def h v) where
  width : IsWidth def.fold.width
  width = view_width h n def (consistent_of h ok) there

  is : IsOf def (view_of (roster h) n)
  is = is_of_itself def (view_of (roster h) n) there

  -- the last refresh of a bucket touched after it
  left_last : (b : ℤ) → was_left n def h b ≡ true → (k : ℕ) × (last n h b ≡ Some k)
  left_last b e = by_last (last n h b) refl (and_parts (is_some (last n h b)) (invalid n def h b) e).0
    where
      by_last : (o : Option ℕ) → last n h b ≡ o → is_some o ≡ true → (k : ℕ) × (last n h b ≡ Some k)
      by_last None at some = absurd (true≢false (sym some))
      by_last (Some k) at some = (k, at)

  ranges : lasts_fit def (position h) v.lasts ≡ true
  ranges = lasts_are_fit def (position h) v.lasts width s.lasts_whole s.lasts_rise (λ b k bucket e. let at : last n h b ≡ Some k = sym (s.lasts b bucket) ∙ e in (last_spanned n def h b k is (consistent_of h ok) at, last_before n h b k ok at))

  dirt : dirty_fits def v.lasts v.dirty ≡ true
  dirt = dirty_is_fit def v.lasts v.dirty width s.dirty_whole s.dirty_rise (λ b bucket e.
      let k = left_last b (sym (s.dirty b bucket) ∙ e) in
      (last_spanned n def h b k.0 is (consistent_of h ok) k.1, ap is_some (s.lasts b bucket ∙ k.1)))

  -- a bucket at or above the mark has no stored groups
  none_left : (b : ℤ) (k : ℕ) → is_bucket def.fold.width b ≡ true → last n h b ≡ Some k → is_below b v.mark ≡ false → groups_at n def h k b ≡ []
  none_left b k bucket e above = no_groups def.fold (groups_at n def h k b) (nothing_above_watermark n def h b k (consistent_of h ok) there bucket e (ap (is_below b) (sym s.mark) ∙ above))

  abbrev Well : ℤ → Group → Bool
  Well b g = (was_left n def h b && is_below b v.mark) && (group_shape def.fold g && list_all is_few g.parts)

  all_well : (b : ℤ) (gs : List Group) → was_left n def h b ≡ true → is_below b v.mark ≡ true → list_all (group_shape def.fold) gs ≡ true → list_all (λ g. list_all is_few g.parts) gs ≡ true → list_all (Well b) gs ≡ true
  all_well b [] l m a f = refl
  all_well b (g ∷ gs) l m a f =
      let one = and_parts (group_shape def.fold g) (list_all (group_shape def.fold) gs) a in
      let two = and_parts (list_all is_few g.parts) (list_all (λ g. list_all is_few g.parts) gs) f in
      and_from _ _ (and_from _ _ (and_from _ _ l m) (and_from _ _ one.0 two.0)) (all_well b gs l m one.1 two.1)

  well_at : (b : ℤ) → is_bucket def.fold.width b ≡ true → list_all (Well b) (groups_among v.groups b) ≡ true
  well_at b bucket =
      ap (list_all (Well b)) (s.groups b bucket)
      ∙ by_left (was_left n def h b) refl
    where
      by_mark : (m : Bool) → is_below b v.mark ≡ m → was_left n def h b ≡ true → (k : ℕ) → last n h b ≡ Some k → list_all (Well b) (groups_at n def h k b) ≡ true
      by_mark true m l k at =
          all_well b (groups_at n def h k b) l m
          (stood_shape n def (prefix h k) k b (allowed_begins (begins_prefix h k) ok) (is_of_earlier def (prefix h k) h n (begins_prefix h k) there))
          (ap (λ o. list_all (λ g. list_all is_few g.parts) (groups_left n def h b o)) (sym at) ∙ few n def b there bucket l)
      by_mark false m l k at = ap (list_all (Well b)) (none_left b k bucket at m)

      by_left : (t : Bool) → was_left n def h b ≡ t → list_all (Well b) (cond t (groups_left n def h b (last n h b)) []) ≡ true
      by_left false l = refl
      by_left true l = let k = left_last b l in ap (λ o. list_all (Well b) (groups_left n def h b o)) k.1 ∙ by_mark (is_below b v.mark) refl l k.0 k.1

  wells : list_all (λ (g : SavedGroup). Well g.start (group_of g)) v.groups ≡ true
  wells = groups_each def.fold.width Well v.groups s.groups_whole well_at

  each_fit : (gs : List SavedGroup) → list_all (λ (g : SavedGroup). is_bucket def.fold.width g.start) gs ≡ true → list_all (λ (g : SavedGroup). Well g.start (group_of g)) gs ≡ true → (list_all (group_fits def v.dirty) gs ≡ true) × (list_all (λ (g : SavedGroup). is_below g.start v.mark) gs ≡ true)
  each_fit [] whole all = (refl, refl)
  each_fit (g ∷ gs) whole all =
      let bucket = and_parts (is_bucket def.fold.width g.start) (list_all (λ (g : SavedGroup). is_bucket def.fold.width g.start) gs) whole in
      let own = and_parts (Well g.start (group_of g)) (list_all (λ (g : SavedGroup). Well g.start (group_of g)) gs) all in
      let two = and_parts (was_left n def h g.start && is_below g.start v.mark) (group_shape def.fold (group_of g) && list_all is_few (group_of g).parts) own.0 in
      let left = and_parts (was_left n def h g.start) (is_below g.start v.mark) two.0 in
      let shape = and_parts (group_shape def.fold (group_of g)) (list_all is_few (group_of g).parts) two.1 in
      let rest = each_fit gs bucket.1 own.1 in
      (and_from _ _ (group_is_fit def v.dirty g bucket.0 (s.dirty g.start bucket.0 ∙ left.0) shape.0 shape.1) rest.0, and_from _ _ left.1 rest.1)

  marks : mark_fits def.fold.width v.mark ≡ true
  marks = ap (mark_fits def.fold.width) s.mark ∙ mark_is_fit def.fold.width (watermark n def h) (watermark_ends n def h width is (consistent_of h ok))

  -- a clean bucket at or above the mark has no row
  none_there : (b : ℤ) → is_bucket def.fold.width b ≡ true → is_some (pos_in v.lasts b) ≡ true → lies_in v.dirty b ≡ false → is_below b v.mark ≡ false → bucket_rows def.fold b (rows def.table h) ≡ []
  none_there b bucket some clean above = by_last (last n h b) refl (ap is_some (sym (s.lasts b bucket)) ∙ some)
    where
      by_last : (o : Option ℕ) → last n h b ≡ o → is_some o ≡ true → bucket_rows def.fold b (rows def.table h) ≡ []
      by_last None at e = absurd (true≢false (sym e))
      by_last (Some k) at e =
          let untouched : touched n def h b k ≡ false = sym (ap (λ o. is_some o && is_invalid n def h b o) at) ∙ sym (s.dirty b bucket) ∙ clean in
          no_found def.fold b (bucket_rows def.fold b (rows def.table h)) (untouched_groups n def h b k untouched ∙ none_left b k bucket at above)

  pub view_is_kept : view_kept (position h) def (rows def.table h) v ≡ true
  view_is_kept =
      let fit = each_fit v.groups s.groups_whole wells in
      and_from _ _ (and_from _ _ (and_from _ _ (and_from _ _ (and_from _ _ ranges dirt) (and_from _ _ fit.0 s.groups_rise)) marks) fit.1)
      (rows_are_marked def.fold v (rows def.table h) width none_there)

-- ---- all of them

views_from : (p : ℕ) (rows_of : ℕ → List Row) (defs : List ViewDef) (vs : List SavedView) → length vs ≡ length defs → ((n : ℕ) (def : ViewDef) → slice_get defs n ≡ Some def → view_kept p def (rows_of def.table) (unwrap_or (slice_get vs n) nothing_saved) ≡ true) → views_kept p rows_of defs vs ≡ true
views_from p rows_of [] [] e each = refl
views_from p rows_of [] (v ∷ vs) e each = absurd (omega (arith, e))
views_from p rows_of (def ∷ defs) [] e each = absurd (omega (arith, e))
views_from p rows_of (def ∷ defs) (v ∷ vs) e each = and_from _ _ (each 0 def refl) (views_from p rows_of defs vs (omega (arith, e)) (λ n d at. each (suc n) d at))

pub images_are_valid : ImagesAreValid
images_are_valid h i ok few is =
    let r : image_roster i ≡ roster h = ap (roster_over no_relations) is.relations ∙ roster_again (roster h) in
    let held : (t : ℕ) → image_rows i t ≡ rows t h = λ t. ap (λ es. in_order (appended_over t es)) is.held ∙ rows_again t h ok in
    let position_ok = ap (λ p. nat_le p last_position) is.pos ∙ position_fits h ok in
    let relations_ok = ap (make_relations no_relations) is.relations ∙ roster_follows (roster h) (rosters_are_sound h (consistent_of h ok)) (names_apart h ok) in
    let rows_ok = (λ j. hold_rows (r j) 0 (is.held j)) ∙ rows_are_held h 0 (length (roster h).tables) ok 0 (omega arith) in
    let views_ok = (λ j. views_kept (is.pos j) (λ t. held t j) (r j).views i.views) ∙ views_from (position h) (λ t. rows t h) (roster h).views i.views is.as_many (λ n def there. view_is_kept n def h (saved_view n i) ok few there (is.views n def there)) in
    let waiting_ok = (λ j. waiting_fits (r j) (is.pos j) (is.waits j)) ∙ waiting_is_fit h ok in
    let done_ok = (λ j. done_fits (is.pos j) (is.waits j) (is.done j)) ∙ done_is_fit h ok in
    and_from _ _ (and_from _ _ (and_from _ _ (and_from _ _ (and_from _ _ position_ok relations_ok) rows_ok) views_ok) waiting_ok) done_ok
