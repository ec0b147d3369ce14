-- The rows of an aggregate's answer show groups of its fold, in order.
use Rattle.std.proofs.Common.{◌≡◌, ℕ, ◌==◌, nat_lt, ◌&&◌, true, List, [], ◌∷◌, ◌++◌, map, filter, length, Option, Some, None, ℤ, pos, ◌+ℤ◌, ◌≤ℤ◌, ◌<ℤ◌, sym, refl, ap, ◌∙◌, subst, arith}
use Rattle.std.specs.Cmp.{int_cmp_is}
use Rattle.std.specs.List.{AllByRecursion, flat_map, list_all}
use Rattle.std.specs.List.Sorted.{IsStrictlySortedBy}
use Rattle.std.specs.Ordering.{int_eq, is_lt, ordering_then}
use Rattle.std.specs.declared.cmp.Ordering.{Ordering}
use Rattle.std.specs.declared.cmp.Ordering.TheVariants.{Less, Equal, Greater}
use Rattle.std.proofs.lemmas.Bool.{and_parts, eqb-true}
use Rattle.std.proofs.lemmas.Int.{ints}
use Rattle.std.proofs.lemmas.List.{length-map, map-append}
use Rattle.std.proofs.lemmas.List.Kept.{IsStrictlySortedBy-filter}
use Rattle.ts_num.specs.declared.values.Datum.{Datum}
use Rattle.ts_bucket.specs.Bucket.{IsWidth, is_bucket}
use Rattle.ts_bucket.specs.Ranges.{lies_in}
use Rattle.ts_bucket.specs.WholeSpans.{is_below}
use Rattle.ts_bucket.specs.declared.spans.Span.{Span}
use Rattle.ts_schema.proofs.Cases.{all_weaker, by_test}
use Rattle.ts_schema.specs.declared.rows.Row.{Row}
use Rattle.ts_schema.specs.Rows.{values_cmp}
use Rattle.partial_agg.specs.declared.groups.Group.{Group}
use Rattle.partial_agg.specs.Groups.{AreInOrder, group_cmp}
use Rattle.partial_agg.specs.Summaries.{summary}
use Rattle.ts_model.specs.declared.images.Image.{Image}
use Rattle.ts_model.specs.declared.images.SavedGroup.{SavedGroup}
use Rattle.ts_model.specs.declared.views.Fold.{Fold}
use Rattle.ts_model.specs.declared.views.ViewDef.{ViewDef}
use Rattle.ts_model.specs.Allowed.{all_consistent}
use Rattle.ts_model.specs.Answers.{answer_of_view, buckets_in, left_by, shown}
use Rattle.ts_model.specs.Groups.{cells_of, column, group_at, groups_at, groups_in, groups_of, groups_at_last}
use Rattle.ts_model.specs.History.{History, start, resumed, ◌▸◌, position, prefix}
use Rattle.ts_model.specs.Refreshes.{last, stale, watermark}
use Rattle.ts_model.specs.Roster.{IsOf, roster, view_of}
use Rattle.ts_model.specs.Rows.{rows}
use Rattle.ts_model.specs.Saved.{group_of, groups_among, is_dirty, saved_groups, summary_of}
use Rattle.ts_model.specs.Scratch.{bucket_rows, key_lists, scratch, with_keys}
use Rattle.ts_model.specs.Valid.{all_rise, group_fits, groups_fit, image_roster, mark_fits, row_marked, sums_fit, valid}
use Rattle.ts_model.proofs.AllowedLaws.{consistent_begins}
use Rattle.ts_model.proofs.GroupLaws.{cells_are_scratch}
use Rattle.ts_model.proofs.HistoryLaws.{begins_prefix}
use Rattle.ts_model.proofs.RangeLaws.{RisingBuckets, rising-buckets_in}
use Rattle.ts_model.proofs.RosterLaws.{is_of_before, is_of_itself}
use Rattle.ts_model.proofs.SoundLaws.{view_width}
use Rattle.ts_model.proofs.ValidLaws.{image_rows, kept_of}
use Rattle.group_fold.proofs.Gathers.{none_in_order}
use Rattle.group_fold.proofs.Occurring.{all-append}
use Rattle.group_fold.proofs.RowGroups.{sorted-groups_of}
use Rattle.group_fold.proofs.Scratches.{groups_of_bucket}
use Rattle.hier_agg.specs.Wholes.{AreRowsOf, IsGroupOf}
use Rattle.hier_agg.proofs.Fresh.{group_starts, saved_start}
use Rattle.hier_agg.proofs.Showing.{all_over, keys_fit}

-- ---- groups of one bucket

-- groups of one bucket, in order
record StandIn (fold : Fold) (b : ℤ) (gs : List Group) : Type 0 where
  pub order : AreInOrder gs
  pub each : AllByRecursion (IsGroupOf fold) gs
  pub starts : AllByRecursion (λ g. g.start ≡ b) gs

none_stand : (fold : Fold) (b : ℤ) → StandIn fold b []
none_stand fold b = record { order = none_in_order [] (omega arith); each = tt; starts = tt }

-- the groups of rows
rows_stand : (fold : Fold) (found : List Row) (b : ℤ) → IsWidth fold.width → is_bucket fold.width b ≡ true → StandIn fold b (groups_in fold found b)
rows_stand fold found b wide at =
    let own : List Row = bucket_rows fold b found in
    record {
      order = subst AreInOrder (groups_of_bucket fold wide found b at) (IsStrictlySortedBy-filter group_cmp (λ g. int_eq g.start b) (groups_of fold found) (sorted-groups_of fold wide found));
      each =
          all_over (λ keys. length keys ≡ length fold.keys) (IsGroupOf fold) (group_at fold b own)
          (λ keys e. record { start = at; keys = e; parts = length-map fold.aggs (λ agg. summary (column (with_keys fold keys own) agg)) })
          (key_lists fold own) (keys_fit fold own);
      starts = group_starts fold b own (key_lists fold own);
    }

-- a list that rises is in order
rises_in_order : (gs : List Group) → all_rise group_cmp gs ≡ true → AreInOrder gs
unfolding IsStrictlySortedBy
rises_in_order [] e = tt
rises_in_order (g ∷ gs) e =
    let parts = and_parts (list_all (λ h. is_lt (group_cmp g h)) gs) (all_rise group_cmp gs) e in
    (above gs parts.0, rises_in_order gs parts.1)
  where
    is_less : (o : Ordering) → is_lt o ≡ true → o ≡ Less
    is_less Less e = refl
    is_less Equal e = absurd (cc e)
    is_less Greater e = absurd (cc e)

    above : (hs : List Group) → list_all (λ h. is_lt (group_cmp g h)) hs ≡ true → AllByRecursion (λ h. group_cmp g h ≡ Less) hs
    above [] e = tt
    above (h ∷ hs) e = let parts = and_parts (is_lt (group_cmp g h)) (list_all (λ h. is_lt (group_cmp g h)) hs) e in (is_less (group_cmp g h) parts.0, above hs parts.1)

module _ (def : ViewDef) (dirty : List Span) where
  group_is : (g : SavedGroup) → group_fits def dirty g ≡ true → IsGroupOf def.fold (group_of g)
  group_is g e =
      let sums = and_parts _ (list_all sums_fit g.parts) e in
      let parts = and_parts _ (length g.parts == length def.fold.aggs) sums.0 in
      let keys = and_parts _ (length g.keys == length def.fold.keys) parts.0 in
      let starts = and_parts (is_bucket def.fold.width g.start) (lies_in dirty g.start) keys.0 in
      record {
        start = starts.0;
        keys = eqb-true (length g.keys) (length def.fold.keys) keys.1;
        parts = length-map g.parts summary_of ∙ eqb-true (length g.parts) (length def.fold.aggs) parts.1;
      }

  groups_are : (gs : List SavedGroup) (b : ℤ) → list_all (group_fits def dirty) gs ≡ true → AllByRecursion (IsGroupOf def.fold) (groups_among gs b)
  groups_are [] b e = tt
  groups_are (g ∷ gs) b e =
      let parts = and_parts (group_fits def dirty g) (list_all (group_fits def dirty) gs) e in
      let rest = groups_are gs b parts.1 in
      by_test (int_eq g.start b)
      (λ t. rw t (group_is g parts.0, rest))
      (λ t. rw t rest)

  -- the saved groups of an image
  saved_stand : (gs : List SavedGroup) (b : ℤ) → groups_fit def dirty gs ≡ true → StandIn def.fold b (groups_among gs b)
  saved_stand gs b e =
      let parts = and_parts (list_all (group_fits def dirty) gs) (all_rise group_cmp (map group_of gs)) e in
      record {
        order = subst AreInOrder (among gs) (IsStrictlySortedBy-filter group_cmp (λ g. int_eq g.start b) (map group_of gs) (rises_in_order (map group_of gs) parts.1));
        each = groups_are gs b parts.0;
        starts = saved_start gs b;
      }
    where
      among : (hs : List SavedGroup) → filter (λ g. int_eq g.start b) (map group_of hs) ≡ groups_among hs b
      among [] = refl
      among (h ∷ hs) =
          by_test (int_eq h.start b)
          (λ t. rw t (ap (λ gs. group_of h ∷ gs) (among hs)))
          (λ t. rw t (among hs))

image_stand : (n : ℕ) (def : ViewDef) (i : Image) (b : ℤ) → valid i ≡ true → IsOf def (view_of (image_roster i) n) → StandIn def.fold b (saved_groups n i b)
image_stand n def i b ok is =
    kept_of n i (λ o v. IsOf def o → StandIn def.fold b (groups_among v.groups b)) ok
    (λ _. none_stand def.fold b)
    (λ found v kept own.
    let rows_marked = and_parts _ (list_all (row_marked found.fold v) (image_rows i found.table)) kept in
    let groups_marked = and_parts _ (list_all (λ g. is_below g.start v.mark) v.groups) rows_marked.0 in
    let marks = and_parts _ (mark_fits found.fold.width v.mark) groups_marked.0 in
    let groups = and_parts _ (groups_fit found v.dirty v.groups) marks.0 in
    subst (λ (f : Fold). StandIn f b (groups_among v.groups b)) own.1 (saved_stand found v.dirty v.groups b groups.1))
    is

-- and the earlier groups of the bucket
stood_stand : (n : ℕ) (def : ViewDef) (g : History) (s : ℕ) (b : ℤ) → IsWidth def.fold.width → is_bucket def.fold.width b ≡ true → all_consistent g ≡ true → IsOf def (view_of (roster g) n) → StandIn def.fold b (groups_at_last n def g s b)
stood_stand n def start s b wide at ok is = rows_stand def.fold (rows def.table start) b wide at
stood_stand n def (resumed i) s b wide at ok is =
    by_test (nat_lt s i.pos && is_dirty n i b)
    (λ e. rw e (image_stand n def i b ok is))
    (λ e. rw e (rows_stand def.fold (rows def.table (resumed i)) b wide at))
stood_stand n def (g ▸ e) s b wide at ok is = rows_stand def.fold (rows def.table (g ▸ e)) b wide at

-- an aggregate had its fold before
of_prefix : (n : ℕ) (def : ViewDef) (h : History) (s : ℕ) → IsOf def (view_of (roster h) n) → IsOf def (view_of (roster (prefix h s)) n)
of_prefix n def start s is = is
of_prefix n def (resumed i) s is = is
of_prefix n def (h ▸ e) s is =
    by_test (nat_lt (position h) s)
    (λ t. rw t is)
    (λ t. rw t (of_prefix n def h s (is_of_before def h e n is)))

-- ---- rows

-- rows that show groups of one bucket
record AreRowsIn (fold : Fold) (b : ℤ) (found : List (List Datum)) : Type 0 where
  pub groups : List Group
  pub stand : StandIn fold b groups
  pub shown : found ≡ map (cells_of fold) groups

-- rows that show groups from low on
record AreRowsFrom (fold : Fold) (low : ℤ) (found : List (List Datum)) : Type 0 where
  pub groups : List Group
  pub order : AreInOrder groups
  pub each : AllByRecursion (IsGroupOf fold) groups
  pub from : AllByRecursion (λ g. low ≤ℤ g.start) groups
  pub shown : found ≡ map (cells_of fold) groups

later : (g h : Group) → g.start <ℤ h.start → group_cmp g h ≡ Less
later g h less = ap (λ o. ordering_then o (values_cmp g.keys h.keys)) (sym (int_cmp_is g.start h.start Less less))

-- groups of one bucket are before those of later buckets
before_later : (b : ℤ) (gs hs : List Group) → AllByRecursion (λ g. g.start ≡ b) gs → AllByRecursion (λ h. (b +ℤ pos 1) ≤ℤ h.start) hs → AreInOrder gs → AreInOrder hs → AreInOrder (gs ++ hs)
unfolding IsStrictlySortedBy
before_later b [] hs starts from p q = q
before_later b (g ∷ gs) hs starts from p q =
    let own : g.start ≡ b = starts.0 in
    let above : AllByRecursion (λ h. group_cmp g h ≡ Less) hs =
    all_weaker (λ (h : Group). (b +ℤ pos 1) ≤ℤ h.start) (λ (h : Group). group_cmp g h ≡ Less) (λ h low. later g h (omega (arith, ints, own, low))) hs from in
    (all-append (λ h. group_cmp g h ≡ Less) gs hs p.0 above, before_later b gs hs starts.1 from p.1 q)

module _ (n : ℕ) (def : ViewDef) (h : History) (wide : IsWidth def.fold.width) (ok : all_consistent h ≡ true) (is : IsOf def (view_of (roster h) n)) where
  no_rows : (b : ℤ) → AreRowsIn def.fold b []
  no_rows b = record { groups = []; stand = none_stand def.fold b; shown = refl }

  scratch_rows : (b : ℤ) → is_bucket def.fold.width b ≡ true → AreRowsIn def.fold b (scratch def h b)
  scratch_rows b at = record {
    groups = groups_in def.fold (rows def.table h) b;
    stand = rows_stand def.fold (rows def.table h) b wide at;
    shown = sym (cells_are_scratch def.fold (rows def.table h) b);
  }

  left_rows : (b : ℤ) → is_bucket def.fold.width b ≡ true → (s : Option ℕ) → AreRowsIn def.fold b (left_by n def h b s)
  left_rows b at None = no_rows b
  left_rows b at (Some s) = record {
    groups = groups_at n def h s b;
    stand = stood_stand n def (prefix h s) s b wide at (consistent_begins (begins_prefix h s) ok) (of_prefix n def h s is);
    shown = refl;
  }

  shown_rows : (b : ℤ) → is_bucket def.fold.width b ≡ true → AreRowsIn def.fold b (shown n def h b)
  shown_rows b at =
      by_test (stale n def h b)
      (λ e. rw e (left_rows b at (last n h b)))
      (λ e. rw e (by_test (is_below b (watermark n def h))
      (λ f. rw f (scratch_rows b at))
      (λ f. rw f (by_test def.only
      (λ g. rw g (no_rows b))
      (λ g. rw g (scratch_rows b at))))))

  all_rows : (low : ℤ) (bs : List ℤ) → RisingBuckets def.fold.width low bs → AreRowsFrom def.fold low (flat_map (shown n def h) bs)
  all_rows low [] r = record { groups = []; order = none_in_order [] (omega arith); each = tt; from = tt; shown = refl }
  all_rows low (b ∷ bs) r =
      let first : low ≤ℤ b = r.0 in
      let own = shown_rows b r.1 in
      let rest = all_rows (b +ℤ pos 1) bs r.2 in
      record {
        groups = own.groups ++ rest.groups;
        order = before_later b own.groups rest.groups own.stand.starts rest.from own.stand.order rest.order;
        each = all-append (IsGroupOf def.fold) own.groups rest.groups own.stand.each rest.each;
        from =
            all-append (λ g. low ≤ℤ g.start) own.groups rest.groups
            (all_weaker (λ (g : Group). g.start ≡ b) (λ (g : Group). low ≤ℤ g.start) (λ g e. omega (arith, ints, first, e)) own.groups own.stand.starts)
            (all_weaker (λ (g : Group). (b +ℤ pos 1) ≤ℤ g.start) (λ (g : Group). low ≤ℤ g.start) (λ g l. omega (arith, ints, first, l)) rest.groups rest.from);
        shown =
            ap (λ xs. xs ++ flat_map (shown n def h) bs) own.shown
            ∙ ap (λ xs. map (cells_of def.fold) own.groups ++ xs) rest.shown
            ∙ sym (map-append (cells_of def.fold) own.groups rest.groups);
      }

pub answers_show_groups : (n : ℕ) (h : History) (starts : Span) (def : ViewDef) → all_consistent h ≡ true → view_of (roster h) n ≡ Some def → AreRowsOf def.fold (answer_of_view n h starts (Some def)).rows
answers_show_groups n h starts def ok is =
    let wide : IsWidth def.fold.width = view_width h n def ok is in
    let all = all_rows n def h wide ok (is_of_itself def (view_of (roster h) n) is) starts.lo (buckets_in def.fold.width starts) (rising-buckets_in def.fold.width starts) in
    record { groups = all.groups; order = all.order; each = all.each; shown = all.shown }
