-- The effect of each event on the materialized groups of an aggregate.
use Rattle.std.proofs.Common.{◌≡◌, ℕ, ◌≤◌, max, Bool, true, false, not, ◌&&◌, ◌||◌, cond, List, [], ◌∷◌, map, filter, ℤ, ◌+ℤ◌, ◌<ℤ◌, int_lt, pos, Option, Some, None, sym, refl, ap, ◌∙◌, subst, arith}
use Rattle.std.specs.List.{list_all, list_any, flat_map}
use Rattle.std.specs.List.Sorted.{IsStrictlySortedBy}
use Rattle.std.proofs.lemmas.Int.{ints}
use Rattle.std.proofs.lemmas.Bool.{true≢false, and_parts, and_from, ltb-false}
use Rattle.std.proofs.lemmas.List.Folds.{list_all-append}
use Rattle.std.proofs.Math.Bool.{or-true}
use Rattle.ts_num.specs.Aggregates.{greater}
use Rattle.ts_bucket.specs.Bucket.{IsWidth, is_bucket, bucket_of, holds}
use Rattle.ts_bucket.specs.Positions.{later, is_above, is_before}
use Rattle.ts_bucket.specs.Ranges.{lies_in}
use Rattle.ts_bucket.specs.Spans.{in_span}
use Rattle.ts_bucket.specs.WholeSpans.{is_below}
use Rattle.ts_bucket.specs.declared.spans.Span.{Span}
use Rattle.ts_bucket.specs.declared.widths.Width.{Width}
use Rattle.ts_bucket.proofs.BucketLaws.{holds-one, is_bucket-bucket_of}
use Rattle.ts_bucket.proofs.PositionLaws.{later-none, is_above-greater}
use Rattle.ts_schema.specs.declared.rows.Row.{Row}
use Rattle.ts_schema.specs.Conditions.{passes_all}
use Rattle.partial_agg.specs.declared.groups.Group.{Group}
use Rattle.ts_model.specs.declared.events.Event.{Event}
use Rattle.ts_model.specs.declared.events.Event.TheVariants.{Table, Hyper, View, Mode, Commit, Cut, Built}
use Rattle.ts_model.specs.declared.views.Fold.{Fold}
use Rattle.ts_model.specs.declared.views.ViewDef.{ViewDef}
use Rattle.ts_model.specs.History.{History, ◌▸◌, position, base_position}
use Rattle.ts_model.specs.Roster.{roster, view_of, set_only}
use Rattle.ts_model.specs.Rows.{rows_at}
use Rattle.ts_model.specs.Allowed.{all_consistent}
use Rattle.ts_model.specs.Scratch.{bucket_rows, occurring_buckets}
use Rattle.ts_model.specs.Groups.{groups_at_last, groups_at, groups_in, groups_of, bucket_groups, group_at}
use Rattle.ts_model.specs.Refreshes.{last, span_of_cut, is_covered, last_touch_at}
use Rattle.ts_model.specs.Jobs.{Fits, job_rows, rows_of_spans}
use Rattle.ts_model.specs.Windows.{last_end}
use Rattle.ts_model.proofs.HistoryLaws.{prefix_further}
use Rattle.ts_model.proofs.RefreshLaws.{last_bounded, is_below-greater}
use Rattle.ts_model.proofs.ModeLaws.{mode_plays_no_part}
use Rattle.ts_model.proofs.CutLaws.{last_latest}
use Rattle.ts_model.proofs.UntouchedLaws.{untouched_between}
use Rattle.ts_model.proofs.GroupLaws.{groups_at_is}
use Rattle.ts_model.proofs.OrderLaws.{results_come_in_order}
use Rattle.group_fold.proofs.Scratches.{groups_of_bucket}
use Rattle.coverage.proofs.ModelLaws.{never_refreshed}
use Rattle.mat_rows.specs.Replacing.{of_bucket}
use Rattle.partial_agg.specs.Groups.{AreInOrder}
use Rattle.engine_state.specs.Groups.{groups_left, is_materialised, GroupsStand, AreReplaced, AreRenewed}
use Rattle.ts_model.proofs.FinishLaws.{covers_part}

-- ---- after one more event

groups_at_further : (n : ℕ) (def : ViewDef) (h : History) (e : Event) (s : ℕ) (b : ℤ) → s ≤ position h → groups_at n def (h ▸ e) s b ≡ groups_at n def h s b
groups_at_further n def h e s b l = ap (λ g. groups_at_last n def g s b) (prefix_further h e s l)

left_further : (n : ℕ) (def : ViewDef) (h : History) (e : Event) (b : ℤ) (o : Option ℕ) → ((s : ℕ) → o ≡ Some s → s ≤ position h) → groups_left n def (h ▸ e) b o ≡ groups_left n def h b o
left_further n def h e b None bounded = refl
left_further n def h e b (Some s) bounded = groups_at_further n def h e s b (bounded s refl)

stays_left : (n : ℕ) (def : ViewDef) (h : History) (e : Event) (b : ℤ) → all_consistent h ≡ true → groups_left n def (h ▸ e) b (last n h b) ≡ groups_left n def h b (last n h b)
stays_left n def h e b ok = left_further n def h e b (last n h b) (λ s is. last_bounded n h b s ok is)

abbrev pub is_built : Event → Bool
is_built (Built cut snap) = true
is_built e = false

last_stays : (n : ℕ) (h : History) (e : Event) (b : ℤ) → is_built e ≡ false → last n (h ▸ e) b ≡ last n h b
last_stays n h (Table def) b quiet = refl
last_stays n h (Hyper t hyper) b quiet = refl
last_stays n h (View def) b quiet = refl
last_stays n h (Mode v only) b quiet = refl
last_stays n h (Commit ops) b quiet = refl
last_stays n h (Cut v span) b quiet = refl
last_stays n h (Built cut snap) b quiet = absurd (true≢false quiet)

-- every event except a finish leaves the groups unchanged
pub groups_stay : (n : ℕ) (def : ViewDef) (h : History) (e : Event) (mark : Option ℤ) (groups : List Group) → all_consistent h ≡ true → is_built e ≡ false → GroupsStand n def h mark groups → GroupsStand n def (h ▸ e) mark groups
groups_stay n def h e mark groups ok quiet s = record {
  in_order = s.in_order;
  all = s.all;
  exact = λ b bucket. s.exact b bucket ∙ sym (ap (groups_left n def (h ▸ e) b) (last_stays n h e b quiet) ∙ stays_left n def h e b ok);
}

-- and so does a finish of another aggregate's refresh
pub groups_unfinished : (n : ℕ) (def : ViewDef) (h : History) (cut snap : ℕ) (mark : Option ℤ) (groups : List Group) → all_consistent h ≡ true → span_of_cut n h cut ≡ None → GroupsStand n def h mark groups → GroupsStand n def (h ▸ Built cut snap) mark groups
groups_unfinished n def h cut snap mark groups ok other s = record {
  in_order = s.in_order;
  all = s.all;
  exact = λ b bucket.
      s.exact b bucket
      ∙ sym (ap (λ o. groups_left n def (h ▸ Built cut snap) b (later (last n h b) (cond (is_covered b o) (Some snap) None))) other
      ∙ ap (groups_left n def (h ▸ Built cut snap) b) (later-none (last n h b))
      ∙ stays_left n def h (Built cut snap) b ok);
}

-- so does a mode, which has no effect on them
pub groups_of_mode : (n : ℕ) (def : ViewDef) (only : Bool) (h : History) (mark : Option ℤ) (groups : List Group) → GroupsStand n def h mark groups → GroupsStand n (set_only only def) h mark groups
groups_of_mode n def only h mark groups s = record {
  in_order = s.in_order;
  all = s.all;
  exact = λ b bucket. s.exact b bucket ∙ sym (left_of_mode b (last n h b));
}
  where
    left_of_mode : (b : ℤ) (o : Option ℕ) → groups_left n (set_only only def) h b o ≡ groups_left n def h b o
    left_of_mode b None = refl
    left_of_mode b (Some s) = mode_plays_no_part.groups n def only h s b

nothing_in_order : AreInOrder []
unfolding IsStrictlySortedBy
nothing_in_order = tt

-- before an aggregate exists, nothing is materialized
pub groups_begin : (n : ℕ) (def : ViewDef) (h : History) (mark : Option ℤ) → all_consistent h ≡ true → view_of (roster h) n ≡ None → GroupsStand n def h mark []
groups_begin n def h mark ok none = record {
  in_order = nothing_in_order;
  all = refl;
  exact = λ b bucket. ap (groups_left n def h b) (sym (never_refreshed n h b ok none));
}

-- ---- the groups of a job

filtered_same : {X : Type 0} (p r : X → Bool) (xs : List X) → ((x : X) → p x ≡ false → r x ≡ false) → filter r (filter p xs) ≡ filter r xs
filtered_same p r [] g = refl
filtered_same p r (x ∷ xs) g =
    elim (p x) as (λ t. p x ≡ t → filter r (cond t (x ∷ filter p xs) (filter p xs)) ≡ cond (r x) (x ∷ filter r xs) (filter r xs)) [
      | true ↦ λ e. ap (λ ys. cond (r x) (x ∷ ys) ys) (filtered_same p r xs g)
      | false ↦ λ e. filtered_same p r xs g ∙ sym (ap (λ t. cond t (x ∷ filter r xs) (filter r xs)) (g x e))
    ] refl

-- a bucket of the spans has all its rows among those of the spans
bucket_rows-spans : (fold : Fold) (spans : List Span) (b : ℤ) (xs : List Row) → IsWidth fold.width → is_bucket fold.width b ≡ true → lies_in spans b ≡ true → bucket_rows fold b (rows_of_spans fold spans xs) ≡ bucket_rows fold b xs
bucket_rows-spans fold spans b xs width bucket lies =
    filtered_same (λ row. lies_in spans (bucket_of fold.width row.at) && passes_all row fold.tests) (λ row. holds fold.width b row.at && passes_all row fold.tests) xs outside
  where
    outside : (row : Row) → (lies_in spans (bucket_of fold.width row.at) && passes_all row fold.tests) ≡ false → (holds fold.width b row.at && passes_all row fold.tests) ≡ false
    outside row e = by_test (holds fold.width b row.at) (passes_all row fold.tests) refl refl
      where
        by_test : (h p : Bool) → holds fold.width b row.at ≡ h → passes_all row fold.tests ≡ p → (h && p) ≡ false
        by_test false p is_h is_p = refl
        by_test true false is_h is_p = refl
        by_test true true is_h is_p =
            let here : b ≡ bucket_of fold.width row.at = holds-one fold.width b row.at width bucket is_h in
            absurd (true≢false (sym (and_from _ _ (subst (λ c. lies_in spans c ≡ true) here lies) is_p) ∙ e))

job_groups : (n : ℕ) (def : ViewDef) (h : History) (snap : ℕ) (spans : List Span) (b : ℤ) → base_position h ≤ snap → IsWidth def.fold.width → is_bucket def.fold.width b ≡ true → lies_in spans b ≡ true → of_bucket b (groups_of def.fold (job_rows def h snap spans)) ≡ groups_at n def h snap b
job_groups n def h snap spans b from_base width bucket lies =
    groups_of_bucket def.fold width (job_rows def h snap spans) b bucket
    ∙ ap (bucket_groups def.fold b) (bucket_rows-spans def.fold spans b (rows_at def.table h snap) width bucket lies)
    ∙ sym (groups_at_is n def h snap b from_base)

-- ---- all groups of a job are of buckets below its top

all_mapped : {X Y : Type 0} (test : Y → Bool) (f : X → Y) (xs : List X) → ((x : X) → test (f x) ≡ true) → list_all test (map f xs) ≡ true
all_mapped test f [] each = refl
all_mapped test f (x ∷ xs) each = and_from _ _ (each x) (all_mapped test f xs each)

all_flat : {X Y : Type 0} (p : X → Bool) (test : Y → Bool) (f : X → List Y) (xs : List X) → ((x : X) → p x ≡ true → list_all test (f x) ≡ true) → list_all p xs ≡ true → list_all test (flat_map f xs) ≡ true
all_flat p test f [] each e = refl
all_flat p test f (x ∷ xs) each e =
    let parts = and_parts (p x) (list_all p xs) e in
    list_all-append test (f x) (flat_map f xs) ∙ and_from _ _ (each x parts.0) (all_flat p test f xs each parts.1)

none_from_all : {X : Type 0} (p : X → Bool) (xs : List X) → list_all p xs ≡ true → list_any (λ x. not (p x)) xs ≡ false
none_from_all p [] e = refl
none_from_all p (x ∷ xs) e = let parts = and_parts (p x) (list_all p xs) e in ap (λ t. not t || list_any (λ y. not (p y)) xs) parts.0 ∙ none_from_all p xs parts.1

all_from_none : {X : Type 0} (p : X → Bool) (xs : List X) → list_any (λ x. not (p x)) xs ≡ false → list_all p xs ≡ true
all_from_none p [] e = refl
all_from_none p (x ∷ xs) e =
    elim (p x) as (λ t. p x ≡ t → (not t || list_any (λ y. not (p y)) xs) ≡ false → (t && list_all p xs) ≡ true) [
      | true ↦ λ _ rest. all_from_none p xs rest
      | false ↦ λ _ f. absurd (true≢false f)
    ] refl e

all_passing : (p q : Row → Bool) (f : Row → ℤ) (test : ℤ → Bool) (xs : List Row) → list_all (λ row. test (f row)) xs ≡ true → list_all test (map f (filter p xs)) ≡ true
all_passing p q f test [] e = refl
all_passing p q f test (row ∷ xs) e =
    let parts = and_parts (test (f row)) (list_all (λ r. test (f r)) xs) e in
    elim (p row) as (λ t. list_all test (map f (cond t (row ∷ filter p xs) (filter p xs))) ≡ true) [
      | true ↦ and_from _ _ parts.0 (all_passing p q f test xs parts.1)
      | false ↦ all_passing p q f test xs parts.1
    ]

-- the test is true of each bucket that occurs if it is true of each row's
all_occurring : (fold : Fold) (test : ℤ → Bool) (xs : List Row) → list_all (λ row. test (bucket_of fold.width row.at)) xs ≡ true → list_all test (occurring_buckets fold xs) ≡ true
all_occurring fold test xs e =
    let keys = map (λ row. bucket_of fold.width row.at) (filter (λ row. passes_all row fold.tests) xs) in
    all_from_none test (occurring_buckets fold xs)
    ((results_come_in_order.buckets fold xs).occurring (λ b. not (test b)) ∙ none_from_all test keys (all_passing (λ row. passes_all row fold.tests) (λ row. true) (λ row. bucket_of fold.width row.at) test xs e))

-- the groups of rows are of buckets
pub all_starts : (fold : Fold) (xs : List Row) → IsWidth fold.width → list_all (λ g. is_bucket fold.width g.start) (groups_of fold xs) ≡ true
all_starts fold xs width =
    all_flat (is_bucket fold.width) (λ g. is_bucket fold.width g.start) (groups_in fold xs) (occurring_buckets fold xs)
    (λ b e. all_mapped (λ g. is_bucket fold.width g.start) (group_at fold b (bucket_rows fold b xs)) _ (λ keys. e))
    (all_occurring fold (is_bucket fold.width) xs (each xs))
  where
    each : (ys : List Row) → list_all (λ row. is_bucket fold.width (bucket_of fold.width row.at)) ys ≡ true
    each [] = refl
    each (row ∷ ys) = and_from _ _ (is_bucket-bucket_of fold.width row.at width) (each ys)

all_materialised : (def : ViewDef) (m : Option ℤ) (xs : List Row) → IsWidth def.fold.width → list_all (λ row. is_below (bucket_of def.fold.width row.at) m) xs ≡ true → list_all (is_materialised def m) (groups_of def.fold xs) ≡ true
all_materialised def m xs width below =
    let test : ℤ → Bool = λ b. is_bucket def.fold.width b && is_below b m in
    all_flat test (is_materialised def m) (groups_in def.fold xs) (occurring_buckets def.fold xs)
    (λ b e. all_mapped (is_materialised def m) (group_at def.fold b (bucket_rows def.fold b xs)) _ (λ keys. e))
    (all_occurring def.fold test xs (with_buckets xs below))
  where
    with_buckets : (ys : List Row) → list_all (λ row. is_below (bucket_of def.fold.width row.at) m) ys ≡ true → list_all (λ row. is_bucket def.fold.width (bucket_of def.fold.width row.at) && is_below (bucket_of def.fold.width row.at) m) ys ≡ true
    with_buckets [] e = refl
    with_buckets (row ∷ ys) e =
        let parts = and_parts (is_below (bucket_of def.fold.width row.at) m) _ e in
        and_from _ _ (and_from _ _ (is_bucket-bucket_of def.fold.width row.at width) parts.0) (with_buckets ys parts.1)

below_left : (b : ℤ) (x y : Option ℤ) → is_below b x ≡ true → is_below b (greater x y) ≡ true
below_left b x y e = is_below-greater b x y ∙ ap (λ t. t || is_below b y) e

below_right : (b : ℤ) (x y : Option ℤ) → is_below b y ≡ true → is_below b (greater x y) ≡ true
below_right b x y e = is_below-greater b x y ∙ ap (λ t. is_below b x || t) e ∙ or-true (is_below b x)

all_weaker : {X : Type 0} (p q : X → Bool) (xs : List X) → ((x : X) → p x ≡ true → q x ≡ true) → list_all p xs ≡ true → list_all q xs ≡ true
all_weaker p q [] f e = refl
all_weaker p q (x ∷ xs) f e = let parts = and_parts (p x) (list_all p xs) e in and_from _ _ (f x parts.0) (all_weaker p q xs f parts.1)

-- the bucket of each row is below the end of the last bucket
below_end : (w : Width) (xs : List Row) → IsWidth w → list_all (λ row. is_below (bucket_of w row.at) (last_end w xs)) xs ≡ true
below_end w [] width = refl
below_end w (row ∷ xs) width =
    and_from _ _ (below_left (bucket_of w row.at) (Some (bucket_of w row.at +ℤ w.step)) (last_end w xs) (ends_above (bucket_of w row.at) w.step width.positive))
    (all_weaker (λ r. is_below (bucket_of w r.at) (last_end w xs)) (λ r. is_below (bucket_of w r.at) (greater (Some (bucket_of w row.at +ℤ w.step)) (last_end w xs))) xs (λ r e. below_right (bucket_of w r.at) (Some (bucket_of w row.at +ℤ w.step)) (last_end w xs) e) (below_end w xs width))
  where
    ends_above : (b step : ℤ) → pos 0 <ℤ step → int_lt b (b +ℤ step) ≡ true
    ends_above b step positive = grind (arith, ints)

-- ---- a finish

later_above : (snap : ℕ) (o : Option ℕ) → is_above snap o ≡ true → later o (Some snap) ≡ o
later_above snap None e = absurd (true≢false (sym e))
later_above snap (Some s) e = let m : max s snap ≡ s = grind arith in ap Some m

later_upto : (snap : ℕ) (o : Option ℕ) → is_above snap o ≡ false → later o (Some snap) ≡ Some snap
later_upto snap None e = refl
later_upto snap (Some s) e = let l : s ≤ snap = ltb-false snap s e in let m : max s snap ≡ snap = omega arith in ap Some m

module _ (n : ℕ) (def : ViewDef) (h : History) (cut snap : ℕ) (span : Span) (spans : List Span) (groups : List Group) (top : Option ℤ) (ok : all_consistent h ≡ true) (width : IsWidth def.fold.width) (f : Fits n def h cut snap span spans groups top) where
  -- a bucket of the span that isn't recomputed still has the groups that it had at the snapshot
  untouched_since : (b : ℤ) (r : ℕ) (o : Option ℕ) → is_before r o ≡ false → is_above r (last_touch_at n def h snap b) ≡ false → is_above snap o ≡ false → groups_left n def h b o ≡ groups_at n def h snap b
  untouched_since b r None before not_touched upto = absurd (true≢false before)
  untouched_since b r (Some s) before not_touched upto =
      let from : r ≤ s = ltb-false s r before in
      let to : s ≤ snap = ltb-false snap s upto in
      sym (untouched_between.groups n def h b s snap to (is_above-greater r s (last_touch_at n def h snap b) from not_touched))

  kept_same : (b : ℤ) → is_bucket def.fold.width b ≡ true → in_span span b ≡ true → lies_in spans b ≡ false → is_above snap (last n h b) ≡ false → groups_left n def h b (last n h b) ≡ groups_at n def h snap b
  kept_same b bucket inside out upto =
      let other = f.others b bucket inside out in
      untouched_since b other.0 (last n h b) (last_latest n h b other.0 other.2) other.3 upto

  -- the stored groups of a bucket after the finish
  left_after : (b : ℤ) → (inside above : Bool) → in_span span b ≡ inside → is_above snap (last n h b) ≡ above → groups_left n def (h ▸ Built cut snap) b (last n (h ▸ Built cut snap) b) ≡ cond (inside && not above) (groups_at n def h snap b) (groups_left n def h b (last n h b))
  left_after b inside above is_inside is_above_snap =
      ap (λ o. groups_left n def (h ▸ Built cut snap) b (later (last n h b) (cond (is_covered b o) (Some snap) None))) f.cut_is
      ∙ ap (λ t. groups_left n def (h ▸ Built cut snap) b (later (last n h b) (cond t (Some snap) None))) is_inside
      ∙ by_case inside above is_above_snap
    where
      by_case : (inside above : Bool) → is_above snap (last n h b) ≡ above → groups_left n def (h ▸ Built cut snap) b (later (last n h b) (cond inside (Some snap) None)) ≡ cond (inside && not above) (groups_at n def h snap b) (groups_left n def h b (last n h b))
      by_case false above e = ap (groups_left n def (h ▸ Built cut snap) b) (later-none (last n h b)) ∙ stays_left n def h (Built cut snap) b ok
      by_case true true e = ap (groups_left n def (h ▸ Built cut snap) b) (later_above snap (last n h b) e) ∙ stays_left n def h (Built cut snap) b ok
      by_case true false e = ap (groups_left n def (h ▸ Built cut snap) b) (later_upto snap (last n h b) e) ∙ groups_at_further n def h (Built cut snap) snap b f.taken

  pub groups_finished : (mark : Option ℤ) (old put new : List Group) (renewed : List Span) → GroupsStand n def h mark old → AreRenewed n def h snap spans groups renewed put → AreReplaced renewed put old new → GroupsStand n def (h ▸ Built cut snap) (greater mark top) new
  groups_finished mark old put new renewed s renews replaces = record {
    in_order = replaces.in_order;
    all = replaces.all (is_materialised def (greater mark top)) (renews.all (is_materialised def (greater mark top)) of_job) of_old;
    exact = λ b bucket. exact b bucket (lies_in spans b) (in_span span b) (is_above snap (last n h b)) refl refl refl;
  }
    where
      of_old : list_all (is_materialised def (greater mark top)) old ≡ true
      of_old =
          all_weaker (is_materialised def mark) (is_materialised def (greater mark top)) old
          (λ group e. let parts = and_parts (is_bucket def.fold.width group.start) (is_below group.start mark) e in and_from _ _ parts.0 (below_left group.start mark top parts.1)) s.all

      job_below : list_all (λ row. is_below (bucket_of def.fold.width row.at) (greater mark top)) (job_rows def h snap spans) ≡ true
      job_below =
          all_weaker (λ row. is_below (bucket_of def.fold.width row.at) (last_end def.fold.width (job_rows def h snap spans))) (λ row. is_below (bucket_of def.fold.width row.at) (greater mark top)) (job_rows def h snap spans)
          (λ row e. below_right (bucket_of def.fold.width row.at) mark top (subst (λ t. is_below (bucket_of def.fold.width row.at) t ≡ true) (sym f.top_is) e))
          (below_end def.fold.width (job_rows def h snap spans) width)

      of_job : list_all (is_materialised def (greater mark top)) groups ≡ true
      of_job = ap (list_all (is_materialised def (greater mark top))) f.groups_are ∙ all_materialised def (greater mark top) (job_rows def h snap spans) width job_below

      old_at : (b : ℤ) → is_bucket def.fold.width b ≡ true → of_bucket b old ≡ groups_left n def h b (last n h b)
      old_at b bucket = s.exact b bucket

      exact : (b : ℤ) → is_bucket def.fold.width b ≡ true → (lies inside above : Bool) → lies_in spans b ≡ lies → in_span span b ≡ inside → is_above snap (last n h b) ≡ above → of_bucket b new ≡ groups_left n def (h ▸ Built cut snap) b (last n (h ▸ Built cut snap) b)
      exact b bucket lies inside above is_lies is_inside is_up =
          let test : lies_in renewed b ≡ (lies && not above) = renews.spans_are b bucket ∙ (λ i. is_lies i && not (is_up i)) in
          replaces.exact b ∙ ap (λ t. cond t (of_bucket b put) (of_bucket b old)) test ∙ by_case lies inside above is_lies is_inside is_up test ∙ sym (left_after b inside above is_inside is_up)
        where
          by_case : (lies inside above : Bool) → lies_in spans b ≡ lies → in_span span b ≡ inside → is_above snap (last n h b) ≡ above → lies_in renewed b ≡ (lies && not above) → cond (lies && not above) (of_bucket b put) (of_bucket b old) ≡ cond (inside && not above) (groups_at n def h snap b) (groups_left n def h b (last n h b))
          by_case true true true l i u t = old_at b bucket
          by_case true true false l i u t = renews.groups_are b t ∙ ap (of_bucket b) f.groups_are ∙ job_groups n def h snap spans b f.above_base width bucket l
          by_case true false above l i u t = absurd (true≢false (sym (covers_part def.fold.width span spans b f.whole l) ∙ i))
          by_case false true true l i u t = old_at b bucket
          by_case false true false l i u t = old_at b bucket ∙ kept_same b bucket i l u
          by_case false false above l i u t = old_at b bucket
