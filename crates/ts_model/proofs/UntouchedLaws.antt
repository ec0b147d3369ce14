-- A bucket that no commit touched after a position has the aggregation that it had there.
use Rattle.std.proofs.Common.{◌≡◌, ℕ, suc, ◌<◌, ◌≤◌, Bool, true, false, ◌&&◌, ◌||◌, not, cond, nat_lt, ◌==◌, List, [], ◌∷◌, ◌++◌, filter, map, ℤ, Option, Some, None, sym, refl, ap, ◌∙◌, arith}
use Rattle.std.specs.List.{list_any}
use Rattle.std.proofs.lemmas.Bool.{true≢false, and_parts, and_from, or_parts, or_from, and_left, and_right, cond-false, lt-ltb, ltb-false}
use Rattle.std.proofs.lemmas.Int.{ints}
use Rattle.ts_bucket.specs.Bucket.{IsWidth, holds, is_bucket, bucket_of}
use Rattle.ts_bucket.specs.Ranges.{lies_in}
use Rattle.ts_bucket.specs.declared.spans.Span.{Span}
use Rattle.ts_bucket.proofs.BucketLaws.{holds-one}
use Rattle.ts_bucket.specs.Spans.{meets}
use Rattle.ts_bucket.specs.Positions.{is_above}
use Rattle.ts_bucket.specs.declared.spans.Hull.{Hull}
use Rattle.ts_bucket.specs.declared.widths.Width.{Width}
use Rattle.ts_bucket.proofs.PositionLaws.{is_above-later, is_above-greater}
use Rattle.ts_schema.specs.declared.rows.Row.{Row}
use Rattle.ts_schema.specs.Conditions.{passes_all}
use Rattle.ts_model.specs.declared.events.Event.{Event}
use Rattle.ts_model.specs.declared.events.Event.TheVariants.{Commit}
use Rattle.ts_model.specs.declared.events.Op.{Op}
use Rattle.ts_model.specs.declared.events.Op.TheVariants.{Insert, Delete}
use Rattle.ts_model.specs.declared.views.ViewDef.{ViewDef}
use Rattle.ts_model.specs.declared.views.Fold.{Fold}
use Rattle.ts_model.specs.History.{History, start, resumed, ◌▸◌, position, root, prefix}
use Rattle.ts_model.specs.Rows.{with_rows, after_op, after_ops, rows, rows_at}
use Rattle.ts_model.specs.Effect.{appended_by, taken_by, all_appended, all_taken, hull_with, hull_of, hull_of_ops}
use Rattle.ts_model.specs.Scratch.{bucket_rows, group_rows}
use Rattle.ts_model.specs.Groups.{bucket_groups, groups_in, cells_of, groups_at_last, groups_at}
use Rattle.ts_model.specs.Saved.{is_dirty, saved_groups}
use Rattle.ts_model.specs.Refreshes.{is_met, touches, last_touch, last_touch_at, touched}
use Rattle.ts_model.specs.Laws.{UntouchedKeepsRows, UntouchedKeepsGroups, UntouchedKeeps, UntouchedBetween, SpansKeepGroups}
use Rattle.ts_model.specs.Jobs.{rows_of_spans}
use Rattle.ts_model.proofs.HistoryLaws.{prefix_prefix}
use Rattle.ts_model.proofs.GroupLaws.{cells_are_scratch}
use Rattle.ts_model.proofs.RowLaws.{filter-with_row_left}

-- ---- what a test selects, if all rows that move fail it

pub list_any-append : {X : Type 0} (p : X → Bool) (xs ys : List X) → list_any p (xs ++ ys) ≡ (list_any p xs || list_any p ys)
list_any-append p [] ys = refl
list_any-append p (x ∷ xs) ys = elim (p x) as (λ b. (b || list_any p (xs ++ ys)) ≡ ((b || list_any p xs) || list_any p ys)) [ true ↦ refl | false ↦ list_any-append p xs ys ]

pub filter-with_rows : (p : Row → Bool) (new xs : List Row) → list_any p new ≡ false → filter p (with_rows new xs) ≡ filter p xs
filter-with_rows p [] xs e = refl
filter-with_rows p (row ∷ new) xs e =
    let parts = or_parts (p row) (list_any p new) e in
    filter-with_row_left p row (with_rows new xs) parts.0 ∙ filter-with_rows p new xs parts.1

pub filter-kept : (p q : Row → Bool) (xs : List Row) → list_any p (filter q xs) ≡ false → filter p (filter (λ row. not (q row)) xs) ≡ filter p xs
filter-kept p q [] e = refl
filter-kept p q (x ∷ xs) e =
    elim (q x) as (λ b. list_any p (cond b (x ∷ filter q xs) (filter q xs)) ≡ false → filter p (cond (not b) (x ∷ filter (λ row. not (q row)) xs) (filter (λ row. not (q row)) xs)) ≡ filter p (x ∷ xs)) [
      | true ↦ λ f.
          let parts = or_parts (p x) (list_any p (filter q xs)) f in
          filter-kept p q xs parts.1 ∙ sym (ap (λ b. cond b (x ∷ filter p xs) (filter p xs)) parts.0)
      | false ↦ λ f. ap (λ ys. cond (p x) (x ∷ ys) ys) (filter-kept p q xs f)
    ] e

filter-op : (p : Row → Bool) (t : ℕ) (op : Op) (xs : List Row) → list_any p (appended_by t op) ≡ false → list_any p (taken_by t op xs) ≡ false → filter p (after_op t op xs) ≡ filter p xs
filter-op p t (Insert u new) xs a k =
    elim (u == t) as (λ b. list_any p (cond b new []) ≡ false → filter p (cond b (with_rows new xs) xs) ≡ filter p xs) [ true ↦ λ f. filter-with_rows p new xs f | false ↦ λ f. refl ] a
filter-op p t (Delete u tests) xs a k =
    elim (u == t) as (λ b. list_any p (cond b (filter (λ row. passes_all row tests) xs) []) ≡ false → filter p (cond b (filter (λ row. not (passes_all row tests)) xs) xs) ≡ filter p xs) [
      | true ↦ λ f. filter-kept p (λ row. passes_all row tests) xs f
      | false ↦ λ f. refl
    ] k

-- rows that fail a test move, and what passes it stays
pub filter-after_ops : (p : Row → Bool) (t : ℕ) (ops : List Op) (xs : List Row) → list_any p (all_appended t ops) ≡ false → list_any p (all_taken t ops xs) ≡ false → filter p (after_ops t ops xs) ≡ filter p xs
filter-after_ops p t [] xs a k = refl
filter-after_ops p t (op ∷ ops) xs a k =
    let added = or_parts _ _ (sym (list_any-append p (appended_by t op) (all_appended t ops)) ∙ a) in
    let taken = or_parts _ _ (sym (list_any-append p (taken_by t op xs) (all_taken t ops (after_op t op xs))) ∙ k) in
    filter-after_ops p t ops (after_op t op xs) added.1 taken.1 ∙ filter-op p t op xs added.0 taken.0

-- ---- a hull that doesn't meet a bucket holds no row of it

met_with : (w : Width) (b t : ℤ) (hull : Option Hull) → meets w b (hull_with t hull) ≡ false → (holds w b t ≡ false) × (is_met w b hull ≡ false)
met_with w b t None e = (grind (arith, ints), refl)
met_with w b t (Some h) e = (grind (arith, ints), grind (arith, ints))

pub none_held : (w : Width) (b : ℤ) (moved : List Row) → is_met w b (hull_of moved) ≡ false → list_any (λ row. holds w b row.at) moved ≡ false
none_held w b [] e = refl
none_held w b (row ∷ moved) e =
    let parts = met_with w b row.at (hull_of moved) e in
    or_from _ _ parts.0 (none_held w b moved parts.1)

none_selected : (fold : Fold) (b : ℤ) (xs : List Row) → list_any (λ row. holds fold.width b row.at) xs ≡ false → list_any (λ row. holds fold.width b row.at && passes_all row fold.tests) xs ≡ false
none_selected fold b [] e = refl
none_selected fold b (row ∷ xs) e =
    let parts = or_parts (holds fold.width b row.at) (list_any (λ row. holds fold.width b row.at) xs) e in
    or_from _ _ (and_left _ _ parts.0) (none_selected fold b xs parts.1)

-- operations that don't touch a bucket leave its rows
pub bucket_rows-after_ops : (fold : Fold) (b : ℤ) (t : ℕ) (ops : List Op) (xs : List Row) → is_met fold.width b (hull_of_ops t ops xs) ≡ false → bucket_rows fold b (after_ops t ops xs) ≡ bucket_rows fold b xs
bucket_rows-after_ops fold b t ops xs e =
    let none : list_any (λ row. holds fold.width b row.at && passes_all row fold.tests) (all_appended t ops ++ all_taken t ops xs) ≡ false = none_selected fold b (all_appended t ops ++ all_taken t ops xs) (none_held fold.width b (all_appended t ops ++ all_taken t ops xs) e) in
    let parts = or_parts _ _ (sym (list_any-append (λ row. holds fold.width b row.at && passes_all row fold.tests) (all_appended t ops) (all_taken t ops xs)) ∙ none) in
    filter-after_ops (λ row. holds fold.width b row.at && passes_all row fold.tests) t ops xs parts.0 parts.1

-- ---- the law

-- either way a choice between two histories with the same value has that value
either_way : {X : Type 0} (f : History → X) (t : Bool) (g h : History) → f g ≡ f h → f g ≡ f (cond t g h)
either_way f true g h e = refl
either_way f false g h e = e

untouched_commit : (n : ℕ) (def : ViewDef) (h : History) (ops : List Op) (b : ℤ) (s : ℕ) → touched n def (h ▸ Commit ops) b s ≡ false → (touched n def h b s ≡ false → bucket_rows def.fold b (rows def.table h) ≡ bucket_rows def.fold b (rows_at def.table h s)) → bucket_rows def.fold b (rows def.table (h ▸ Commit ops)) ≡ bucket_rows def.fold b (rows_at def.table (h ▸ Commit ops) s)
untouched_commit n def h ops b s e before =
    let parts : (is_above s (last_touch n def h b) ≡ false) × (is_above s (cond (touches def ops h b) (Some (suc (position h))) None) ≡ false) = or_parts _ _ (sym (is_above-later s (last_touch n def h b) (cond (touches def ops h b) (Some (suc (position h))) None)) ∙ e) in
    elim (nat_lt (position h) s) as (λ t. nat_lt (position h) s ≡ t → bucket_rows def.fold b (rows def.table (h ▸ Commit ops)) ≡ bucket_rows def.fold b (rows def.table (cond t (h ▸ Commit ops) (prefix h s)))) [
      | true ↦ λ _. refl
      | false ↦ λ at_or_before.
          let l : s < suc (position h) = omega (arith, ltb-false (position h) s at_or_before) in
          let newer : nat_lt s (suc (position h)) ≡ true = lt-ltb s (suc (position h)) l in
          let missed : touches def ops h b ≡ false = elim (touches def ops h b) as (λ t. is_above s (cond t (Some (suc (position h))) None) ≡ false → t ≡ false) [ true ↦ λ f. absurd (true≢false (sym newer ∙ f)) | false ↦ λ _. refl ] parts.1 in
          bucket_rows-after_ops def.fold b def.table ops (rows def.table h) missed ∙ before parts.0
    ] refl

pub untouched_rows : UntouchedKeepsRows
untouched_rows n def start b s e = refl
untouched_rows n def (resumed i) b s e = refl
untouched_rows n def (h ▸ Commit ops) b s e = untouched_commit n def h ops b s e (λ f. untouched_rows n def h b s f)
untouched_rows n def (h ▸ x) b s e = either_way (λ g. bucket_rows def.fold b (rows def.table g)) (nat_lt (position h) s) (h ▸ x) (prefix h s) (untouched_rows n def h b s e)

-- what was in a bucket that wasn't touched after a position are the groups of its rows
pub stood_untouched : (n : ℕ) (def : ViewDef) (g : History) (s : ℕ) (b : ℤ) → touched n def g b s ≡ false → groups_at_last n def g s b ≡ groups_in def.fold (rows def.table g) b
stood_untouched n def start s b e = refl
stood_untouched n def (resumed i) s b e =
    elim (is_dirty n i b) as (λ t. is_above s (cond t (Some i.pos) None) ≡ false → cond (nat_lt s i.pos && t) (saved_groups n i b) (groups_in def.fold (rows def.table (resumed i)) b) ≡ groups_in def.fold (rows def.table (resumed i)) b) [
      | true ↦ λ f. cond-false _ (saved_groups n i b) (groups_in def.fold (rows def.table (resumed i)) b) (and_left (nat_lt s i.pos) true f)
      | false ↦ λ _. cond-false _ (saved_groups n i b) (groups_in def.fold (rows def.table (resumed i)) b) (and_right (nat_lt s i.pos) false refl)
    ] e
stood_untouched n def (g ▸ x) s b e = refl

-- a bucket that wasn't touched wasn't touched earlier
pub touched_prefix : (n : ℕ) (def : ViewDef) (h : History) (b : ℤ) (s p : ℕ) → touched n def h b s ≡ false → touched n def (prefix h p) b s ≡ false
touched_prefix n def start b s p e = e
touched_prefix n def (resumed i) b s p e = e
touched_prefix n def (h ▸ x) b s p e =
    elim (nat_lt (position h) p) as (λ t. touched n def (cond t (h ▸ x) (prefix h p)) b s ≡ false) [
      | true ↦ e
      | false ↦ touched_prefix n def h b s p (before x e)
    ]
  where
    before : (x : Event) → touched n def (h ▸ x) b s ≡ false → touched n def h b s ≡ false
    before (Commit ops) f = (or_parts _ _ (sym (is_above-later s (last_touch n def h b) (cond (touches def ops h b) (Some (suc (position h))) None)) ∙ f)).0
    before x f = f

pub touched_root : (n : ℕ) (def : ViewDef) (h : History) (b : ℤ) (s : ℕ) → touched n def h b s ≡ false → touched n def (root h) b s ≡ false
touched_root n def start b s e = e
touched_root n def (resumed i) b s e = e
touched_root n def (h ▸ x) b s e = touched_root n def h b s (before x e)
  where
    before : (x : Event) → touched n def (h ▸ x) b s ≡ false → touched n def h b s ≡ false
    before (Commit ops) f = (or_parts _ _ (sym (is_above-later s (last_touch n def h b) (cond (touches def ops h b) (Some (suc (position h))) None)) ∙ f)).0
    before x f = f

pub untouched_groups : UntouchedKeepsGroups
untouched_groups n def h b s e = ap (bucket_groups def.fold b) (untouched_rows n def h b s e) ∙ sym (stood_untouched n def (prefix h s) s b (touched_prefix n def h b s s e))

pub untouched_keeps : UntouchedKeeps
untouched_keeps n def h b s e = sym (cells_are_scratch def.fold (rows def.table h) b) ∙ ap (map (cells_of def.fold)) (untouched_groups n def h b s e)

-- ---- between two positions

rows_between : (n : ℕ) (def : ViewDef) (h : History) (b : ℤ) (r s : ℕ) → r ≤ s → is_above r (last_touch_at n def h s b) ≡ false → bucket_rows def.fold b (rows_at def.table h s) ≡ bucket_rows def.fold b (rows_at def.table h r)
rows_between n def h b r s l e = untouched_rows n def (prefix h s) b r e ∙ ap (λ g. bucket_rows def.fold b (rows def.table g)) (prefix_prefix h r s l)

groups_between : (n : ℕ) (def : ViewDef) (h : History) (b : ℤ) (r s : ℕ) → r ≤ s → is_above r (last_touch_at n def h s b) ≡ false → groups_at n def h s b ≡ groups_at n def h r b
groups_between n def h b r s l e =
    let before : touched n def (prefix h r) b r ≡ false = ap (λ g. touched n def g b r) (sym (prefix_prefix h r s l)) ∙ touched_prefix n def (prefix h s) b r r e in
    stood_untouched n def (prefix h s) s b (is_above-greater r s (last_touch_at n def h s b) l e)
    ∙ ap (bucket_groups def.fold b) (rows_between n def h b r s l e)
    ∙ sym (stood_untouched n def (prefix h r) r b before)

pub untouched_between : UntouchedBetween
untouched_between = record { rows = rows_between; groups = groups_between }

-- ---- rows of spans

span_rows_inside : (fold : Fold) (spans : List Span) (xs : List Row) (b : ℤ) → IsWidth fold.width → is_bucket fold.width b ≡ true → lies_in spans b ≡ true → bucket_rows fold b (rows_of_spans fold spans xs) ≡ bucket_rows fold b xs
span_rows_inside fold spans [] b width bucket inside = refl
span_rows_inside fold spans (row ∷ xs) b width bucket inside =
    let t = bucket_of fold.width row.at in
    let rest = span_rows_inside fold spans xs b width bucket inside in
    elim (holds fold.width b row.at && passes_all row fold.tests) as (λ c. (holds fold.width b row.at && passes_all row fold.tests) ≡ c → bucket_rows fold b (cond (lies_in spans t && passes_all row fold.tests) (row ∷ rows_of_spans fold spans xs) (rows_of_spans fold spans xs)) ≡ cond c (row ∷ bucket_rows fold b xs) (bucket_rows fold b xs)) [
      | true ↦ λ e.
          let parts = and_parts (holds fold.width b row.at) (passes_all row fold.tests) e in
          let lies : (lies_in spans t && passes_all row fold.tests) ≡ true = and_from _ _ (ap (lies_in spans) (sym (holds-one fold.width b row.at width bucket parts.0)) ∙ inside) parts.1 in
          ap (λ c. bucket_rows fold b (cond c (row ∷ rows_of_spans fold spans xs) (rows_of_spans fold spans xs))) lies
          ∙ ap (λ c. cond c (row ∷ bucket_rows fold b (rows_of_spans fold spans xs)) (bucket_rows fold b (rows_of_spans fold spans xs))) e
          ∙ ap (λ ys. row ∷ ys) rest
      | false ↦ λ e. dropped (lies_in spans t && passes_all row fold.tests) e ∙ rest
    ] refl
  where
    dropped : (c : Bool) → (holds fold.width b row.at && passes_all row fold.tests) ≡ false → bucket_rows fold b (cond c (row ∷ rows_of_spans fold spans xs) (rows_of_spans fold spans xs)) ≡ bucket_rows fold b (rows_of_spans fold spans xs)
    dropped true e = ap (λ c. cond c (row ∷ bucket_rows fold b (rows_of_spans fold spans xs)) (bucket_rows fold b (rows_of_spans fold spans xs))) e
    dropped false e = refl

span_rows_outside : (fold : Fold) (spans : List Span) (xs : List Row) (b : ℤ) → IsWidth fold.width → is_bucket fold.width b ≡ true → lies_in spans b ≡ false → bucket_rows fold b (rows_of_spans fold spans xs) ≡ []
span_rows_outside fold spans [] b width bucket outside = refl
span_rows_outside fold spans (row ∷ xs) b width bucket outside =
    let t = bucket_of fold.width row.at in
    let rest = span_rows_outside fold spans xs b width bucket outside in
    elim (holds fold.width b row.at && passes_all row fold.tests) as (λ c. (holds fold.width b row.at && passes_all row fold.tests) ≡ c → bucket_rows fold b (cond (lies_in spans t && passes_all row fold.tests) (row ∷ rows_of_spans fold spans xs) (rows_of_spans fold spans xs)) ≡ []) [
      | true ↦ λ e.
          let parts = and_parts (holds fold.width b row.at) (passes_all row fold.tests) e in
          let none : (lies_in spans t && passes_all row fold.tests) ≡ false = and_left _ _ (ap (lies_in spans) (sym (holds-one fold.width b row.at width bucket parts.0)) ∙ outside) in
          ap (λ c. bucket_rows fold b (cond c (row ∷ rows_of_spans fold spans xs) (rows_of_spans fold spans xs))) none ∙ rest
      | false ↦ λ e. dropped (lies_in spans t && passes_all row fold.tests) e ∙ rest
    ] refl
  where
    dropped : (c : Bool) → (holds fold.width b row.at && passes_all row fold.tests) ≡ false → bucket_rows fold b (cond c (row ∷ rows_of_spans fold spans xs) (rows_of_spans fold spans xs)) ≡ bucket_rows fold b (rows_of_spans fold spans xs)
    dropped true e = ap (λ c. cond c (row ∷ bucket_rows fold b (rows_of_spans fold spans xs)) (bucket_rows fold b (rows_of_spans fold spans xs))) e
    dropped false e = refl

pub spans_keep_groups : SpansKeepGroups
spans_keep_groups = record {
  inside = λ fold spans rows b width bucket inside. ap (bucket_groups fold b) (span_rows_inside fold spans rows b width bucket inside);
  outside = λ fold spans rows b width bucket outside. ap (bucket_groups fold b) (span_rows_outside fold spans rows b width bucket outside);
}
