-- The versions of a table after inserts and deletes.
use Rattle.std.proofs.Common.{◌≡◌, ℕ, ◌+◌, ◌<◌, ◌≤◌, ◌&&◌, Bool, true, false, cond, not, Option, Some, None, List, [], ◌∷◌, ◌++◌, length, map, get_or, take, take_all, drop, ◌-◌, ℤ, ◌+ℤ◌, refl, sym, ◌∙◌, ap, subst, arith}
use Rattle.std.proofs.lemmas.List.Folds.{list_all-append}
use Rattle.std.specs.List.{filter, list_all, list_any, count_by}
use Rattle.std.specs.Prelude.{nat_le, int_lt, ◌||◌, ◌==◌, Result, Ok, Err, IfOk, OnOk, OnErr, MatchResult}
use Rattle.std.proofs.lemmas.Int.{ints}
use Rattle.std.proofs.lemmas.Bool.{and_parts, and_from, le-leb, leb-true, not-true}
use Rattle.std.proofs.lemmas.List.{append-nil, append_assoc, map-append, length-append}
use Rattle.std.proofs.lemmas.List.Elements.{filter-append}
use Rattle.std.proofs.lemmas.List.Sums.{sum_by-cons}
use Rattle.std.proofs.Math.Bool.{and-false}
use Rattle.ts_bucket.specs.Bucket.{is_time}
use Rattle.ts_bucket.specs.Spans.{SpanValue, HullValue, in_span}
use Rattle.ts_schema.specs.declared.rows.Row.{Row}
use Rattle.ts_schema.specs.declared.conditions.Test.{Test}
use Rattle.ts_schema.specs.Conditions.{passes_all}
use Rattle.ts_schema.specs.Counts.{raised_by, RaisedUpTo, Ticks}
use Rattle.ts_model.specs.declared.events.Op.{Op}
use Rattle.ts_model.specs.declared.events.Op.TheVariants.{Insert, Delete}
use Rattle.ts_model.specs.Rows.{with_rows, in_order, after_op, after_ops}
use Rattle.ts_model.specs.Effect.{appended_by, taken_by, all_appended, all_taken, hull_with}
use Rattle.ts_model.specs.Effect as model
use Rattle.ts_model.specs.Reads.{rows_near, spans_meet}
use Rattle.ts_bucket.specs.Chunks.{chunk_of}
use Rattle.ts_model.proofs.RowLaws.{in_order-append, in_order-append_swap, filter-in_order, length-with_rows}
use Rattle.seg_rows.specs.Hulls.{joined_hull, hull_at, hull_of}
use Rattle.seg_rows.specs.Versions.{Version, AsOften, is_dead_at, visible_at, shown_at, rows_of, rows_at, newborn, is_taken, taken_at, after_kill}
use Rattle.seg_rows.proofs.HullLaws.{hull_of-append, joined_hull-assoc, joined_hull-none}
use Rattle.chunk_catalog.specs.Chunks.{ChunksValue, is_near, held_near, HaveTimes}
use Rattle.ts_bucket.specs.Chunks.{IsInterval, chunk_start}
use Rattle.chunk_catalog.proofs.PartLaws.{all_from_count, count_from_all, count_map}
use Rattle.row_versions.specs.declared.effects.Effect.{Effect}
use Rattle.row_versions.specs.declared.tables.Applied.{Applied}
use Rattle.row_versions.specs.Tables.{visible_rows, died_by, is_up_to, IsUpTo, Follows, Counts, IsEffect}
use Rattle.row_versions.proofs.OrderLaws.{in_order-as_often, hull_of-in_order, count_filter, hulls_swap}
use Rattle.seg_rows.proofs.VersionLaws.{rows_of-killed}
use Rattle.ts_schema.proofs.Cases.{same_number, count-append}

-- ---- what a position sees

visible_rows-append : (q : ℕ) (xs ys : List Version) → visible_rows q (xs ++ ys) ≡ visible_rows q xs ++ visible_rows q ys
visible_rows-append q xs ys = ap rows_of (filter-append (visible_at q) xs ys) ∙ map-append (λ v. v.row) (filter (visible_at q) xs) (filter (visible_at q) ys)

-- as many versions, and so as many rows that a position sees
visible_as_often : (q : ℕ) (xs ys : List Version) → AsOften xs ys → AsOften (visible_rows q xs) (visible_rows q ys)
visible_as_often q xs ys same = λ test.
    count_map (λ v. v.row) test (filter (visible_at q) xs)
    ∙ (count_filter (visible_at q) (λ v. test v.row) xs
    ∙ (same (λ v. visible_at q v && test v.row)
    ∙ (sym (count_filter (visible_at q) (λ v. test v.row) ys) ∙ sym (count_map (λ v. v.row) test (filter (visible_at q) ys)))))

rows_as_often : (xs ys : List Version) → AsOften xs ys → AsOften (rows_of xs) (rows_of ys)
rows_as_often xs ys same = λ test. count_map (λ v. v.row) test xs ∙ (same (λ v. test v.row) ∙ sym (count_map (λ v. v.row) test ys))

rows_of-newborn : (p : ℕ) (rows : List Row) → rows_of (map (newborn p) rows) ≡ rows
rows_of-newborn p [] = refl
rows_of-newborn p (row ∷ rows) = ap (λ rs. row ∷ rs) (rows_of-newborn p rows)

seen_newborn : (p q : ℕ) → p ≤ q → (rows : List Row) → visible_rows q (map (newborn p) rows) ≡ rows
seen_newborn p q h [] = refl
seen_newborn p q h (row ∷ rows) =
    let here : visible_at q (newborn p row) ≡ true = and_from (nat_le p q) true (le-leb p q h) refl in
    rw here (ap (λ rs. row ∷ rs) (seen_newborn p q h rows))

unseen : (p q : ℕ) → q < p → nat_le p q ≡ false
unseen p q h = elim (nat_le p q) as (λ b. nat_le p q ≡ b → b ≡ false) [
  | true ↦ λ e. absurd (omega (arith, leb-true p q e))
  | false ↦ λ e. refl
] refl

unseen_newborn : (p q : ℕ) → q < p → (rows : List Row) → visible_rows q (map (newborn p) rows) ≡ []
unseen_newborn p q h [] = refl
unseen_newborn p q h (row ∷ rows) = rw (unseen p q h) (unseen_newborn p q h rows)

newborn_up_to : (p : ℕ) (rows : List Row) → IsUpTo p (map (newborn p) rows)
newborn_up_to p [] = refl
newborn_up_to p (row ∷ rows) = rw (le-leb p p (omega arith)) (newborn_up_to p rows)

-- ---- inserts

module _ (p : ℕ) (old new : List Version) (rows : List Row) (put : AsOften new (old ++ map (newborn p) rows)) where
  put_seen : (q : ℕ) → in_order (visible_rows q new) ≡ in_order (visible_rows q old ++ visible_rows q (map (newborn p) rows))
  put_seen q = in_order-as_often (visible_rows q new) (visible_rows q (old ++ map (newborn p) rows)) (visible_as_often q new (old ++ map (newborn p) rows) put) ∙ ap in_order (visible_rows-append q old (map (newborn p) rows))

  pub put_earlier : (q : ℕ) → q < p → in_order (visible_rows q new) ≡ in_order (visible_rows q old)
  put_earlier q h = put_seen q ∙ ap in_order (ap (λ rs. visible_rows q old ++ rs) (unseen_newborn p q h rows) ∙ append-nil (visible_rows q old))

  pub put_later : (q : ℕ) → p ≤ q → in_order (visible_rows q new) ≡ with_rows rows (in_order (visible_rows q old))
  put_later q h =
      put_seen q ∙ (ap (λ rs. in_order (visible_rows q old ++ rs)) (seen_newborn p q h rows)
      ∙ (in_order-append_swap (visible_rows q old) rows ∙ in_order-append rows (visible_rows q old)))

  pub put_stored : in_order (rows_of new) ≡ in_order (rows_of old ++ rows)
  put_stored =
      in_order-as_often (rows_of new) (rows_of (old ++ map (newborn p) rows)) (rows_as_often new (old ++ map (newborn p) rows) put)
      ∙ ap in_order (map-append (λ v. v.row) old (map (newborn p) rows) ∙ ap (λ rs. rows_of old ++ rs) (rows_of-newborn p rows))

  pub put_up_to : IsUpTo p old → IsUpTo p new
  put_up_to h =
      all_from_count (is_up_to p) new
      (put (λ v. not (is_up_to p v))
      ∙ (count-append (λ v. not (is_up_to p v)) old (map (newborn p) rows)
      ∙ omega (arith, count_from_all (is_up_to p) old h, count_from_all (is_up_to p) (map (newborn p) rows) (newborn_up_to p rows))))

-- ---- deletes

still_dead : (p q : ℕ) (died : Option ℕ) → p ≤ q → died_by p died ≡ true → is_dead_at q died ≡ is_dead_at p died
still_dead p q None h e = refl
still_dead p q (Some d) h e = le-leb d q (omega (arith, h, leb-true d p e)) ∙ sym e

not_yet_dead : (p q : ℕ) (died : Option ℕ) → q < p → is_dead_at p died ≡ false → is_dead_at q died ≡ false
not_yet_dead p q None h e = refl
not_yet_dead p q (Some d) h e = elim (nat_le d q) as (λ b. nat_le d q ≡ b → b ≡ false) [
  | true ↦ λ f. sym (le-leb d p (omega (arith, h, leb-true d q f))) ∙ e
  | false ↦ λ f. refl
] refl

-- a later position sees what p sees, if no change is later than p
later_seen : (p q : ℕ) (v : Version) → p ≤ q → is_up_to p v ≡ true → visible_at q v ≡ visible_at p v
later_seen p q v h e =
    let parts = and_parts (nat_le v.born p) (died_by p v.died) e in
    let born : nat_le v.born q ≡ nat_le v.born p = le-leb v.born q (omega (arith, h, leb-true v.born p parts.0)) ∙ sym parts.0 in
    ap (λ b. b && not (is_dead_at q v.died)) born ∙ ap (λ b. nat_le v.born p && not b) (still_dead p q v.died h parts.1)

kill_cases : (q : ℕ) (s t : Bool) (v k : Version) → visible_at q v ≡ s → visible_at q k ≡ false → visible_at q (cond (s && t) k v) ≡ (s && not t)
kill_cases q true true v k e f = f
kill_cases q true false v k e f = e
kill_cases q false t v k e f = e

kill_later_one : (p q : ℕ) (tests : List Test) (v : Version) → p ≤ q → is_up_to p v ≡ true → visible_at q (after_kill p tests v) ≡ (visible_at q v && not (passes_all v.row tests))
kill_later_one p q tests v h e =
    let gone : visible_at q (record { row = v.row; born = v.born; died = Some p }) ≡ false = ap (λ b. nat_le v.born q && not b) (le-leb p q h) ∙ and-false (nat_le v.born q) in
    kill_cases q (visible_at p v) (passes_all v.row tests) v (record { row = v.row; born = v.born; died = Some p }) (later_seen p q v h e) gone
    ∙ ap (λ s. s && not (passes_all v.row tests)) (sym (later_seen p q v h e))

earlier_cases : (q : ℕ) (t : Bool) (v k : Version) → (t ≡ true → visible_at q k ≡ visible_at q v) → visible_at q (cond t k v) ≡ visible_at q v
earlier_cases q true v k h = h refl
earlier_cases q false v k h = refl

kill_earlier_one : (p q : ℕ) (tests : List Test) (v : Version) → q < p → visible_at q (after_kill p tests v) ≡ visible_at q v
kill_earlier_one p q tests v h =
    earlier_cases q (is_taken p tests v) v (record { row = v.row; born = v.born; died = Some p })
    (λ taken.
    let seen = and_parts (visible_at p v) (passes_all v.row tests) taken in
    let alive = and_parts (nat_le v.born p) (not (is_dead_at p v.died)) seen.0 in
    ap (λ b. nat_le v.born q && not b) (unseen p q h ∙ sym (not_yet_dead p q v.died h (not-true (is_dead_at p v.died) alive.1))))

row_cases : (t : Bool) (v : Version) (died : Option ℕ) → (cond t (record { row = v.row; born = v.born; died = died }) v).row ≡ v.row
row_cases true v died = refl
row_cases false v died = refl

kept_row : (p : ℕ) (tests : List Test) (v : Version) → (after_kill p tests v).row ≡ v.row
kept_row p tests v = row_cases (is_taken p tests v) v (Some p)

seen-cons : (q : ℕ) (v : Version) (vs : List Version) → visible_rows q (v ∷ vs) ≡ cond (visible_at q v) (v.row ∷ visible_rows q vs) (visible_rows q vs)
seen-cons q v vs = elim (visible_at q v) as (λ b. rows_of (cond b (v ∷ filter (visible_at q) vs) (filter (visible_at q) vs)) ≡ cond b (v.row ∷ visible_rows q vs) (visible_rows q vs)) [ true ↦ refl | false ↦ refl ]

taken-cons : (p : ℕ) (tests : List Test) (v : Version) (vs : List Version) → taken_at p tests (v ∷ vs) ≡ cond (is_taken p tests v) (v.row ∷ taken_at p tests vs) (taken_at p tests vs)
taken-cons p tests v vs = elim (is_taken p tests v) as (λ b. rows_of (cond b (v ∷ filter (is_taken p tests) vs) (filter (is_taken p tests) vs)) ≡ cond b (v.row ∷ taken_at p tests vs) (taken_at p tests vs)) [ true ↦ refl | false ↦ refl ]

filter-cond : (s : Bool) (t : Row → Bool) (row : Row) (rows : List Row) → filter t (cond s (row ∷ rows) rows) ≡ cond (s && t row) (row ∷ filter t rows) (filter t rows)
filter-cond true t row rows = refl
filter-cond false t row rows = refl

pub kill_earlier : (p q : ℕ) (tests : List Test) (vs : List Version) → q < p → visible_rows q (map (after_kill p tests) vs) ≡ visible_rows q vs
kill_earlier p q tests [] h = refl
kill_earlier p q tests (v ∷ vs) h =
    seen-cons q (after_kill p tests v) (map (after_kill p tests) vs)
    ∙ (ap (λ b. cond b ((after_kill p tests v).row ∷ visible_rows q (map (after_kill p tests) vs)) (visible_rows q (map (after_kill p tests) vs))) (kill_earlier_one p q tests v h)
    ∙ (ap (λ r. cond (visible_at q v) (r ∷ visible_rows q (map (after_kill p tests) vs)) (visible_rows q (map (after_kill p tests) vs))) (kept_row p tests v)
    ∙ (ap (λ rs. cond (visible_at q v) (v.row ∷ rs) rs) (kill_earlier p q tests vs h) ∙ sym (seen-cons q v vs))))

pub kill_later : (p q : ℕ) (tests : List Test) (vs : List Version) → p ≤ q → IsUpTo p vs → visible_rows q (map (after_kill p tests) vs) ≡ filter (λ row. not (passes_all row tests)) (visible_rows q vs)
kill_later p q tests [] h e = refl
kill_later p q tests (v ∷ vs) h e =
    let parts = and_parts (is_up_to p v) (list_all (is_up_to p) vs) e in
    seen-cons q (after_kill p tests v) (map (after_kill p tests) vs)
    ∙ (ap (λ b. cond b ((after_kill p tests v).row ∷ visible_rows q (map (after_kill p tests) vs)) (visible_rows q (map (after_kill p tests) vs))) (kill_later_one p q tests v h parts.0)
    ∙ (ap (λ r. cond (visible_at q v && not (passes_all v.row tests)) (r ∷ visible_rows q (map (after_kill p tests) vs)) (visible_rows q (map (after_kill p tests) vs))) (kept_row p tests v)
    ∙ (ap (λ rs. cond (visible_at q v && not (passes_all v.row tests)) (v.row ∷ rs) rs) (kill_later p q tests vs h parts.1)
    ∙ (sym (filter-cond (visible_at q v) (λ row. not (passes_all row tests)) v.row (visible_rows q vs)) ∙ ap (filter (λ row. not (passes_all row tests))) (sym (seen-cons q v vs))))))

pub taken_is : (p : ℕ) (tests : List Test) (vs : List Version) → taken_at p tests vs ≡ filter (λ row. passes_all row tests) (visible_rows p vs)
taken_is p tests [] = refl
taken_is p tests (v ∷ vs) =
    taken-cons p tests v vs
    ∙ (ap (λ rs. cond (visible_at p v && passes_all v.row tests) (v.row ∷ rs) rs) (taken_is p tests vs)
    ∙ (sym (filter-cond (visible_at p v) (λ row. passes_all row tests) v.row (visible_rows p vs)) ∙ ap (filter (λ row. passes_all row tests)) (sym (seen-cons p v vs))))

up_to_cases : (p : ℕ) (t : Bool) (v : Version) → is_up_to p v ≡ true → is_up_to p (cond t (record { row = v.row; born = v.born; died = Some p }) v) ≡ true
up_to_cases p true v e = and_from (nat_le v.born p) (nat_le p p) ((and_parts (nat_le v.born p) (died_by p v.died) e).0) (le-leb p p (omega arith))
up_to_cases p false v e = e

pub kill_up_to : (p : ℕ) (tests : List Test) (vs : List Version) → IsUpTo p vs → IsUpTo p (map (after_kill p tests) vs)
kill_up_to p tests [] e = refl
kill_up_to p tests (v ∷ vs) e =
    let parts = and_parts (is_up_to p v) (list_all (is_up_to p) vs) e in
    and_from (is_up_to p (after_kill p tests v)) (list_all (is_up_to p) (map (after_kill p tests) vs)) (up_to_cases p (is_taken p tests v) v parts.0) (kill_up_to p tests vs parts.1)

died_more : (p q : ℕ) (died : Option ℕ) → p ≤ q → died_by p died ≡ true → died_by q died ≡ true
died_more p q None h e = refl
died_more p q (Some d) h e = le-leb d q (omega (arith, h, leb-true d p e))

-- no change later than p: none later than a later position
pub up_to_more : (p q : ℕ) (vs : List Version) → p ≤ q → IsUpTo p vs → IsUpTo q vs
up_to_more p q [] h e = refl
up_to_more p q (v ∷ vs) h e =
    let parts = and_parts (is_up_to p v) (list_all (is_up_to p) vs) e in
    let here = and_parts (nat_le v.born p) (died_by p v.died) parts.0 in
    and_from (is_up_to q v) (list_all (is_up_to q) vs)
    (and_from (nat_le v.born q) (died_by q v.died) (le-leb v.born q (omega (arith, h, leb-true v.born p here.0))) (died_more p q v.died h here.1)) (up_to_more p q vs h parts.1)

-- ---- one operation

appended_here : (t : ℕ) (rows : List Row) → all_appended t (Insert t rows ∷ []) ≡ rows
appended_here t rows = ap (λ b. cond b rows [] ++ []) (same_number t) ∙ append-nil rows

taken_here : (t : ℕ) (tests : List Test) (rows : List Row) → all_taken t (Delete t tests ∷ []) rows ≡ filter (λ row. passes_all row tests) rows
taken_here t tests rows = ap (λ b. cond b (filter (λ row. passes_all row tests) rows) [] ++ []) (same_number t) ∙ append-nil (filter (λ row. passes_all row tests) rows)

pub follows_insert : (t : ℕ) (rows : List Row) (p : ℕ) (old new : ChunksValue) → new.interval ≡ old.interval → AsOften new.versions (old.versions ++ map (newborn p) rows) → IsUpTo p old.versions
    → Follows t (Insert t rows ∷ []) p old new
follows_insert t rows p old new same put e = record {
  interval = same;
  earlier = λ q h. put_earlier p old.versions new.versions rows put q h;
  later = λ q h. put_later p old.versions new.versions rows put q h ∙ ap (λ b. cond b (with_rows rows (in_order (visible_rows q old.versions))) (in_order (visible_rows q old.versions))) (sym (same_number t));
  stored = put_stored p old.versions new.versions rows put ∙ ap (λ rs. in_order (rows_of old.versions ++ rs)) (sym (appended_here t rows));
  up_to = put_up_to p old.versions new.versions rows put e;
}

pub follows_delete : (t : ℕ) (tests : List Test) (p : ℕ) (old new : ChunksValue) → new.interval ≡ old.interval → new.versions ≡ map (after_kill p tests) old.versions → IsUpTo p old.versions
    → Follows t (Delete t tests ∷ []) p old new
follows_delete t tests p old new same killed e = record {
  interval = same;
  earlier = λ q h. ap (λ vs. in_order (visible_rows q vs)) killed ∙ ap in_order (kill_earlier p q tests old.versions h);
  later = λ q h.
      ap (λ vs. in_order (visible_rows q vs)) killed
      ∙ (ap in_order (kill_later p q tests old.versions h e)
      ∙ (sym (filter-in_order (λ row. not (passes_all row tests)) (visible_rows q old.versions))
      ∙ ap (λ b. cond b (filter (λ row. not (passes_all row tests)) (in_order (visible_rows q old.versions))) (in_order (visible_rows q old.versions))) (sym (same_number t))));
  stored = ap (λ vs. in_order (rows_of vs)) killed ∙ (ap in_order (rows_of-killed p tests old.versions) ∙ ap in_order (sym (append-nil (rows_of old.versions))));
  up_to = subst (IsUpTo p) (sym killed) (kill_up_to p tests old.versions e);
}

pub counts_insert : (t : ℕ) (rows now : List Row) (before after : Effect) → after.inserted ≡ before.inserted + length rows → after.removed ≡ before.removed → after.hull ≡ joined_hull before.hull (hull_of rows)
    → Counts t (Insert t rows ∷ []) now before after
counts_insert t rows now before after inserted removed hull = record {
  inserted = inserted ∙ ap (λ rs. before.inserted + length rs) (sym (appended_here t rows));
  removed = removed ∙ omega arith;
  hull = hull ∙ ap (λ rs. joined_hull before.hull (hull_of rs)) (sym (append-nil (all_appended t (Insert t rows ∷ [])) ∙ appended_here t rows));
}

pub counts_delete : (t : ℕ) (tests : List Test) (p : ℕ) (vs : List Version) (before after : Effect) → after.inserted ≡ before.inserted → after.removed ≡ before.removed + length (taken_at p tests vs)
    → after.hull ≡ joined_hull before.hull (hull_of (taken_at p tests vs)) → Counts t (Delete t tests ∷ []) (in_order (visible_rows p vs)) before after
counts_delete t tests p vs before after inserted removed hull =
    let sorted : all_taken t (Delete t tests ∷ []) (in_order (visible_rows p vs)) ≡ in_order (taken_at p tests vs) =
    taken_here t tests (in_order (visible_rows p vs)) ∙ (filter-in_order (λ row. passes_all row tests) (visible_rows p vs) ∙ ap in_order (sym (taken_is p tests vs))) in
    record {
      inserted = inserted ∙ omega arith;
      removed = removed ∙ ap (λ n. before.removed + n) (sym (ap length sorted ∙ (length-with_rows (taken_at p tests vs) [] ∙ omega arith)));
      hull = hull ∙ ap (joined_hull before.hull) (sym (ap hull_of sorted ∙ hull_of-in_order (taken_at p tests vs)));
    }

-- an operation on another table changes nothing
pub skip_insert : (t u : ℕ) (rows : List Row) (p : ℕ) (x : ChunksValue) → (u == t) ≡ false → IsUpTo p x.versions → Follows t (Insert u rows ∷ []) p x x
skip_insert t u rows p x other e = record {
  interval = refl;
  earlier = λ q h. refl;
  later = λ q h. ap (λ b. cond b (with_rows rows (in_order (visible_rows q x.versions))) (in_order (visible_rows q x.versions))) (sym other);
  stored = ap in_order (sym (append-nil (rows_of x.versions))) ∙ ap (λ b. in_order (rows_of x.versions ++ (cond b rows [] ++ []))) (sym other);
  up_to = e;
}

pub skip_delete : (t u : ℕ) (tests : List Test) (p : ℕ) (x : ChunksValue) → (u == t) ≡ false → IsUpTo p x.versions → Follows t (Delete u tests ∷ []) p x x
skip_delete t u tests p x other e = record {
  interval = refl;
  earlier = λ q h. refl;
  later = λ q h. ap (λ b. cond b (filter (λ row. not (passes_all row tests)) (in_order (visible_rows q x.versions))) (in_order (visible_rows q x.versions))) (sym other);
  stored = ap in_order (sym (append-nil (rows_of x.versions)));
  up_to = e;
}

pub skip_insert_counts : (t u : ℕ) (rows now : List Row) (effect : Effect) → (u == t) ≡ false → Counts t (Insert u rows ∷ []) now effect effect
skip_insert_counts t u rows now effect other =
    let none : all_appended t (Insert u rows ∷ []) ≡ [] = ap (λ b. cond b rows [] ++ []) other in
    record {
      inserted = sym (ap (λ rs. effect.inserted + length rs) none ∙ omega arith);
      removed = omega arith;
      hull = sym (ap (λ rs. joined_hull effect.hull (hull_of (rs ++ []))) none ∙ joined_hull-none effect.hull);
    }

pub skip_delete_counts : (t u : ℕ) (tests : List Test) (now : List Row) (effect : Effect) → (u == t) ≡ false → Counts t (Delete u tests ∷ []) now effect effect
skip_delete_counts t u tests now effect other =
    let none : all_taken t (Delete u tests ∷ []) now ≡ [] = ap (λ b. cond b (filter (λ row. passes_all row tests) now) [] ++ []) other in
    record {
      inserted = omega arith;
      removed = sym (ap (λ rs. effect.removed + length rs) none ∙ omega arith);
      hull = sym (ap (λ rs. joined_hull effect.hull (hull_of rs)) none ∙ joined_hull-none effect.hull);
    }

-- ---- many operations

appended-cons : (t : ℕ) (op : Op) (ops : List Op) → all_appended t (op ∷ ops) ≡ all_appended t (op ∷ []) ++ all_appended t ops
appended-cons t op ops = ap (λ rs. rs ++ all_appended t ops) (sym (append-nil (appended_by t op)))

taken-cons_ops : (t : ℕ) (op : Op) (ops : List Op) (rows : List Row) → all_taken t (op ∷ ops) rows ≡ all_taken t (op ∷ []) rows ++ all_taken t ops (after_op t op rows)
taken-cons_ops t op ops rows = ap (λ rs. rs ++ all_taken t ops (after_op t op rows)) (sym (append-nil (taken_by t op rows)))

more_stored : (cs bs ys xs : List Row) → in_order ys ≡ in_order (xs ++ cs) → in_order (ys ++ bs) ≡ in_order (xs ++ (cs ++ bs))
more_stored cs bs ys xs e =
    in_order-append_swap ys bs
    ∙ (in_order-append bs ys
    ∙ (ap (with_rows bs) e
    ∙ (sym (in_order-append bs (xs ++ cs)) ∙ (in_order-append_swap bs (xs ++ cs) ∙ ap in_order (append_assoc xs cs bs)))))

pub follows_none : (t p : ℕ) (x : ChunksValue) → IsUpTo p x.versions → Follows t [] p x x
follows_none t p x e = record {
  interval = refl;
  earlier = λ q h. refl;
  later = λ q h. refl;
  stored = ap in_order (sym (append-nil (rows_of x.versions)));
  up_to = e;
}

pub follows_more : (t : ℕ) (op : Op) (ops : List Op) (p : ℕ) (x y z : ChunksValue) → Follows t (op ∷ []) p x y → Follows t ops p y z → Follows t (op ∷ ops) p x z
follows_more t op ops p x y z one rest = record {
  interval = rest.interval ∙ one.interval;
  earlier = λ q h. rest.earlier q h ∙ one.earlier q h;
  later = λ q h. rest.later q h ∙ ap (after_ops t ops) (one.later q h);
  stored = rest.stored ∙ (more_stored (all_appended t (op ∷ [])) (all_appended t ops) (rows_of y.versions) (rows_of x.versions) one.stored ∙ ap (λ rs. in_order (rows_of x.versions ++ rs)) (sym (appended-cons t op ops)));
  up_to = rest.up_to;
}

pub counts_none : (t : ℕ) (rows : List Row) (effect : Effect) → Counts t [] rows effect effect
counts_none t rows effect = record { inserted = omega arith; removed = omega arith; hull = sym (joined_hull-none effect.hull) }

hulls_more : (h : Option HullValue) (cs ts bs us : List Row) → joined_hull (joined_hull h (hull_of (cs ++ ts))) (hull_of (bs ++ us)) ≡ joined_hull h (hull_of ((cs ++ bs) ++ (ts ++ us)))
hulls_more h cs ts bs us =
    sym (joined_hull-assoc h (hull_of (cs ++ ts)) (hull_of (bs ++ us)))
    ∙ ap (joined_hull h)
    (ap (λ g. joined_hull g (hull_of (bs ++ us))) (hull_of-append cs ts)
    ∙ (sym (joined_hull-assoc (hull_of cs) (hull_of ts) (hull_of (bs ++ us)))
    ∙ (ap (λ g. joined_hull (hull_of cs) (joined_hull (hull_of ts) g)) (hull_of-append bs us)
    ∙ (ap (joined_hull (hull_of cs)) (hulls_swap (hull_of ts) (hull_of bs) (hull_of us) ∙ ap (joined_hull (hull_of bs)) (sym (hull_of-append ts us)))
    ∙ (joined_hull-assoc (hull_of cs) (hull_of bs) (hull_of (ts ++ us))
    ∙ (ap (λ g. joined_hull g (hull_of (ts ++ us))) (sym (hull_of-append cs bs)) ∙ sym (hull_of-append (cs ++ bs) (ts ++ us))))))))

pub counts_more : (t : ℕ) (op : Op) (ops : List Op) (rows : List Row) (x y z : Effect) → Counts t (op ∷ []) rows x y → Counts t ops (after_op t op rows) y z → Counts t (op ∷ ops) rows x z
counts_more t op ops rows x y z one rest = record {
  inserted = omega (arith, one.inserted, rest.inserted, ap length (appended-cons t op ops), length-append (all_appended t (op ∷ [])) (all_appended t ops));
  removed = omega (arith, one.removed, rest.removed, ap length (taken-cons_ops t op ops rows), length-append (all_taken t (op ∷ []) rows) (all_taken t ops (after_op t op rows)));
  hull =
      rest.hull
      ∙ (ap (λ h. joined_hull h (hull_of (all_appended t ops ++ all_taken t ops (after_op t op rows)))) one.hull
      ∙ (hulls_more x.hull (all_appended t (op ∷ [])) (all_taken t (op ∷ []) rows) (all_appended t ops) (all_taken t ops (after_op t op rows))
      ∙ (ap (λ rs. joined_hull x.hull (hull_of (rs ++ (all_taken t (op ∷ []) rows ++ all_taken t ops (after_op t op rows))))) (sym (appended-cons t op ops))
      ∙ ap (λ rs. joined_hull x.hull (hull_of (all_appended t (op ∷ ops) ++ rs))) (sym (taken-cons_ops t op ops rows)))));
}

-- ---- what operations require

-- rows of operations that have times have them in the first operation and in the rest
pub first_times : (t : ℕ) (op : Op) (ops : List Op) → HaveTimes (all_appended t (op ∷ ops)) → HaveTimes (all_appended t (op ∷ []))
first_times t op ops times =
    list_all-append (λ row. is_time row.at) (appended_by t op) []
    ∙ and_from (list_all (λ row. is_time row.at) (appended_by t op)) true
    (and_parts (list_all (λ row. is_time row.at) (appended_by t op)) (list_all (λ row. is_time row.at) (all_appended t ops)) (sym (list_all-append (λ row. is_time row.at) (appended_by t op) (all_appended t ops)) ∙ times)).0 refl

pub rest_times : (t : ℕ) (op : Op) (ops : List Op) → HaveTimes (all_appended t (op ∷ ops)) → HaveTimes (all_appended t ops)
rest_times t op ops times =
    (and_parts (list_all (λ row. is_time row.at) (appended_by t op)) (list_all (λ row. is_time row.at) (all_appended t ops)) (sym (list_all-append (λ row. is_time row.at) (appended_by t op) (all_appended t ops)) ∙ times)).1

-- one more operation, whose rows have times
pub pushed_times : (t : ℕ) (ops : List Op) (op : Op) → HaveTimes (all_appended t ops) → HaveTimes (appended_by t op) → HaveTimes (all_appended t (ops ++ op ∷ []))
pushed_times t [] op times here =
    list_all-append (λ row. is_time row.at) (appended_by t op) [] ∙ and_from (list_all (λ row. is_time row.at) (appended_by t op)) true here refl
pushed_times t (x ∷ ops) op times here =
    let first = (and_parts (list_all (λ row. is_time row.at) (appended_by t x)) (list_all (λ row. is_time row.at) (all_appended t ops)) (sym (list_all-append (λ row. is_time row.at) (appended_by t x) (all_appended t ops)) ∙ times)).0 in
    list_all-append (λ row. is_time row.at) (appended_by t x) (all_appended t (ops ++ op ∷ []))
    ∙ and_from (list_all (λ row. is_time row.at) (appended_by t x)) (list_all (λ row. is_time row.at) (all_appended t (ops ++ op ∷ []))) first (pushed_times t ops op (rest_times t x ops times) here)

pub times_here : (t : ℕ) (new : List Row) → HaveTimes (all_appended t (Insert t new ∷ [])) → HaveTimes new
times_here t new times =
    ap (list_all (λ row. is_time row.at)) (sym (append-nil new) ∙ ap (λ b. cond b new [] ++ []) (sym (same_number t))) ∙ times

-- ---- the loop over operations

-- the operations from here to any end are those from the start to that end
pub record Leads (t p : ℕ) (ops : List Op) (x : ChunksValue) (left : List Op) (y : ChunksValue) (effect : Effect) : Type 0 where
  pub table : (z : ChunksValue) → Follows t left p y z → Follows t ops p x z
  pub counted : (fresh after : Effect) → fresh.inserted ≡ 0 → fresh.removed ≡ 0 → fresh.hull ≡ None → Counts t left (in_order (visible_rows p y.versions)) effect after → Counts t ops (in_order (visible_rows p x.versions)) fresh after
  pub up_to : IsUpTo p y.versions
  pub times : HaveTimes (all_appended t left)

pub leads_start : (t p : ℕ) (ops : List Op) (x : ChunksValue) (effect : Effect) → effect.inserted ≡ 0 → effect.removed ≡ 0 → effect.hull ≡ None → IsUpTo p x.versions → HaveTimes (all_appended t ops) → Leads t p ops x ops x effect
leads_start t p ops x effect i r h e f = record {
  table = λ z follows. follows;
  counted = λ fresh after zi zr zh counts. record {
    inserted = counts.inserted ∙ ap (λ n. n + length (all_appended t ops)) (i ∙ sym zi);
    removed = counts.removed ∙ ap (λ n. n + length (all_taken t ops (in_order (visible_rows p x.versions)))) (r ∙ sym zr);
    hull = counts.hull ∙ ap (λ g. joined_hull g (hull_of (all_appended t ops ++ all_taken t ops (in_order (visible_rows p x.versions))))) (h ∙ sym zh);
  };
  up_to = e;
  times = f;
}

pub leads_on : (t p : ℕ) (ops : List Op) (x : ChunksValue) (op : Op) (left : List Op) (y z : ChunksValue) (before after : Effect)
    → Leads t p ops x (op ∷ left) y before → Follows t (op ∷ []) p y z → Counts t (op ∷ []) (in_order (visible_rows p y.versions)) before after → Leads t p ops x left z after
leads_on t p ops x op left y z before after leads one counts = record {
  table = λ w rest. leads.table w (follows_more t op left p y z w one rest);
  counted = λ fresh last zi zr zh rest. leads.counted fresh last zi zr zh
      (counts_more t op left (in_order (visible_rows p y.versions)) before after last counts (subst (λ rows. Counts t left rows after last) (one.later p (omega arith)) rest));
  up_to = one.up_to;
  times = rest_times t op left leads.times;
}

-- the hull of rows, as histories have it
pub hulls_same : (rows : List Row) → model.hull_of rows ≡ hull_of rows
hulls_same [] = refl
hulls_same (row ∷ rows) = ap (λ h. Some (hull_with row.at h)) (hulls_same rows) ∙ joined row.at (hull_of rows)
  where
    joined : (t : ℤ) (h : Option HullValue) → Some (hull_with t h) ≡ joined_hull (hull_at t) h
    joined t None = refl
    joined t (Some h) = refl

pub effect_is : (t : ℕ) (ops : List Op) (rows : List Row) (fresh effect : Effect) → fresh.inserted ≡ 0 → fresh.removed ≡ 0 → fresh.hull ≡ None → Counts t ops rows fresh effect → IsEffect t ops rows effect
effect_is t ops rows fresh effect i r h counts = record {
  inserted = counts.inserted ∙ ap (λ n. n + length (all_appended t ops)) i ∙ omega arith;
  removed = counts.removed ∙ ap (λ n. n + length (all_taken t ops rows)) r ∙ omega arith;
  hull = counts.hull ∙ (ap (λ g. joined_hull g (hull_of (all_appended t ops ++ all_taken t ops rows))) h ∙ sym (hulls_same (all_appended t ops ++ all_taken t ops rows)));
}

-- the rest of a list after its first item
rest_is : (op : Op) (left rest : List Op) → 1 ≤ length left → rest ≡ take (length left - 1) (drop 1 left) → op ≡ get_or left 0 op → left ≡ op ∷ rest
rest_is op [] rest some e f = absurd (omega (arith, some))
rest_is op (o ∷ os) rest some e f = let all : take (length (o ∷ os) - 1) os ≡ os = take_all (length (o ∷ os) - 1) os (omega arith) in ap (λ r. o ∷ r) (sym (e ∙ all)) ∙ ap (λ x. x ∷ rest) (sym f)

pub leads_step : (t p : ℕ) (ops : List Op) (x : ChunksValue) (op : Op) (left rest : List Op) (y z : ChunksValue) (before after : Effect) → 1 ≤ length left → rest ≡ take (length left - 1) (drop 1 left) → op ≡ get_or left 0 op
    → Leads t p ops x left y before → Follows t (op ∷ []) p y z → Counts t (op ∷ []) (in_order (visible_rows p y.versions)) before after → Leads t p ops x rest z after
leads_step t p ops x op left rest y z before after some e f leads one counts =
    leads_on t p ops x op rest y z before after (subst (λ (l : List Op). Leads t p ops x l y before) (rest_is op left rest some e f) leads) one counts

nothing_left : (left : List Op) → length left < 1 → [] ≡ left
nothing_left [] e = refl
nothing_left (op ∷ ops) e = absurd (omega (arith, e))

-- if no operation is left, all were applied
pub leads_table : (t p : ℕ) (ops : List Op) (x : ChunksValue) (left : List Op) (y : ChunksValue) (effect : Effect) → length left < 1 → Leads t p ops x left y effect → Follows t ops p x y
leads_table t p ops x left y effect none leads = leads.table y (subst (λ (l : List Op). Follows t l p y y) (nothing_left left none) (follows_none t p y leads.up_to))

pub leads_effect : (t p : ℕ) (ops : List Op) (x : ChunksValue) (left : List Op) (y : ChunksValue) (effect : Effect) → length left < 1 → Leads t p ops x left y effect → IsEffect t ops (in_order (visible_rows p x.versions)) effect
leads_effect t p ops x left y effect none leads =
    let fresh : Effect = record { inserted = 0; removed = 0; hull = None } in
    let here = in_order (visible_rows p y.versions) in
    effect_is t ops (in_order (visible_rows p x.versions)) fresh effect refl refl refl (leads.counted fresh effect refl refl refl (subst (λ (l : List Op). Counts t l here effect effect) (nothing_left left none) (counts_none t here effect)))

-- ---- scans

shown-cons : (q : ℕ) (s : SpanValue) (v : Version) (vs : List Version) → rows_at q s (v ∷ vs) ≡ cond (shown_at q s v) (v.row ∷ rows_at q s vs) (rows_at q s vs)
shown-cons q s v vs = elim (shown_at q s v) as (λ b. rows_of (cond b (v ∷ filter (shown_at q s) vs) (filter (shown_at q s) vs)) ≡ cond b (v.row ∷ rows_at q s vs) (rows_at q s vs)) [ true ↦ refl | false ↦ refl ]

-- the rows of a span that a position sees are a selection of those that it sees
pub shown_is : (q : ℕ) (s : SpanValue) (vs : List Version) → rows_at q s vs ≡ filter (λ row. in_span s row.at) (visible_rows q vs)
shown_is q s [] = refl
shown_is q s (v ∷ vs) =
    shown-cons q s v vs
    ∙ (ap (λ rs. cond (visible_at q v && in_span s v.row.at) (v.row ∷ rs) rs) (shown_is q s vs)
    ∙ (sym (filter-cond (visible_at q v) (λ row. in_span s row.at) v.row (visible_rows q vs)) ∙ ap (filter (λ row. in_span s row.at)) (sym (seen-cons q v vs))))

or_false : (d : Bool) → d ≡ (d || false)
or_false true = refl
or_false false = refl

meets_same : (a b : Bool) (c d : Bool) → c ≡ true → (a && b && d) ≡ ((a && b && c && d) || false)
meets_same true true true d e = or_false d
meets_same true true false d e = absurd (cc)
meets_same true false c d e = refl
meets_same false b c d e = refl

near_one : (interval : ℤ) (s : SpanValue) (v : Version) → IsInterval interval → is_near interval s v ≡ list_any (spans_meet (chunk_of interval v.row.at)) (s ∷ [])
near_one interval s v wide =
    let some : int_lt (chunk_start interval v.row.at) (chunk_start interval v.row.at +ℤ interval) ≡ true = let least = wide.0 in grind (arith, ints) in
    meets_same (int_lt (chunk_start interval v.row.at) s.hi) (int_lt s.lo (chunk_start interval v.row.at +ℤ interval)) (int_lt (chunk_start interval v.row.at) (chunk_start interval v.row.at +ℤ interval)) (int_lt s.lo s.hi) some

count_same : {X : Type 0} (p q : X → Bool) → ((x : X) → p x ≡ q x) → (xs : List X) → count_by p xs ≡ count_by q xs
count_same p q same [] = refl
count_same p q same (x ∷ xs) = sum_by-cons (λ y. cond (p y) 1 0) x xs ∙ (ap (λ b. cond b 1 0 + count_by p xs) (same x) ∙ (ap (λ n. cond (q x) 1 0 + n) (count_same p q same xs) ∙ sym (sum_by-cons (λ y. cond (q y) 1 0) x xs)))

-- the versions in chunks that meet a span are the stored rows in these chunks
pub held_is : (interval : ℤ) (s : SpanValue) (vs : List Version) → IsInterval interval → held_near interval s vs ≡ rows_near interval (rows_of vs) (s ∷ [])
held_is interval s vs wide =
    count_same (is_near interval s) (λ v. list_any (spans_meet (chunk_of interval v.row.at)) (s ∷ [])) (λ v. near_one interval s v wide) vs
    ∙ sym (count_map (λ v. v.row) (λ row. list_any (spans_meet (chunk_of interval row.at)) (s ∷ [])) vs)

-- the rows that a scan returns, and those that it reads, of the same table
pub scan_rows : {E : Type 0} (r : Result (List Row) E) (q : ℕ) (s : SpanValue) (x y : ChunksValue) → x ≡ y → IfOk r (λ rows. rows ≡ rows_at q s x.versions)
    → IfOk r (λ rows. rows ≡ filter (λ row. in_span s row.at) (visible_rows q y.versions))
scan_rows (Ok rows) q s x y same h = h ∙ (shown_is q s x.versions ∙ ap (λ (z : ChunksValue). filter (λ row. in_span s row.at) (visible_rows q z.versions)) same)
scan_rows (Err e) q s x y same h = h

either : {T E : Type 0} (P Q : Type 0) (r : Result T E) → OnOk r P → OnErr r Q → MatchResult r (λ _. P) (λ _. Q)
either P Q (Ok v) p q = p
either P Q (Err e) p q = q

pub scan_read : {T E : Type 0} (r : Result T E) (old new : ℕ) (s : SpanValue) (x y : ChunksValue) → x ≡ y → IsInterval x.interval
    → OnOk r (new ≡ raised_by (held_near x.interval s x.versions) old) → OnErr r (RaisedUpTo (held_near x.interval s x.versions) old new)
    → Ticks r (rows_near y.interval (rows_of y.versions) (s ∷ [])) old new
scan_read r old new s x y same wide ticks at_most =
    let held : held_near x.interval s x.versions ≡ rows_near y.interval (rows_of y.versions) (s ∷ []) =
    held_is x.interval s x.versions wide ∙ ap (λ (z : ChunksValue). rows_near z.interval (rows_of z.versions) (s ∷ [])) same in
    either _ _ r (subst (λ n. OnOk r (new ≡ raised_by n old)) held ticks) (subst (λ n. OnErr r (RaisedUpTo n old new)) held at_most)

-- a delete on this table, by the number that it was requested
pub delete_asked : {E : Type 0} (r : Result Applied E) (u t p : ℕ) (tests : List Test) (op : Op) (x : ChunksValue) → op ≡ Delete u tests → u ≡ t
    → IfOk r (λ a. (n : ℕ) → Follows n (Delete n tests ∷ []) p x a.table) → IfOk r (λ a. Follows t (op ∷ []) p x a.table)
delete_asked (Ok a) u t p tests op x is same follows =
    let this : Delete t tests ≡ op = ap (λ n. Delete n tests) (sym same) ∙ sym is in
    subst (λ o. Follows t (o ∷ []) p x a.table) this (follows t)
delete_asked (Err e) u t p tests op x is same follows = follows

-- an insert and a delete, of the same table
pub insert_follows : (rows : List Row) (p : ℕ) (x y new : ChunksValue) → x ≡ y → new.interval ≡ x.interval → AsOften new.versions (x.versions ++ map (newborn p) rows) → IsUpTo p y.versions
    → (t : ℕ) → Follows t (Insert t rows ∷ []) p y new
insert_follows rows p x y new same interval put e t =
    follows_insert t rows p y new (interval ∙ ap (λ (z : ChunksValue). z.interval) same) (subst (λ (z : ChunksValue). AsOften new.versions (z.versions ++ map (newborn p) rows)) same put) e

pub delete_follows : (tests : List Test) (p : ℕ) (x y new : ChunksValue) → x ≡ y → new.interval ≡ x.interval → new.versions ≡ map (after_kill p tests) x.versions → IsUpTo p y.versions
    → (t : ℕ) → Follows t (Delete t tests ∷ []) p y new
delete_follows tests p x y new same interval killed e t =
    follows_delete t tests p y new (interval ∙ ap (λ (z : ChunksValue). z.interval) same) (killed ∙ ap (λ (z : ChunksValue). map (after_kill p tests) z.versions) same) e

pub delete_counts : (tests : List Test) (p : ℕ) (x y : ChunksValue) (d before after : Effect) → x ≡ y → d ≡ before → after.inserted ≡ d.inserted → after.removed ≡ d.removed + length (taken_at p tests x.versions)
    → after.hull ≡ joined_hull d.hull (hull_of (taken_at p tests x.versions)) → (t : ℕ) → Counts t (Delete t tests ∷ []) (in_order (visible_rows p y.versions)) before after
delete_counts tests p x y d before after same done inserted removed hull t =
    subst (λ (z : ChunksValue). Counts t (Delete t tests ∷ []) (in_order (visible_rows p z.versions)) before after) same
    (subst (λ (b : Effect). Counts t (Delete t tests ∷ []) (in_order (visible_rows p x.versions)) b after) done (counts_delete t tests p x.versions d after inserted removed hull))
