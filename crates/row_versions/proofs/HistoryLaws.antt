-- Tables beside histories: how they begin, what events do to them, and what they say.
use Rattle.std.proofs.Common.{◌≡◌, ℕ, suc, ◌+◌, ◌<◌, ◌≤◌, Bool, true, false, not, ◌++◌, cond, nat_lt, Option, Some, None, List, [], ◌∷◌, ℤ, ◌+ℤ◌, ◌≤ℤ◌, refl, sym, ◌∙◌, ap, subst, arith}
use Rattle.std.specs.List.{filter, list_any, count_by}
use Rattle.std.specs.Option.{option_map}
use Rattle.std.specs.Int.{int_max}
use Rattle.std.specs.Ordering.{is_gt}
use Rattle.std.proofs.lemmas.Int.{ints, clamps, by_lt_z}
use Rattle.std.proofs.lemmas.Bool.{true≢false, ltb-true, ltb-false, or_parts}
use Rattle.std.proofs.lemmas.List.Sums.{sum_by-cons}
use Rattle.ts_num.specs.Aggregates.{greater}
use Rattle.ts_bucket.specs.Bucket.{IsWidth, bucket_of}
use Rattle.ts_bucket.specs.Spans.{in_span}
use Rattle.ts_bucket.specs.declared.widths.Width.{Width}
use Rattle.ts_bucket.proofs.BucketLaws.{bucket_of_meets, bucket_of-last, is_bucket-bucket_of}
use Rattle.ts_schema.specs.declared.rows.Row.{Row}
use Rattle.ts_schema.specs.Rows.{row_cmp}
use Rattle.ts_model.specs.declared.events.Event.{Event}
use Rattle.ts_model.specs.declared.events.Event.TheVariants.{Table, Hyper, View, Mode, Commit, Cut, Built}
use Rattle.ts_model.specs.declared.events.Op.{Op}
use Rattle.ts_model.specs.declared.events.Op.TheVariants.{Insert, Delete}
use Rattle.ts_schema.specs.Conditions.{passes_all}
use Rattle.std.specs.Prelude.{◌==◌}
use Rattle.std.proofs.lemmas.List.{append-nil}
use Rattle.ts_model.specs.History.{History, ◌▸◌, position, prefix}
use Rattle.ts_model.specs.Rows.{with_row, with_rows, in_order, after_ops, rows}
use Rattle.ts_model.specs.Effect.{all_appended}
use Rattle.ts_model.specs.Reads.{rows_inserted, spans_meet}
use Rattle.ts_bucket.specs.Chunks.{chunk_of}
use Rattle.ts_model.specs.Windows.{last_end}
use Rattle.ts_model.proofs.HistoryLaws.{prefix_end}
use Rattle.ts_model.proofs.RowLaws.{filter-in_order, same_before}
use Rattle.seg_rows.specs.Versions.{later_time, latest_of, latest_at, rows_of}
use Rattle.seg_rows.proofs.HullLaws.{later_time-assoc, later_time-comm}
use Rattle.chunk_catalog.specs.Chunks.{ChunksValue}
use Rattle.row_versions.specs.Histories.{Holds}
use Rattle.row_versions.specs.Laws.{is_commit, CommitsAreHeld, EffectsAreOfCommits, OthersAreHeld, HeldTablesTell, UnnamedAreHeld}
use Rattle.row_versions.specs.Tables.{visible_rows, IsEffect, Follows, is_on}
use Rattle.row_versions.proofs.TableLaws.{up_to_more}
use Rattle.ts_model.proofs.CountLaws.{count-with_row}

-- ---- commits

-- at a position after its own a history is itself
seen_now : (t : ℕ) (h : History) (table : ChunksValue) (q : ℕ) → Holds t h table → position h ≤ q → in_order (visible_rows q table.versions) ≡ rows t h
seen_now t h table q held l = held.seen q ∙ ap (rows t) (prefix_end h q l)

module _ (t : ℕ) (h : History) (ops : List Op) (old new : ChunksValue) (held : Holds t h old) (follows : Follows t ops (suc (position h)) old new) where
  seen_at : (q : ℕ) (late : Bool) → nat_lt (position h) q ≡ late → in_order (visible_rows q new.versions) ≡ rows t (cond late (h ▸ Commit ops) (prefix h q))
  seen_at q true e =
      let after : position h < q = ltb-true (position h) q e in
      follows.later q (omega (arith, after)) ∙ ap (after_ops t ops) (seen_now t h old q held (omega (arith, after)))
  seen_at q false e =
      let before : q ≤ position h = ltb-false (position h) q e in
      follows.earlier q (omega (arith, before)) ∙ held.seen q

  pub commit_held : Holds t (h ▸ Commit ops) new
  commit_held = record {
    seen = λ q. seen_at q (nat_lt (position h) q) refl;
    stored = follows.stored ∙ same_before (rows_of old.versions) (rows_inserted t h) (all_appended t ops) held.stored;
    up_to = follows.up_to;
  }

-- operations on other tables do nothing to a table
pub unnamed_rows : (t : ℕ) (ops : List Op) (xs : List Row) → list_any (is_on t) ops ≡ false → after_ops t ops xs ≡ xs
unnamed_rows t [] xs none = refl
unnamed_rows t (Insert u new ∷ ops) xs none =
    let parts = or_parts (u == t) (list_any (is_on t) ops) none in
    ap (λ b. after_ops t ops (cond b (with_rows new xs) xs)) parts.0 ∙ unnamed_rows t ops xs parts.1
unnamed_rows t (Delete u tests ∷ ops) xs none =
    let parts = or_parts (u == t) (list_any (is_on t) ops) none in
    ap (λ b. after_ops t ops (cond b (filter (λ row. not (passes_all row tests)) xs) xs)) parts.0 ∙ unnamed_rows t ops xs parts.1

pub unnamed_appended : (t : ℕ) (ops : List Op) → list_any (is_on t) ops ≡ false → all_appended t ops ≡ []
unnamed_appended t [] none = refl
unnamed_appended t (Insert u new ∷ ops) none =
    let parts = or_parts (u == t) (list_any (is_on t) ops) none in
    ap (λ b. cond b new [] ++ all_appended t ops) parts.0 ∙ unnamed_appended t ops parts.1
unnamed_appended t (Delete u tests ∷ ops) none = unnamed_appended t ops (or_parts (u == t) (list_any (is_on t) ops) none).1

pub unnamed_are_held : UnnamedAreHeld
unnamed_are_held t h ops table held none = commit_held t h ops table table held (record {
  interval = refl;
  earlier = λ q _. refl;
  later = λ q _. sym (unnamed_rows t ops (in_order (visible_rows q table.versions)) none);
  stored = ap in_order (sym (append-nil (rows_of table.versions)) ∙ ap (λ rs. rows_of table.versions ++ rs) (sym (unnamed_appended t ops none)));
  up_to = up_to_more (position h) (suc (position h)) table.versions (omega arith) held.up_to;
})

pub commits_are_held : CommitsAreHeld
commits_are_held t h ops old new held follows = commit_held t h ops old new held follows

pub effects_are_of_commits : EffectsAreOfCommits
effects_are_of_commits t h ops table effect held is =
    subst (λ (now : List Row). IsEffect t ops now effect) (seen_now t h table (suc (position h)) held (omega arith)) is

-- ---- other events

-- an event that isn't a commit neither inserts nor removes
same_rows : (t : ℕ) (h : History) (e : Event) → is_commit e ≡ false → rows t (h ▸ e) ≡ rows t h
same_rows t h (Table def) quiet = refl
same_rows t h (Hyper u hyper) quiet = refl
same_rows t h (View def) quiet = refl
same_rows t h (Mode v only) quiet = refl
same_rows t h (Commit ops) quiet = absurd (true≢false quiet)
same_rows t h (Cut v span) quiet = refl
same_rows t h (Built cut snap) quiet = refl

same_inserted : (t : ℕ) (h : History) (e : Event) → is_commit e ≡ false → rows_inserted t (h ▸ e) ≡ rows_inserted t h
same_inserted t h (Table def) quiet = refl
same_inserted t h (Hyper u hyper) quiet = refl
same_inserted t h (View def) quiet = refl
same_inserted t h (Mode v only) quiet = refl
same_inserted t h (Commit ops) quiet = absurd (true≢false quiet)
same_inserted t h (Cut v span) quiet = refl
same_inserted t h (Built cut snap) quiet = refl

module _ (t : ℕ) (h : History) (e : Event) (table : ChunksValue) (held : Holds t h table) (quiet : is_commit e ≡ false) where
  still_seen : (q : ℕ) (late : Bool) → nat_lt (position h) q ≡ late → in_order (visible_rows q table.versions) ≡ rows t (cond late (h ▸ e) (prefix h q))
  still_seen q true l =
      let after : position h < q = ltb-true (position h) q l in
      seen_now t h table q held (omega (arith, after)) ∙ sym (same_rows t h e quiet)
  still_seen q false l = held.seen q

  pub other_held : Holds t (h ▸ e) table
  other_held = record {
    seen = λ q. still_seen q (nat_lt (position h) q) refl;
    stored = held.stored ∙ ap in_order (sym (same_inserted t h e quiet));
    up_to = up_to_more (position h) (suc (position h)) table.versions (omega arith) held.up_to;
  }

pub others_are_held : OthersAreHeld
others_are_held t h e table held quiet = other_held t h e table held quiet

-- ---- what tables say

later_swap : (a b c : Option ℤ) → later_time a (later_time b c) ≡ later_time b (later_time a c)
later_swap a b c = later_time-assoc a b c ∙ (ap (λ x. later_time x c) (later_time-comm a b) ∙ sym (later_time-assoc b a c))

-- the greatest time of rows in order is that of the rows
latest_of-with_row : (row : Row) (xs : List Row) → latest_of (with_row row xs) ≡ later_time (Some row.at) (latest_of xs)
latest_of-with_row row [] = refl
latest_of-with_row row (x ∷ xs) =
    elim (is_gt (row_cmp row x)) as (λ b. latest_of (cond b (x ∷ with_row row xs) (row ∷ x ∷ xs)) ≡ later_time (Some row.at) (latest_of (x ∷ xs))) [
      | true ↦ ap (later_time (Some x.at)) (latest_of-with_row row xs) ∙ later_swap (Some x.at) (Some row.at) (latest_of xs)
      | false ↦ refl
    ]

latest_of-in_order : (xs : List Row) → latest_of (in_order xs) ≡ latest_of xs
latest_of-in_order [] = refl
latest_of-in_order (x ∷ xs) = latest_of-with_row x (in_order xs) ∙ ap (later_time (Some x.at)) (latest_of-in_order xs)

-- how many rows pass doesn't depend on their order
count-cons : (p : Row → Bool) (x : Row) (xs : List Row) → count_by p (x ∷ xs) ≡ cond (p x) 1 0 + count_by p xs
count-cons p x xs = sum_by-cons (λ y. cond (p y) 1 0) x xs

count-in_order : (p : Row → Bool) (xs : List Row) → count_by p (in_order xs) ≡ count_by p xs
count-in_order p [] = refl
count-in_order p (x ∷ xs) = count-with_row p x (in_order xs) ∙ (ap (λ n. cond (p x) 1 0 + n) (count-in_order p xs) ∙ sym (count-cons p x xs))

count_alike : (p : Row → Bool) (xs ys : List Row) → in_order xs ≡ in_order ys → count_by p xs ≡ count_by p ys
count_alike p xs ys e = sym (count-in_order p xs) ∙ (ap (count_by p) e ∙ count-in_order p ys)

-- buckets of later times end no earlier
ends_rise : (w : Width) (a b : ℤ) → IsWidth w → a ≤ℤ b → bucket_of w a ≤ℤ bucket_of w b
ends_rise w a b width l =
    let below : bucket_of w a ≤ℤ a = (bucket_of_meets w a width).at_or_below in
    bucket_of-last w (bucket_of w a) b width (is_bucket-bucket_of w a width) (omega (arith, ints, l, below))

greater_end : (w : Width) (a b : ℤ) → IsWidth w → bucket_of w (int_max a b) +ℤ w.step ≡ int_max (bucket_of w a +ℤ w.step) (bucket_of w b +ℤ w.step)
greater_end w a b width = by_lt_z a b
    (λ l.
    let rise : bucket_of w a ≤ℤ bucket_of w b = ends_rise w a b width (omega (arith, ints, l)) in
    let max_is : int_max a b ≡ b = omega (arith, ints, clamps, l) in
    ap (λ t. bucket_of w t +ℤ w.step) max_is ∙ omega (arith, ints, clamps, rise))
    (λ l.
    let rise : bucket_of w b ≤ℤ bucket_of w a = ends_rise w b a width l in
    let max_is : int_max a b ≡ a = omega (arith, ints, clamps, l) in
    ap (λ t. bucket_of w t +ℤ w.step) max_is ∙ omega (arith, ints, clamps, rise))

end_joined : (w : Width) (a : ℤ) (o : Option ℤ) → IsWidth w → option_map (λ time. bucket_of w time +ℤ w.step) (later_time (Some a) o) ≡ greater (Some (bucket_of w a +ℤ w.step)) (option_map (λ time. bucket_of w time +ℤ w.step) o)
end_joined w a None width = refl
end_joined w a (Some b) width = ap Some (greater_end w a b width)

last_end_is : (w : Width) (xs : List Row) → IsWidth w → option_map (λ time. bucket_of w time +ℤ w.step) (latest_of xs) ≡ last_end w xs
last_end_is w [] width = refl
last_end_is w (x ∷ xs) width = end_joined w x.at (latest_of xs) width ∙ ap (greater (Some (bucket_of w x.at +ℤ w.step))) (last_end_is w xs width)

latest_seen : (t : ℕ) (h : History) (table : ChunksValue) (q : ℕ) → Holds t h table → latest_at q table.versions ≡ latest_of (rows t (prefix h q))
latest_seen t h table q held = sym (latest_of-in_order (visible_rows q table.versions)) ∙ ap latest_of (held.seen q)

pub held_tables_tell : HeldTablesTell
held_tables_tell t h table held = record {
  rows_are = λ q s. sym (filter-in_order (λ row. in_span s row.at) (visible_rows q table.versions)) ∙ ap (filter (λ row. in_span s row.at)) (held.seen q);
  read = λ interval spans. count_alike (λ row. list_any (spans_meet (chunk_of interval row.at)) spans) (rows_of table.versions) (rows_inserted t h) held.stored;
  latest = λ q. latest_seen t h table q held;
  last_bucket = λ q w width. ap (option_map (λ time. bucket_of w time +ℤ w.step)) (latest_seen t h table q held) ∙ last_end_is w (rows t (prefix h q)) width;
}
