-- The chunks in reach have all the versions of a result.
use Rattle.std.proofs.Common.{◌≡◌, ℕ, ◌&&◌, Bool, true, false, cond, Option, Some, List, [], ◌∷◌, length, map, ℤ, ◌-◌, ◌^◌, negsuc, ◌+ℤ◌, ◌≤ℤ◌, ◌<ℤ◌, refl, sym, ◌∙◌, ap, arith}
use Rattle.std.specs.List.{filter, list_all}
use Rattle.std.specs.Prelude.{int_le, int_lt}
use Rattle.std.proofs.lemmas.Int.{ints}
use Rattle.std.proofs.lemmas.List.Sums.{length-filter}
use Rattle.std.proofs.Math.Bool.{and-false}
use Rattle.std.proofs.lemmas.Bool.{false_from_ne_true}
use Rattle.ts_bucket.specs.Spans.{SpanValue, in_span}
use Rattle.ts_schema.specs.declared.conditions.Test.{Test}
use Rattle.ts_schema.specs.Conditions.{passes_all}
use Rattle.seg_rows.specs.Versions.{Version, visible_at, shown_at, rows_of, rows_at, is_taken, taken_at, after_kill}
use Rattle.chunk_catalog.specs.declared.time_ranges.TimeRange.{TimeRange}
use Rattle.chunk_catalog.specs.Reach.{in_reach}
use Rattle.chunk_catalog.specs.Chunks.{chunk_meets, is_near, held_near, is_dropped, dropped_at, after_drop}
use Rattle.ts_bucket.specs.Chunks.{IsInterval, chunk_start}
use Rattle.chunk_catalog.specs.Places.{Placed, place, versions_of, versions_in, after_kill_in, is_placed, ArePlaced}
use Rattle.chunk_catalog.proofs.ReachLaws.{lies, start_low, not_both}
use Rattle.ts_schema.proofs.Cases.{and_first, and_second}

reached-cons : (r : TimeRange) (x : Placed) (ps : List Placed) → versions_in r (x ∷ ps) ≡ cond (in_reach r x.start) (x.version ∷ versions_in r ps) (versions_in r ps)
reached-cons r x ps = elim (in_reach r x.start) as (λ b. versions_of (cond b (x ∷ filter (λ y. in_reach r y.start) ps) (filter (λ y. in_reach r y.start) ps)) ≡ cond b (x.version ∷ versions_in r ps) (versions_in r ps)) [
  | true ↦ refl
  | false ↦ refl
]

filter_step : (b : Bool) (q : Version → Bool) (v : Version) (xs ys : List Version) → (b ≡ false → q v ≡ false) → filter q xs ≡ filter q ys → filter q (cond b (v ∷ xs) xs) ≡ filter q (v ∷ ys)
filter_step true q v xs ys out e = ap (λ zs. cond (q v) (v ∷ zs) zs) e
filter_step false q v xs ys out e = rw (out refl) e

-- if no version out of reach passes, all versions that pass are in reach
pub filter_reached : (interval : ℤ) (q : Version → Bool) (r : TimeRange) (ps : List Placed)
    → ((x : Placed) → is_placed interval x ≡ true → in_reach r x.start ≡ false → q x.version ≡ false) → ArePlaced interval ps → filter q (versions_in r ps) ≡ filter q (versions_of ps)
filter_reached interval q r [] out placed = refl
filter_reached interval q r (x ∷ ps) out placed =
    ap (filter q) (reached-cons r x ps)
    ∙ filter_step (in_reach r x.start) q x.version (versions_in r ps) (versions_of ps) (out x (and_first (is_placed interval x) (list_all (is_placed interval) ps) placed))
    (filter_reached interval q r ps out (and_second (is_placed interval x) (list_all (is_placed interval) ps) placed))

killed_step : (b t : Bool) (x : Placed) (died : Version) (ps : List Placed) (vs : List Version) → (b ≡ false → t ≡ false) → versions_of ps ≡ vs
    → versions_of (cond b (place x.start (cond t died x.version)) x ∷ ps) ≡ cond t died x.version ∷ vs
killed_step true t x died ps vs out e = ap (λ ws. cond t died x.version ∷ ws) e
killed_step false t x died ps vs out e = rw (out refl) (ap (λ ws. x.version ∷ ws) e)

-- a span that holds a time meets the chunk of the time
meets_at : (interval : ℤ) (span : SpanValue) (s t : ℤ) → s ≤ℤ t → t <ℤ (s +ℤ interval) → in_span span t ≡ true → chunk_meets interval span s ≡ false → ⊥
meets_at interval span s t after before inside apart =
    let low : int_le span.lo t ≡ true = and_first (int_le span.lo t) (int_lt t span.hi) inside in
    let high : int_lt t span.hi ≡ true = and_second (int_le span.lo t) (int_lt t span.hi) inside in
    let starts : int_lt s span.hi ≡ true = grind (arith, ints) in
    let ends : int_lt span.lo (s +ℤ interval) ≡ true = grind (arith, ints) in
    let some : int_lt span.lo span.hi ≡ true = grind (arith, ints) in
    let meets : chunk_meets interval span s ≡ true = rw (starts, ends, some) refl in
    not_both (chunk_meets interval span s) meets apart

module _ (interval : ℤ) (r : TimeRange) (wide : IsInterval interval) where
  module _ (span : SpanValue) (met : (s : ℤ) → negsuc (2 ^ 63 - 1) ≤ℤ s → in_reach r s ≡ chunk_meets interval span s) where
    near_is : (x : Placed) → is_placed interval x ≡ true → in_reach r x.start ≡ is_near interval span x.version
    near_is x placed =
        let here = lies interval x wide placed in
        met x.start (start_low interval x wide here) ∙ ap (chunk_meets interval span) here.start_is

    -- a row of the span, or of a part of it, is in a chunk that meets the span
    out_of_span : (part : SpanValue) → ((t : ℤ) → in_span part t ≡ true → in_span span t ≡ true) → (p : ℕ) (x : Placed) → is_placed interval x ≡ true → in_reach r x.start ≡ false → shown_at p part x.version ≡ false
    out_of_span part within p x placed out =
        let here = lies interval x wide placed in
        let apart : chunk_meets interval span x.start ≡ false = sym (met x.start (start_low interval x wide here)) ∙ out in
        let after : x.start ≤ℤ x.version.row.at = here.at_or_after in
        let before = here.before_end in
        false_from_ne_true (shown_at p part x.version) (λ shown.
        let inside : in_span span x.version.row.at ≡ true = within x.version.row.at (and_second (visible_at p x.version) (in_span part x.version.row.at) shown) in
        meets_at interval span x.start x.version.row.at after before inside apart)

    pub shown_reached : (part : SpanValue) → ((t : ℤ) → in_span part t ≡ true → in_span span t ≡ true) → (p : ℕ) (ps : List Placed) → ArePlaced interval ps → rows_at p part (versions_in r ps) ≡ rows_at p part (versions_of ps)
    shown_reached part within p ps placed = ap rows_of (filter_reached interval (shown_at p part) r ps (out_of_span part within p) placed)

    pub near_reached : (ps : List Placed) → ArePlaced interval ps → versions_in r ps ≡ filter (is_near interval span) (versions_of ps)
    near_reached [] placed = refl
    near_reached (x ∷ ps) placed =
        reached-cons r x ps
        ∙ rw (near_is x (and_first (is_placed interval x) (list_all (is_placed interval) ps) placed), near_reached ps (and_second (is_placed interval x) (list_all (is_placed interval) ps) placed)) refl

    pub held_reached : (ps : List Placed) → ArePlaced interval ps → length (versions_in r ps) ≡ held_near interval span (versions_of ps)
    held_reached ps placed = ap length (near_reached ps placed) ∙ length-filter (is_near interval span) (versions_of ps)

  module _ (tests : List Test) (missed : (x : Placed) → is_placed interval x ≡ true → in_reach r x.start ≡ false → passes_all x.version.row tests ≡ false) where
    not_taken : (p : ℕ) (x : Placed) → is_placed interval x ≡ true → in_reach r x.start ≡ false → is_taken p tests x.version ≡ false
    not_taken p x placed out = rw (missed x placed out) (and-false (visible_at p x.version))

    pub taken_reached : (p : ℕ) (ps : List Placed) → ArePlaced interval ps → taken_at p tests (versions_in r ps) ≡ taken_at p tests (versions_of ps)
    taken_reached p ps placed = ap rows_of (filter_reached interval (is_taken p tests) r ps (not_taken p) placed)

    pub killed_reached : (p : ℕ) (ps : List Placed) → ArePlaced interval ps → versions_of (map (after_kill_in r p tests) ps) ≡ map (after_kill p tests) (versions_of ps)
    killed_reached p [] placed = refl
    killed_reached p (x ∷ ps) placed =
        killed_step (in_reach r x.start) (is_taken p tests x.version) x (record { row = x.version.row; born = x.version.born; died = Some p }) (map (after_kill_in r p tests) ps) (map (after_kill p tests) (versions_of ps))
        (not_taken p x (and_first (is_placed interval x) (list_all (is_placed interval) ps) placed))
        (killed_reached p ps (and_second (is_placed interval x) (list_all (is_placed interval) ps) placed))

still_placed : (interval : ℤ) (b t : Bool) (x : Placed) (died : Option ℕ) → is_placed interval (cond b (place x.start (cond t (record { row = x.version.row; born = x.version.born; died = died }) x.version)) x) ≡ is_placed interval x
still_placed interval true true x died = refl
still_placed interval true false x died = refl
still_placed interval false t x died = refl

-- after a delete the versions are placed as before
pub killed_placed : (interval : ℤ) (r : TimeRange) (p : ℕ) (tests : List Test) (ps : List Placed) → ArePlaced interval ps → ArePlaced interval (map (after_kill_in r p tests) ps)
killed_placed interval r p tests [] h = refl
killed_placed interval r p tests (x ∷ ps) h =
    rw (still_placed interval (in_reach r x.start) (is_taken p tests x.version) x (Some p), and_first (is_placed interval x) (list_all (is_placed interval) ps) h)
    (killed_placed interval r p tests ps (and_second (is_placed interval x) (list_all (is_placed interval) ps) h))

fall_step : (b seen ended : Bool) (x : Placed) (died : Version) (ps : List Placed) (vs : List Version) → b ≡ ended → versions_of ps ≡ vs
    → versions_of (cond b (place x.start (cond (seen && true) died x.version)) x ∷ ps) ≡ cond (seen && ended) died x.version ∷ vs
fall_step true true ended x died ps vs same e = rw (sym same) (ap (λ ws. died ∷ ws) e)
fall_step true false ended x died ps vs same e = ap (λ ws. x.version ∷ ws) e
fall_step false true ended x died ps vs same e = rw (sym same) (ap (λ ws. x.version ∷ ws) e)
fall_step false false ended x died ps vs same e = ap (λ ws. x.version ∷ ws) e

drop_step : (b seen ended : Bool) (v : Version) (xs ys rest : List Version) (p : ℕ) → xs ≡ filter (is_taken p []) rest → b ≡ ended → rows_of xs ≡ rows_of ys
    → seen ≡ visible_at p v → taken_at p [] (cond b (v ∷ rest) rest) ≡ rows_of (cond (seen && ended) (v ∷ ys) ys)
drop_step true true ended v xs ys rest p same ends e here = rw (sym ends, sym here, sym same) (ap (λ rs. v.row ∷ rs) e)
drop_step true false ended v xs ys rest p same ends e here = rw (sym here, sym same) e
drop_step false true ended v xs ys rest p same ends e here = rw (sym ends, sym same) e
drop_step false false ended v xs ys rest p same ends e here = rw (sym same) e

-- the versions that a drop takes and those that it leaves, by the chunks that end by n
module _ (interval n : ℤ) (r : TimeRange) (wide : IsInterval interval) (ended : (s : ℤ) → negsuc (2 ^ 63 - 1) ≤ℤ s → in_reach r s ≡ int_le (s +ℤ interval) n) where
  ended_is : (x : Placed) → is_placed interval x ≡ true → in_reach r x.start ≡ int_le (chunk_start interval x.version.row.at +ℤ interval) n
  ended_is x placed =
      let here = lies interval x wide placed in
      ended x.start (start_low interval x wide here) ∙ ap (λ s. int_le (s +ℤ interval) n) here.start_is

  pub dropped_reached : (p : ℕ) (ps : List Placed) → ArePlaced interval ps → taken_at p [] (versions_in r ps) ≡ dropped_at interval n p (versions_of ps)
  dropped_reached p [] placed = refl
  dropped_reached p (x ∷ ps) placed =
      ap (taken_at p []) (reached-cons r x ps)
      ∙ drop_step (in_reach r x.start) (visible_at p x.version) (int_le (chunk_start interval x.version.row.at +ℤ interval) n) x.version
      (filter (is_taken p []) (versions_in r ps)) (filter (is_dropped interval n p) (versions_of ps)) (versions_in r ps) p refl
      (ended_is x (and_first (is_placed interval x) (list_all (is_placed interval) ps) placed))
      (dropped_reached p ps (and_second (is_placed interval x) (list_all (is_placed interval) ps) placed)) refl

  pub dropped_killed : (p : ℕ) (ps : List Placed) → ArePlaced interval ps → versions_of (map (after_kill_in r p []) ps) ≡ map (after_drop interval n p) (versions_of ps)
  dropped_killed p [] placed = refl
  dropped_killed p (x ∷ ps) placed =
      fall_step (in_reach r x.start) (visible_at p x.version) (int_le (chunk_start interval x.version.row.at +ℤ interval) n) x (record { row = x.version.row; born = x.version.born; died = Some p })
      (map (after_kill_in r p []) ps) (map (after_drop interval n p) (versions_of ps))
      (ended_is x (and_first (is_placed interval x) (list_all (is_placed interval) ps) placed))
      (dropped_killed p ps (and_second (is_placed interval x) (list_all (is_placed interval) ps) placed))
