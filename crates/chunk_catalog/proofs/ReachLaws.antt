-- Laws of ranges of starts.
use Rattle.std.proofs.Common.{◌≡◌, ◌&&◌, Bool, true, false, ◌-◌, ◌^◌, ℤ, pos, negsuc, ◌+ℤ◌, ◌-ℤ◌, ◌≤ℤ◌, ◌<ℤ◌, ◌∙◌, arith}
use Rattle.std.specs.Prelude.{int_le, int_lt, FitsSigned}
use Rattle.std.specs.Int.{w64, int_rem_euclid, int_max, int_min}
use Rattle.std.proofs.lemmas.Int.{clamps, ints}
use Rattle.std.proofs.lemmas.Bool.Decides.{Decides-int_eq}
use Rattle.std.proofs.lemmas.Bool.{and_from}
use Rattle.ts_bucket.specs.Bucket.{is_time, min_time, max_time}
use Rattle.ts_bucket.proofs.Remainders.{remainder_bounds}
use Rattle.chunk_catalog.specs.declared.time_ranges.TimeRange.{TimeRange}
use Rattle.chunk_catalog.specs.Reach.{in_reach}
use Rattle.ts_bucket.specs.Chunks.{IsInterval, chunk_start}
use Rattle.chunk_catalog.specs.Places.{Placed, is_placed}
use Rattle.ts_schema.proofs.Cases.{and_first, and_second}

-- the starts from the first on that meets the span, and before its end
pub met_is : (interval first last lo hi s : ℤ) → lo <ℤ hi → int_le first s ≡ int_le (lo -ℤ (interval -ℤ pos 1)) s → last ≡ hi -ℤ pos 1
    → (int_le first s && int_le s last) ≡ (int_lt s hi && int_lt lo (s +ℤ interval) && int_lt lo hi)
met_is interval first last lo hi s some f l = rw (f, l) (grind (arith, ints))

-- the chunk and the time of a placed version
pub record Lies (interval : ℤ) (x : Placed) : Type 0 where
  pub at_or_after : x.start ≤ℤ x.version.row.at
  pub before_end : x.version.row.at <ℤ (x.start +ℤ interval)
  pub time_low : min_time ≤ℤ x.version.row.at
  pub time_high : x.version.row.at ≤ℤ max_time
  pub start_is : x.start ≡ chunk_start interval x.version.row.at

pub lies : (interval : ℤ) (x : Placed) → IsInterval interval → is_placed interval x ≡ true → Lies interval x
lies interval x h p =
    let here : x.start ≡ chunk_start interval x.version.row.at = (Decides-int_eq x.start (chunk_start interval x.version.row.at)).0 (grind arith) in
    let bounds = remainder_bounds x.version.row.at interval (omega (arith, ints, h.0)) in
    let low : pos 0 ≤ℤ int_rem_euclid x.version.row.at interval = bounds.0 in
    let high : int_rem_euclid x.version.row.at interval <ℤ interval = bounds.1 in
    let timed : is_time x.version.row.at ≡ true = grind arith in
    record {
      at_or_after = omega (arith, ints);
      before_end = omega (arith, ints);
      time_low = grind (arith, ints);
      time_high = grind (arith, ints);
      start_is = here;
    }

-- a number in two ranges is in their common part
pub both_hold : (a b : TimeRange) (first last t : ℤ) → first ≡ int_max a.first b.first → last ≡ int_min a.last b.last → in_reach a t ≡ true → in_reach b t ≡ true
    → (int_le first t && int_le t last) ≡ true
both_hold a b first last t f l p q = rw (f, l) (grind (arith, ints))

-- a time from one on and below an end lies in the span of these times
pub in_time_span : (first t lo end hi : ℤ) → lo ≡ int_max first min_time → end ≤ℤ hi → is_time t ≡ true → first ≤ℤ t → t <ℤ end → (int_le lo t && int_lt t hi) ≡ true
in_time_span first t lo end hi l h time from below = rw l (grind (arith, ints, clamps))

-- the start of a chunk that holds a time of a range
pub start_reached : (interval first low last s t : ℤ) → s ≤ℤ t → t <ℤ (s +ℤ interval) → int_le first s ≡ int_le (low -ℤ (interval -ℤ pos 1)) s
    → (int_le low t && int_le t last) ≡ true → (int_le first s && int_le s last) ≡ true
start_reached interval first low last s t after before f h =
    let above : int_le low t ≡ true = and_first (int_le low t) (int_le t last) h in
    let below : int_le t last ≡ true = and_second (int_le low t) (int_le t last) h in
    let first_is : int_le first s ≡ true = f ∙ grind (arith, ints) in
    let last_is : int_le s last ≡ true = grind (arith, ints) in
    and_from (int_le first s) (int_le s last) first_is last_is

pub not_both : (b : Bool) → b ≡ true → b ≡ false → ⊥
not_both b p q = cc

-- times and starts are numbers of 64 bits
pub fits_time : (t : ℤ) → min_time ≤ℤ t → t ≤ℤ max_time → FitsSigned w64 t
fits_time (pos n) low high = record { sfits = omega (arith, ints, high) }
fits_time (negsuc n) low high = record { sfits = omega (arith, ints, low) }

pub fits_before : (interval : ℤ) → IsInterval interval → FitsSigned w64 (interval -ℤ pos 1)
fits_before interval h =
    let least = h.0 in
    let most = h.1 in
    fits_time (interval -ℤ pos 1) (omega (arith, ints)) (omega (arith, ints))

pub start_low : (interval : ℤ) (x : Placed) → IsInterval interval → Lies interval x → negsuc (2 ^ 63 - 1) ≤ℤ x.start
start_low interval x h here =
    let before = here.before_end in
    let low = here.time_low in
    let least = h.0 in
    let most = h.1 in
    omega (arith, ints)
