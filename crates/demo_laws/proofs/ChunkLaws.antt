-- The chunks of a demonstration's rows.
use Rattle.std.proofs.Common.{◌≡◌, ℕ, ◌+◌, ◌*◌, ◌<◌, ◌≤◌, true, ℤ, pos, ◌+ℤ◌, ◌-ℤ◌, ◌≤ℤ◌, ◌<ℤ◌, nat_lt, sym, refl, ap, ◌∙◌, arith}
use Rattle.std.specs.Int.{int_rem_euclid}
use Rattle.std.proofs.lemmas.Bool.{lt-ltb, le-ltb, cond-true, cond-false}
use Rattle.std.proofs.lemmas.Int.{ints, int_rem_euclid_is}
use Rattle.std.proofs.Math.Nat.{mul-mod_right}
use Rattle.ts_bucket.specs.Bucket.{IsWidth, is_bucket, bucket_of}
use Rattle.ts_bucket.specs.Chunks.{chunk_of}
use Rattle.ts_bucket.specs.declared.spans.Span.{Span}
use Rattle.ts_bucket.specs.declared.widths.Width.{Width}
use Rattle.ts_bucket.proofs.BucketLaws.{is_bucket-from_remainder, holds-one, holds-from_parts}
use Rattle.demo_script.specs.Demo.{number_of, time_of}
use Rattle.demo_laws.specs.Acts.{demo_width, row_of}

-- ---- whole multiples

-- buckets with this step, one of which starts at 0
abbrev pub steps_of : ℕ → Width
steps_of n = record { step = pos n; shift = pos 0 }

-- a number is the start of a bucket if adding a multiple of the step gives a multiple
pub is_bucket-multiple : (n j m : ℕ) (z : ℤ) → 0 < n → z +ℤ pos (j * n) ≡ pos (n * m) → is_bucket (steps_of n) z ≡ true
is_bucket-multiple n j m z positive e =
    is_bucket-from_remainder (steps_of n) z
    (int_rem_euclid_is (z -ℤ pos 0) (pos n) n j (n * m) positive refl (omega (arith, ints)) ∙ ap pos (mul-mod_right n m))

pub demo_width_fits : IsWidth demo_width
demo_width_fits = record { positive = omega (arith, ints); bounded = omega (arith, ints); from_zero = omega (arith, ints); below_step = omega (arith, ints) }

pub chunk_width_fits : IsWidth (steps_of 5000)
chunk_width_fits = record { positive = omega (arith, ints); bounded = omega (arith, ints); from_zero = omega (arith, ints); below_step = omega (arith, ints) }

-- ---- chunks

-- the start of the times of a round, and of those of the round before
abbrev pub start_of : ℕ → ℤ
start_of round = pos (5000 * round)

abbrev pub start_before : ℕ → ℤ
start_before round = pos (5000 * round) -ℤ pos 5000

-- the chunk that begins at a number
abbrev pub chunk_at : ℤ → Span
chunk_at low = record { lo = low; hi = low +ℤ pos 5000 }

-- the chunk of a time is the one that holds it
pub chunk_is : (low t : ℤ) → is_bucket (steps_of 5000) low ≡ true → low ≤ℤ t → t <ℤ (low +ℤ pos 5000) → chunk_of (pos 5000) t ≡ chunk_at low
chunk_is low t whole from below =
    let is : low ≡ bucket_of (steps_of 5000) t = holds-one (steps_of 5000) low t chunk_width_fits whole (holds-from_parts (steps_of 5000) low t from below) in
    let plain : t -ℤ pos 0 ≡ t = omega (arith, ints) in
    ap chunk_at (ap (λ z. t -ℤ int_rem_euclid z (pos 5000)) (sym plain) ∙ sym is)

chunk_of_round : (round : ℕ) (t : ℤ) → start_of round ≤ℤ t → t <ℤ (start_of round +ℤ pos 5000) → chunk_of (pos 5000) t ≡ chunk_at (start_of round)
chunk_of_round round t from below = chunk_is (start_of round) t (is_bucket-multiple 5000 0 round (start_of round) (omega arith) (omega (arith, ints))) from below

chunk_before_round : (round : ℕ) (t : ℤ) → start_before round ≤ℤ t → t <ℤ start_of round → chunk_of (pos 5000) t ≡ chunk_at (start_before round)
chunk_before_round round t from below = chunk_is (start_before round) t (is_bucket-multiple 5000 1 round (start_before round) (omega arith) (omega (arith, ints))) from (omega (arith, ints))

-- a row that comes in time is in the chunk of its round
pub chunk_in_time : (demo round place : ℕ) → place < 490 → chunk_of (pos 5000) (row_of demo round place).at ≡ chunk_at (start_of round)
chunk_in_time demo round place h =
    let time : time_of (number_of round place) place ≡ pos (10 * (500 * round + place)) = cond-true (nat_lt place 490) (pos (10 * number_of round place)) (pos (10 * number_of round place) -ℤ pos 5000) (lt-ltb place 490 h) in
    ap (chunk_of (pos 5000)) time ∙ chunk_of_round round (pos (10 * (500 * round + place))) (omega (arith, ints)) (omega (arith, ints))

-- a late row is in the chunk before
pub chunk_late : (demo round place : ℕ) → 490 ≤ place → place < 500 → chunk_of (pos 5000) (row_of demo round place).at ≡ chunk_at (start_before round)
chunk_late demo round place l h =
    let time : time_of (number_of round place) place ≡ pos (10 * (500 * round + place)) -ℤ pos 5000 = cond-false (nat_lt place 490) (pos (10 * number_of round place)) (pos (10 * number_of round place) -ℤ pos 5000) (le-ltb place 490 l) in
    ap (chunk_of (pos 5000)) time ∙ chunk_before_round round (pos (10 * (500 * round + place)) -ℤ pos 5000) (omega (arith, ints)) (omega (arith, ints))
