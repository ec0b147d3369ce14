-- The cut of a round's refresh: it is pending with its span, and no bucket of the span was refreshed before.
use Rattle.std.proofs.Common.{◌≡◌, ℕ, zero, suc, ◌*◌, ◌==◌, ◌&&◌, true, false, cond, [], ◌∷◌, ℤ, ◌≤ℤ◌, int_lt, Some, None, refl, ap, ◌∙◌, arith}
use Rattle.std.proofs.lemmas.Bool.{and_from, and_right, cond-true, cond-false}
use Rattle.std.proofs.lemmas.Int.{ints}
use Rattle.ts_bucket.specs.Bucket.{is_bucket, first_of}
use Rattle.ts_bucket.specs.Positions.{later}
use Rattle.ts_bucket.specs.Spans.{in_span}
use Rattle.ts_bucket.proofs.SpanLaws.{in_span-ends}
use Rattle.ts_bucket.specs.Windows.{inscribed}
use Rattle.ts_model.specs.declared.refreshes.Pending.TheVariants.{Waiting}
use Rattle.ts_model.specs.History.{History, position}
use Rattle.ts_model.specs.Pending.{pending}
use Rattle.ts_model.specs.Refreshes.{span_of_cut, is_covered, last, invalid, is_invalid}
use Rattle.ts_model.specs.Reads.{dirty_ranges}
use Rattle.demo_laws.specs.Acts.{demo_view, demo_width}
use Rattle.demo_laws.specs.Histories.{after_cut, after_parts, history_after_rounds, span_before}
use Rattle.demo_laws.proofs.ChunkLaws.{start_of, start_before, is_bucket-multiple, demo_width_fits}
use Rattle.demo_laws.proofs.SpanLaws.{inscribed-whole, one_range}
use Rattle.ts_schema.proofs.Cases.{same_number}

-- ---- the span

-- a bucket begins at the start of a round's times, and at the start of the round before
pub is_bucket-start : (round : ℕ) → is_bucket demo_width (start_of round) ≡ true
is_bucket-start round = is_bucket-multiple 100 0 (50 * round) (start_of round) (omega arith) (omega (arith, ints))

pub is_bucket-before : (round : ℕ) → is_bucket demo_width (start_before round) ≡ true
is_bucket-before round = is_bucket-multiple 100 50 (50 * round) (start_before round) (omega arith) (omega (arith, ints))

from_first : (round : ℕ) → first_of demo_width ≤ℤ start_before round
from_first round = omega (arith, ints)

-- the window of a refresh has the times of the round before
pub window_is : (round : ℕ) → inscribed demo_width (Some (start_before round)) (start_of round) ≡ Some (span_before round)
window_is round = inscribed-whole demo_width (start_before round) (start_of round) demo_width_fits (is_bucket-before round) (is_bucket-start round) (from_first round) (omega (arith, ints))

-- ---- the cut

-- its span is that of its event
pub span_of_cut_is : (round : ℕ) (h : History) → span_of_cut 0 (after_cut round h) (position (after_cut round h)) ≡ Some (span_before round)
span_of_cut_is round h = cond-true (suc (position h) == suc (position h) && true) (Some (span_before round)) (span_of_cut 0 h (suc (position h))) (and_from _ _ (same_number (suc (position h))) refl)

-- the refresh is pending
pub cut_waits : (round : ℕ) (h : History) → pending (after_cut round h) (position (after_cut round h)) ≡ Waiting 0
cut_waits round h = cond-true (suc (position h) == suc (position h)) (Waiting 0) (pending h (suc (position h))) (same_number (suc (position h)))

-- ---- the last refreshes

-- no bucket from the times of the round before on was refreshed in an earlier round
pub last_of_rounds : (demo round : ℕ) (b : ℤ) → start_before round ≤ℤ b → last 0 (history_after_rounds demo round) b ≡ None
unfolding history_after_rounds
last_of_rounds demo zero b l = refl
last_of_rounds demo (suc round) b l =
    let h = after_parts demo round (history_after_rounds demo round) in
    let below : start_before round ≤ℤ b = omega (arith, ints) in
    let past : int_lt b (start_of round) ≡ false = (let at : start_of round ≤ℤ b = omega (arith, ints) in grind (arith, ints)) in
    ap (λ s. later (last 0 (history_after_rounds demo round) b) (cond (is_covered b s) (Some (position (after_cut round h))) None)) (span_of_cut_is round h)
    ∙ ap (λ o. later o (cond (in_span (span_before round) b) (Some (position (after_cut round h))) None)) (last_of_rounds demo round b below)
    ∙ cond-false (in_span (span_before round) b) (Some (position (after_cut round h))) None (and_right _ _ past)

-- so each bucket of the refresh's span is dirty, and they are one range
pub one_dirty_range : (demo round : ℕ) → dirty_ranges 0 demo_view (after_cut round (after_parts demo round (history_after_rounds demo round))) (span_before round) ≡ span_before round ∷ []
one_dirty_range demo round =
    let h = after_cut round (after_parts demo round (history_after_rounds demo round)) in
    one_range demo_width (span_before round) (invalid 0 demo_view h) demo_width_fits (is_bucket-before round) (is_bucket-start round) (from_first round) (omega (arith, ints))
    (λ b e. ap (is_invalid 0 demo_view h b) (last_of_rounds demo round b (in_span-ends (span_before round) b e).0))
