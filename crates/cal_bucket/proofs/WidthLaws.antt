-- Buckets of days and of weeks.
use Rattle.std.proofs.Common.{◌≡◌, ℕ, ◌+◌, ◌*◌, ◌<◌, ◌∙◌, arith, ℤ, pos, negsuc, ◌+ℤ◌, ◌-ℤ◌, ◌*ℤ◌}
use Rattle.std.proofs.lemmas.Int.{ints}
use Rattle.std.specs.Int.{int_div_euclid, int_rem_euclid}
use Rattle.jiff_core.proofs.CalendarLemmas.{weekday_number-parts}
use Rattle.jiff_core.proofs.SignedLemmas.{signed_arith, int_rem_euclid-parts}
use Rattle.cal_bucket.specs.declared.plans.CalUnit.TheVariants.{Day, Week}
use Rattle.cal_bucket.specs.Buckets.{monday, seconds_start}
use Rattle.cal_bucket.specs.Laws.{DaysHaveAWidth, WeeksHaveAWidth, WeeksStartOnMondays, IsMonday}
use Rattle.cal_bucket.proofs.BucketLaws.{each_has_one_bucket}
use Rattle.cal_bucket.proofs.PlaceLaws.{names_are_of_buckets}
use borrow.Author.Differences.{up, down, product_is}

-- the start computed by division, counted from a Monday, is the one computed by remainder
by_remainder : (seconds : ℕ) (t : ℤ) → 0 < seconds → seconds_start seconds (int_div_euclid (t -ℤ monday) (pos seconds)) ≡ t -ℤ int_rem_euclid (t -ℤ monday) (pos seconds)
by_remainder seconds t some =
    joined (int_div_euclid (t -ℤ monday) (pos seconds)) (int_rem_euclid (t -ℤ monday) (pos seconds)) (int_rem_euclid-parts (t -ℤ monday) seconds some)
  where
    joined : (q r : ℤ) → (up r + up q * seconds + down (t -ℤ monday) ≡ down q * seconds + up (t -ℤ monday)) × (down r ≡ 0) × (up r < seconds) → seconds_start seconds q ≡ t -ℤ r
    joined q r parts = let product = product_is q (pos seconds) in omega (arith, ints, parts, product)

pub days_have_a_width : DaysHaveAWidth
days_have_a_width n t b some h = each_has_one_bucket Day n t b _ some h (names_are_of_buckets Day n t some) ∙ by_remainder (n * 86400) t (omega arith)

pub weeks_have_a_width : WeeksHaveAWidth
weeks_have_a_width n t b some h = each_has_one_bucket Week n t b _ some h (names_are_of_buckets Week n t some) ∙ by_remainder (n * 604800) t (omega arith)

-- a multiple of weeks in seconds is one in days
weeks_in_days : (p : ℤ) (n : ℕ) → p *ℤ pos (n * 604800) ≡ pos 604800 *ℤ (p *ℤ pos n)
weeks_in_days (pos a) n = omega (arith, ints)
weeks_in_days (negsuc a) n = omega (arith, ints)

pub weeks_start_on_mondays : WeeksStartOnMondays
weeks_start_on_mondays n p =
    (pos 10959 +ℤ (pos 7 *ℤ (p *ℤ pos n)), on_monday (p *ℤ pos n) (p *ℤ pos (n * 604800)) (weeks_in_days p n))
  where
    on_monday : (weeks seconds : ℤ) → seconds ≡ pos 604800 *ℤ weeks → IsMonday (monday +ℤ seconds) (pos 10959 +ℤ (pos 7 *ℤ weeks))
    on_monday weeks seconds is = record {
      starts = omega (arith, signed_arith);
      weekday = omega (arith, signed_arith, weekday_number-parts (pos 10959 +ℤ (pos 7 *ℤ weeks)));
    }
