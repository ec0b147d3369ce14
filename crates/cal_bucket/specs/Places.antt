-- A place for each number, for each unit: the place of the bucket that holds it.
use Rattle.std.specs.Prelude.{ℕ, zero, suc, ◌*◌, ◌/◌, cond, nat_le, ℤ, pos, ◌+ℤ◌, ◌-ℤ◌, ◌*ℤ◌, unsigned_abs}
use Rattle.std.specs.Int.{int_div_euclid, int_rem_euclid}
use Rattle.cal_bucket.specs.declared.plans.CalUnit.{CalUnit}
use Rattle.cal_bucket.specs.declared.plans.CalUnit.TheVariants.{Day, Week, Month, Year}
use Rattle.cal_bucket.specs.Calendar.{days_after}
use Rattle.cal_bucket.specs.Buckets.{monday, start_at}

-- the last of the first n months from January 2000 on that starts on or before the day
unfoldable pub last_month : ℕ → ℕ → ℕ
last_month zero day = 0
last_month (suc n) day = cond (nat_le (days_after n) day) n (last_month n day)

-- the month that holds t
unfoldable pub month_at : ℤ → ℤ
month_at t =
    pos (last_month 4800 (unsigned_abs (int_rem_euclid (t -ℤ pos 946684800) (pos 12622780800)) / 86400))
    +ℤ (int_div_euclid (t -ℤ pos 946684800) (pos 12622780800) *ℤ pos 4800)

-- the place of the bucket of n units that holds t
abbrev pub place_at : CalUnit → ℕ → ℤ → ℤ
place_at Day n t = int_div_euclid (t -ℤ monday) (pos (n * 86400))
place_at Week n t = int_div_euclid (t -ℤ monday) (pos (n * 604800))
place_at Month n t = int_div_euclid (month_at t) (pos n)
place_at Year n t = int_div_euclid (month_at t) (pos (n * 12))

-- the name of the bucket of n units that holds t
abbrev pub name_of : CalUnit → ℕ → ℤ → ℤ
name_of unit n t = start_at unit n (place_at unit n t)
