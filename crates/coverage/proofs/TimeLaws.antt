-- The hulls of commits are of times.
use Rattle.std.proofs.Common.{◌≡◌, Bool, true, List, [], ◌∷◌, ◌++◌, ℤ, ◌≤ℤ◌, Option, Some, None, refl, subst, arith}
use Rattle.std.specs.Int.{int_min, int_max}
use Rattle.std.specs.List.{list_all}
use Rattle.std.proofs.lemmas.Bool.{and_parts}
use Rattle.std.proofs.lemmas.Int.{ints}
use Rattle.ts_bucket.specs.Bucket.{is_time, min_time, max_time}
use Rattle.ts_bucket.specs.declared.spans.Hull.{Hull}
use Rattle.ts_schema.specs.declared.rows.Row.{Row}
use Rattle.ts_model.specs.declared.events.Event.TheVariants.{Commit}
use Rattle.ts_model.specs.History.{◌▸◌}
use Rattle.ts_model.specs.Rows.{rows}
use Rattle.ts_model.specs.Effect.{all_appended, all_taken, hull_with, hull_of}
use Rattle.ts_model.specs.Reads.{rows_inserted}
use Rattle.ts_model.specs.Allowed.{consistent, all_consistent}
use Rattle.ts_model.proofs.FitLaws.{all_joined, all_parted, moved_hold, rows_hold, rows_are_times}
use Rattle.coverage.specs.Laws.{HullsAreOfTimes}

abbrev timed : Row → Bool
timed row = is_time row.at

time_ends : (t : ℤ) → is_time t ≡ true → (min_time ≤ℤ t) × (t ≤ℤ max_time)
time_ends t e = (grind (arith, ints), grind (arith, ints))

wider : (lo hi t least most : ℤ) → lo ≤ℤ t → t ≤ℤ hi → lo ≤ℤ least → least ≤ℤ most → most ≤ℤ hi → (lo ≤ℤ int_min t least) × (int_min t least ≤ℤ int_max t most) × (int_max t most ≤ℤ hi)
wider lo hi t least most a b c d e = (grind (arith, ints), grind (arith, ints), grind (arith, ints))

hull_timed : (lo hi t : ℤ) (o : Option Hull) → lo ≤ℤ t → t ≤ℤ hi → ((hull : Hull) → o ≡ Some hull → (lo ≤ℤ hull.least) × (hull.least ≤ℤ hull.most) × (hull.most ≤ℤ hi)) → (lo ≤ℤ (hull_with t o).least) × ((hull_with t o).least ≤ℤ (hull_with t o).most) × ((hull_with t o).most ≤ℤ hi)
hull_timed lo hi t None a b more = (a, omega (arith, ints), b)
hull_timed lo hi t (Some hull) a b more =
    let rest = more hull refl in
    wider lo hi t hull.least hull.most a b rest.0 rest.1 rest.2

hull_of_timed : (xs : List Row) (hull : Hull) → list_all timed xs ≡ true → hull_of xs ≡ Some hull → (min_time ≤ℤ hull.least) × (hull.least ≤ℤ hull.most) × (hull.most ≤ℤ max_time)
hull_of_timed [] hull e f = absurd (cc)
hull_of_timed (row ∷ xs) hull e f =
    let parts = and_parts (is_time row.at) (list_all timed xs) e in
    let ends = time_ends row.at parts.0 in
    let this : hull_with row.at (hull_of xs) ≡ hull = cc in
    let P : Hull → Type 0 = λ x. (min_time ≤ℤ x.least) × (x.least ≤ℤ x.most) × (x.most ≤ℤ max_time) in
    subst P this (hull_timed min_time max_time row.at (hull_of xs) ends.0 ends.1 (λ x g. hull_of_timed xs x parts.1 g))

pub hulls_are_of_times : HullsAreOfTimes
hulls_are_of_times t h ops hull ok e =
    let before = (and_parts (all_consistent h) (consistent h (Commit ops)) ok).0 in
    let all = all_parted timed (rows_inserted t h) (all_appended t ops) (rows_are_times.inserted t (h ▸ Commit ops) ok) in
    let moved = moved_hold timed t ops (rows t h) all.1 (rows_hold timed t h all.0) in
    hull_of_timed (all_appended t ops ++ all_taken t ops (rows t h)) hull (all_joined timed (all_appended t ops) (all_taken t ops (rows t h)) all.1 moved.0) e
