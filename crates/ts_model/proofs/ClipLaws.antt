-- A span clipped to bounds between which all chunks lie is near the same rows. The chunks of consistent
-- histories lie near the range of times.
use Rattle.std.proofs.Common.{◌≡◌, ℕ, Bool, true, false, ◌&&◌, ◌||◌, cond, [], ◌∷◌, ℤ, pos, ◌+ℤ◌, ◌-ℤ◌, ◌≤ℤ◌, ◌<ℤ◌, int_le, int_lt, Option, Some, None, sym, refl, ap, ◌∙◌, subst, arith}
use Rattle.std.specs.Prelude.{◌+◌, option_and_then}
use Rattle.std.specs.Int.{int_min, int_max, int_rem_euclid}
use Rattle.std.specs.List.{list_all, list_any}
use Rattle.std.proofs.lemmas.Bool.{and_parts, and_from}
use Rattle.std.proofs.lemmas.Int.{ints, clamps}
use Rattle.ts_bucket.specs.Bucket.{is_time, min_time, max_time}
use Rattle.ts_bucket.specs.Chunks.{max_interval, chunk_of}
use Rattle.ts_bucket.specs.declared.spans.Span.{Span}
use Rattle.ts_bucket.proofs.Remainders.{remainder_bounds}
use Rattle.ts_schema.specs.declared.rows.Row.{Row}
use Rattle.ts_model.specs.declared.rosters.Roster.{Roster}
use Rattle.ts_model.specs.declared.tables.Hyper.{Hyper as HyperInfo}
use Rattle.ts_model.specs.declared.tables.TableInfo.{TableInfo}
use Rattle.ts_model.specs.Roster.{roster, table_of, hyper_of}
use Rattle.ts_model.specs.Reads.{spans_meet, clip, chunk_within, rows_near, rows_inserted}
use Rattle.ts_model.specs.Sound.{hyper_fits}
use Rattle.ts_model.specs.Laws.{is_hyper_sound, ClippingKeepsNear, ChunksAreWithin}
use Rattle.ts_model.proofs.CountLaws.{count_cons}
use Rattle.ts_model.proofs.ReadLaws.{meet_parts, meet_from}
use Rattle.ts_model.proofs.FitLaws.{all_implied, rows_are_times}
use Rattle.ts_model.proofs.SoundLaws.{rosters_are_sound}
use Rattle.ts_schema.proofs.Cases.{int_le-true, le-int_le, int_lt-true, same_test}

clipped_meets : (low high : ℤ) (chunk span : Span) → low ≤ℤ chunk.lo → chunk.hi ≤ℤ high → spans_meet chunk (clip low high span) ≡ spans_meet chunk span
clipped_meets low high chunk span from to =
    same_test (spans_meet chunk (clip low high span)) (spans_meet chunk span)
    (λ e.
    let m = meet_parts chunk (clip low high span) e in
    let before : chunk.lo <ℤ int_min high span.hi = m.before in
    let after : int_max low span.lo <ℤ chunk.hi = m.after in
    let some_chunk : chunk.lo <ℤ chunk.hi = m.some_a in
    let some : int_max low span.lo <ℤ int_min high span.hi = m.some_b in
    meet_from chunk span (record { before = omega (arith, ints, clamps); after = omega (arith, ints, clamps); some_a = some_chunk; some_b = omega (arith, ints, clamps) }))
    (λ e.
    let m = meet_parts chunk span e in
    let before : chunk.lo <ℤ span.hi = m.before in
    let after : span.lo <ℤ chunk.hi = m.after in
    let some_chunk : chunk.lo <ℤ chunk.hi = m.some_a in
    let some : span.lo <ℤ span.hi = m.some_b in
    meet_from chunk (clip low high span) (record { before = omega (arith, ints, clamps); after = omega (arith, ints, clamps); some_a = some_chunk; some_b = omega (arith, ints, clamps) }))

pub clipping_keeps_near : ClippingKeepsNear
clipping_keeps_near low high interval [] span e = refl
clipping_keeps_near low high interval (row ∷ stored) span e =
    let parts = and_parts (chunk_within low high interval row) (list_all (chunk_within low high interval) stored) e in
    let within = and_parts _ _ parts.0 in
    let chunk = chunk_of interval row.at in
    let near : Span → Row → Bool = λ s x. list_any (spans_meet (chunk_of interval x.at)) (s ∷ []) in
    let same_here : near (clip low high span) row ≡ near span row = ap (λ t. t || false) (clipped_meets low high chunk span (int_le-true low chunk.lo within.0) (int_le-true chunk.hi high within.1)) in
    count_cons (near (clip low high span)) row stored
    ∙ ap (λ t. cond t 1 0 + rows_near interval stored (clip low high span ∷ [])) same_here
    ∙ ap (λ m. cond (near span row) 1 0 + m) (clipping_keeps_near low high interval stored span parts.1)
    ∙ sym (count_cons (near span) row stored)

-- ---- chunks of consistent histories

chunk_near : (interval t : ℤ) → pos 0 <ℤ interval → interval ≤ℤ max_interval → is_time t ≡ true → (int_le (min_time -ℤ max_interval) (chunk_of interval t).lo && int_le (chunk_of interval t).hi (max_time +ℤ max_interval)) ≡ true
chunk_near interval t positive bounded time =
    let rest = remainder_bounds t interval positive in
    let from : pos 0 ≤ℤ int_rem_euclid t interval = rest.0 in
    let below : int_rem_euclid t interval <ℤ interval = rest.1 in
    let times = and_parts _ _ time in
    let low : min_time ≤ℤ t = int_le-true min_time t times.0 in
    let high : t ≤ℤ max_time = int_le-true t max_time times.1 in
    and_from _ _ (le-int_le _ _ (lower t (int_rem_euclid t interval) interval low below bounded)) (le-int_le _ _ (upper t (int_rem_euclid t interval) interval high from bounded))
  where
    lower : (t r d : ℤ) → min_time ≤ℤ t → r <ℤ d → d ≤ℤ max_interval → (min_time -ℤ max_interval) ≤ℤ (t -ℤ r)
    lower t r d e f g = omega (arith, ints)

    upper : (t r d : ℤ) → t ≤ℤ max_time → pos 0 ≤ℤ r → d ≤ℤ max_interval → ((t -ℤ r) +ℤ d) ≤ℤ (max_time +ℤ max_interval)
    upper t r d e f g = omega (arith, ints)

pub record IsLong (interval : ℤ) : Type 0 where
  pub positive : pos 0 <ℤ interval
  pub bounded : interval ≤ℤ max_interval

long_hyper : (hyper : HyperInfo) (info : TableInfo) → hyper_fits hyper (Some info) ≡ true → IsLong hyper.interval
long_hyper hyper info e =
    let most = and_parts _ (int_le hyper.interval max_interval) e in
    let positive = and_parts _ (int_lt (pos 0) hyper.interval) most.0 in
    record { positive = int_lt-true (pos 0) hyper.interval positive.1; bounded = int_le-true hyper.interval max_interval most.1 }

long_table : (r : Roster) (t : ℕ) (hyper : HyperInfo) → ((info : TableInfo) → table_of r t ≡ Some info → is_hyper_sound info info.hyper ≡ true) → hyper_of r t ≡ Some hyper → IsLong hyper.interval
long_table r t hyper fits e = of_table (table_of r t) refl e
  where
    of_info : (info : TableInfo) (o : Option HyperInfo) → is_hyper_sound info o ≡ true → o ≡ Some hyper → IsLong hyper.interval
    of_info info None sound e = absurd (cc)
    of_info info (Some found) sound e = let same_hyper : found ≡ hyper = cc in subst (λ x. IsLong x.interval) same_hyper (long_hyper found info sound)

    of_table : (o : Option TableInfo) → table_of r t ≡ o → option_and_then (λ info. info.hyper) o ≡ Some hyper → IsLong hyper.interval
    of_table None is e = absurd (cc)
    of_table (Some info) is e = of_info info info.hyper (fits info is) e

pub chunks_are_within : ChunksAreWithin
chunks_are_within t hyper h ok there =
    let long = long_table (roster h) t hyper (λ info e. (and_parts _ (is_hyper_sound info info.hyper) ((rosters_are_sound h ok).tables t info e)).1) there in
    all_implied (λ row. is_time row.at) (chunk_within (min_time -ℤ max_interval) (max_time +ℤ max_interval) hyper.interval) (λ row time. chunk_near hyper.interval row.at long.positive long.bounded time) (rows_inserted t h) (rows_are_times.inserted t h ok)
