-- The chunks that are read: those near live buckets, and those near all times.
use Rattle.std.proofs.Common.{◌≡◌, ◌+◌, Bool, true, false, not, ◌&&◌, ◌||◌, cond, map, filter, List, [], ◌∷◌, ℤ, pos, ◌+ℤ◌, ◌-ℤ◌, ◌≤ℤ◌, ◌<ℤ◌, int_le, Option, refl, sym, ap, ◌∙◌, arith}
use Rattle.std.specs.List.{list_all, list_any}
use Rattle.std.specs.Int.{int_rem_euclid}
use Rattle.std.specs.Ordering.{int_eq}
use Rattle.std.proofs.lemmas.Bool.{true≢false, and_parts, and_from, or_left, or_right}
use Rattle.std.proofs.lemmas.Bool.Decides.{Decides-int_eq}
use Rattle.std.proofs.lemmas.Int.{ints}
use Rattle.ts_bucket.specs.Bucket.{IsWidth, is_bucket, is_time, bucket_of, first_of, min_time, max_time}
use Rattle.ts_bucket.specs.Chunks.{IsInterval, chunk_of, max_interval}
use Rattle.ts_bucket.specs.Ranges.{IsWholeRange, is_asked}
use Rattle.ts_bucket.specs.Spans.{bucket_span, in_span}
use Rattle.ts_bucket.specs.WholeSpans.{greatest, is_below, whole_span}
use Rattle.ts_bucket.specs.declared.spans.Span.{Span}
use Rattle.ts_bucket.specs.declared.widths.Width.{Width}
use Rattle.ts_bucket.proofs.BucketLaws.{bucket_of_meets, buckets_apart}
use Rattle.ts_bucket.proofs.Remainders.{remainder_bounds}
use Rattle.ts_bucket.proofs.SpanLaws.{in_span-ends, in_span-from_ends}
use Rattle.ts_schema.specs.declared.rows.Row.{Row}
use Rattle.ts_model.specs.Answers.{buckets_in}
use Rattle.ts_model.specs.Reads.{chunk_within, rows_near, spans_meet}
use Rattle.ts_model.proofs.CountLaws.{count_cons}
use Rattle.ts_model.proofs.RangeLaws.{among, among-buckets_in}
use Rattle.ts_model.proofs.ReadLaws.{Meet, meet_parts, meet_from, meets_some_bucket, any_found, any_from, list_any-map}
use Rattle.realtime_union.specs.Live.{IsLiveSpan, all_times}
use Rattle.realtime_union.specs.Laws.{AllTimesReadAll, LiveReadsAreOfBuckets}
use Rattle.ts_schema.proofs.Cases.{by_test, int_le-true, same_test}

-- ---- some of these numbers pass

among-filter : (test : ℤ → Bool) (c : ℤ) (bs : List ℤ) → among c bs ≡ true → test c ≡ true → among c (filter test bs) ≡ true
among-filter test c [] e p = e
among-filter test c (b ∷ bs) e p =
    by_test (int_eq b c)
    (λ here. (let at : test b ≡ true = ap test ((Decides-int_eq b c).0 here) ∙ p in rw (at, here) refl))
    (λ later.
    let rest : among c (filter test bs) ≡ true = among-filter test c bs (sym (ap (λ t. t || among c bs) later) ∙ e) p in
    by_test (test b) (λ at. rw (at, later) rest) (λ at. rw at rest))

filter-among : (test : ℤ → Bool) (c : ℤ) (bs : List ℤ) → among c (filter test bs) ≡ true → (among c bs ≡ true) × (test c ≡ true)
filter-among test c [] e = absurd (true≢false (sym e))
filter-among test c (b ∷ bs) e =
    by_test (test b)
    (λ at.
    let kept : (int_eq b c || among c (filter test bs)) ≡ true = sym (ap (λ t. among c (cond t (b ∷ filter test bs) (filter test bs))) at) ∙ e in
    by_test (int_eq b c)
    (λ here. (or_left _ _ here, ap test (sym ((Decides-int_eq b c).0 here)) ∙ at))
    (λ later. (let rest = filter-among test c bs (sym (ap (λ t. t || among c (filter test bs)) later) ∙ kept) in (or_right (int_eq b c) _ rest.0, rest.1))))
    (λ out. (let rest = filter-among test c bs (sym (ap (λ t. among c (cond t (b ∷ filter test bs) (filter test bs))) out) ∙ e) in (or_right (int_eq b c) _ rest.0, rest.1)))

alone : (b : Bool) → (b || false) ≡ true → b ≡ true
alone true e = refl
alone false e = e

-- ---- the chunks near live buckets

module _ (w : Width) (wide : IsWidth w) (mark : Option ℤ) (starts live : Span) (is : IsLiveSpan w mark starts live) (chunk : Span) (low : chunk.hi ≤ℤ (max_time +ℤ max_interval)) where
  abbrev live_list : List ℤ
  live_list = filter (λ b. not (is_below b mark)) (buckets_in w starts)

  abbrev near : ℤ → Bool
  near b = spans_meet chunk (bucket_span w b)

  -- a live bucket that the chunk meets lies in the live span
  near_is_live : (b : ℤ) → among b live_list ≡ true → near b ≡ true → in_span live b ≡ true
  near_is_live b among_live meets =
      let parts = filter-among (λ x. not (is_below x mark)) b (buckets_in w starts) among_live in
      let asked : is_asked w starts b ≡ true = sym (among-buckets_in w starts b) ∙ parts.0 in
      let asked_parts = and_parts (in_span starts b) (is_bucket w b && int_le (first_of w) b) asked in
      let bucket = and_parts (is_bucket w b) (int_le (first_of w) b) asked_parts.1 in
      let from : first_of w ≤ℤ b = int_le-true (first_of w) b bucket.1 in
      let before : b <ℤ chunk.hi = (meet_parts chunk (bucket_span w b) meets).after in
      let last : greatest <ℤ (bucket_of w greatest +ℤ w.step) = (bucket_of_meets w greatest wide).end_above in
      let bounded = wide.bounded in
      let inside : in_span (whole_span w) b ≡ true = in_span-from_ends (whole_span w) b from (omega (arith, ints, before, last, bounded, low)) in
      is.exact b bucket.0 ∙ rw (inside, asked_parts.0, parts.1) refl

  -- if the live span is empty, the chunk meets no live bucket
  chunk_of_live : (b : ℤ) → among b live_list ≡ true → near b ≡ true → Meet chunk live
  chunk_of_live b among_live meets =
      let inside = in_span-ends live b (near_is_live b among_live meets) in
      let from : live.lo ≤ℤ b = inside.0 in
      let below : b <ℤ live.hi = inside.1 in
      let parts = filter-among (λ x. not (is_below x mark)) b (buckets_in w starts) among_live in
      let asked : is_asked w starts b ≡ true = sym (among-buckets_in w starts b) ∙ parts.0 in
      let bucket = (and_parts (is_bucket w b) (int_le (first_of w) b) (and_parts (in_span starts b) (is_bucket w b && int_le (first_of w) b) asked).1).0 in
      let fits : (b +ℤ w.step) ≤ℤ live.hi = buckets_apart w b live.hi wide bucket is.whole.ends below in
      let m = meet_parts chunk (bucket_span w b) meets in
      let before : chunk.lo <ℤ (b +ℤ w.step) = m.before in
      let after : b <ℤ chunk.hi = m.after in
      record { before = omega (arith, ints, before, fits); after = omega (arith, ints, after, from); some_a = m.some_a; some_b = omega (arith, ints, from, below) }

  -- a bucket of the live span is live
  live_is_listed : (b : ℤ) → among b (buckets_in w live) ≡ true → among b live_list ≡ true
  live_is_listed b among_span =
      let asked : is_asked w live b ≡ true = sym (among-buckets_in w live b) ∙ among_span in
      let parts = and_parts (in_span live b) (is_bucket w b && int_le (first_of w) b) asked in
      let bucket = and_parts (is_bucket w b) (int_le (first_of w) b) parts.1 in
      let tests : (in_span (whole_span w) b && (in_span starts b && not (is_below b mark))) ≡ true = sym (is.exact b bucket.0) ∙ parts.0 in
      let inner = and_parts (in_span starts b) (not (is_below b mark)) (and_parts (in_span (whole_span w) b) (in_span starts b && not (is_below b mark)) tests).1 in
      among-filter (λ x. not (is_below x mark)) b (buckets_in w starts) (among-buckets_in w starts b ∙ and_from _ _ inner.0 parts.1) inner.1

  -- a chunk that meets the live span meets a live bucket
  live_of_chunk : Meet chunk live → list_any near live_list ≡ true
  live_of_chunk m =
      let range : IsWholeRange w live = record { starts = is.whole.starts; ends = is.whole.ends; some = m.some_b } in
      let some : list_any (spans_meet chunk) (map (bucket_span w) (buckets_in w live)) ≡ true =
      meets_some_bucket w wide live range is.whole.from_first chunk ∙ or_left _ _ (meet_from chunk live m) in
      any_found (list_any near live_list ≡ true) near (buckets_in w live) (λ b i p. any_from near live_list b (live_is_listed b i) p)
      (sym (list_any-map (spans_meet chunk) (bucket_span w) (buckets_in w live)) ∙ some)

  same_chunks : list_any (spans_meet chunk) (live ∷ []) ≡ list_any (spans_meet chunk) (map (bucket_span w) live_list)
  same_chunks =
      same_test (list_any (spans_meet chunk) (live ∷ [])) (list_any near live_list)
      (λ e. live_of_chunk (meet_parts chunk live (alone (spans_meet chunk live) e)))
      (λ e. any_found (list_any (spans_meet chunk) (live ∷ []) ≡ true) near live_list (λ b i p. or_left _ _ (meet_from chunk live (chunk_of_live b i p))) e)
      ∙ sym (list_any-map (spans_meet chunk) (bucket_span w) live_list)

pub live_reads_are_of_buckets : LiveReadsAreOfBuckets
live_reads_are_of_buckets w mark starts live interval [] wide is within = refl
live_reads_are_of_buckets w mark starts live interval (row ∷ stored) wide is within =
    let buckets = map (bucket_span w) (filter (λ b. not (is_below b mark)) (buckets_in w starts)) in
    let near : List Span → Row → Bool = λ spans x. list_any (spans_meet (chunk_of interval x.at)) spans in
    let parts = and_parts (chunk_within (min_time -ℤ max_interval) (max_time +ℤ max_interval) interval row) (list_all (chunk_within (min_time -ℤ max_interval) (max_time +ℤ max_interval) interval) stored) within in
    let chunk = chunk_of interval row.at in
    let low : chunk.hi ≤ℤ (max_time +ℤ max_interval) = int_le-true chunk.hi (max_time +ℤ max_interval) (and_parts (int_le (min_time -ℤ max_interval) chunk.lo) (int_le chunk.hi (max_time +ℤ max_interval)) parts.0).1 in
    count_cons (near (live ∷ [])) row stored
    ∙ (ap (λ t. cond t 1 0 + rows_near interval stored (live ∷ [])) (same_chunks w wide mark starts live is chunk low)
    ∙ (ap (λ m. cond (near buckets row) 1 0 + m) (live_reads_are_of_buckets w mark starts live interval stored wide is parts.1)
    ∙ sym (count_cons (near buckets) row stored)))

-- ---- all times

-- a chunk of a time holds it
chunk_meets_times : (interval t : ℤ) → IsInterval interval → is_time t ≡ true → spans_meet (chunk_of interval t) all_times ≡ true
chunk_meets_times interval t is time =
    let chunk = chunk_of interval t in
    let positive : pos 0 <ℤ interval = first_positive interval is.0 in
    let rest = remainder_bounds t interval positive in
    let from : pos 0 ≤ℤ int_rem_euclid t interval = rest.0 in
    let below : int_rem_euclid t interval <ℤ interval = rest.1 in
    let times = and_parts (int_le min_time t) (int_le t max_time) time in
    let low : min_time ≤ℤ t = int_le-true min_time t times.0 in
    let high : t ≤ℤ max_time = int_le-true t max_time times.1 in
    meet_from chunk all_times (meet t (int_rem_euclid t interval) interval low high from below)
  where
    first_positive : (x : ℤ) → pos 1 ≤ℤ x → pos 0 <ℤ x
    first_positive x e = omega (arith, ints, e)

    meet : (t r d : ℤ) → min_time ≤ℤ t → t ≤ℤ max_time → pos 0 ≤ℤ r → r <ℤ d → Meet (record { lo = t -ℤ r; hi = (t -ℤ r) +ℤ d }) all_times
    meet t r d e f g h = record { before = omega (arith, ints, f, g); after = omega (arith, ints, e, h); some_a = omega (arith, ints, g, h); some_b = omega (arith, ints, e, f) }

pub all_times_read_all : AllTimesReadAll
all_times_read_all interval [] is times = refl
all_times_read_all interval (row ∷ stored) is times =
    let parts = and_parts (is_time row.at) (list_all (λ r. is_time r.at) stored) times in
    let near : Row → Bool = λ x. list_any (spans_meet (chunk_of interval x.at)) (all_times ∷ []) in
    let here : near row ≡ true = or_left _ _ (chunk_meets_times interval row.at is parts.0) in
    count_cons near row stored
    ∙ (ap (λ t. cond t 1 0 + rows_near interval stored (all_times ∷ [])) here
    ∙ omega (arith, all_times_read_all interval stored is parts.1))
