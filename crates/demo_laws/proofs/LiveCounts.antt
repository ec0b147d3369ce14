-- How many rows are in the chunks that a query reads.
use Rattle.std.proofs.Common.{◌≡◌, ℕ, suc, ◌+◌, ◌%◌, ◌≤◌, Bool, true, false, not, ◌||◌, cond, List, [], ◌∷◌, map, filter, ℤ, pos, ◌+ℤ◌, ◌≤ℤ◌, ◌<ℤ◌, int_le, int_lt, sym, refl, ap, ◌∙◌, arith}
use Rattle.std.specs.List.{count_by, list_any}
use Rattle.std.specs.Ordering.{int_eq}
use Rattle.std.proofs.lemmas.Bool.{true≢false, and_from, not-true, not_from_false, or_left, or_right}
use Rattle.std.proofs.lemmas.Bool.Decides.{Decides-int_eq}
use Rattle.std.proofs.lemmas.Int.{ints}
use Rattle.ts_bucket.specs.Bucket.{first_of}
use Rattle.ts_bucket.specs.Spans.{bucket_span}
use Rattle.ts_bucket.specs.WholeSpans.{is_below}
use Rattle.ts_bucket.specs.declared.spans.Span.{Span}
use Rattle.ts_bucket.proofs.SpanLaws.{in_span-from_ends}
use Rattle.ts_model.specs.Answers.{buckets_in}
use Rattle.ts_model.specs.History.{History}
use Rattle.ts_model.specs.Reads.{rows_inserted, live_buckets, reads_of_view, rows_near, rows_near_in, spans_meet}
use Rattle.ts_model.specs.Refreshes.{watermark}
use Rattle.ts_model.specs.Roster.{roster, hyper_of, view_of}
use Rattle.ts_model.proofs.RangeLaws.{among, among-buckets_in}
use Rattle.ts_model.proofs.ReadLaws.{meet_from}
use Rattle.demo_laws.specs.Acts.{demo_roster, demo_view, demo_width, row_with}
use Rattle.demo_laws.specs.Histories.{demo_history, history_after_rounds}
use Rattle.demo_laws.proofs.ChunkLaws.{start_of, start_before, chunk_at}
use Rattle.demo_laws.proofs.CutLaws.{is_bucket-start}
use Rattle.demo_laws.proofs.HistoryLaws.{rounds_next, roster_of_rounds, count-insert}
use Rattle.demo_laws.proofs.MarkLaws.{mark_of_rounds}
use Rattle.demo_laws.proofs.RowCounts.{is_near, round_count, none_of_rounds}
use Rattle.demo_laws.proofs.SpanLaws.{apart_below}

-- ---- some of the items that a filter keeps

module _ {X : Type 0} (test : X → Bool) (g : ℤ → X) (keeps : ℤ → Bool) where
  none_kept : (bs : List ℤ) → ((b : ℤ) → keeps b ≡ true → test (g b) ≡ false) → list_any test (map g (filter keeps bs)) ≡ false
  none_kept [] none = refl
  none_kept (b ∷ bs) none =
      elim (keeps b) as (λ k. keeps b ≡ k → list_any test (map g (cond k (b ∷ filter keeps bs) (filter keeps bs))) ≡ false) [
        | true ↦ λ e. ap (λ t. t || list_any test (map g (filter keeps bs))) (none b e) ∙ none_kept bs none
        | false ↦ λ _. none_kept bs none
      ] refl

  some_kept : (bs : List ℤ) (c : ℤ) → among c bs ≡ true → keeps c ≡ true → test (g c) ≡ true → list_any test (map g (filter keeps bs)) ≡ true
  some_kept [] c there kept passes = absurd (true≢false (sym there))
  some_kept (b ∷ bs) c there kept passes =
      elim (int_eq b c) as (λ t. int_eq b c ≡ t → (t || among c bs) ≡ true → list_any test (map g (cond (keeps b) (b ∷ filter keeps bs) (filter keeps bs))) ≡ true) [
        | true ↦ λ e _. here ((Decides-int_eq b c).0 e)
        | false ↦ λ _ rest. further (keeps b) (some_kept bs c rest kept passes)
      ] refl there
    where
      here : b ≡ c → list_any test (map g (cond (keeps b) (b ∷ filter keeps bs) (filter keeps bs))) ≡ true
      here q =
          ap (λ k. list_any test (map g (cond k (b ∷ filter keeps bs) (filter keeps bs)))) (ap keeps q ∙ kept)
          ∙ or_left (test (g b)) _ (ap (λ x. test (g x)) q ∙ passes)

      further : (k : Bool) → list_any test (map g (filter keeps bs)) ≡ true → list_any test (map g (cond k (b ∷ filter keeps bs) (filter keeps bs))) ≡ true
      further true rest = or_right (test (g b)) _ rest
      further false rest = rest

-- ---- the live buckets

module _ (h : History) (round : ℕ) (starts : Span) (marked : (b : ℤ) → is_below b (watermark 0 demo_view h) ≡ int_lt b (start_of round)) where
  -- a chunk overlaps a live bucket
  abbrev pub meets_live : Span → Bool
  meets_live chunk = list_any (spans_meet chunk) (map (bucket_span demo_width) (live_buckets 0 demo_view h starts))

  -- no chunk of the rounds before does
  pub meets_no_live : (c : ℕ) → c ≤ round → meets_live (chunk_at (start_before c)) ≡ false
  meets_no_live c l =
      none_kept (spans_meet (chunk_at (start_before c))) (bucket_span demo_width) (λ b. not (is_below b (watermark 0 demo_view h))) (buckets_in demo_width starts)
      (λ b live. apart_below (chunk_at (start_before c)) (bucket_span demo_width b) (above b (sym (marked b) ∙ not-true (is_below b (watermark 0 demo_view h)) live)))
    where
      above : (b : ℤ) → int_lt b (start_of round) ≡ false → (start_before c +ℤ pos 5000) ≤ℤ b
      above b e = let at : start_of round ≤ℤ b = grind (arith, ints) in omega (arith, ints)

  -- the chunk of the round does, if the query asks for its start
  pub meets_its_live : starts.lo ≤ℤ start_of round → start_of round <ℤ starts.hi → meets_live (chunk_at (start_of round)) ≡ true
  meets_its_live low high =
      let b = start_of round in
      some_kept (spans_meet (chunk_at b)) (bucket_span demo_width) (λ c. not (is_below c (watermark 0 demo_view h))) (buckets_in demo_width starts) b
      (among-buckets_in demo_width starts b ∙ and_from _ _ (in_span-from_ends starts b low high) (and_from _ _ (is_bucket-start round) (from_first b (omega (arith, ints)))))
      (not_from_false (is_below b (watermark 0 demo_view h)) (marked b ∙ not_itself b))
      (meet_from (chunk_at b) (bucket_span demo_width b) (record { before = omega (arith, ints); after = omega (arith, ints); some_a = omega (arith, ints); some_b = omega (arith, ints) }))
    where
      from_first : (b : ℤ) → pos 0 ≤ℤ b → int_le (first_of demo_width) b ≡ true
      from_first b l = grind (arith, ints)

      not_itself : (b : ℤ) → int_lt b b ≡ false
      not_itself b = grind (arith, ints)

-- ---- the rows near them

-- if the chunk of the last round passes, and none before does, the rows that pass are those of that round that came in
-- time
last_round_count : (near : Span → Bool) (demo round : ℕ) → ((c : ℕ) → c ≤ round → near (chunk_at (start_before c)) ≡ false) → near (chunk_at (start_of round)) ≡ true → count_by (is_near near) (rows_inserted 0 (history_after_rounds demo (suc round))) ≡ 490
last_round_count near demo round none some =
    ap (λ h. count_by (is_near near) (rows_inserted 0 h)) (rounds_next demo round)
    ∙ round_count near demo round (history_after_rounds demo round)
    ∙ sums (near (chunk_at (start_of round))) (near (chunk_at (start_before round))) (none_of_rounds near demo round none) some (none round (omega arith))
  where
    sums : {n : ℕ} (a b : Bool) → n ≡ 0 → a ≡ true → b ≡ false → n + cond a 490 0 + cond b 10 0 ≡ 490
    sums a b p q r = rw (q, r) (ap (λ m. m + 490 + 0) p)

-- a query of the aggregate reads the rows in chunks that overlap a live bucket
reads_live : (h : History) (starts : Span) → roster h ≡ demo_roster → reads_of_view 0 h starts (view_of (roster h) 0) ≡ rows_near (pos 5000) (rows_inserted 0 h) (map (bucket_span demo_width) (live_buckets 0 demo_view h starts))
reads_live h starts e =
    ap (λ r. reads_of_view 0 h starts (view_of r 0)) e
    ∙ ap (λ r. rows_near_in (hyper_of r 0) (rows_inserted 0 h) (map (bucket_span demo_width) (live_buckets 0 demo_view h starts))) e

-- a query after a round
pub round_query_reads : (demo round : ℕ) (starts : Span) → starts.lo ≤ℤ start_of round → start_of round <ℤ starts.hi → reads_of_view 0 (history_after_rounds demo (suc round)) starts (view_of (roster (history_after_rounds demo (suc round))) 0) ≡ 490
round_query_reads demo round starts low high =
    let h = history_after_rounds demo (suc round) in
    let marked = mark_of_rounds demo round in
    reads_live h starts (roster_of_rounds demo (suc round))
    ∙ last_round_count (meets_live h round starts marked) demo round (meets_no_live h round starts marked) (meets_its_live h round starts marked low high)

-- a query after the late row, whose chunk is below
pub last_query_reads : (demo : ℕ) (starts : Span) → starts.lo ≤ℤ start_of 39 → start_of 39 <ℤ starts.hi → reads_of_view 0 (demo_history demo) starts (view_of (roster (demo_history demo)) 0) ≡ 490
last_query_reads demo starts low high =
    let h = demo_history demo in
    let late = row_with (pos 1000) 0 (demo % 1000) ∷ [] in
    let marked : (b : ℤ) → is_below b (watermark 0 demo_view h) ≡ int_lt b (start_of 39) = mark_of_rounds demo 39 in
    let near = meets_live h 39 starts marked in
    reads_live h starts (roster_of_rounds demo 40)
    ∙ count-insert (is_near near) (history_after_rounds demo 40) late
    ∙ ap (λ n. n + count_by (is_near near) late) (last_round_count near demo 39 (meets_no_live h 39 starts marked) (meets_its_live h 39 starts marked low high))
    ∙ ap (λ b. 490 + (0 + cond b 1 0)) (meets_no_live h 39 starts marked 1 (omega arith))
