-- How many rows are in the chunk that a refresh reads.
use Rattle.std.proofs.Common.{◌≡◌, ℕ, zero, suc, ◌+◌, ◌<◌, Bool, true, false, ◌||◌, cond, [], ◌∷◌, pos, ap, ◌∙◌, arith}
use Rattle.std.specs.List.{count_by}
use Rattle.std.proofs.lemmas.Int.{ints}
use Rattle.ts_bucket.specs.declared.spans.Span.{Span}
use Rattle.ts_model.specs.Reads.{rows_inserted, rows_near, spans_meet}
use Rattle.ts_model.proofs.ReadLaws.{meet_from}
use Rattle.demo_laws.specs.Histories.{after_parts, history_after_rounds, span_before}
use Rattle.demo_laws.specs.Turns.{refresh_reads}
use Rattle.demo_laws.proofs.ChunkLaws.{start_of, start_before, chunk_at}
use Rattle.demo_laws.proofs.HistoryLaws.{rounds_next, nothing_inserted}
use Rattle.demo_laws.proofs.RowCounts.{is_near, round_count, none_of_rounds}
use Rattle.demo_laws.proofs.SpanLaws.{apart_below, apart_above}

-- a chunk overlaps the span of a round's refresh
abbrev pub meets_before : ℕ → Span → Bool
meets_before round chunk = spans_meet chunk (span_before round) || false

-- only the chunk of the round before does
pub meets_its_chunk : (round : ℕ) → meets_before round (chunk_at (start_before round)) ≡ true
meets_its_chunk round =
    ap (λ b. b || false) (meet_from (chunk_at (start_before round)) (span_before round) (record { before = omega (arith, ints); after = omega (arith, ints); some_a = omega (arith, ints); some_b = omega (arith, ints) }))

meets_none_below : (round c : ℕ) → c < round → meets_before round (chunk_at (start_before c)) ≡ false
meets_none_below round c l = ap (λ b. b || false) (apart_below (chunk_at (start_before c)) (span_before round) (omega (arith, ints)))

meets_none_above : (round : ℕ) → meets_before round (chunk_at (start_of round)) ≡ false
meets_none_above round = ap (λ b. b || false) (apart_above (chunk_at (start_of round)) (span_before round) (omega (arith, ints)))

-- the ten late rows of the round, and those of the round before that came in time
pub refresh_count : (demo round : ℕ) → rows_near (pos 5000) (rows_inserted 0 (after_parts demo round (history_after_rounds demo round))) (span_before round ∷ []) ≡ refresh_reads round
refresh_count demo zero =
    round_count (meets_before 0) demo 0 (history_after_rounds demo 0)
    ∙ ap (λ n. n + cond (meets_before 0 (chunk_at (start_of 0))) 490 0 + cond (meets_before 0 (chunk_at (start_before 0))) 10 0) (ap (count_by (is_near (meets_before 0))) (nothing_inserted demo))
refresh_count demo (suc before) =
    let round = suc before in
    let near = meets_before round in
    let next : start_of before ≡ start_before round = omega (arith, ints) in
    round_count near demo round (history_after_rounds demo round)
    ∙ ap (λ h. count_by (is_near near) (rows_inserted 0 h) + cond (near (chunk_at (start_of round))) 490 0 + cond (near (chunk_at (start_before round))) 10 0) (rounds_next demo before)
    ∙ ap (λ n. n + cond (near (chunk_at (start_of round))) 490 0 + cond (near (chunk_at (start_before round))) 10 0) (round_count near demo before (history_after_rounds demo before))
    ∙ sums (near (chunk_at (start_of before))) (near (chunk_at (start_before before))) (near (chunk_at (start_of round))) (near (chunk_at (start_before round)))
    (none_of_rounds near demo before (λ c l. meets_none_below round c (omega arith)))
    (ap (λ z. near (chunk_at z)) next ∙ meets_its_chunk round)
    (meets_none_below round before (omega arith))
    (meets_none_above round)
    (meets_its_chunk round)
  where
    sums : {n : ℕ} (a b c d : Bool) → n ≡ 0 → a ≡ true → b ≡ false → c ≡ false → d ≡ true → n + cond a 490 0 + cond b 10 0 + cond c 490 0 + cond d 10 0 ≡ 500
    sums a b c d p q r s t = rw (q, r, s, t) (ap (λ m. m + 490 + 0 + 0 + 10) p)
