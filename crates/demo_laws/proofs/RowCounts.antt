-- How many of a demonstration's rows are in chunks that pass a test.
use Rattle.std.proofs.Common.{◌≡◌, ℕ, zero, suc, ◌+◌, ◌≤◌, Bool, true, false, cond, pos, ap, ◌∙◌, arith}
use Rattle.std.specs.List.{count_by}
use Rattle.std.proofs.lemmas.Int.{ints}
use Rattle.ts_bucket.specs.Chunks.{chunk_of}
use Rattle.ts_bucket.specs.declared.spans.Span.{Span}
use Rattle.ts_schema.specs.declared.rows.Row.{Row}
use Rattle.ts_model.specs.History.{History}
use Rattle.ts_model.specs.Reads.{rows_inserted}
use Rattle.demo_laws.specs.Acts.{row_of, rows_of}
use Rattle.demo_laws.specs.Histories.{after_part, after_parts, history_after_rounds}
use Rattle.demo_laws.proofs.CountLaws.{count-range, count-parts}
use Rattle.demo_laws.proofs.ChunkLaws.{start_of, start_before, chunk_at, chunk_in_time, chunk_late}
use Rattle.demo_laws.proofs.HistoryLaws.{rounds_next, nothing_inserted, count-insert}

module _ (near : Span → Bool) where
  -- a row is in a chunk that passes
  abbrev pub is_near : Row → Bool
  is_near row = near (chunk_of (pos 5000) row.at)

  -- the rows of a part that comes in time
  part_in_time : (demo round first : ℕ) → first + 100 ≤ 490 → count_by is_near (rows_of demo round first 100) ≡ cond (near (chunk_at (start_of round))) 100 0
  unfolding rows_of
  part_in_time demo round first l =
      count-range is_near (row_of demo round) (near (chunk_at (start_of round))) first 100 (λ k m h. ap near (chunk_in_time demo round k (omega arith)))

  -- the rows of the last part, of which ten come late
  part_with_late : (demo round : ℕ) → count_by is_near (rows_of demo round 400 100) ≡ cond (near (chunk_at (start_of round))) 90 0 + cond (near (chunk_at (start_before round))) 10 0
  unfolding rows_of
  part_with_late demo round =
      count-parts is_near (row_of demo round) (near (chunk_at (start_of round))) (near (chunk_at (start_before round))) 400 90 10
      (λ k l h. ap near (chunk_in_time demo round k (omega arith)))
      (λ k l h. ap near (chunk_late demo round k (omega arith) (omega arith)))

  -- the rows of a round: 490 in time, and ten late
  pub round_count : (demo round : ℕ) (h : History) → count_by is_near (rows_inserted 0 (after_parts demo round h)) ≡ count_by is_near (rows_inserted 0 h) + cond (near (chunk_at (start_of round))) 490 0 + cond (near (chunk_at (start_before round))) 10 0
  round_count demo round h =
      let first = after_part demo round 0 h in
      let second = after_part demo round 1 first in
      let third = after_part demo round 2 second in
      let fourth = after_part demo round 3 third in
      added _ _ _ _ _ _ (near (chunk_at (start_of round))) (near (chunk_at (start_before round)))
      (count-insert is_near h (rows_of demo round 0 100) ∙ ap (λ n. count_by is_near (rows_inserted 0 h) + n) (part_in_time demo round 0 (omega arith)))
      (count-insert is_near first (rows_of demo round 100 100) ∙ ap (λ n. count_by is_near (rows_inserted 0 first) + n) (part_in_time demo round 100 (omega arith)))
      (count-insert is_near second (rows_of demo round 200 100) ∙ ap (λ n. count_by is_near (rows_inserted 0 second) + n) (part_in_time demo round 200 (omega arith)))
      (count-insert is_near third (rows_of demo round 300 100) ∙ ap (λ n. count_by is_near (rows_inserted 0 third) + n) (part_in_time demo round 300 (omega arith)))
      (count-insert is_near fourth (rows_of demo round 400 100) ∙ ap (λ n. count_by is_near (rows_inserted 0 fourth) + n) (part_with_late demo round))
    where
      added : (k l m n o all : ℕ) (a b : Bool) → l ≡ k + cond a 100 0 → m ≡ l + cond a 100 0 → n ≡ m + cond a 100 0 → o ≡ n + cond a 100 0 → all ≡ o + (cond a 90 0 + cond b 10 0) → all ≡ k + cond a 490 0 + cond b 10 0
      added k l m n o all true true p q r s t = omega arith
      added k l m n o all true false p q r s t = omega arith
      added k l m n o all false true p q r s t = omega arith
      added k l m n o all false false p q r s t = omega arith

  -- if no chunk of the rounds before passes, none of their rows does
  pub none_of_rounds : (demo round : ℕ) → ((c : ℕ) → c ≤ round → near (chunk_at (start_before c)) ≡ false) → count_by is_near (rows_inserted 0 (history_after_rounds demo round)) ≡ 0
  none_of_rounds demo zero none = ap (count_by is_near) (nothing_inserted demo)
  none_of_rounds demo (suc round) none =
      let next : start_of round ≡ start_before (suc round) = omega (arith, ints) in
      ap (λ h. count_by is_near (rows_inserted 0 h)) (rounds_next demo round)
      ∙ round_count demo round (history_after_rounds demo round)
      ∙ ap (λ n. n + cond (near (chunk_at (start_of round))) 490 0 + cond (near (chunk_at (start_before round))) 10 0) (none_of_rounds demo round (λ c l. none c (omega arith)))
      ∙ ap (λ b. 0 + cond b 490 0 + cond (near (chunk_at (start_before round))) 10 0) (ap (λ z. near (chunk_at z)) next ∙ none (suc round) (omega arith))
      ∙ ap (λ b. 0 + 0 + cond b 10 0) (none round (omega arith))
