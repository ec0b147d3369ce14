-- The watermark of a demonstration: after the refresh of a round it is the start of that round's times.
use Rattle.std.proofs.Common.{◌≡◌, ℕ, zero, suc, ◌+◌, ◌*◌, Bool, true, false, ◌&&◌, ◌||◌, cond, ℤ, pos, ◌+ℤ◌, ◌-ℤ◌, ◌<ℤ◌, int_lt, Some, None, sym, refl, ap, ◌∙◌, arith}
use Rattle.std.specs.List.{list_any}
use Rattle.std.proofs.lemmas.Bool.{and_from, cond-true}
use Rattle.std.proofs.lemmas.Int.{ints}
use Rattle.ts_bucket.specs.Bucket.{bucket_of}
use Rattle.ts_bucket.specs.Spans.{in_span}
use Rattle.ts_bucket.specs.WholeSpans.{is_below}
use Rattle.ts_bucket.proofs.BucketLaws.{holds-one, holds-from_parts}
use Rattle.ts_bucket.proofs.SpanLaws.{in_span-from_ends}
use Rattle.ts_schema.specs.declared.rows.Row.{Row}
use Rattle.ts_model.specs.History.{History, position}
use Rattle.ts_model.specs.Refreshes.{span_of_cut, top_in, top_of, watermark}
use Rattle.ts_model.specs.Rows.{rows}
use Rattle.ts_model.proofs.HistoryLaws.{prefix_end}
use Rattle.ts_model.proofs.RefreshLaws.{is_below-greater}
use Rattle.demo_script.specs.Demo.{number_of, time_of}
use Rattle.demo_laws.specs.Acts.{demo_view, demo_width, row_of, rows_of}
use Rattle.demo_laws.specs.Histories.{after_cut, after_part, after_parts, history_after_rounds, span_before}
use Rattle.demo_laws.proofs.ChunkLaws.{start_of, is_bucket-multiple, demo_width_fits}
use Rattle.demo_laws.proofs.CountLaws.{any-range}
use Rattle.demo_laws.proofs.CutLaws.{is_bucket-start, span_of_cut_is}
use Rattle.demo_laws.proofs.HistoryLaws.{rounds_next}
use Rattle.demo_laws.proofs.TopLaws.{end_of_row, any-with_rows, is_below-full}

-- ---- the top of a round's refresh

-- the last row of a round is in the last bucket of the times before
last_row_bucket : (demo round : ℕ) → bucket_of demo_width (row_of demo round 499).at ≡ start_of round -ℤ pos 100
last_row_bucket demo round =
    let b = start_of round -ℤ pos 100 in
    let time : time_of (number_of round 499) 499 ≡ pos (10 * (500 * round + 499)) -ℤ pos 5000 = refl in
    ap (bucket_of demo_width) time
    ∙ sym (holds-one demo_width b (pos (10 * (500 * round + 499)) -ℤ pos 5000) demo_width_fits (is_bucket-multiple 100 1 (50 * round) b (omega arith) (omega (arith, ints))) (holds-from_parts demo_width b (pos (10 * (500 * round + 499)) -ℤ pos 5000) (omega (arith, ints)) (omega (arith, ints))))

-- so the times before end at the end of its bucket
last_row_ends : (demo round : ℕ) (b : ℤ) → int_lt b (start_of round) ≡ true → is_below b (end_of_row demo_view.fold (span_before round) (row_of demo round 499)) ≡ true
last_row_ends demo round b e =
    let c = start_of round -ℤ pos 100 in
    let inside : in_span (span_before round) c ≡ true = in_span-from_ends (span_before round) c (omega (arith, ints)) (omega (arith, ints)) in
    let end : c +ℤ pos 100 ≡ start_of round = omega (arith, ints) in
    ap (λ x. is_below b (cond (in_span (span_before round) x && true) (Some (x +ℤ pos 100)) None)) (last_row_bucket demo round)
    ∙ ap (is_below b) (cond-true (in_span (span_before round) c && true) (Some (c +ℤ pos 100)) None (and_from _ _ inside refl))
    ∙ ap (int_lt b) end
    ∙ e

-- the rows that the refresh finds
last_row_found : (demo round : ℕ) (h : History) (b : ℤ) → int_lt b (start_of round) ≡ true → list_any (λ row. is_below b (end_of_row demo_view.fold (span_before round) row)) (rows 0 (after_cut round (after_parts demo round h))) ≡ true
unfolding rows_of
last_row_found demo round h b e =
    let before = after_part demo round 3 (after_part demo round 2 (after_part demo round 1 (after_part demo round 0 h))) in
    let test : Row → Bool = λ row. is_below b (end_of_row demo_view.fold (span_before round) row) in
    any-with_rows test (rows_of demo round 400 100) (rows 0 before) (any-range test (row_of demo round) 400 100 499 (omega arith) (omega arith) (last_row_ends demo round b e))

top_of_round : (demo round : ℕ) (h : History) (b : ℤ) → is_below b (top_of demo_view (after_cut round (after_parts demo round h)) (position (after_cut round (after_parts demo round h))) (Some (span_before round))) ≡ int_lt b (start_of round)
top_of_round demo round h b =
    let cut = after_cut round (after_parts demo round h) in
    ap (λ g. is_below b (top_in demo_view.fold (span_before round) (rows 0 g))) (prefix_end cut (position cut) (omega arith))
    ∙ is_below-full demo_view.fold (span_before round) b (rows 0 cut) demo_width_fits (is_bucket-start round) (last_row_found demo round h b)

-- ---- the watermark

-- a number below the start of a round is below the start of the next one
starts_rise : (round : ℕ) (b : ℤ) → (int_lt b (start_of round) || int_lt b (start_of (suc round))) ≡ int_lt b (start_of (suc round))
starts_rise round b = by_cases (int_lt b (start_of round)) refl
  where
    by_cases : (t : Bool) → int_lt b (start_of round) ≡ t → (t || int_lt b (start_of (suc round))) ≡ int_lt b (start_of (suc round))
    by_cases true e = let below : b <ℤ start_of round = grind (arith, ints) in let later : b <ℤ start_of (suc round) = omega (arith, ints) in grind (arith, ints)
    by_cases false e = refl

mark_next : (demo round : ℕ) (b : ℤ) → is_below b (watermark 0 demo_view (history_after_rounds demo (suc round))) ≡ (is_below b (watermark 0 demo_view (history_after_rounds demo round)) || int_lt b (start_of round))
mark_next demo round b =
    let h = history_after_rounds demo round in
    let cut = after_cut round (after_parts demo round h) in
    ap (λ g. is_below b (watermark 0 demo_view g)) (rounds_next demo round)
    ∙ is_below-greater b (watermark 0 demo_view h) (top_of demo_view cut (position cut) (span_of_cut 0 cut (position cut)))
    ∙ ap (λ s. is_below b (watermark 0 demo_view h) || is_below b (top_of demo_view cut (position cut) s)) (span_of_cut_is round (after_parts demo round h))
    ∙ ap (λ t. is_below b (watermark 0 demo_view h) || t) (top_of_round demo round h b)

no_mark : (demo : ℕ) (b : ℤ) → is_below b (watermark 0 demo_view (history_after_rounds demo 0)) ≡ false
unfolding history_after_rounds
no_mark demo b = refl

-- a number is below the watermark exactly if it is below the start of the last round
pub mark_of_rounds : (demo round : ℕ) (b : ℤ) → is_below b (watermark 0 demo_view (history_after_rounds demo (suc round))) ≡ int_lt b (start_of round)
mark_of_rounds demo zero b = mark_next demo 0 b ∙ ap (λ t. t || int_lt b (start_of 0)) (no_mark demo b)
mark_of_rounds demo (suc round) b = mark_next demo (suc round) b ∙ ap (λ t. t || int_lt b (start_of (suc round))) (mark_of_rounds demo round b) ∙ starts_rise round b
