-- A whole refresh, from its cut to its finish.
use Rattle.std.proofs.Common.{◌≡◌, ℕ, suc, ◌+◌, ◌≤◌, [], ◌∷◌, ℤ, Some, Result, Ok, sym, refl, ap, ◌∙◌, subst, arith}
use Rattle.std.specs.List.{sum_by}
use Rattle.std.proofs.Math.Nat.{zero-add}
use Rattle.ts_bucket.specs.declared.spans.Span.{Span}
use Rattle.ts_model.specs.declared.events.Event.TheVariants.{Cut, Built}
use Rattle.ts_model.specs.declared.outcomes.CutDone.{CutDone}
use Rattle.ts_model.specs.declared.outcomes.CutDone.TheVariants.{Cut as CutMade}
use Rattle.ts_model.specs.declared.outcomes.Refusal.{Refusal}
use Rattle.ts_model.specs.declared.refreshes.Window.TheVariants.{NoBucket}
use Rattle.ts_model.specs.History.{History, ◌▸◌, position}
use Rattle.ts_model.specs.Limits.{last_position}
use Rattle.ts_model.specs.Calls.{Act, makes, cut_of_view, cut_over, act_of_cut, finish_of, act_of_finish}
use Rattle.ts_model.specs.Reads.{rows_inserted, job_reads, job_reads_of, reads_of_snapshot, rows_near_in}
use Rattle.ts_model.specs.Roster.{roster, hyper_of, view_of}
use Rattle.ts_model.specs.Windows.{whole_or}
use Rattle.ts_sessions.specs.Places.{none, Places, Turn, cuts}
use Rattle.ts_sessions.specs.Procedures.{followed_by, ending_as, tries_at}
use Rattle.ts_sessions.specs.Step.{Taken, after_cut as goes_on, after_snapshot, least_start, turn_of_refresh, snapshot_taken, taken_of}
use Rattle.demo_laws.specs.Acts.{refresh_act}
use Rattle.demo_laws.specs.Histories.{after_cut, before_refresh, history_after_rounds, span_before}
use Rattle.demo_laws.specs.Turns.{Passes, PerformsAction, refresh_reads}
use Rattle.demo_laws.specs.ReadLaws.{RefreshesReadAChunk}
use Rattle.demo_laws.proofs.ChunkLaws.{start_of, start_before}
use Rattle.demo_laws.proofs.CutLaws.{cut_waits, one_dirty_range, span_of_cut_is, window_is}
use Rattle.demo_laws.proofs.HistoryLaws.{made_below_end, rounds_next, roster_of_rounds}
use Rattle.demo_laws.proofs.RefreshCounts.{refresh_count}

-- ---- a refresh whose calls append their events

module _ (p : Places) (h : History) (span : Span) (min : ℤ) (outside : p.block ≡ none) where
  abbrev cut : History
  cut = h ▸ Cut 0 span

  -- the refresh from its snapshot on
  finish_passes : (t : Taken) → act_of_finish (position cut) t.at cut ≡ makes (Built (position cut) t.at) (suc (position cut)) → Passes (after_snapshot (cuts (position cut) p) (position cut) span min (Ok t)) cut (cut ▸ Built (position cut) t.at) t.reads
  finish_passes t finishes =
      let says : Result ℕ Refusal → Turn Places = turn_of_refresh (cuts (position cut) p) (position cut) span min t in
      let Goal : Act ℕ → Type 0 = λ act. Passes (ending_as says (tries_at cut act)) cut (cut ▸ Built (position cut) t.at) t.reads in
      let passes : Goal (act_of_finish (position cut) t.at cut) = subst Goal (sym finishes) (record { after = refl; reads = refl; fault = refl; outside = outside }) in
      record { after = passes.after; reads = passes.reads; fault = passes.fault; outside = passes.outside }

  -- the refresh from its cut on
  refresh_passes : (act : Act CutDone) (t : Taken) → act ≡ makes (Cut 0 span) (CutMade (position cut) span) → snapshot_taken (position cut) cut ≡ Ok t → act_of_finish (position cut) t.at cut ≡ makes (Built (position cut) t.at) (suc (position cut)) → Passes (followed_by (tries_at h act) (goes_on p min)) h (cut ▸ Built (position cut) t.at) t.reads
  refresh_passes act t cuts_it takes finishes =
      let After : Result Taken Refusal → Type 0 = λ r. Passes (after_snapshot (cuts (position cut) p) (position cut) span min r) cut (cut ▸ Built (position cut) t.at) t.reads in
      let passes : After (snapshot_taken (position cut) cut) = subst After (sym takes) (finish_passes t finishes) in
      let Goal : Act CutDone → Type 0 = λ a. Passes (followed_by (tries_at h a) (goes_on p min)) h (cut ▸ Built (position cut) t.at) t.reads in
      subst Goal (sym cuts_it) (record { after = passes.after; reads = passes.reads; fault = passes.fault; outside = passes.outside })

-- ---- the refresh of a round

module _ (demo round : ℕ) (room : position (history_after_rounds demo (suc round)) ≤ last_position) where
  abbrev before : History
  before = before_refresh demo round

  abbrev at_cut : History
  at_cut = after_cut round before

  -- the history can hold the round's last two events
  room_left : suc (suc (position before)) ≤ last_position
  room_left = omega (arith, room, ap position (rounds_next demo round))

  -- the cut is over the times of the round before
  cutting_is : act_of_cut 0 (Some (start_before round)) (Some (start_of round)) before ≡ makes (Cut 0 (span_before round)) (CutMade (position at_cut) (span_before round))
  cutting_is =
      ap (λ r. cut_of_view 0 (Some (start_before round)) (Some (start_of round)) before (view_of r 0)) (roster_of_rounds demo round)
      ∙ ap (λ s. cut_over 0 before (whole_or NoBucket s)) (window_is round)
      ∙ made_below_end before (Cut 0 (span_before round)) (CutMade (position at_cut) (span_before round)) (omega (arith, room_left))

  -- its job reads the rows in the one chunk
  job_is : job_reads at_cut (position at_cut) ≡ refresh_reads round
  job_is =
      ap (job_reads_of at_cut (position at_cut)) (cut_waits round before)
      ∙ ap (reads_of_snapshot 0 at_cut (view_of (roster at_cut) 0)) (span_of_cut_is round before)
      ∙ ap (λ r. reads_of_snapshot 0 at_cut (view_of r 0) (Some (span_before round))) (roster_of_rounds demo round)
      ∙ ap (λ ranges. sum_by (λ range. rows_near_in (hyper_of (roster at_cut) 0) (rows_inserted 0 at_cut) (range ∷ [])) ranges) (one_dirty_range demo round)
      ∙ ap (λ r. 0 + rows_near_in (hyper_of r 0) (rows_inserted 0 at_cut) (span_before round ∷ [])) (roster_of_rounds demo round)
      ∙ ap (λ n. 0 + n) (refresh_count demo round)
      ∙ zero-add (refresh_reads round)

  pub round_refresh : PerformsAction before (refresh_act round) (history_after_rounds demo (suc round)) (refresh_reads round)
  round_refresh p bytes outside =
      let t : Taken = record { at = position at_cut; reads = job_reads at_cut (position at_cut) } in
      let passes = refresh_passes p before (span_before round) (least_start (view_of (roster before) 0)) outside (act_of_cut 0 (Some (start_before round)) (Some (start_of round)) before) t cutting_is
      (ap (taken_of at_cut (position at_cut)) (cut_waits round before))
      (ap (finish_of (position at_cut) (position at_cut) at_cut) (cut_waits round before)
      ∙ made_below_end at_cut (Built (position at_cut) (position at_cut)) (suc (position at_cut)) room_left) in
      record { after = passes.after ∙ sym (rounds_next demo round); reads = passes.reads ∙ job_is; fault = passes.fault; outside = passes.outside }

pub refreshes_read_a_chunk : RefreshesReadAChunk
refreshes_read_a_chunk = round_refresh
