-- The entries of a table's log after a hull is noted.
use Rattle.std.proofs.Common.{◌≡◌, ℕ, true, false, cond, List, [], ◌∷◌, ◌++◌, Some, refl, ap}
use Rattle.std.specs.Prelude.{int_lt}
use Rattle.ts_bucket.specs.declared.spans.Hull.{Hull}
use Rattle.inval_log.specs.declared.entries.Entry.{Entry}
use Rattle.inval_log.specs.Logs.{LogValue as TableLog, entries_noted}
use Rattle.coverage.specs.Notes.{log_after}
use Rattle.engine_state.specs.Notes.{noted_in}

noted-pushed : (entries : List Entry) (hull : Hull) (pos : ℕ) → noted_in (entries ++ (record { hull = hull; pos = pos } ∷ [])) ≡ noted_in entries ++ (record { hull = hull; at = pos } ∷ [])
noted-pushed [] hull pos = refl
noted-pushed (e ∷ es) hull pos = ap (λ ns. record { hull = e.hull; at = e.pos } ∷ ns) (noted-pushed es hull pos)

-- a log and the notes of its table note the same
pub noted_entries : (log : TableLog) (hull : Hull) (pos : ℕ) → noted_in (entries_noted log hull pos) ≡ log_after (Some hull) pos log.threshold (noted_in log.entries)
noted_entries log hull pos =
    elim (int_lt hull.least log.threshold) as (λ t. noted_in (cond t (log.entries ++ (record { hull = hull; pos = pos } ∷ [])) log.entries) ≡ cond t (noted_in log.entries ++ (record { hull = hull; at = pos } ∷ [])) (noted_in log.entries)) [
      | true ↦ noted-pushed log.entries hull pos
      | false ↦ refl
    ]
