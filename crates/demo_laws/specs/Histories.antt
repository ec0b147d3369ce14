-- The histories that the lines of a demonstration create, in order.
use Rattle.std.specs.Prelude.{ℕ, zero, suc, ◌*◌, ◌%◌, pos, ◌-ℤ◌, [], ◌∷◌}
use Rattle.ts_bucket.specs.declared.spans.Span.{Span}
use Rattle.ts_model.specs.declared.events.Event.TheVariants.{Table, Hyper, View, Commit, Cut, Built}
use Rattle.ts_model.specs.declared.events.Op.TheVariants.{Insert}
use Rattle.ts_model.specs.History.{History, start, ◌▸◌, position}
use Rattle.demo_laws.specs.Acts.{demo_table, demo_hyper, demo_view, row_with, rows_of}

-- after the table, the hypertable and the aggregate
abbrev pub after_table : History
after_table = start ▸ Table demo_table

abbrev pub after_hypertable : History
after_hypertable = after_table ▸ Hyper 0 demo_hyper

abbrev pub after_view : History
after_view = after_hypertable ▸ View demo_view

-- after a part of a round's rows was inserted
abbrev pub after_part : ℕ → ℕ → ℕ → History → History
after_part demo round part h = h ▸ Commit (Insert 0 (rows_of demo round (100 * part) 100) ∷ [])

-- after all five parts
abbrev pub after_parts : ℕ → ℕ → History → History
after_parts demo round h =
    after_part demo round 4 (after_part demo round 3 (after_part demo round 2
    (after_part demo round 1 (after_part demo round 0 h))))

-- the times of the round before
abbrev pub span_before : ℕ → Span
span_before round = record { lo = pos (5000 * round) -ℤ pos 5000; hi = pos (5000 * round) }

-- after the cut of a refresh over them
abbrev pub after_cut : ℕ → History → History
after_cut round h = h ▸ Cut 0 (span_before round)

-- after its finish, with the snapshot at its cut
abbrev pub after_refresh : ℕ → History → History
after_refresh round h = after_cut round h ▸ Built (position (after_cut round h)) (position (after_cut round h))

-- after this many rounds
unfoldable pub history_after_rounds : ℕ → ℕ → History
history_after_rounds demo zero = after_view
history_after_rounds demo (suc round) = after_refresh round (after_parts demo round (history_after_rounds demo round))

-- the history that the refresh of a round finds
abbrev pub before_refresh : ℕ → ℕ → History
before_refresh demo round = after_parts demo round (history_after_rounds demo round)

-- after the late row
abbrev pub after_late_row : ℕ → History → History
after_late_row demo h = h ▸ Commit (Insert 0 (row_with (pos 1000) 0 (demo % 1000) ∷ []) ∷ [])

-- the history at the end
abbrev pub demo_history : ℕ → History
demo_history demo = after_late_row demo (history_after_rounds demo 40)
