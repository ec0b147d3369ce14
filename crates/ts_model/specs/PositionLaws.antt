-- Laws of positions, each in one sentence.
use Rattle.std.specs.Prelude.{◌≡◌, ℕ, ◌+◌, ◌≤◌, length, ℤ}
use Rattle.ts_bucket.specs.declared.spans.Span.{Span}
use Rattle.ts_model.specs.declared.views.ViewDef.{ViewDef}
use Rattle.ts_model.specs.History.{History, ◌▸▸◌, position, root, base_position, prefix, events_of, Begins}
use Rattle.ts_model.specs.Rows.{rows, rows_at}
use Rattle.ts_model.specs.Scratch.{scratch}
use Rattle.ts_model.specs.Groups.{groups_in, groups_at, scratch_at}
use Rattle.ts_model.specs.Refreshes.{last_touch, last_touch_at, top_in, top_at}

-- a history is its root followed by its events, its position is that of its root and their number, and it keeps its
-- root as it grows
pub record PositionsCount : Type 0 where
  pub followed : (h : History) → root h ▸▸ events_of h ≡ h
  pub counted : (h : History) → position h ≡ base_position h + length (events_of h)
  pub kept : (g h : History) → Begins g h → root h ≡ root g

-- the state at a position of a history is that of the history's prefix with that position
pub record AtPositions : Type 0 where
  pub rows : (t : ℕ) (h : History) (s : ℕ) → rows_at t h s ≡ rows t (prefix h s)
  pub groups : (n : ℕ) (def : ViewDef) (h : History) (s : ℕ) (b : ℤ) → base_position h ≤ s
      → groups_at n def h s b ≡ groups_in def.fold (rows_at def.table h s) b
  pub cells : (n : ℕ) (def : ViewDef) (h : History) (s : ℕ) (b : ℤ) → base_position h ≤ s
      → scratch_at n def h s b ≡ scratch def (prefix h s) b
  pub tops : (def : ViewDef) (h : History) (s : ℕ) (span : Span)
      → top_at def h s span ≡ top_in def.fold span (rows_at def.table h s)
  pub touches :
      (n : ℕ) (def : ViewDef) (h : History) (s : ℕ) (b : ℤ)
      → last_touch_at n def h s b ≡ last_touch n def (prefix h s) b
  -- and stays so as the history grows
  pub prefixes : (g h : History) (s : ℕ) → Begins g h → s ≤ position g → prefix h s ≡ prefix g s
