-- Coverage: the notes record for every bucket the commits that touched it after its last refresh.
use Rattle.std.specs.Prelude.{◌≡◌, ℕ, Bool, true, false, ◌||◌, nat_le, List, [], ◌∷◌, ℤ, ◌+ℤ◌, ◌≤ℤ◌, Option, Some, is_some}
use Rattle.std.specs.List.{list_all}
use Rattle.ts_bucket.specs.Bucket.{is_bucket}
use Rattle.ts_bucket.specs.Positions.{later, above, above_last, is_above, is_before}
use Rattle.ts_bucket.specs.Spans.{in_span}
use Rattle.ts_bucket.specs.Touches.{Noted, log_touch}
use Rattle.ts_bucket.specs.WholeSpans.{whole_span}
use Rattle.ts_bucket.specs.declared.widths.Width.{Width}
use Rattle.ts_model.specs.declared.views.ViewDef.{ViewDef}
use Rattle.ts_model.specs.History.{History, position}
use Rattle.ts_model.specs.Roster.{roster, view_of}
use Rattle.ts_model.specs.Refreshes.{was_cut, last, last_touch}
use Rattle.coverage.specs.Notes.{Notes}

-- the pending position of a bucket: the greatest of what is pending there and of the noted hulls that meet it after
-- its last refresh
abbrev pub pending_position : Width → Notes → ℤ → Option ℕ
pending_position w notes b = later (notes.pending b) (above_last (notes.refreshed b) (log_touch w b notes.log))

-- each noted position is above the one before it, and the first above p, if there is one
abbrev pub RisesFrom : Option ℕ → List Noted → Type 0
RisesFrom p [] = Unit {0}
RisesFrom p (entry ∷ entries) = (is_before entry.at p ≡ true) × RisesFrom (Some entry.at) entries

-- no noted position is above p
abbrev pub is_upto : ℕ → List Noted → Bool
is_upto p log = list_all (λ entry. nat_le entry.at p) log

-- the notes cover aggregate n
pub record IsCovered (n : ℕ) (def : ViewDef) (h : History) (notes : Notes) : Type 0 where
  -- the noted refresh is the last refresh
  pub refreshed : (b : ℤ) → is_bucket def.fold.width b ≡ true → notes.refreshed b ≡ last n h b
  -- above each position that is at or above a cut of the bucket and its last refresh, the pending position is the
  -- last touch
  pub exact :
      (b : ℤ) (s : ℕ) → is_bucket def.fold.width b ≡ true → was_cut n h b s ≡ true → is_above s (last n h b) ≡ false
      → above s (pending_position def.fold.width notes b) ≡ above s (last_touch n def h b)
  -- what is pending is above the last refresh
  pub fresh :
      (b : ℤ) → is_bucket def.fold.width b ≡ true → above_last (notes.refreshed b) (notes.pending b) ≡ notes.pending b
  -- once the aggregate exists, something is pending in each bucket that was never refreshed
  pub marked : (b : ℤ) → is_bucket def.fold.width b ≡ true → is_some (view_of (roster h) n) ≡ true
      → in_span (whole_span def.fold.width) b ≡ true
      → (is_some (notes.refreshed b) || is_some (notes.pending b)) ≡ true
  -- a bucket that was cut ends at or below the threshold
  pub below : (b : ℤ) (s : ℕ) → is_bucket def.fold.width b ≡ true → was_cut n h b s ≡ true
      → (b +ℤ def.fold.width.step) ≤ℤ notes.threshold
  -- and the log rises from a position above what is pending there
  pub rising :
      (b : ℤ) (s : ℕ) → is_bucket def.fold.width b ≡ true → was_cut n h b s ≡ true
      → RisesFrom (notes.pending b) notes.log
  -- nothing pending or logged has a position after the history
  pub pending_past : (b : ℤ) → is_bucket def.fold.width b ≡ true → is_above (position h) (notes.pending b) ≡ false
  pub log_past : is_upto (position h) notes.log ≡ true
