-- Feeding the entries of a log to an aggregate.
use Rattle.std.specs.Prelude.{◌≡◌, ℕ, Bool, true, ◌&&◌, ◌||◌, cond, nat_le, List, [], ◌∷◌, ℤ, Option, Some, is_some, is_none}
use Rattle.std.specs.List.{All}
use Rattle.ts_bucket.specs.Bucket.{WidthValue, is_bucket}
use Rattle.ts_bucket.specs.Positions.{is_before}
use Rattle.ts_bucket.specs.Spans.{meets}
use Rattle.ts_bucket.specs.Touches.{Noted}
use Rattle.ts_bucket.specs.WholeSpans.{IsWithin, is_below}
use Rattle.inval_log.specs.declared.entries.Entry.{Entry}
use Rattle.mat_log.specs.Logs.{LogValue, is_refreshed_after, pending_at, last_at}

-- what is pending at the bucket b, whose last refresh is r, after one entry: its position, if its hull meets
-- the bucket and the bucket wasn't refreshed at or after it
abbrev pub pending_after : WidthValue → ℤ → Option ℕ → Entry → Option ℕ → Option ℕ
pending_after w b r e v = cond (meets w b e.hull && is_before e.pos r) (Some e.pos) v

-- the same after entries, in order
abbrev pub pending_after_all : WidthValue → ℤ → Option ℕ → List Entry → Option ℕ → Option ℕ
pending_after_all w b r [] v = v
pending_after_all w b r (e ∷ es) v = pending_after_all w b r es (pending_after w b r e v)

-- what is pending at the bucket b after the entries were fed to the log
abbrev pub pending_with : LogValue → List Entry → ℤ → Option ℕ
pending_with log entries b = pending_after_all log.width b (last_at log b) entries (pending_at log b)

-- every entry was fed to the log of an aggregate, in order, and nothing else was done to it
pub record IsFed (entries : List Entry) (old new : LogValue) : Type 0 where
  pub width : new.width ≡ old.width
  pub refreshed : (b : ℤ) → last_at new b ≡ last_at old b
  pub pending : (b : ℤ) → is_bucket old.width b ≡ true → pending_at new b ≡ pending_with old entries b

-- the hulls of the entries lie within what the log of an aggregate can hold
abbrev pub AreWithin : List Entry → LogValue → Type 0
AreWithin entries log = All (λ e. IsWithin log.width e.hull) entries

-- the bucket that starts at b has no last refresh, or something is pending there once the entries were fed
abbrev pub is_dirty_with : LogValue → List Entry → ℤ → Bool
is_dirty_with log entries b = is_none (last_at log b) || is_some (pending_with log entries b)

-- such a bucket below the mark
abbrev pub is_stale_with : LogValue → List Entry → Option ℤ → ℤ → Bool
is_stale_with log entries mark b = is_below b mark && is_dirty_with log entries b

-- the bucket that starts at b has a last refresh, and something is pending there once the entries were fed
abbrev pub is_changed_with : LogValue → List Entry → ℤ → Bool
is_changed_with log entries b = is_some (last_at log b) && is_some (pending_with log entries b)

-- a refresh with a snapshot that is repeated later must recompute the bucket that starts at b: the bucket is dirty, or
-- its last refresh is above the snapshot
abbrev pub is_redone_with : LogValue → List Entry → ℕ → ℤ → Bool
is_redone_with log entries snap b = is_dirty_with log entries b || is_refreshed_after log snap b

-- an entry as a noted hull
abbrev pub note_of : Entry → Noted
note_of e = record { hull = e.hull; at = e.pos }

-- the positions of the entries rise from n on
abbrev pub are_rising : ℕ → List Entry → Bool
are_rising n [] = true
are_rising n (e ∷ es) = nat_le n e.pos && are_rising e.pos es
