-- Laws of tables beside histories, each in one sentence.
use Rattle.std.specs.Prelude.{◌≡◌, ℕ, suc, Bool, true, false, List, [], ℤ, ◌+ℤ◌, None}
use Rattle.std.specs.List.{list_any}
use Rattle.std.specs.Option.{option_map}
use Rattle.ts_bucket.specs.Bucket.{IsWidth, bucket_of}
use Rattle.ts_bucket.specs.Spans.{SpanValue}
use Rattle.ts_bucket.specs.declared.spans.Span.{Span}
use Rattle.ts_bucket.specs.declared.widths.Width.{Width}
use Rattle.ts_model.specs.declared.events.Event.{Event}
use Rattle.ts_model.specs.declared.events.Event.TheVariants.{Table, Hyper, View, Mode, Commit, Cut, Built}
use Rattle.ts_model.specs.declared.events.Op.{Op}
use Rattle.ts_model.specs.History.{History, ◌▸◌, position, prefix}
use Rattle.ts_model.specs.Roster.{roster, hyper_of}
use Rattle.ts_model.specs.Rows.{in_order, rows}
use Rattle.ts_model.specs.Reads.{rows_inserted, rows_near}
use Rattle.ts_model.specs.Allowed.{all_consistent}
use Rattle.ts_model.specs.Windows.{last_end}
use Rattle.seg_rows.specs.Versions.{rows_of, latest_at, latest_of}
use Rattle.ts_model.specs.Effect.{all_appended}
use Rattle.chunk_catalog.specs.Chunks.{ChunksValue, HaveTimes}
use Rattle.row_versions.specs.declared.effects.Effect.{Effect}
use Rattle.row_versions.specs.Histories.{Holds}
use Rattle.row_versions.specs.Tables.{visible_rows, rows_seen, rows_of_span, IsUpTo, IsEffect, Follows, is_on}

abbrev pub is_commit : Event → Bool
is_commit (Table def) = false
is_commit (Hyper t hyper) = false
is_commit (View def) = false
is_commit (Mode v only) = false
is_commit (Commit ops) = true
is_commit (Cut v span) = false
is_commit (Built cut snap) = false

-- a table without versions holds a table that isn't a hypertable, or just became one
abbrev pub TablesBegin : Type 0
TablesBegin =
    (t : ℕ) (h : History) (table : ChunksValue) → all_consistent h ≡ true → hyper_of (roster h) t ≡ None
    → table.versions ≡ [] → Holds t h table

-- a table that holds a history may be given the operations of the next commit at the next position
pub record Asks (t : ℕ) (h : History) (ops : List Op) (table : ChunksValue) : Type 0 where
  pub up_to : IsUpTo (suc (position h)) table.versions
  pub times : HaveTimes (all_appended t ops)

abbrev pub CommitsFit : Type 0
CommitsFit =
    (t : ℕ) (h : History) (ops : List Op) (table : ChunksValue) → Holds t h table
    → all_consistent (h ▸ Commit ops) ≡ true → Asks t h ops table

-- the table after them holds the history with the commit
abbrev pub CommitsAreHeld : Type 0
CommitsAreHeld =
    (t : ℕ) (h : History) (ops : List Op) (old new : ChunksValue) → Holds t h old
    → Follows t ops (suc (position h)) old new → Holds t (h ▸ Commit ops) new

-- and their effect is that of the commit
abbrev pub EffectsAreOfCommits : Type 0
EffectsAreOfCommits =
    (t : ℕ) (h : History) (ops : List Op) (table : ChunksValue) (effect : Effect) → Holds t h table
    → IsEffect t ops (rows_seen (suc (position h)) table) effect → IsEffect t ops (rows t h) effect

-- a commit without an operation on a table leaves it unchanged
abbrev pub UnnamedAreHeld : Type 0
UnnamedAreHeld =
    (t : ℕ) (h : History) (ops : List Op) (table : ChunksValue) → Holds t h table → list_any (is_on t) ops ≡ false
    → Holds t (h ▸ Commit ops) table

-- any other event leaves a table unchanged
abbrev pub OthersAreHeld : Type 0
OthersAreHeld =
    (t : ℕ) (h : History) (e : Event) (table : ChunksValue) → Holds t h table → is_commit e ≡ false
    → Holds t (h ▸ e) table

-- what a table that holds a history says about it, at every position
pub record Tells (t : ℕ) (h : History) (table : ChunksValue) : Type 0 where
  -- the visible rows of a span are the rows of the span there
  pub rows_are : (q : ℕ) (s : SpanValue)
      → in_order (rows_of_span s (visible_rows q table.versions)) ≡ rows_of_span s (rows t (prefix h q))
  -- as many stored rows are in chunks that meet these spans as inserted ones
  pub read : (interval : ℤ) (spans : List Span)
      → rows_near interval (rows_of table.versions) spans ≡ rows_near interval (rows_inserted t h) spans
  -- the greatest visible time is that of the rows there, and the bucket that holds it is the last one with a row
  pub latest : (q : ℕ) → latest_at q table.versions ≡ latest_of (rows t (prefix h q))
  pub last_bucket : (q : ℕ) (w : Width) → IsWidth w
      → option_map (λ time. bucket_of w time +ℤ w.step) (latest_at q table.versions) ≡ last_end w (rows t (prefix h q))

abbrev pub HeldTablesTell : Type 0
HeldTablesTell = (t : ℕ) (h : History) (table : ChunksValue) → Holds t h table → Tells t h table
