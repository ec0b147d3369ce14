-- The laws: coverage holds after each event, so it holds for the notes of every consistent history; and what
-- coverage means.
use Rattle.std.specs.Prelude.{◌≡◌, ℕ, suc, Bool, true, false, not, ◌&&◌, ◌==◌, length, List, ℤ, ◌+ℤ◌, ◌≤ℤ◌, int_le, Option, Some, None, is_some, is_none, ◌||◌}
use Rattle.std.specs.Int.{int_max}
use Rattle.ts_bucket.specs.Bucket.{IsWidth, is_bucket, first_of, min_time, max_time}
use Rattle.ts_bucket.specs.Positions.{above, above_last}
use Rattle.ts_bucket.specs.Spans.{in_span}
use Rattle.ts_bucket.specs.Touches.{log_touch}
use Rattle.ts_bucket.specs.WholeSpans.{greatest, is_below, whole_span, least}
use Rattle.ts_bucket.specs.declared.spans.Hull.{Hull}
use Rattle.ts_bucket.specs.declared.spans.Span.{Span}
use Rattle.ts_bucket.specs.declared.widths.Width.{Width}
use Rattle.ts_model.specs.declared.events.Event.{Event}
use Rattle.ts_model.specs.declared.events.Event.TheVariants.{View, Commit, Cut, Built}
use Rattle.ts_model.specs.declared.events.Op.{Op}
use Rattle.ts_model.specs.declared.views.ViewDef.{ViewDef}
use Rattle.ts_model.specs.History.{History, ◌▸◌, position}
use Rattle.ts_model.specs.Roster.{IsOf, roster, view_of, set_only}
use Rattle.ts_model.specs.Rows.{rows}
use Rattle.ts_model.specs.Effect.{hull_of_ops}
use Rattle.ts_model.specs.Refreshes.{span_of_cut, last, last_touch, watermark, invalid, stale, threshold}
use Rattle.ts_model.specs.Allowed.{all_consistent}
use Rattle.coverage.specs.Notes.{Notes, number_of, notes_of_new, notes_after_hull, fed_at, all_fed, cut_to, notes_after_refresh, notes_after, notes_of, AreSame}
use Rattle.coverage.specs.Coverage.{is_upto, pending_position, IsCovered}

-- ---- one step for each kind of event

-- a commit that notes its hull
abbrev pub CommitsKeep : Type 0
CommitsKeep =
    (n : ℕ) (def : ViewDef) (h : History) (ops : List Op) (notes : Notes) → IsCovered n def h notes
    → IsCovered n def (h ▸ Commit ops) (notes_after_hull (hull_of_ops def.table ops (rows def.table h)) (suc (position h)) notes)

-- a span ends where a bucket does
pub record EndsWhole (w : Width) (span : Span) : Type 0 where
  pub width : IsWidth w
  pub ends : is_bucket w span.hi ≡ true

-- a cut of any aggregate over the table, if one of this aggregate has a span that ends where a bucket does
abbrev pub CutsKeep : Type 0
CutsKeep =
    (n : ℕ) (def : ViewDef) (h : History) (v : ℕ) (span : Span) (notes : Notes)
    → ((v == n) ≡ true → EndsWhole def.fold.width span) → IsCovered n def h notes
    → IsCovered n def (h ▸ Cut v span) (cut_to def.fold.width span.hi notes)

-- a finish that settles the span of its cut
abbrev pub FinishesKeep : Type 0
FinishesKeep =
    (n : ℕ) (def : ViewDef) (h : History) (cut snap : ℕ) (notes : Notes) → IsCovered n def h notes
    → IsCovered n def (h ▸ Built cut snap) (notes_after_refresh (span_of_cut n h cut) snap notes)

-- an event that doesn't change the notes of aggregate n: a new table or mode, another aggregate, and a cut of
-- another aggregate
abbrev pub is_quiet : ℕ → History → Event → Bool
is_quiet n h (View made) = not (length (roster h).views == n)
is_quiet n h (Commit ops) = false
is_quiet n h (Cut v span) = not (v == n)
is_quiet n h (Built cut snap) = false
is_quiet n h e = true

-- such an event changes nothing
abbrev pub QuietKeeps : Type 0
QuietKeeps =
    (n : ℕ) (def : ViewDef) (h : History) (e : Event) (notes : Notes) → is_quiet n h e ≡ true
    → IsCovered n def h notes → IsCovered n def (h ▸ e) notes

-- the event that creates the aggregate, on any log of its table whose positions are not after the history
abbrev pub BeginningsCover : Type 0
BeginningsCover =
    (n : ℕ) (def : ViewDef) (h : History) (made : ViewDef) (notes : Notes) → all_consistent h ≡ true
    → view_of (roster h) n ≡ None → is_upto (position h) notes.log ≡ true
    → IsCovered n def (h ▸ View made) (notes_of_new def.fold.width (suc (position h)) notes)

-- any consistent event
abbrev pub EventsKeep : Type 0
EventsKeep =
    (n : ℕ) (def : ViewDef) (h : History) (e : Event) (notes : Notes) → all_consistent (h ▸ e) ≡ true
    → IsOf def (view_of (roster h) n) → IsCovered n def h notes
    → IsCovered n def (h ▸ e) (notes_after n def h e notes)

-- notes that say the same cover the same
abbrev pub SameCover : Type 0
SameCover =
    (n : ℕ) (def : ViewDef) (h : History) (a b : Notes) → AreSame def.fold.width a b → IsCovered n def h a
    → IsCovered n def h b

-- feeding all that is logged
abbrev pub FeedsKeep : Type 0
FeedsKeep =
    (n : ℕ) (def : ViewDef) (h : History) (notes : Notes) → IsCovered n def h notes
    → IsCovered n def h (all_fed def.fold.width notes)

-- an aggregate that shows other rows at or above the watermark
abbrev pub ModesKeep : Type 0
ModesKeep =
    (n : ℕ) (def : ViewDef) (only : Bool) (h : History) (notes : Notes) → IsCovered n def h notes
    → IsCovered n (set_only only def) h notes

-- ---- what notes may assume

-- the hull of a consistent commit goes from a time to a time at or above it
abbrev pub HullsAreOfTimes : Type 0
HullsAreOfTimes =
    (t : ℕ) (h : History) (ops : List Op) (hull : Hull) → all_consistent (h ▸ Commit ops) ≡ true
    → hull_of_ops t ops (rows t h) ≡ Some hull
    → (min_time ≤ℤ hull.least) × (hull.least ≤ℤ hull.most) × (hull.most ≤ℤ max_time)

-- ---- what coverage means

-- what notes that cover say
pub record Tells (n : ℕ) (def : ViewDef) (h : History) (notes : Notes) : Type 0 where
  -- the noted refresh is the last refresh
  pub refreshed : (b : ℤ) → is_bucket def.fold.width b ≡ true → notes.refreshed b ≡ last n h b
  -- the pending position of a bucket with a last refresh is the last touch above that
  pub touched : (b : ℤ) (s : ℕ) → is_bucket def.fold.width b ≡ true → last n h b ≡ Some s
      → pending_position def.fold.width notes b ≡ above s (last_touch n def h b)
  -- something is pending in a bucket without one
  pub never :
      (b : ℤ) → is_bucket def.fold.width b ≡ true → in_span (whole_span def.fold.width) b ≡ true → last n h b ≡ None
      → is_some (notes.pending b) ≡ true
  -- exactly the buckets touched after their last refresh, or never refreshed, have a pending position
  pub exact : (b : ℤ) → is_bucket def.fold.width b ≡ true → in_span (whole_span def.fold.width) b ≡ true
      → is_some (pending_position def.fold.width notes b) ≡ invalid n def h b
  -- these are the buckets that were never refreshed or have something pending, and those that a noted hull meets
  -- after their last refresh
  pub dirty : (b : ℤ) → is_bucket def.fold.width b ≡ true → in_span (whole_span def.fold.width) b ≡ true
      →
      ((is_none (notes.refreshed b) || is_some (notes.pending b)) || is_some (above_last (notes.refreshed b) (log_touch def.fold.width b notes.log)))
      ≡ invalid n def h b
  -- and those of them below the watermark are stale
  pub stale : (b : ℤ) → is_bucket def.fold.width b ≡ true → in_span (whole_span def.fold.width) b ≡ true
      → (is_below b (watermark n def h) && is_some (pending_position def.fold.width notes b)) ≡ stale n def h b

-- notes that cover an aggregate of a consistent history say all of this
abbrev pub CoveredTells : Type 0
CoveredTells =
    (n : ℕ) (def : ViewDef) (h : History) (notes : Notes) → all_consistent h ≡ true
    → is_some (view_of (roster h) n) ≡ true → IsCovered n def h notes → Tells n def h notes

-- what is pending after all that is logged was fed: exactly what was pending, or is noted after the last refresh
abbrev pub FeedsTell : Type 0
FeedsTell =
    (w : Width) (notes : Notes) (b : ℤ)
    → is_some (fed_at w notes b) ≡
    (is_some (notes.pending b) || is_some (above_last (notes.refreshed b) (log_touch w b notes.log)))

-- what notes that cover say once all that is logged was fed
pub record TellsFed (n : ℕ) (def : ViewDef) (h : History) (notes : Notes) : Type 0 where
  -- what is pending in a bucket with a last refresh is the last touch above that
  pub touched : (b : ℤ) (s : ℕ) → is_bucket def.fold.width b ≡ true → last n h b ≡ Some s
      → fed_at def.fold.width notes b ≡ above s (last_touch n def h b)
  -- the buckets that were never refreshed or have something pending are those touched after their last refresh, or
  -- never refreshed
  pub dirty : (b : ℤ) → is_bucket def.fold.width b ≡ true → in_span (whole_span def.fold.width) b ≡ true
      → (is_none (notes.refreshed b) || is_some (fed_at def.fold.width notes b)) ≡ invalid n def h b
  -- and those of them below the watermark are stale
  pub stale : (b : ℤ) → is_bucket def.fold.width b ≡ true → in_span (whole_span def.fold.width) b ≡ true
      → (is_below b (watermark n def h) && (is_none (notes.refreshed b) || is_some (fed_at def.fold.width notes b))) ≡
      stale n def h b

abbrev pub CoveredTellsFed : Type 0
CoveredTellsFed =
    (n : ℕ) (def : ViewDef) (h : History) (notes : Notes) → all_consistent h ≡ true
    → is_some (view_of (roster h) n) ≡ true → IsCovered n def h notes → TellsFed n def h notes

-- after a finish, no bucket of its span has a pending position at or below the snapshot, whichever refreshes were
-- finished before
abbrev pub FinishesClear : Type 0
FinishesClear =
    (n : ℕ) (def : ViewDef) (h : History) (cut snap : ℕ) (span : Span) (b : ℤ) (notes : Notes)
    → IsCovered n def h notes → is_bucket def.fold.width b ≡ true → span_of_cut n h cut ≡ Some span
    → in_span span b ≡ true
    → above snap (pending_position def.fold.width (notes_after_refresh (span_of_cut n h cut) snap notes) b) ≡ pending_position
    def.fold.width (notes_after_refresh (span_of_cut n h cut) snap notes) b

-- the buckets that are marked when an aggregate is created are those from the first on that end at or below the
-- greatest number
abbrev pub AllBucketsAre : Type 0
AllBucketsAre =
    (w : Width) (b : ℤ) → IsWidth w → is_bucket w b ≡ true
    → in_span (whole_span w) b ≡ (int_le (first_of w) b && int_le (b +ℤ w.step) greatest)

-- ---- whole histories

-- the notes of each aggregate of every consistent history cover it
abbrev pub HistoriesCovered : Type 0
HistoriesCovered =
    (n : ℕ) (def : ViewDef) (h : History) → all_consistent h ≡ true → view_of (roster h) n ≡ Some def
    → IsCovered n def h (notes_of n def h)

-- so they say what is pending
abbrev pub HistoriesTell : Type 0
HistoriesTell =
    (n : ℕ) (def : ViewDef) (h : History) → all_consistent h ≡ true → view_of (roster h) n ≡ Some def
    → Tells n def h (notes_of n def h)

-- the noted threshold is that of the table
abbrev pub ThresholdsAre : Type 0
ThresholdsAre = (n : ℕ) (def : ViewDef) (h : History) → (notes_of n def h).threshold ≡ number_of (threshold def.table h)

-- it is at or above the end of each span that was cut of any aggregate over the table
abbrev pub ThresholdsReach : Type 0
ThresholdsReach =
    (n v : ℕ) (def other : ViewDef) (h : History) (k : ℕ) (span : Span) → all_consistent h ≡ true
    → view_of (roster h) v ≡ Some other → other.table ≡ def.table → span_of_cut v h k ≡ Some span
    → span.hi ≤ℤ (notes_of n def h).threshold
