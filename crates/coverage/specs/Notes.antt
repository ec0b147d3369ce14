-- Notes of what is stale: the log of a table, the pending and refreshed positions of one aggregate over it, and
-- what each event does to them.
use Rattle.std.specs.Prelude.{◌≡◌, ℕ, suc, true, cond, ◌&&◌, ◌==◌, ◌-◌, List, [], ◌∷◌, ◌++◌, length, ℤ, int_lt, Option, Some, None, is_none}
use Rattle.std.specs.Int.{int_max}
use Rattle.ts_bucket.specs.Bucket.{is_bucket}
use Rattle.ts_bucket.specs.Positions.{later, above, is_before}
use Rattle.ts_bucket.specs.Spans.{in_span, meets}
use Rattle.ts_bucket.specs.Touches.{Noted}
use Rattle.ts_bucket.specs.WholeSpans.{whole_span, least}
use Rattle.ts_bucket.specs.declared.spans.Hull.{Hull}
use Rattle.ts_bucket.specs.declared.spans.Span.{Span}
use Rattle.ts_bucket.specs.declared.widths.Width.{Width}
use Rattle.ts_model.specs.declared.events.Event.{Event}
use Rattle.ts_model.specs.declared.events.Event.TheVariants.{View, Commit, Cut, Built}
use Rattle.ts_model.specs.declared.views.ViewDef.{ViewDef}
use Rattle.ts_model.specs.History.{History, start, resumed, ◌▸◌, position}
use Rattle.ts_model.specs.Roster.{roster, view_of}
use Rattle.ts_model.specs.Rows.{rows}
use Rattle.ts_model.specs.Effect.{hull_of_ops}
use Rattle.ts_model.specs.Refreshes.{span_of_cut, is_covered, is_over, threshold}
use Rattle.ts_model.specs.Saved.{is_dirty, saved_last}
use Rattle.ts_model.specs.declared.images.Image.{Image}

-- the threshold and the log of a table, and two partial functions of the buckets of an aggregate over it: the
-- position that is pending, and that of the last refresh
pub record Notes : Type 0 where
  pub threshold : ℤ
  pub log : List Noted
  pub pending : ℤ → Option ℕ
  pub refreshed : ℤ → Option ℕ

-- before there is anything to note, the threshold is below every time
abbrev pub no_notes : Notes
no_notes = record { threshold = least; log = []; pending = λ b. None; refreshed = λ b. None }

-- a threshold as a number: if there is none, the least
abbrev pub number_of : Option ℤ → ℤ
number_of None = least
number_of (Some hi) = int_max least hi

-- in an image, its position is pending in a dirty bucket, and 0 in one that was never refreshed
abbrev pub pending_from : ℕ → Width → Image → ℤ → Option ℕ
pending_from n w i b =
    cond (is_dirty n i b) (Some i.pos) (cond (in_span (whole_span w) b && is_none (saved_last n i b)) (Some 0) None)

-- the notes of aggregate n in an image
abbrev pub notes_from : ℕ → ViewDef → Image → Notes
notes_from n def i = record {
  threshold = number_of (threshold def.table (resumed i));
  log = [];
  pending = pending_from n def.fold.width i;
  refreshed = saved_last n i;
}

-- ---- what events do

-- an aggregate that event number k created has each of its buckets pending at k, and none refreshed
abbrev pub notes_of_new : Width → ℕ → Notes → Notes
notes_of_new w k notes =
    record {
      threshold = notes.threshold;
      log = notes.log;
      pending = λ b. cond (in_span (whole_span w) b) (Some k) None;
      refreshed = λ b. None;
    }

-- the log after a commit with number k: its hull, if it has one, is logged if and only if it begins below the
-- threshold
abbrev pub log_after : Option Hull → ℕ → ℤ → List Noted → List Noted
log_after None k threshold log = log
log_after (Some hull) k threshold log =
    cond (int_lt hull.least threshold) (log ++ (record { hull = hull; at = k } ∷ [])) log

-- a commit with number k notes its hull
abbrev pub notes_after_hull : Option Hull → ℕ → Notes → Notes
notes_after_hull hull k notes =
    record {
      threshold = notes.threshold;
      log = log_after hull k notes.threshold notes.log;
      pending = notes.pending;
      refreshed = notes.refreshed;
    }

-- what is pending at b after a noted hull was fed: its position, if the hull meets the bucket and the bucket
-- wasn't refreshed at or after it
abbrev pub fed_one : Width → ℤ → Option ℕ → Noted → Option ℕ → Option ℕ
fed_one w b refreshed entry pending =
    cond (meets w b entry.hull && is_before entry.at refreshed) (Some entry.at) pending

-- what is pending at b after these were fed, in order
abbrev pub pending_after : Width → ℤ → Option ℕ → List Noted → Option ℕ → Option ℕ
pending_after w b refreshed [] pending = pending
pending_after w b refreshed (entry ∷ entries) pending = pending_after w b refreshed entries (fed_one w b refreshed entry pending)

-- what is pending at b after all that is logged was fed
abbrev pub fed_at : Width → Notes → ℤ → Option ℕ
fed_at w notes b = pending_after w b (notes.refreshed b) notes.log (notes.pending b)

-- all that is logged is fed, and the log is empty
abbrev pub all_fed : Width → Notes → Notes
all_fed w notes =
    record { threshold = notes.threshold; log = []; pending = fed_at w notes; refreshed = notes.refreshed }

-- a cut of a span that ends at hi, of any aggregate over the table, raises the threshold, empties the log, and feeds
-- its entries
abbrev pub cut_to : Width → ℤ → Notes → Notes
cut_to w hi notes =
    record { threshold = int_max notes.threshold hi; log = []; pending = fed_at w notes; refreshed = notes.refreshed }

-- a finish with a snapshot settles the span of its cut, if that is a cut of the aggregate: what is pending up
-- to the snapshot is cleared, and the last refresh is raised to the snapshot
abbrev pub notes_after_refresh : Option Span → ℕ → Notes → Notes
notes_after_refresh span snap notes = record {
  threshold = notes.threshold;
  log = notes.log;
  pending = λ b. cond (is_covered b span) (above snap (notes.pending b)) (notes.pending b);
  refreshed = λ b. cond (is_covered b span) (later (notes.refreshed b) (Some snap)) (notes.refreshed b);
}

-- what an event after h does to the notes of aggregate n
abbrev pub notes_after : ℕ → ViewDef → History → Event → Notes → Notes
notes_after n def h (View made) notes =
    cond (length (roster h).views == n) (notes_of_new def.fold.width (suc (position h)) notes) notes
notes_after n def h (Commit ops) notes = notes_after_hull (hull_of_ops def.table ops (rows def.table h)) (suc (position h)) notes
notes_after n def h (Cut v span) notes =
    cond (is_over def.table (view_of (roster h) v)) (cut_to def.fold.width span.hi notes) notes
notes_after n def h (Built cut snap) notes = notes_after_refresh (span_of_cut n h cut) snap notes
notes_after n def h e notes = notes

-- the notes of aggregate n, event by event
abbrev pub notes_of : ℕ → ViewDef → History → Notes
notes_of n def start = no_notes
notes_of n def (resumed i) = notes_from n def i
notes_of n def (h ▸ e) = notes_after n def h e (notes_of n def h)

-- the same log, and the same of every bucket
pub record AreSame (w : Width) (a b : Notes) : Type 0 where
  pub threshold : b.threshold ≡ a.threshold
  pub log : b.log ≡ a.log
  pub pending : (t : ℤ) → is_bucket w t ≡ true → b.pending t ≡ a.pending t
  pub refreshed : (t : ℤ) → is_bucket w t ≡ true → b.refreshed t ≡ a.refreshed t
