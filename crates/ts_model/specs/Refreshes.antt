-- Refreshes of an aggregate: what was last refreshed, what commits touched since, the watermark, and what is
-- stale.
use Rattle.std.specs.Prelude.{ℕ, suc, Bool, true, false, ◌&&◌, ◌||◌, cond, nat_le, ◌==◌, List, [], ◌∷◌, ℤ, ◌+ℤ◌, Option, Some, None}
use Rattle.std.specs.List.{list_any}
use Rattle.ts_num.specs.Aggregates.{greater}
use Rattle.ts_bucket.specs.Bucket.{bucket_of}
use Rattle.ts_bucket.specs.Positions.{later, is_above}
use Rattle.ts_bucket.specs.WholeSpans.{is_below}
use Rattle.ts_bucket.specs.Spans.{in_span, meets}
use Rattle.ts_bucket.specs.declared.spans.Span.{Span}
use Rattle.ts_bucket.specs.declared.spans.Hull.{Hull}
use Rattle.ts_bucket.specs.declared.widths.Width.{Width}
use Rattle.ts_schema.specs.declared.rows.Row.{Row}
use Rattle.ts_schema.specs.Conditions.{passes_all}
use Rattle.ts_model.specs.declared.events.Event.TheVariants.{Commit, Cut, Built}
use Rattle.ts_model.specs.declared.events.Op.{Op}
use Rattle.ts_model.specs.declared.views.Fold.{Fold}
use Rattle.ts_model.specs.declared.views.ViewDef.{ViewDef}
use Rattle.ts_model.specs.declared.images.Image.{Image}
use Rattle.ts_model.specs.declared.images.SavedView.{SavedView}
use Rattle.ts_model.specs.declared.refreshes.Waiting.{Waiting as WaitingRefresh}
use Rattle.ts_model.specs.declared.rosters.Roster.{Roster}
use Rattle.ts_model.specs.History.{History, start, resumed, ◌▸◌, position, prefix}
use Rattle.ts_model.specs.Saved.{saved_view, saved_last, is_dirty, span_among, last_hi}
use Rattle.ts_model.specs.Roster.{roster, view_of}
use Rattle.ts_model.specs.Rows.{rows, rows_at}
use Rattle.ts_model.specs.Effect.{hull_of_ops}

-- the span of event k, if it is a cut of aggregate n. For waiting refreshes, an image states it
abbrev pub span_of_cut : ℕ → History → ℕ → Option Span
span_of_cut n start k = None
span_of_cut n (resumed i) k = cond (nat_le k i.pos) (span_among n i.waiting k) None
span_of_cut n (h ▸ Cut v span) k = cond (k == suc (position h) && v == n) (Some span) (span_of_cut n h k)
span_of_cut n (h ▸ e) k = span_of_cut n h k

-- there is a span, and b lies in it
abbrev pub is_covered : ℤ → Option Span → Bool
is_covered b None = false
is_covered b (Some span) = in_span span b

-- there is a position, and it is at most s
abbrev pub is_by : ℕ → Option ℕ → Bool
is_by s None = false
is_by s (Some p) = nat_le p s

-- there is a position, and it is r
abbrev pub is_pos : ℕ → Option ℕ → Bool
is_pos r None = false
is_pos r (Some p) = p == r

-- a bucket lies in the span of a refresh of aggregate n among these, whose number is at most s
abbrev pub waits_over : ℕ → ℤ → ℕ → List WaitingRefresh → Bool
waits_over n b s rs = list_any (λ r. r.view == n && in_span r.span b && nat_le r.cut s) rs

-- a bucket was cut: it lies in the span of a cut of aggregate n whose number is at most s. If an image has a
-- last refresh, it was cut at or before that one
abbrev pub was_cut : ℕ → History → ℤ → ℕ → Bool
was_cut n start b s = false
was_cut n (resumed i) b s = is_by s (saved_last n i b) || waits_over n b s i.waiting
was_cut n (h ▸ Cut v span) b s = was_cut n h b s || (v == n && in_span span b && nat_le (suc (position h)) s)
was_cut n (h ▸ e) b s = was_cut n h b s

-- the last refresh of a bucket: the greatest snapshot of a finished refresh of aggregate n whose span holds it
abbrev pub last : ℕ → History → ℤ → Option ℕ
last n start b = None
last n (resumed i) b = saved_last n i b
last n (h ▸ Built cut snap) b = later (last n h b) (cond (is_covered b (span_of_cut n h cut)) (Some snap) None)
last n (h ▸ e) b = last n h b

-- a bucket is covered by a finished refresh of aggregate n with snapshot r
abbrev pub was_refreshed : ℕ → History → ℤ → ℕ → Bool
was_refreshed n start b r = false
was_refreshed n (resumed i) b r = is_pos r (saved_last n i b)
was_refreshed n (h ▸ Built cut snap) b r = was_refreshed n h b r || (snap == r && is_covered b (span_of_cut n h cut))
was_refreshed n (h ▸ e) b r = was_refreshed n h b r

-- there is a hull, and it meets the bucket
abbrev pub is_met : Width → ℤ → Option Hull → Bool
is_met w b None = false
is_met w b (Some hull) = meets w b hull

-- these operations touch a bucket of the aggregate: their hull on its table at this history meets it
abbrev pub touches : ViewDef → List Op → History → ℤ → Bool
touches def ops h b = is_met def.fold.width b (hull_of_ops def.table ops (rows def.table h))

-- the last touch of a bucket: the greatest number of a commit that touches it. A bucket that is dirty in an
-- image counts as touched at the image's position
abbrev pub last_touch : ℕ → ViewDef → History → ℤ → Option ℕ
last_touch n def start b = None
last_touch n def (resumed i) b = cond (is_dirty n i b) (Some i.pos) None
last_touch n def (h ▸ Commit ops) b =
    later (last_touch n def h b) (cond (touches def ops h b) (Some (suc (position h))) None)
last_touch n def (h ▸ e) b = last_touch n def h b

-- the last touch of a bucket at position s of a history
abbrev pub last_touch_at : ℕ → ViewDef → History → ℕ → ℤ → Option ℕ
last_touch_at n def h s b = last_touch n def (prefix h s) b

-- a bucket was touched after position s
abbrev pub touched : ℕ → ViewDef → History → ℤ → ℕ → Bool
touched n def h b s = is_above s (last_touch n def h b)

-- the greatest end of a bucket that starts in the span and holds a row which passes every test
abbrev pub top_in : Fold → Span → List Row → Option ℤ
top_in fold span [] = None
top_in fold span (row ∷ rows) =
    greater
    (cond (in_span span (bucket_of fold.width row.at) && passes_all row fold.tests) (Some (bucket_of fold.width row.at +ℤ fold.width.step)) None)
    (top_in fold span rows)

-- that end at position s of a history
abbrev pub top_at : ViewDef → History → ℕ → Span → Option ℤ
top_at def h s span = top_in def.fold span (rows_at def.table h s)

-- that end, if there is a span
abbrev pub top_of : ViewDef → History → ℕ → Option Span → Option ℤ
top_of def h s None = None
top_of def h s (Some span) = top_at def h s span

-- the watermark: the greatest end of a bucket that some finished refresh covers and that had a result row at its
-- snapshot
abbrev pub watermark : ℕ → ViewDef → History → Option ℤ
watermark n def start = None
watermark n def (resumed i) = (saved_view n i).mark
watermark n def (h ▸ Built cut snap) = greater (watermark n def h) (top_of def h snap (span_of_cut n h cut))
watermark n def (h ▸ e) = watermark n def h

-- a bucket has no last refresh, or was touched after it
abbrev pub is_invalid : ℕ → ViewDef → History → ℤ → Option ℕ → Bool
is_invalid n def h b None = true
is_invalid n def h b (Some s) = touched n def h b s

abbrev pub invalid : ℕ → ViewDef → History → ℤ → Bool
invalid n def h b = is_invalid n def h b (last n h b)

-- a bucket is stale if it is below the watermark and has no last refresh or was touched after it
abbrev pub stale : ℕ → ViewDef → History → ℤ → Bool
stale n def h b = is_below b (watermark n def h) && invalid n def h b

-- whether an aggregate is over table t
abbrev pub is_over : ℕ → Option ViewDef → Bool
is_over t None = false
is_over t (Some def) = def.table == t

-- the greatest end of what was last refreshed of an aggregate over table t
abbrev pub lasts_end : ℕ → List ViewDef → List SavedView → Option ℤ
lasts_end t [] kept = None
lasts_end t (def ∷ defs) [] = None
lasts_end t (def ∷ defs) (v ∷ vs) = greater (cond (def.table == t) (last_hi v.lasts) None) (lasts_end t defs vs)

-- the greatest end of a span of these refreshes of an aggregate over table t
abbrev pub waiting_end : ℕ → Roster → List WaitingRefresh → Option ℤ
waiting_end t r [] = None
waiting_end t r (w ∷ ws) = greater (cond (is_over t (view_of r w.view)) (Some w.span.hi) None) (waiting_end t r ws)

-- the threshold of a table: the greatest end of a cut's span of an aggregate over it. In an image, it is the
-- greatest end of all that was last refreshed and of all waiting refreshes
abbrev pub threshold : ℕ → History → Option ℤ
threshold t start = None
threshold t (resumed i) = greater (lasts_end t (roster (resumed i)).views i.views) (waiting_end t (roster (resumed i)) i.waiting)
threshold t (h ▸ Cut v span) = greater (threshold t h) (cond (is_over t (view_of (roster h) v)) (Some span.hi) None)
threshold t (h ▸ e) = threshold t h
