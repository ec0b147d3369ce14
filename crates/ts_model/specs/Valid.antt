-- Valid images: the conditions for an image to begin a history.
use Rattle.std.specs.Prelude.{ℕ, zero, suc, ◌*◌, ◌-◌, ◌^◌, Bool, true, false, ◌&&◌, ◌||◌, not, cond, nat_lt, nat_le, ◌==◌, List, [], ◌∷◌, map, length, ℤ, pos, neg_ℤ, ◌-ℤ◌, int_lt, int_le, Option, Some, None, is_some, is_none}
use Rattle.std.specs.List.{list_all, list_any}
use Rattle.std.specs.Ordering.{is_gt, is_lt, nat_cmp}
use Rattle.std.specs.declared.cmp.Ordering.{Ordering}
use Rattle.ts_bucket.specs.Bucket.{is_bucket, bucket_of, min_time, max_time}
use Rattle.ts_bucket.specs.Ranges.{lies_in}
use Rattle.ts_bucket.specs.WholeSpans.{is_below}
use Rattle.ts_bucket.specs.declared.spans.Span.{Span}
use Rattle.ts_bucket.specs.declared.widths.Width.{Width}
use Rattle.partial_agg.specs.Groups.{group_cmp}
use Rattle.ts_schema.specs.declared.rows.Row.{Row}
use Rattle.ts_schema.specs.Conditions.{passes_all}
use Rattle.ts_schema.specs.Rows.{row_cmp}
use Rattle.ts_model.specs.declared.events.Event.{Event}
use Rattle.ts_model.specs.declared.events.Event.TheVariants.{Table, Hyper, View, Commit}
use Rattle.ts_model.specs.declared.events.Op.TheVariants.{Insert}
use Rattle.ts_model.specs.declared.images.Finished.{Finished as FinishedRefresh}
use Rattle.ts_model.specs.declared.images.Image.{Image}
use Rattle.ts_model.specs.declared.images.SavedGroup.{SavedGroup}
use Rattle.ts_model.specs.declared.images.SavedLast.{SavedLast}
use Rattle.ts_model.specs.declared.images.SavedView.{SavedView}
use Rattle.ts_model.specs.declared.images.Sums.{Sums}
use Rattle.ts_model.specs.declared.refreshes.Waiting.{Waiting as WaitingRefresh}
use Rattle.ts_model.specs.declared.rosters.Roster.{Roster}
use Rattle.ts_model.specs.declared.views.Fold.{Fold}
use Rattle.ts_model.specs.declared.views.ViewDef.{ViewDef}
use Rattle.ts_model.specs.Saved.{appended_over, pos_in, group_of}
use Rattle.ts_model.specs.Roster.{no_relations, roster_after, roster_over, view_of}
use Rattle.ts_model.specs.Rows.{in_order}
use Rattle.ts_model.specs.Answers.{buckets_in}
use Rattle.ts_model.specs.Limits.{last_position}
use Rattle.ts_model.specs.Sound.{sound_in, op_fits, span_fits}
use Rattle.ts_model.specs.Timely.{timely_in}

-- each of these is less than every later one, and none is greater than a later one
abbrev pub all_rise : {K : Type 0} → (K → K → Ordering) → List K → Bool
all_rise cmp [] = true
all_rise cmp (x ∷ xs) = list_all (λ y. is_lt (cmp x y)) xs && all_rise cmp xs

abbrev pub all_stand : {K : Type 0} → (K → K → Ordering) → List K → Bool
all_stand cmp [] = true
all_stand cmp (x ∷ xs) = list_all (λ y. not (is_gt (cmp x y))) xs && all_stand cmp xs

-- ---- the roster and the rows

-- an event may come after a roster, not counting its bytes
abbrev pub may_follow : Roster → Event → Bool
may_follow r e = sound_in r e && timely_in r e

-- aggregates, each allowed after those before it
abbrev pub make_views : Roster → List Event → Bool
make_views r [] = true
make_views r (View def ∷ es) = may_follow r (View def) && make_views (roster_after r (View def)) es
make_views r (e ∷ es) = false

-- tables, each with what makes it a hypertable directly after it, and then aggregates
abbrev pub make_relations : Roster → List Event → Bool
make_relations r [] = true
make_relations r (Table def ∷ es) = may_follow r (Table def) && make_relations (roster_after r (Table def)) es
make_relations r (Hyper t hyper ∷ es) =
    suc t == length r.tables && may_follow r (Hyper t hyper) && make_relations (roster_after r (Hyper t hyper)) es
make_relations r (View def ∷ es) = make_views r (View def ∷ es)
make_relations r (e ∷ es) = false

-- one commit of one insert for each table with rows, from number low on, with all rows in order
abbrev pub hold_rows : Roster → ℕ → List Event → Bool
hold_rows r low [] = true
hold_rows r low (Commit (Insert t new ∷ []) ∷ es) =
    nat_le low t && op_fits r (Insert t new) && all_stand row_cmp new && hold_rows r (suc t) es
hold_rows r low (e ∷ es) = false

-- ---- what is kept of an aggregate

-- each span ends at or below the start of the next
abbrev pub spans_rise : List Span → Bool
spans_rise [] = true
spans_rise (s ∷ []) = true
spans_rise (s ∷ t ∷ ss) = int_le s.hi t.lo && spans_rise (t ∷ ss)

-- ranges of whole buckets that rise, each with a position below this one
abbrev pub lasts_fit : ViewDef → ℕ → List SavedLast → Bool
lasts_fit def p ls =
    list_all (λ l. span_fits l.span (Some def) && nat_lt l.pos p) ls && spans_rise (map (λ (l : SavedLast). l.span) ls)

-- each bucket of a range has a last refresh
abbrev pub has_lasts : Width → List SavedLast → Span → Bool
has_lasts w ls s = list_all (λ b. is_some (pos_in ls b)) (buckets_in w s)

-- ranges of whole buckets with a last refresh that rise
abbrev pub dirty_fits : ViewDef → List SavedLast → List Span → Bool
dirty_fits def ls ss =
    list_all (λ s. span_fits s (Some def) && has_lasts def.fold.width ls s) ss && spans_rise ss

-- there is a least or a greatest value if and only if there are values
abbrev pub is_told : ℕ → Option ℤ → Bool
is_told zero o = is_none o
is_told (suc n) o = is_some o

-- sums that rows may have
abbrev pub sums_fit : Sums → Bool
sums_fit s =
    nat_le s.values s.count && nat_lt s.count (2 ^ 62) && int_le (neg_ℤ (pos (2 ^ 63 * s.values))) s.sum
    && int_le s.sum (pos ((2 ^ 63 - 1) * s.values)) && is_told s.values s.least && is_told s.values s.most

-- a group of a dirty bucket, with as many keys and parts as the aggregate has
abbrev pub group_fits : ViewDef → List Span → SavedGroup → Bool
group_fits def dirty g =
    is_bucket def.fold.width g.start && lies_in dirty g.start && length g.keys == length def.fold.keys
    && length g.parts == length def.fold.aggs && list_all sums_fit g.parts

abbrev pub groups_fit : ViewDef → List Span → List SavedGroup → Bool
groups_fit def dirty gs = list_all (group_fits def dirty) gs && all_rise group_cmp (map group_of gs)

-- a mark is the end of a bucket that holds a time
abbrev pub mark_fits : Width → Option ℤ → Bool
mark_fits w None = true
mark_fits w (Some m) = is_bucket w m && int_lt min_time m && int_le (m -ℤ w.step) max_time

-- a row is below the mark, if it passes every test and is of a bucket with a last refresh that isn't dirty
abbrev pub row_marked : Fold → SavedView → Row → Bool
row_marked fold v row =
    not (passes_all row fold.tests && is_some (pos_in v.lasts (bucket_of fold.width row.at))
    && not (lies_in v.dirty (bucket_of fold.width row.at)))
    || is_below (bucket_of fold.width row.at) v.mark

-- what an image at this position keeps of an aggregate whose table has these rows
abbrev pub view_kept : ℕ → ViewDef → List Row → SavedView → Bool
view_kept p def rows v =
    lasts_fit def p v.lasts && dirty_fits def v.lasts v.dirty && groups_fit def v.dirty v.groups
    && mark_fits def.fold.width v.mark && list_all (λ g. is_below g.start v.mark) v.groups
    && list_all (row_marked def.fold v) rows

-- one for each aggregate
abbrev pub views_kept : ℕ → (ℕ → List Row) → List ViewDef → List SavedView → Bool
views_kept p rows_of [] [] = true
views_kept p rows_of [] (v ∷ vs) = false
views_kept p rows_of (def ∷ defs) [] = false
views_kept p rows_of (def ∷ defs) (v ∷ vs) =
    view_kept p def (rows_of def.table) v && views_kept p rows_of defs vs

-- ---- refreshes

-- a number of an event up to this position
abbrev pub is_number : ℕ → ℕ → Bool
is_number p k = nat_lt 0 k && nat_le k p

abbrev pub waiting_fits : Roster → ℕ → List WaitingRefresh → Bool
waiting_fits r p ws =
    list_all (λ w. is_number p w.cut && span_fits w.span (view_of r w.view)) ws
    && all_rise nat_cmp (map (λ (w : WaitingRefresh). w.cut) ws)

abbrev pub done_fits : ℕ → List WaitingRefresh → List FinishedRefresh → Bool
done_fits p ws fs =
    list_all (λ f. is_number p f.cut && nat_lt f.cut f.built && nat_le f.built p && not (list_any (λ w. w.cut == f.cut) ws)) fs
    && all_rise nat_cmp (map (λ (f : FinishedRefresh). f.cut) fs)

-- ---- an image

-- the roster of an image
abbrev pub image_roster : Image → Roster
image_roster i = roster_over no_relations i.roster

-- an image is valid: its position isn't after the last one; its tables and aggregates can be created in this
-- order; its rows, what is kept of each aggregate, and the waiting and finished refreshes fit them and one
-- another
abbrev pub valid : Image → Bool
valid i =
    nat_le i.pos last_position && make_relations no_relations i.roster && hold_rows (image_roster i) 0 i.rows
    && views_kept i.pos (λ t. in_order (appended_over t i.rows)) (image_roster i).views i.views
    && waiting_fits (image_roster i) i.pos i.waiting && done_fits i.pos i.waiting i.done
