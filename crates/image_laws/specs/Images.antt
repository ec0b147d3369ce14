-- The image of a history: what a checkpoint keeps of it.
use Rattle.std.specs.Prelude.{◌≡◌, ◌≢◌, ℕ, zero, suc, ◌≤◌, ◌^◌, nat_lt, Bool, true, ◌&&◌, cond, List, [], ◌∷◌, ◌++◌, map, length, ℤ, ◌≤ℤ◌, Option, Some, None, is_some}
use Rattle.std.specs.List.{AllByRecursion, list_all}
use Rattle.ts_bucket.specs.Bucket.{is_bucket}
use Rattle.ts_bucket.specs.Ranges.{lies_in, IsWholeRange, RiseApart}
use Rattle.ts_bucket.specs.declared.spans.Span.{Span}
use Rattle.partial_agg.specs.Groups.{group_cmp}
use Rattle.partial_agg.specs.declared.groups.Group.{Group}
use Rattle.ts_schema.specs.declared.rows.Row.{Row}
use Rattle.ts_model.specs.declared.events.Event.{Event}
use Rattle.ts_model.specs.declared.events.Event.TheVariants.{Table, Hyper, View, Commit}
use Rattle.ts_model.specs.declared.events.Op.TheVariants.{Insert}
use Rattle.ts_model.specs.declared.images.Finished.{Finished as FinishedRefresh}
use Rattle.ts_model.specs.declared.images.Image.{Image}
use Rattle.ts_model.specs.declared.images.SavedLast.{SavedLast}
use Rattle.ts_model.specs.declared.images.SavedView.{SavedView}
use Rattle.ts_model.specs.declared.refreshes.Pending.{Pending}
use Rattle.ts_model.specs.declared.refreshes.Pending.TheVariants.{Waiting, Finished, Unknown}
use Rattle.ts_model.specs.declared.rosters.Roster.{Roster}
use Rattle.ts_model.specs.declared.tables.Hyper.{Hyper as HyperInfo}
use Rattle.ts_model.specs.declared.tables.TableInfo.{TableInfo}
use Rattle.ts_model.specs.declared.views.ViewDef.{ViewDef}
use Rattle.ts_model.specs.declared.queries.Query.{Query}
use Rattle.ts_model.specs.History.{History, resumed, ◌▸▸◌, position, prefix}
use Rattle.ts_model.specs.Answers.{answer}
use Rattle.ts_model.specs.Windows.{window}
use Rattle.ts_model.specs.Saved.{saved_view, pos_in, group_of, groups_among}
use Rattle.ts_model.specs.Roster.{roster, view_of}
use Rattle.ts_model.specs.Rows.{rows}
use Rattle.ts_model.specs.Groups.{groups_at}
use Rattle.ts_model.specs.Pending.{pending, waiting}
use Rattle.ts_model.specs.Refreshes.{last, invalid, watermark}
use Rattle.ts_model.specs.Valid.{all_rise, valid}
use Rattle.ts_model.specs.Allowed.{all_allowed}
use Rattle.image_laws.specs.Alike.{Alike, are_from}

-- ---- the roster and the rows

-- the event that turns table number t into a hypertable, if it is one
abbrev pub hyper_events : ℕ → Option HyperInfo → List Event
hyper_events t None = []
hyper_events t (Some hyper) = Hyper t hyper ∷ []

-- the events that create these tables, the first of which has number t
abbrev pub table_events : ℕ → List TableInfo → List Event
table_events t [] = []
table_events t (info ∷ infos) = Table info.def ∷ (hyper_events t info.hyper ++ table_events (suc t) infos)

-- the events that create a roster
abbrev pub roster_events : Roster → List Event
roster_events r = table_events 0 r.tables ++ map View r.views

-- a commit of these rows, if there are any
abbrev pub held_events : ℕ → List Row → List Event
held_events t [] = []
held_events t (row ∷ rows) = Commit (Insert t (row ∷ rows) ∷ []) ∷ []

-- one for each of n tables from number t on
abbrev pub row_events : History → ℕ → ℕ → List Event
row_events h t zero = []
row_events h t (suc n) = held_events t (rows t h) ++ row_events h (suc t) n

-- ---- refreshes

-- refresh number k, if it was finished
abbrev pub finished_as : ℕ → Pending → List FinishedRefresh
finished_as k (Waiting n) = []
finished_as k (Finished f) = record { cut = k; built = f } ∷ []
finished_as k Unknown = []

-- the finished refreshes with numbers up to p, in rising order
abbrev pub finished_upto : History → ℕ → List FinishedRefresh
finished_upto h zero = []
finished_upto h (suc p) = finished_upto h p ++ finished_as (suc p) (pending h (suc p))

-- ---- aggregates

-- what the last refresh of a bucket stored, as groups
abbrev pub groups_left : ℕ → ViewDef → History → ℤ → Option ℕ → List Group
groups_left n def h b None = []
groups_left n def h b (Some s) = groups_at n def h s b

-- a bucket was touched after its last refresh
abbrev pub was_left : ℕ → ViewDef → History → ℤ → Bool
was_left n def h b = is_some (last n h b) && invalid n def h b

-- a range is above another, and if it begins where that ends, it has another position
pub record Follows (l m : SavedLast) : Type 0 where
  pub above : l.span.hi ≤ℤ m.span.lo
  pub other : l.span.hi ≡ m.span.lo → l.pos ≢ m.pos

-- ranges rise, and if one begins where another ends, their positions differ
abbrev pub LastsRise : List SavedLast → Type 0
LastsRise [] = Unit {0}
LastsRise (l ∷ []) = Unit {0}
LastsRise (l ∷ m ∷ ls) = Follows l m × LastsRise (m ∷ ls)

-- what is kept of an aggregate of a history
pub record IsSavedView (n : ℕ) (def : ViewDef) (h : History) (v : SavedView) : Type 0 where
  -- the maximal ranges of buckets with the same last refresh
  pub lasts_whole : AllByRecursion (λ (l : SavedLast). IsWholeRange def.fold.width l.span) v.lasts
  pub lasts_rise : LastsRise v.lasts
  pub lasts : (b : ℤ) → is_bucket def.fold.width b ≡ true → pos_in v.lasts b ≡ last n h b
  -- the maximal ranges of buckets touched after their last refresh
  pub dirty_whole : AllByRecursion (IsWholeRange def.fold.width) v.dirty
  pub dirty_rise : RiseApart v.dirty
  pub dirty : (b : ℤ) → is_bucket def.fold.width b ≡ true → lies_in v.dirty b ≡ was_left n def h b
  -- for each of these buckets, in order, what its last refresh stored
  pub groups_rise : all_rise group_cmp (map group_of v.groups) ≡ true
  pub groups_whole : list_all (λ g. is_bucket def.fold.width g.start) v.groups ≡ true
  pub groups : (b : ℤ) → is_bucket def.fold.width b ≡ true
      → groups_among v.groups b ≡ cond (was_left n def h b) (groups_left n def h b (last n h b)) []
  pub mark : v.mark ≡ watermark n def h

-- the image of a history
pub record IsImage (h : History) (i : Image) : Type 0 where
  pub pos : i.pos ≡ position h
  pub relations : i.roster ≡ roster_events (roster h)
  pub held : i.rows ≡ row_events h 0 (length (roster h).tables)
  pub as_many : length i.views ≡ length (roster h).views
  pub views : (n : ℕ) (def : ViewDef) → view_of (roster h) n ≡ Some def → IsSavedView n def h (saved_view n i)
  pub waits : i.waiting ≡ waiting h
  pub done : i.done ≡ finished_upto h (position h)

-- each group that a last refresh stored in a bucket touched after it has fewer than 2 ^ 62 rows
abbrev pub AreFew : History → Type 0
AreFew h =
    (n : ℕ) (def : ViewDef) (b : ℤ) → view_of (roster h) n ≡ Some def → is_bucket def.fold.width b ≡ true
    → was_left n def h b ≡ true
    → list_all (λ g. list_all (λ s. nat_lt s.count (2 ^ 62)) g.parts) (groups_left n def h b (last n h b)) ≡ true

-- the image of an allowed history is valid, if these groups have fewer than 2 ^ 62 rows
abbrev pub ImagesAreValid : Type 0
ImagesAreValid = (h : History) (i : Image) → all_allowed h ≡ true → AreFew h → IsImage h i → valid i ≡ true

-- a history has at most one image
abbrev pub OneImage : Type 0
OneImage = (h : History) (i j : Image) → IsImage h i → IsImage h j → i ≡ j

-- an allowed history and its image are alike
abbrev pub ImagesAreAlike : Type 0
ImagesAreAlike = (h : History) (i : Image) → all_allowed h ≡ true → IsImage h i → Alike h (resumed i)

-- events are allowed after the image of a history if and only if they are allowed after the history and no
-- snapshot is below the image. Then each query has the same answer over both
pub record CheckpointsKeep : Type 0 where
  pub allowed :
      (h : History) (i : Image) (es : List Event) → all_allowed h ≡ true → IsImage h i → valid i ≡ true
      → all_allowed (resumed i ▸▸ es) ≡ (all_allowed (h ▸▸ es) && are_from i.pos es)
  pub answers :
      (h : History) (i : Image) (es : List Event) (query : Query) → all_allowed h ≡ true → IsImage h i
      → all_allowed (resumed i ▸▸ es) ≡ true → answer query (h ▸▸ es) ≡ answer query (resumed i ▸▸ es)
  pub windows : (h : History) (i : Image) (es : List Event) (n : ℕ) (def : ViewDef) (lo hi : Option ℤ)
      → all_allowed h ≡ true → IsImage h i → all_allowed (resumed i ▸▸ es) ≡ true
      → view_of (roster (h ▸▸ es)) n ≡ Some def → window n def (h ▸▸ es) lo hi ≡ window n def (resumed i ▸▸ es) lo hi
  pub refreshes :
      (h : History) (i : Image) (es : List Event) (k : ℕ) → all_allowed h ≡ true → IsImage h i
      → all_allowed (resumed i ▸▸ es) ≡ true → pending (h ▸▸ es) k ≡ pending (resumed i ▸▸ es) k
  pub waits :
      (h : History) (i : Image) (es : List Event) → IsImage h i → waiting (h ▸▸ es) ≡ waiting (resumed i ▸▸ es)
  -- so each call does the same at both
  pub alike :
      (h : History) (i : Image) (es : List Event) → all_allowed h ≡ true → IsImage h i
      → all_allowed (resumed i ▸▸ es) ≡ true → Alike (h ▸▸ es) (resumed i ▸▸ es)
  -- and an answer at a position from the image on is the same too
  pub earlier :
      (h : History) (i : Image) (es : List Event) (query : Query) (q : ℕ) → all_allowed h ≡ true → IsImage h i
      → all_allowed (resumed i ▸▸ es) ≡ true → i.pos ≤ q
      → answer query (prefix (h ▸▸ es) q) ≡ answer query (prefix (resumed i ▸▸ es) q)
