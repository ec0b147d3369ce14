-- The parts of each aggregate in a state, from which the image of the history is built.
use Rattle.std.specs.Prelude.{◌≡◌, ℕ, ◌<◌, true, List, length, map, ℤ, Option, Some, slice_get, unwrap_or}
use Rattle.std.specs.List.{AllByRecursion, list_all}
use Rattle.ts_bucket.specs.Bucket.{is_bucket}
use Rattle.ts_bucket.specs.Ranges.{lies_in, IsWholeRange, RiseApart}
use Rattle.ts_bucket.specs.declared.spans.Span.{Span}
use Rattle.partial_agg.specs.Groups.{group_cmp}
use Rattle.ts_model.specs.declared.images.SavedGroup.{SavedGroup}
use Rattle.ts_model.specs.declared.images.SavedLast.{SavedLast}
use Rattle.ts_model.specs.declared.images.SavedView.{SavedView}
use Rattle.ts_model.specs.declared.views.ViewDef.{ViewDef}
use Rattle.ts_model.specs.History.{History}
use Rattle.ts_model.specs.Refreshes.{last}
use Rattle.ts_model.specs.Roster.{roster, view_of}
use Rattle.ts_model.specs.Saved.{nothing_saved, pos_in, group_of, groups_among}
use Rattle.ts_model.specs.Valid.{all_rise}
use Rattle.image_laws.specs.Images.{groups_left, was_left, IsSavedView, LastsRise}

-- the maximal ranges of buckets with the same last refresh
pub record AreLasts (n : ℕ) (def : ViewDef) (h : History) (lasts : List SavedLast) : Type 0 where
  pub whole : AllByRecursion (λ (l : SavedLast). IsWholeRange def.fold.width l.span) lasts
  pub rise : LastsRise lasts
  pub exact : (b : ℤ) → is_bucket def.fold.width b ≡ true → pos_in lasts b ≡ last n h b

-- the maximal ranges of buckets that were touched after their last refresh
pub record AreDirty (n : ℕ) (def : ViewDef) (h : History) (dirty : List Span) : Type 0 where
  pub whole : AllByRecursion (IsWholeRange def.fold.width) dirty
  pub rise : RiseApart dirty
  pub exact : (b : ℤ) → is_bucket def.fold.width b ≡ true → lies_in dirty b ≡ was_left n def h b

-- for the buckets of these ranges, in order, the groups that the last refresh stored there
pub record AreLeft (n : ℕ) (def : ViewDef) (h : History) (ranges : List Span) (groups : List SavedGroup) : Type 0 where
  pub rise : all_rise group_cmp (map group_of groups) ≡ true
  pub whole : list_all (λ g. is_bucket def.fold.width g.start) groups ≡ true
  pub within : list_all (λ g. lies_in ranges g.start) groups ≡ true
  pub exact : (b : ℤ) → is_bucket def.fold.width b ≡ true → lies_in ranges b ≡ true
      → groups_among groups b ≡ groups_left n def h b (last n h b)

-- the saved parts of the first k aggregates
pub record AreKept (h : History) (k : ℕ) (views : List SavedView) : Type 0 where
  pub as_many : length views ≡ k
  pub each : (n : ℕ) (def : ViewDef) → n < k → view_of (roster h) n ≡ Some def
      → IsSavedView n def h (unwrap_or (slice_get views n) nothing_saved)
