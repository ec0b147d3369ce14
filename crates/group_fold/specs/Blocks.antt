-- Groups whose partial aggregates are in blocks, those of many groups in one.
use Rattle.std.specs.Prelude.{◌≡◌, ℕ, ◌+◌, ◌<◌, ◌≤◌, List, [], ◌∷◌, length, map, take, drop, slice_index_or}
use Rattle.std.specs.List.{AllByRecursion}
use Rattle.std.specs.declared.cmp.Ordering.TheVariants.{Equal}
use Rattle.ts_schema.specs.declared.rows.Row.{Row}
use Rattle.ts_model.specs.declared.views.Fold.{Fold}
use Rattle.partial_agg.specs.declared.groups.Group.{Group}
use Rattle.partial_agg.specs.Groups.{group_cmp}
use Rattle.partial_agg.specs.Summaries.{Summary}
use Rattle.group_fold.specs.declared.heads.Head.{Head}
use Rattle.group_fold.specs.declared.heads.PartsPlace.{PartsPlace}
use Rattle.group_fold.specs.Grouping.{row_parts}
use Rattle.group_fold.specs.Merging.{joined_parts}

-- ---- what is in blocks

-- the partial aggregates at a place, this many of them
abbrev pub parts_at : ℕ → List (List Summary) → PartsPlace → List Summary
parts_at n blocks p = take n (drop p.from (slice_index_or blocks p.block []))

-- there are this many partial aggregates at a place
pub record HasPartsAt (n : ℕ) (blocks : List (List Summary)) (p : PartsPlace) : Type 0 where
  pub block : p.block < length blocks
  pub within : p.from + n ≤ length (slice_index_or blocks p.block [])

-- the group of a head
abbrev pub shown_group : ℕ → List (List Summary) → Head → Group
shown_group n blocks h = record { start = h.start; keys = h.keys; parts = parts_at n blocks h.place }

abbrev pub shown_groups : ℕ → List (List Summary) → List Head → List Group
shown_groups n blocks heads = map (shown_group n blocks) heads

-- ---- properties of groups in blocks

-- the partial aggregates at two places don't meet
abbrev pub ArePartsApart : ℕ → PartsPlace → PartsPlace → Type 0
ArePartsApart n p q = p.block ≡ q.block → p.from < q.from + n → q.from < p.from + n → ⊥

-- those at a place don't meet those of these groups
abbrev pub IsPlaceApart : ℕ → PartsPlace → List Head → Type 0
IsPlaceApart n p heads = AllByRecursion (λ h. ArePartsApart n p h.place) heads

-- those of no two groups meet
abbrev pub AreHeadsApart : ℕ → List Head → Type 0
AreHeadsApart n [] = Unit {0}
AreHeadsApart n (h ∷ hs) = IsPlaceApart n h.place hs × AreHeadsApart n hs

-- each group has this many in the blocks, and no two share one
pub record StandIn (n : ℕ) (blocks : List (List Summary)) (heads : List Head) : Type 0 where
  pub within : AllByRecursion (λ h. HasPartsAt n blocks h.place) heads
  pub apart : AreHeadsApart n heads

-- ---- how blocks grow

-- what was in the blocks is there still
abbrev pub Keeps : List (List Summary) → List (List Summary) → Type 0
Keeps old new =
    (n : ℕ) (p : PartsPlace) → HasPartsAt n old p → HasPartsAt n new p × (parts_at n new p ≡ parts_at n old p)

-- these were appended at a place where there were none
pub record IsPutAt (parts : List Summary) (old new : List (List Summary)) (p : PartsPlace) : Type 0 where
  pub there : HasPartsAt (length parts) new p
  pub are : parts_at (length parts) new p ≡ parts
  pub apart : (q : PartsPlace) → HasPartsAt (length parts) old q → ArePartsApart (length parts) p q

-- ---- one of the groups

-- a head of the same bucket and keys as a group is at a place
pub record IsHeadAt (g : Group) (heads : List Head) (at : ℕ) : Type 0 where
  pub within : at < length heads
  pub same : (d : Head) → group_cmp (shown_group 0 [] (slice_index_or heads at d)) g ≡ Equal

-- a group with one more row
abbrev pub group_with_row : Fold → Row → Group → Group
group_with_row fold row g = record { start = g.start; keys = g.keys; parts = joined_parts g.parts (row_parts fold.aggs row) }
