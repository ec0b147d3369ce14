-- The materialized groups of an aggregate, compared with a history.
use Rattle.std.specs.Prelude.{◌≡◌, ℕ, Bool, true, not, ◌&&◌, cond, List, ℤ, Option}
use Rattle.std.specs.List.{list_all}
use Rattle.ts_bucket.specs.Bucket.{is_bucket}
use Rattle.ts_bucket.specs.Positions.{is_above}
use Rattle.ts_bucket.specs.Ranges.{lies_in}
use Rattle.ts_bucket.specs.WholeSpans.{is_below}
use Rattle.ts_bucket.specs.declared.spans.Span.{Span}
use Rattle.partial_agg.specs.declared.groups.Group.{Group}
use Rattle.mat_rows.specs.Replacing.{of_bucket}
use Rattle.partial_agg.specs.Groups.{AreInOrder}
use Rattle.ts_model.specs.declared.views.ViewDef.{ViewDef}
use Rattle.ts_model.specs.History.{History}
use Rattle.ts_model.specs.Refreshes.{last}
pub use Rattle.image_laws.specs.Images.{groups_left}

-- a group is of a bucket below the mark
abbrev pub is_materialised : ViewDef → Option ℤ → Group → Bool
is_materialised def mark group = is_bucket def.fold.width group.start && is_below group.start mark

-- the groups of an aggregate are those that its last refreshes stored
pub record GroupsStand (n : ℕ) (def : ViewDef) (h : History) (mark : Option ℤ) (groups : List Group) : Type 0 where
  pub in_order : AreInOrder groups
  pub all : list_all (is_materialised def mark) groups ≡ true
  pub exact : (b : ℤ) → is_bucket def.fold.width b ≡ true → of_bucket b groups ≡ groups_left n def h b (last n h b)

-- ---- a finish

-- the buckets of these spans whose last refresh isn't above a snapshot
abbrev pub is_renewed : List Span → ℕ → Option ℕ → ℤ → Bool
is_renewed spans snap last b = lies_in spans b && not (is_above snap last)

-- the groups in these spans are replaced by others
pub record AreReplaced (spans : List Span) (put old new : List Group) : Type 0 where
  pub in_order : AreInOrder new
  pub exact : (b : ℤ) → of_bucket b new ≡ cond (lies_in spans b) (of_bucket b put) (of_bucket b old)
  pub all : (test : Group → Bool) → list_all test put ≡ true → list_all test old ≡ true → list_all test new ≡ true

-- what a finish with a snapshot writes: the groups of its job, in the buckets of these spans whose last refresh
-- isn't above the snapshot
pub record AreRenewed (n : ℕ) (def : ViewDef) (h : History) (snap : ℕ) (spans : List Span) (groups : List Group)
    (renewed : List Span) (put : List Group) : Type 0 where
  pub spans_are : (b : ℤ) → is_bucket def.fold.width b ≡ true → lies_in renewed b ≡ is_renewed spans snap (last n h b) b
  pub groups_are : (b : ℤ) → lies_in renewed b ≡ true → of_bucket b put ≡ of_bucket b groups
  pub all : (test : Group → Bool) → list_all test groups ≡ true → list_all test put ≡ true
