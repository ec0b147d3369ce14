-- Lists of groups combined.
use Rattle.std.specs.Prelude.{◌≡◌, ◌+◌, ◌^◌, ◌<◌, cond, List, [], ◌∷◌, ◌++◌, Option, MatchOption}
use Rattle.std.specs.List.{AllByRecursion, AllZip}
use Rattle.std.specs.Ordering.{match_ordering}
use Rattle.std.specs.declared.cmp.Ordering.TheVariants.{Less, Equal}
use Rattle.ts_schema.specs.declared.rows.Row.{Row}
use Rattle.ts_schema.specs.Conditions.{passes_all}
use Rattle.ts_bucket.specs.Bucket.{IsWidth}
use Rattle.ts_model.specs.declared.views.Fold.{Fold}
use Rattle.group_fold.specs.Grouping.{row_group}
use Rattle.ts_model.specs.Groups.{groups_of}
use Rattle.group_fold.specs.declared.joins.Next.{Next}
use Rattle.group_fold.specs.declared.joins.Next.TheVariants.{Rest, Mine, Theirs, Both}
use Rattle.partial_agg.specs.declared.groups.Group.{Group}
use Rattle.partial_agg.specs.Summaries.{Summary, summary_of_both}
use Rattle.partial_agg.specs.Groups.{group_cmp, AreInOrder}

-- partial aggregates joined, place by place
abbrev pub joined_parts : List Summary → List Summary → List Summary
joined_parts [] qs = []
joined_parts (p ∷ ps) [] = []
joined_parts (p ∷ ps) (q ∷ qs) = summary_of_both p q ∷ joined_parts ps qs

-- a group merged with another of the same bucket and keys
abbrev pub merge_of : Group → Group → Group
merge_of g h = record { start = g.start; keys = g.keys; parts = joined_parts g.parts h.parts }

-- groups in order, with one more in its place, or merged with the group at that place
abbrev pub with_group : Group → List Group → List Group
with_group g [] = g ∷ []
with_group g (x ∷ xs) = match_ordering (group_cmp g x) (g ∷ x ∷ xs) (merge_of g x ∷ xs) (x ∷ with_group g xs)

-- groups in order, with these in their places
abbrev pub with_groups : List Group → List Group → List Group
with_groups [] hs = hs
with_groups (g ∷ gs) hs = with_group g (with_groups gs hs)

-- equally many parts, whose counts at each place are together below 2^62
abbrev pub PartsFit : List Summary → List Summary → Type 0
PartsFit ps qs = AllZip (λ p q. p.count + q.count < 2 ^ 62) ps qs

-- groups of the same bucket and keys in two lists have equally many parts, and their counts are together below
-- 2^62
abbrev pub FitTogether : List Group → List Group → Type 0
FitTogether gs hs = AllByRecursion (λ g. AllByRecursion (λ h. group_cmp g h ≡ Equal → PartsFit g.parts h.parts) hs) gs

-- two lists of groups can be combined: both are in strict order, and groups of the same bucket and keys fit
pub record CanJoin (gs hs : List Group) : Type 0 where
  pub mine : AreInOrder gs
  pub theirs : AreInOrder hs
  pub fit : FitTogether gs hs

-- each group of one list is before all of another one
abbrev pub AreBefore : List Group → List Group → Type 0
AreBefore gs hs = AllByRecursion (λ g. AllByRecursion (λ h. group_cmp g h ≡ Less) hs) gs

-- if two lists of groups are those of two lists of rows, these are the groups of all rows
abbrev pub AreGroupsOfBoth : List Group → List Group → List Group → Type 0
AreGroupsOfBoth gs hs both =
    (fold : Fold) (xs ys : List Row) → IsWidth fold.width → gs ≡ groups_of fold xs → hs ≡ groups_of fold ys
    → both ≡ groups_of fold (xs ++ ys)

-- the list that the next group of two lists in order comes from, or that the rest of the second list comes next
abbrev pub next_of_lists : List Group → List Group → Next
next_of_lists [] hs = Rest
next_of_lists (g ∷ gs) [] = Mine
next_of_lists (g ∷ gs) (h ∷ hs) = match_ordering (group_cmp g h) Mine Both Theirs

-- groups with one more row, if it passes every test
abbrev pub groups_with_row : Fold → Row → List Group → List Group
groups_with_row fold row groups = cond (passes_all row fold.tests) (with_group (row_group fold row) groups) groups

-- the first item of a list was taken, or none
abbrev pub TakesFirst : {X : Type 0} → Option X → List X → List X → List X → Type 0
TakesFirst groups_with_row old new rest = MatchOption groups_with_row (old ≡ rest) (λ first. old ≡ first ∷ new)
