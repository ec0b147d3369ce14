-- The next group when two lists in order are combined.
use Rattle.std.proofs.Common.{◌≡◌, ◌+◌, ◌<◌, ◌^◌, suc, List, [], ◌∷◌, ◌++◌, drop, Option, None, Some, length, sym, refl, ap, ◌∙◌, subst, arith}
use Rattle.std.specs.Option.{MatchOption, option_to_list}
use Rattle.std.specs.List.{AllByRecursion}
use Rattle.std.specs.List.Sorted.{IsStrictlySortedBy}
use Rattle.std.specs.declared.cmp.Ordering.TheVariants.{Less, Equal, Greater}
use Rattle.ts_schema.specs.declared.rows.Row.{Row}
use Rattle.ts_bucket.specs.Bucket.{IsWidth}
use Rattle.ts_model.specs.declared.views.Fold.{Fold}
use Rattle.ts_model.specs.Groups.{groups_of}
use Rattle.partial_agg.specs.declared.groups.Group.{Group}
use Rattle.partial_agg.specs.Summaries.{Summary}
use Rattle.partial_agg.specs.Groups.{group_cmp}
use Rattle.partial_agg.proofs.GroupLaws.{group_cmp_total}
use Rattle.group_fold.specs.declared.joins.Next.TheVariants.{Mine, Theirs, Both}
use Rattle.group_fold.specs.Merging.{AreGroupsOfBoth, CanJoin, PartsFit, joined_parts, merge_of, next_of_lists, with_group, with_groups}
use Rattle.group_fold.proofs.Insertions.{by_order, less_back, greater_back, equal_back, at_equal, at_greater, with_group-front}
use Rattle.group_fold.proofs.Occurring.{all_above, all_above_tied}
use Rattle.group_fold.proofs.RowGroups.{all-with_groups, sorted-groups_of, groups_of-append}
use Rattle.group_fold.proofs.Counts.{counts_below, fit_together}
use Rattle.ts_schema.proofs.Cases.{all_weaker}

-- ---- the rest can be combined too

pub without_mine : (g : Group) (gs hs : List Group) → CanJoin (g ∷ gs) hs → CanJoin gs hs
unfolding IsStrictlySortedBy
without_mine g gs hs c = record { mine = c.mine.1; theirs = c.theirs; fit = c.fit.1 }

pub without_theirs : (gs : List Group) (h : Group) (hs : List Group) → CanJoin gs (h ∷ hs) → CanJoin gs hs
unfolding IsStrictlySortedBy
without_theirs gs h hs c = record {
  mine = c.mine;
  theirs = c.theirs.1;
  fit = all_weaker (λ g. AllByRecursion (λ x. group_cmp g x ≡ Equal → PartsFit g.parts x.parts) (h ∷ hs)) (λ g. AllByRecursion (λ x. group_cmp g x ≡ Equal → PartsFit g.parts x.parts) hs) (λ g p. p.1) gs c.fit;
}

-- ---- the next group

-- a group below all of the other list stays in front
past : (h : Group) (gs hs : List Group) → AllByRecursion (λ g. group_cmp g h ≡ Greater) gs → with_groups gs (h ∷ hs) ≡ h ∷ with_groups gs hs
past h [] hs k = refl
past h (g ∷ gs) hs k = ap (with_group g) (past h gs hs k.1) ∙ at_greater g h (with_groups gs hs) k.0

all_back : (h : Group) (gs : List Group) → AllByRecursion (λ g. group_cmp h g ≡ Less) gs → AllByRecursion (λ g. group_cmp g h ≡ Greater) gs
all_back h gs k = all_weaker (λ g. group_cmp h g ≡ Less) (λ g. group_cmp g h ≡ Greater) (λ g e. less_back h g e) gs k

pub mine_alone : (g : Group) (gs : List Group) → CanJoin (g ∷ gs) [] → with_groups (g ∷ gs) [] ≡ g ∷ with_groups gs []
unfolding IsStrictlySortedBy
mine_alone g gs c = with_group-front g (with_groups gs []) (all-with_groups (λ x. group_cmp g x ≡ Less) (λ x y p. p) gs [] c.mine.0 tt)

pub mine_first : (g : Group) (gs : List Group) (h : Group) (hs : List Group) → CanJoin (g ∷ gs) (h ∷ hs) → group_cmp g h ≡ Less → with_groups (g ∷ gs) (h ∷ hs) ≡ g ∷ with_groups gs (h ∷ hs)
unfolding IsStrictlySortedBy
mine_first g gs h hs c e =
    with_group-front g (with_groups gs (h ∷ hs))
    (all-with_groups (λ x. group_cmp g x ≡ Less) (λ x y p. p) gs (h ∷ hs) c.mine.0 (e, all_above group_cmp group_cmp_total g h hs e c.theirs.0))

pub theirs_first : (g : Group) (gs : List Group) (h : Group) (hs : List Group) → CanJoin (g ∷ gs) (h ∷ hs) → group_cmp g h ≡ Greater → with_groups (g ∷ gs) (h ∷ hs) ≡ h ∷ with_groups (g ∷ gs) hs
unfolding IsStrictlySortedBy
theirs_first g gs h hs c e =
    past h (g ∷ gs) hs (e, all_back h gs (all_above group_cmp group_cmp_total h g gs (greater_back g h e) c.mine.0))

pub both_first : (g : Group) (gs : List Group) (h : Group) (hs : List Group) → CanJoin (g ∷ gs) (h ∷ hs) → group_cmp g h ≡ Equal → with_groups (g ∷ gs) (h ∷ hs) ≡ merge_of g h ∷ with_groups gs hs
unfolding IsStrictlySortedBy
both_first g gs h hs c e =
    ap (with_group g) (past h gs hs (all_back h gs (all_above_tied group_cmp group_cmp_total h g gs (equal_back g h e) c.mine.0))) ∙ at_equal g h (with_groups gs hs) e

-- ---- the same, for the answers of calls

pub record Taken (r : Option Group) (gs hs gs' hs' : List Group) : Type 0 where
  pub next : MatchOption r (with_groups gs hs ≡ hs') (λ g. with_groups gs hs ≡ g ∷ with_groups gs' hs')
  pub kept : CanJoin gs' hs'

longer : (g : Group) (gs : List Group) → g ∷ gs ≡ gs → ⊥
longer g gs e = let h = ap length e in omega (arith, h)

pub mine_taken : (r : Option Group) (gs gs' hs : List Group) → gs ≡ option_to_list r ++ gs' → gs' ≡ drop 1 gs → next_of_lists gs hs ≡ Mine → CanJoin gs hs → Taken r gs hs gs' hs
mine_taken r [] gs' hs is rest e c = cc
mine_taken None (g ∷ gs) gs' hs is rest e c = absurd (longer g gs (is ∙ rest))
mine_taken (Some x) (g ∷ gs) gs' [] is rest e c =
    let same : g ≡ x = cc in
    let left : gs' ≡ gs = rest in
    record {
      next = subst (λ y. with_groups (g ∷ gs) [] ≡ y ∷ with_groups gs' []) same (subst (λ ys. with_groups (g ∷ gs) [] ≡ g ∷ with_groups ys []) (sym left) (mine_alone g gs c));
      kept = subst (λ ys. CanJoin ys []) (sym left) (without_mine g gs [] c);
    }
mine_taken (Some x) (g ∷ gs) gs' (h ∷ hs) is rest e c =
    let same : g ≡ x = cc in
    let left : gs' ≡ gs = rest in
    let less : group_cmp g h ≡ Less = by_order (group_cmp g h) (λ o. o) (λ o. cc (rw o at e)) (λ o. cc (rw o at e)) in
    record {
      next = subst (λ y. with_groups (g ∷ gs) (h ∷ hs) ≡ y ∷ with_groups gs' (h ∷ hs)) same (subst (λ ys. with_groups (g ∷ gs) (h ∷ hs) ≡ g ∷ with_groups ys (h ∷ hs)) (sym left) (mine_first g gs h hs c less));
      kept = subst (λ ys. CanJoin ys (h ∷ hs)) (sym left) (without_mine g gs (h ∷ hs) c);
    }

pub theirs_taken : (r : Option Group) (gs hs hs' : List Group) → hs ≡ option_to_list r ++ hs' → hs' ≡ drop 1 hs → next_of_lists gs hs ≡ Theirs → CanJoin gs hs → Taken r gs hs gs hs'
theirs_taken r [] hs hs' is rest e c = cc
theirs_taken r (g ∷ gs) [] hs' is rest e c = cc
theirs_taken None (g ∷ gs) (h ∷ hs) hs' is rest e c = absurd (longer h hs (is ∙ rest))
theirs_taken (Some x) (g ∷ gs) (h ∷ hs) hs' is rest e c =
    let same : h ≡ x = cc in
    let left : hs' ≡ hs = rest in
    let greater : group_cmp g h ≡ Greater = by_order (group_cmp g h) (λ o. cc (rw o at e)) (λ o. cc (rw o at e)) (λ o. o) in
    record {
      next = subst (λ y. with_groups (g ∷ gs) (h ∷ hs) ≡ y ∷ with_groups (g ∷ gs) hs') same (subst (λ ys. with_groups (g ∷ gs) (h ∷ hs) ≡ h ∷ with_groups (g ∷ gs) ys) (sym left) (theirs_first g gs h hs c greater));
      kept = subst (λ ys. CanJoin (g ∷ gs) ys) (sym left) (without_theirs (g ∷ gs) h hs c);
    }

both_taken : (g h : Group) (parts : List Summary) (gs gs' hs hs' : List Group) → gs ≡ g ∷ gs' → hs ≡ h ∷ hs' → next_of_lists gs hs ≡ Both → CanJoin gs hs → parts ≡ joined_parts g.parts h.parts → (with_groups gs hs ≡ record { start = g.start; keys = g.keys; parts = parts } ∷ with_groups gs' hs') × CanJoin gs' hs'
both_taken g h parts gs gs' hs hs' p q e c made =
    let c' : CanJoin (g ∷ gs') (h ∷ hs') = subst (λ xs. CanJoin xs (h ∷ hs')) p (subst (λ ys. CanJoin gs ys) q c) in
    let e' : next_of_lists (g ∷ gs') (h ∷ hs') ≡ Both = subst (λ xs. next_of_lists xs (h ∷ hs') ≡ Both) p (subst (λ ys. next_of_lists gs ys ≡ Both) q e) in
    let tied : group_cmp g h ≡ Equal = by_order (group_cmp g h) (λ o. cc (rw o at e')) (λ o. o) (λ o. cc (rw o at e')) in
    let made' : List Summary → Group = λ ps. record { start = g.start; keys = g.keys; parts = ps } in
    (ap (λ xs. with_groups xs hs) p ∙ ap (with_groups (g ∷ gs')) q ∙ both_first g gs' h hs' c' tied ∙ ap (λ ps. made' ps ∷ with_groups gs' hs') (sym made), without_theirs gs' h hs' (without_mine g gs' (h ∷ hs') c'))

pub merged_taken : (g h both : Group) (gs gs' hs hs' : List Group) → gs ≡ g ∷ gs' → hs ≡ h ∷ hs' → next_of_lists gs hs ≡ Both → CanJoin gs hs → both ≡ merge_of g h → (with_groups gs hs ≡ both ∷ with_groups gs' hs') × CanJoin gs' hs'
merged_taken g h both gs gs' hs hs' p q e c made =
    let taken = both_taken g h (joined_parts g.parts h.parts) gs gs' hs hs' p q e c refl in
    (taken.0 ∙ ap (λ x. x ∷ with_groups gs' hs') (sym made), taken.1)

-- ---- the groups of two lists of rows

pub can_join_groups : (fold : Fold) → IsWidth fold.width → (xs ys : List Row) → length xs + length ys < 2 ^ 62 → CanJoin (groups_of fold xs) (groups_of fold ys)
can_join_groups fold wide xs ys few = record {
  mine = sorted-groups_of fold wide xs;
  theirs = sorted-groups_of fold wide ys;
  fit = fit_together (suc (length xs)) (suc (length ys)) fold (groups_of fold xs) (groups_of fold ys) (omega arith)
      (counts_below (suc (length xs)) fold xs (omega arith)) (counts_below (suc (length ys)) fold ys (omega arith));
}

pub groups_of_both : (gs hs both : List Group) → both ≡ with_groups gs hs → AreGroupsOfBoth gs hs both
groups_of_both gs hs both made fold xs ys wide p q =
    made ∙ ap (λ zs. with_groups zs hs) p ∙ ap (with_groups (groups_of fold xs)) q ∙ sym (groups_of-append fold wide xs ys)
