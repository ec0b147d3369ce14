-- Two lists of groups in order: those of the first list that are before all of the second one stay in front.
use Rattle.std.proofs.Common.{◌≡◌, ℕ, zero, suc, ◌≤◌, ◌<◌, true, false, List, [], ◌∷◌, ◌++◌, length, get_or, take, drop, sym, refl, ap, ◌∙◌, subst, arith}
use Rattle.std.specs.List.{AllByRecursion, AllWithin}
use Rattle.std.specs.List.Sorted.{IsPartitionPoint, IsPartitionedBy, IsStrictlySortedBy}
use Rattle.std.specs.Ordering.{is_lt}
use Rattle.std.specs.declared.cmp.Ordering.{Ordering}
use Rattle.std.specs.declared.cmp.Ordering.TheVariants.{Less, Equal, Greater}
use Rattle.ts_schema.proofs.Cases.{all_weaker}
use Rattle.partial_agg.specs.declared.groups.Group.{Group}
use Rattle.partial_agg.specs.Groups.{group_cmp, AreInOrder}
use Rattle.partial_agg.proofs.GroupLaws.{group_cmp_total}
use Rattle.group_fold.specs.Merging.{AreBefore, CanJoin, with_groups}
use Rattle.group_fold.proofs.CutRows.{take_drop}
use Rattle.group_fold.proofs.Insertions.{less_trans, with_group-front}
use Rattle.group_fold.proofs.Merges.{without_mine}
use Rattle.group_fold.proofs.Occurring.{all_above}
use Rattle.group_fold.proofs.RowGroups.{all-with_groups}

-- ---- how many are before a group

less_of_test : (o : Ordering) → is_lt o ≡ true → o ≡ Less
less_of_test Less e = refl
less_of_test Equal e = cc
less_of_test Greater e = cc

all_at : {X : Type 0} (P : X → Type 0) (xs : List X) (i : ℕ) (d : X) → AllByRecursion P xs → i < length xs → P (get_or xs i d)
all_at P [] i d all h = absurd (omega arith)
all_at P (x ∷ xs) zero d all h = all.0
all_at P (x ∷ xs) (suc i) d all h = all_at P xs i d all.1 (omega arith)

-- in a list in order those before a group are in front of the others
pub lesser_parted : (h : Group) (gs : List Group) → AreInOrder gs → IsPartitionedBy (λ g. is_lt (group_cmp g h)) gs
unfolding IsStrictlySortedBy
lesser_parted h [] sorted i j d low high e = absurd (omega arith)
lesser_parted h (g ∷ gs) sorted zero zero d low high e = e
lesser_parted h (g ∷ gs) sorted zero (suc j) d low high e =
    let next : group_cmp g (get_or gs j d) ≡ Less = all_at (λ x. group_cmp g x ≡ Less) gs j d sorted.0 (omega arith) in
    ap is_lt (less_trans g (get_or gs j d) h next (less_of_test (group_cmp (get_or gs j d) h) e))
lesser_parted h (g ∷ gs) sorted (suc i) zero d low high e = absurd (omega arith)
lesser_parted h (g ∷ gs) sorted (suc i) (suc j) d low high e = lesser_parted h gs sorted.1 i j d (omega arith) (omega arith) e

first_less : (h : Group) (gs : List Group) (k : ℕ) → k ≤ length gs → AllWithin (λ g. is_lt (group_cmp g h) ≡ true) gs 0 k → AllByRecursion (λ g. group_cmp g h ≡ Less) (take k gs)
first_less h gs zero high all = tt
first_less h [] (suc k) high all = tt
first_less h (g ∷ gs) (suc k) high all =
    (less_of_test (group_cmp g h) (all zero g (omega arith) (omega arith)), first_less h gs k (omega arith) (λ i d low less. all (suc i) d (omega arith) (omega arith)))

-- this many are before the first of another list in order, and so before all of it
pub before_all : (gs hs : List Group) (h : Group) (k : ℕ) → 1 ≤ length hs → h ≡ get_or hs 0 h → AreInOrder hs → k ≤ length gs
    → IsPartitionPoint (λ g. is_lt (group_cmp g h) ≡ true) (λ g. is_lt (group_cmp g h) ≡ false) gs k → AreBefore (take k gs) hs
unfolding IsStrictlySortedBy
before_all gs [] h k some is sorted high point = absurd (omega (arith, some))
before_all gs (x ∷ hs) h k some is sorted high point =
    all_weaker (λ g. group_cmp g h ≡ Less) (λ g. AllByRecursion (λ y. group_cmp g y ≡ Less) (x ∷ hs))
    (λ g e.
    let less : group_cmp g x ≡ Less = ap (group_cmp g) (sym is) ∙ e in
    (less, all_above group_cmp group_cmp_total g x hs less sorted.0))
    (take k gs) (first_less h gs k high point.0)

each_before_none : (gs : List Group) → AreBefore gs []
each_before_none [] = tt
each_before_none (g ∷ gs) = (tt, each_before_none gs)

pub before_none : (gs hs : List Group) → length hs < 1 → AreBefore gs hs
before_none gs [] h = each_before_none gs
before_none gs (x ∷ hs) h = absurd (omega (arith, h))

-- ---- they stay in front

stay_in_front : (fs gs hs : List Group) → AreInOrder (fs ++ gs) → AreBefore fs hs → with_groups (fs ++ gs) hs ≡ fs ++ with_groups gs hs
unfolding IsStrictlySortedBy
stay_in_front [] gs hs sorted before = refl
stay_in_front (f ∷ fs) gs hs sorted before =
    with_group-front f (with_groups (fs ++ gs) hs) (all-with_groups (λ x. group_cmp f x ≡ Less) (λ x y p. p) (fs ++ gs) hs sorted.0 before.0)
    ∙ ap (λ xs. f ∷ xs) (stay_in_front fs gs hs sorted.1 before.1)

others_can_join : (fs gs hs : List Group) → CanJoin (fs ++ gs) hs → CanJoin gs hs
others_can_join [] gs hs can = can
others_can_join (f ∷ fs) gs hs can = others_can_join fs gs hs (without_mine f (fs ++ gs) hs can)

pub front_stays : (all front behind others : List Group) (k : ℕ) → front ≡ take k all → behind ≡ drop k all → CanJoin all others → AreBefore (take k all) others
    → (front ++ with_groups behind others ≡ with_groups all others) × CanJoin behind others
front_stays all front behind others k first second can before =
    let whole : take k all ++ drop k all ≡ all = take_drop k all in
    let cut : CanJoin (take k all ++ drop k all) others = subst (λ gs. CanJoin gs others) (sym whole) can in
    rw (first, second)
    (sym (stay_in_front (take k all) (drop k all) others cut.mine before) ∙ ap (λ gs. with_groups gs others) whole, others_can_join (take k all) (drop k all) others cut)
