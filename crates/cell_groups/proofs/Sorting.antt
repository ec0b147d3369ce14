-- Groups sorted and then merged from the back.
use Rattle.std.proofs.Common.{◌≡◌, ℕ, zero, suc, ◌+◌, ◌-◌, ◌<◌, ℤ, true, false, List, [], ◌∷◌, ◌++◌, length, get_or, set, refl, sym, ap, ◌∙◌, subst, arith}
use Rattle.std.specs.Bool.{⊤}
use Rattle.std.specs.List.{AllByRecursion}
use Rattle.std.specs.List.Sorted.{IsPermutation, IsSorted, IsStrictlySortedBy}
use Rattle.std.specs.Ordering.{int_cmp, is_gt, is_lt, ordering_then}
use Rattle.std.specs.declared.cmp.Ordering.TheVariants.{Less}
use Rattle.std.proofs.lemmas.List.{get_or-map, length-map}
use Rattle.std.proofs.lemmas.List.Elements.{All-from_recursion, recursion_from_All}
use Rattle.std.proofs.lemmas.List.Sorted.{All-permutation, ranks_by, sorted_far}
use Rattle.ts_schema.specs.Rows.{values_cmp}
use Rattle.ts_schema.proofs.Cases.{all_weaker}
use Rattle.ts_num.specs.declared.values.Datum.{Datum}
use Rattle.partial_agg.specs.declared.groups.Group.{Group}
use Rattle.partial_agg.specs.Groups.{AreInOrder, group_cmp}
use Rattle.partial_agg.proofs.GroupLaws.{group_cmp_total}
use Rattle.group_fold.specs.Gathering.{in_group_order}
use Rattle.group_fold.specs.Merging.{merge_of, with_group, with_groups}
use Rattle.group_fold.proofs.Insertions.{by_order, greater_back, less_trans}
use Rattle.cell_groups.specs.declared.groups.CellGroup.{CellGroup}
use Rattle.cell_groups.specs.declared.shapes.Shape.{Shape}
use Rattle.cell_groups.specs.Groups.{as_group, as_groups, cells_at}
use Rattle.cell_groups.specs.TakenRows.{ComesLast, IsNotAfter, place_cmp}

-- ---- sorted groups

-- none of these is after a group
abbrev pub NoneAfter : Group → List Group → Type 0
NoneAfter g xs = AllByRecursion (λ x. is_gt (group_cmp x g) ≡ false) xs

-- no group is after a later one
abbrev pub Ascend : List Group → Type 0
Ascend [] = ⊤
Ascend (x ∷ xs) = AllByRecursion (λ y. is_gt (group_cmp x y) ≡ false) xs × Ascend xs

not_after : (x y : Group) → is_lt (group_cmp y x) ≡ false → is_gt (group_cmp x y) ≡ false
not_after x y h =
    by_order (group_cmp x y)
    (λ e. rw e refl)
    (λ e. rw e refl)
    (λ e. let no : true ≡ false = ap is_lt (sym (greater_back x y e)) ∙ h in absurd (cc no))

sorted_rest : (x : Group) (xs : List Group) → IsSorted group_cmp (x ∷ xs) → IsSorted group_cmp xs
sorted_rest x xs up = λ k d low h.
    let e : suc k + 1 ≡ suc (k + 1) = omega arith in
    subst (λ i. is_lt (group_cmp (get_or (x ∷ xs) i d) (get_or xs k d)) ≡ false) e (up (suc k) d (omega arith) (omega (arith, h)))

pub ascend_sorted : (xs : List Group) → IsSorted group_cmp xs → Ascend xs
ascend_sorted [] up = tt
ascend_sorted (x ∷ xs) up =
    let rank = ranks_by group_cmp_total (λ (g : Group). g) in (
      recursion_from_All (λ y. is_gt (group_cmp x y) ≡ false) xs
          (λ k d h. not_after x (get_or xs k d) (sorted_far (λ (a b : Group). is_lt (group_cmp a b)) rank (x ∷ xs) up 0 (suc k) d (omega arith) (omega (arith, h)))),
      ascend_sorted xs (sorted_rest x xs up),
    )

pub all_last : {X : Type 0} (P : X → Type 0) (xs : List X) (y : X) → AllByRecursion P (xs ++ y ∷ []) → AllByRecursion P xs × P y
all_last P [] y h = (tt, h.0)
all_last P (x ∷ xs) y h = let rest = all_last P xs y h.1 in ((h.0, rest.0), rest.1)

pub ascend_last : (xs : List Group) (g : Group) → Ascend (xs ++ g ∷ []) → Ascend xs × NoneAfter g xs
ascend_last [] g h = (tt, tt)
ascend_last (x ∷ xs) g h =
    let own = all_last (λ y. is_gt (group_cmp x y) ≡ false) xs g h.0 in
    let rest = ascend_last xs g h.1 in
    ((own.0, rest.0), (own.1, rest.1))

-- ---- from the back

pub groups_last : (gs : List Group) (g : Group) (hs : List Group) → with_groups (gs ++ g ∷ []) hs ≡ with_groups gs (with_group g hs)
groups_last [] g hs = refl
groups_last (x ∷ gs) g hs = ap (with_group x) (groups_last gs g hs)

-- a group at or before another, and at or before the first of a list, stays so when the other is inserted into
-- the list
not_after_put : (x g : Group) (hs : List Group) → is_gt (group_cmp x g) ≡ false → IsNotAfter g hs → IsNotAfter x (with_group g hs)
not_after_put x g [] p h = p
not_after_put x g (y ∷ hs) p h =
    by_order (group_cmp g y)
    (λ e. rw e p)
    (λ e. rw e p)
    (λ e. let no : true ≡ false = ap is_gt (sym e) ∙ h in absurd (cc no))

all_put : (xs : List Group) (g : Group) (hs : List Group) → NoneAfter g xs → IsNotAfter g hs → AllByRecursion (λ x. IsNotAfter x (with_group g hs)) xs
all_put [] g hs p h = tt
all_put (x ∷ xs) g hs p h = (not_after_put x g hs p.0 h, all_put xs g hs p.1 h)

-- the next group from the back: the groups left ascend, and none is after the first merged one
pub record IsMerging (groups left merge_of : List Group) : Type 0 where
  pub onto : with_groups left merge_of ≡ in_group_order groups
  pub ascends : Ascend left
  pub before : AllByRecursion (λ x. IsNotAfter x merge_of) left

all_nothing : (xs : List Group) → AllByRecursion (λ x. IsNotAfter x []) xs
all_nothing [] = tt
all_nothing (x ∷ xs) = (tt, all_nothing xs)

pub merging_starts : (groups : List Group) → IsSorted group_cmp groups → IsMerging groups groups []
merging_starts groups up = record { onto = refl; ascends = ascend_sorted groups up; before = all_nothing groups }

pub merging_first : (groups left merge_of rest : List Group) (g : Group) → IsMerging groups left merge_of → left ≡ rest ++ g ∷ [] → IsNotAfter g merge_of
merging_first groups left merge_of rest g m is = (all_last (λ x. IsNotAfter x merge_of) rest g (subst (AllByRecursion (λ x. IsNotAfter x merge_of)) is m.before)).1

pub merging_step : (groups left merge_of rest next : List Group) (g : Group) → IsMerging groups left merge_of → left ≡ rest ++ g ∷ [] → next ≡ with_group g merge_of → IsMerging groups rest next
merging_step groups left merge_of rest next g m is made =
    let split = ascend_last rest g (subst Ascend is m.ascends) in
    let first = merging_first groups left merge_of rest g m is in
    record {
      onto = ap (with_groups rest) made ∙ sym (groups_last rest g merge_of) ∙ ap (λ xs. with_groups xs merge_of) (sym is) ∙ m.onto;
      ascends = split.0;
      before = subst (λ xs. AllByRecursion (λ x. IsNotAfter x xs) rest) (sym made) (all_put rest g merge_of split.1 first);
    }

-- ---- what is kept of groups

-- the stored form of sorted groups is sorted
pub sorted_kept : (shape : Shape) (gs : List CellGroup) → IsSorted (place_cmp shape) gs → IsSorted group_cmp (as_groups shape gs)
sorted_kept shape [] up = λ k d low h. absurd (omega (arith, h))
sorted_kept shape (g ∷ gs) up = λ k d low h.
    let many = length-map (g ∷ gs) (as_group shape) in
    let later = get_or-map (as_group shape) (g ∷ gs) (k + 1) g d (omega (arith, h, many)) in
    let earlier = get_or-map (as_group shape) (g ∷ gs) k g d (omega (arith, h, many)) in
    ap (λ x. is_lt (group_cmp x (get_or (as_groups shape (g ∷ gs)) k d))) later
    ∙ ap (λ y. is_lt (group_cmp (as_group shape (get_or (g ∷ gs) (k + 1) g)) y)) earlier
    ∙ up k g low (omega (arith, h, many))

-- ---- lists with a property of each item

pub all_push : {X : Type 0} (P : X → Type 0) (xs : List X) (y : X) → AllByRecursion P xs → P y → AllByRecursion P (xs ++ y ∷ [])
all_push P [] y h p = (p, tt)
all_push P (x ∷ xs) y h p = (h.0, all_push P xs y h.1 p)

pub all_set : {X : Type 0} (P : X → Type 0) (xs : List X) (k : ℕ) (y : X) → AllByRecursion P xs → P y → AllByRecursion P (set xs k y)
all_set P [] k y h p = h
all_set P (x ∷ xs) zero y h p = (p, h.1)
all_set P (x ∷ xs) (suc k) y h p = (h.0, all_set P xs k y h.1 p)

pub all_permuted : {X : Type 0} (P : X → Type 0) (xs ys : List X) → IsPermutation xs ys → AllByRecursion P xs → AllByRecursion P ys
all_permuted P xs ys p h = recursion_from_All P ys (All-permutation P xs ys p (All-from_recursion P xs h))

-- ---- groups in order

-- a group with the same bucket and keys as another compares like it
before_alike : (x y g : Group) → x.start ≡ y.start → x.keys ≡ y.keys → group_cmp x g ≡ group_cmp y g
before_alike x y g start keys =
    ap (λ s. ordering_then (int_cmp s g.start) (values_cmp x.keys g.keys)) start
    ∙ ap (λ ks. ordering_then (int_cmp y.start g.start) (values_cmp ks g.keys)) keys

behind_alike : (g x y : Group) → x.start ≡ y.start → x.keys ≡ y.keys → group_cmp g x ≡ group_cmp g y
behind_alike g x y start keys =
    ap (λ s. ordering_then (int_cmp g.start s) (values_cmp g.keys x.keys)) start
    ∙ ap (λ ks. ordering_then (int_cmp g.start y.start) (values_cmp g.keys ks)) keys

-- so the order stays when it replaces the other
pub order_set : (gs : List Group) (at : ℕ) (new d : Group) → at < length gs → new.start ≡ (get_or gs at d).start → new.keys ≡ (get_or gs at d).keys → AreInOrder gs → AreInOrder (set gs at new)
unfolding IsStrictlySortedBy
order_set [] at new d h start keys up = absurd (omega (arith, h))
order_set (x ∷ gs) zero new d h start keys up =
    (all_weaker (λ y. group_cmp x y ≡ Less) (λ y. group_cmp new y ≡ Less) (λ y e. before_alike new x y start keys ∙ e) gs up.0, up.1)
order_set (x ∷ gs) (suc at) new d h start keys up = (
  all_set (λ y. group_cmp x y ≡ Less) gs at new up.0 (behind_alike x new (get_or gs at d) start keys ∙ All-from_recursion (λ y. group_cmp x y ≡ Less) gs up.0 at d (omega (arith, h))),
  order_set gs at new d (omega (arith, h)) start keys up.1,
)

-- and when it comes after the last
order_push : (gs : List Group) (last : ℕ) (g d : Group) → length gs ≡ suc last → group_cmp (get_or gs last d) g ≡ Less → AreInOrder gs → AreInOrder (gs ++ g ∷ [])
unfolding IsStrictlySortedBy
order_push [] last g d e before up = absurd (omega (arith, e))
order_push (x ∷ []) zero g d e before up = ((before, tt), (tt, tt))
order_push (x ∷ []) (suc last) g d e before up = absurd (omega (arith, e))
order_push (x ∷ y ∷ gs) zero g d e before up = absurd (omega (arith, e))
order_push (x ∷ y ∷ gs) (suc last) g d e before up = (
  all_push (λ z. group_cmp x z ≡ Less) (y ∷ gs) g up.0
      (less_trans x (get_or (y ∷ gs) last d) g (All-from_recursion (λ z. group_cmp x z ≡ Less) (y ∷ gs) up.0 last d (omega (arith, e))) before),
  order_push (y ∷ gs) last g d (omega (arith, e)) before up.1,
)

order_one : (g : Group) → AreInOrder (g ∷ [])
unfolding IsStrictlySortedBy
order_one g = (tt, tt)

pub order_last : (shape : Shape) (b : ℤ) (cells : List Datum) (gs : List CellGroup) (g : CellGroup) → as_group shape g ≡ cells_at shape b cells → ComesLast shape b cells gs → AreInOrder (as_groups shape gs) → AreInOrder (as_groups shape gs ++ as_group shape g ∷ [])
order_last shape b cells [] g is last up = order_one (as_group shape g)
order_last shape b cells (x ∷ gs) g is last up =
    let after = last (omega arith) in
    let many = length-map (x ∷ gs) (as_group shape) in
    let e : length (x ∷ gs) - 1 ≡ length gs = omega arith in
    let place : get_or (as_groups shape (x ∷ gs)) (length gs) (as_group shape x) ≡ as_group shape (get_or (x ∷ gs) (length gs) x) =
    get_or-map (as_group shape) (x ∷ gs) (length gs) x (as_group shape x) (omega arith) in
    order_push (as_groups shape (x ∷ gs)) (length gs) (as_group shape g) (as_group shape x) (omega (arith, many))
    (ap (λ h. group_cmp h (as_group shape g)) place ∙ ap (group_cmp (as_group shape (get_or (x ∷ gs) (length gs) x))) is
    ∙ subst (λ k. group_cmp (as_group shape (get_or (x ∷ gs) k x)) (cells_at shape b cells) ≡ Less) e (after.before x)) up
