-- Laws of groups in order: their buckets rise, so that those below a number come first.
use Rattle.std.proofs.Common.{◌≡◌, ℕ, zero, suc, ◌+◌, ◌-◌, ◌<◌, ◌≤◌, Bool, true, false, cond, ◌&&◌, ℤ, ◌≤ℤ◌, int_lt, int_le, List, [], ◌∷◌, filter, length, take, drop, get_or, ◌⊎◌, inl, inr, refl, sym, ap, ◌∙◌, subst, arith}
use Rattle.std.specs.List.{AllByRecursion}
use Rattle.std.specs.List.Sorted.{IsStrictlySortedBy, IsPartitionPoint, IsPartitionedBy}
use Rattle.std.specs.declared.cmp.Ordering.TheVariants.{Less}
use Rattle.std.proofs.lemmas.Int.{ints}
use Rattle.std.proofs.lemmas.Bool.{cases_lt}
use Rattle.block_list.proofs.RunLaws.{drop-drop}
use Rattle.std.proofs.lemmas.List.{get_or_default, get_or-drop, length-drop}
use Rattle.std.proofs.lemmas.List.Kept.{IsStrictlySortedBy-filter}
use Rattle.ts_bucket.specs.Spans.{SpanValue, in_span}
use Rattle.partial_agg.specs.declared.groups.Group.{Group}
use Rattle.partial_agg.specs.Groups.{group_cmp, AreInOrder}
use Rattle.mat_rows.specs.Replacing.{PartsAt, below, from_on, within}
use Rattle.ts_schema.proofs.Cases.{all_weaker}
use Rattle.partial_agg.proofs.GroupLaws.{less_start}

-- the start of each group is at or below those of the groups after it
abbrev pub StartsRise : List Group → Type 0
StartsRise [] = Unit {0}
StartsRise (g ∷ gs) = AllByRecursion (λ h. g.start ≤ℤ h.start) gs × StartsRise gs

-- the buckets of groups in order rise
pub order_starts : (gs : List Group) → AreInOrder gs → StartsRise gs
unfolding IsStrictlySortedBy
order_starts [] h = tt
order_starts (g ∷ gs) h = (all_weaker (λ x. group_cmp g x ≡ Less) (λ x. g.start ≤ℤ x.start) (less_start g) gs h.0, order_starts gs h.1)

pub order_none : AreInOrder []
unfolding IsStrictlySortedBy
order_none = tt

at_later : (x : ℤ) (gs : List Group) (j : ℕ) (d : Group) → AllByRecursion (λ h. x ≤ℤ h.start) gs → j < length gs → x ≤ℤ (get_or gs j d).start
at_later x [] j d a l = absurd (omega arith)
at_later x (g ∷ gs) zero d a l = a.0
at_later x (g ∷ gs) (suc j) d a l = at_later x gs j d a.1 (omega arith)

pub starts_up : (gs : List Group) (i j : ℕ) (d : Group) → StartsRise gs → i ≤ j → j < length gs → (get_or gs i d).start ≤ℤ (get_or gs j d).start
starts_up [] i j d r le l = absurd (omega arith)
starts_up (g ∷ gs) zero zero d r le l = omega (arith, ints)
starts_up (g ∷ gs) zero (suc j) d r le l = at_later g.start gs j d r.0 (omega arith)
starts_up (g ∷ gs) (suc i) zero d r le l = absurd (omega arith)
starts_up (g ∷ gs) (suc i) (suc j) d r le l = starts_up gs i j d r.1 (omega arith) (omega arith)

-- groups below a number come before those that aren't
pub parted : (gs : List Group) (x : ℤ) → StartsRise gs → IsPartitionedBy (λ (g : Group). int_lt g.start x) gs
parted gs x r i j d le l t =
    let up = starts_up gs i j d r le l in
    grind (arith, ints)

all_false : (p : Group → Bool) (gs : List Group) → ((k : ℕ) (d : Group) → k < length gs → p (get_or gs k d) ≡ false) → filter p gs ≡ []
all_false p [] h = refl
all_false p (g ∷ gs) h = ap (λ b. cond b (g ∷ filter p gs) (filter p gs)) (h 0 g (omega arith)) ∙ all_false p gs (λ k d l. h (suc k) d (omega arith))

all_true : (p : Group → Bool) (gs : List Group) → ((k : ℕ) (d : Group) → k < length gs → p (get_or gs k d) ≡ true) → filter p gs ≡ gs
all_true p [] h = refl
all_true p (g ∷ gs) h = ap (λ b. cond b (g ∷ filter p gs) (filter p gs)) (h 0 g (omega arith)) ∙ ap (λ xs. g ∷ xs) (all_true p gs (λ k d l. h (suc k) d (omega arith)))

not_below : (x : ℤ) (g : Group) (b : Bool) → int_lt g.start x ≡ b → int_le x g.start ≡ cond b false true
not_below x g true e = grind (arith, ints)
not_below x g false e = grind (arith, ints)

-- the search splits the groups into those below the number and those from it on
pub point_before : (gs : List Group) (x : ℤ) (i : ℕ) → i ≤ length gs → IsPartitionPoint (λ (g : Group). int_lt g.start x ≡ true) (λ g. int_lt g.start x ≡ false) gs i → take i gs ≡ below x gs
point_before [] x zero l h = refl
point_before [] x (suc i) l h = refl
point_before (g ∷ gs) x zero l h = sym (all_false (λ g. int_lt g.start x) (g ∷ gs) (λ k d m. h.1 k d (omega arith) m))
point_before (g ∷ gs) x (suc i) l h =
    ap (λ xs. g ∷ xs) (point_before gs x i (omega arith) ((λ k d a b. h.0 (suc k) d (omega arith) (omega arith)), (λ k d a b. h.1 (suc k) d (omega arith) (omega arith))))
    ∙ sym (ap (λ b. cond b (g ∷ below x gs) (below x gs)) (h.0 0 g (omega arith) (omega arith)))

pub point_after : (gs : List Group) (x : ℤ) (i : ℕ) → i ≤ length gs → IsPartitionPoint (λ (g : Group). int_lt g.start x ≡ true) (λ g. int_lt g.start x ≡ false) gs i → drop i gs ≡ from_on x gs
point_after [] x zero l h = refl
point_after [] x (suc i) l h = refl
point_after (g ∷ gs) x zero l h = sym (all_true (λ g. int_le x g.start) (g ∷ gs) (λ k d m. not_below x (get_or (g ∷ gs) k d) false (h.1 k d (omega arith) m)))
point_after (g ∷ gs) x (suc i) l h =
    point_after gs x i (omega arith) ((λ k d a b. h.0 (suc k) d (omega arith) (omega arith)), (λ k d a b. h.1 (suc k) d (omega arith) (omega arith)))
    ∙ sym (ap (λ b. cond b (g ∷ from_on x gs) (from_on x gs)) (not_below x g true (h.0 0 g (omega arith) (omega arith))))

-- ---- the search

-- the groups before one place start below x, and those from the other on don't
pub record IsNarrowed (gs : List Group) (x : ℤ) (low high : ℕ) : Type 0 where
  pub order : low ≤ high
  pub within : high ≤ length gs
  pub before : (k : ℕ) (d : Group) → k < low → int_lt (get_or gs k d).start x ≡ true
  pub after : (k : ℕ) (d : Group) → high ≤ k → k < length gs → int_lt (get_or gs k d).start x ≡ false

pub narrowed_start : (gs : List Group) (x : ℤ) → IsNarrowed gs x 0 (length gs)
narrowed_start gs x = record {
  order = omega arith;
  within = omega arith;
  before = λ k d l. absurd (omega arith);
  after = λ k d l m. absurd (omega arith);
}

pub narrowed_up : (gs : List Group) (x : ℤ) (low high middle low' high' : ℕ) (e : Group) → StartsRise gs → low' ≡ middle + 1 → high' ≡ high → low ≤ middle → middle < high → int_lt (get_or gs middle e).start x ≡ true → IsNarrowed gs x low high → IsNarrowed gs x low' high'
narrowed_up gs x low high middle low' high' e r f g le l t h =
    let inside : high ≤ length gs = h.within in
    record {
      order = omega arith;
      within = omega arith;
      before = λ k d m.
          let up : (get_or gs k d).start ≤ℤ (get_or gs middle d).start = starts_up gs k middle d r (omega arith) (omega arith) in
          let same : (get_or gs middle d).start ≡ (get_or gs middle e).start = ap (λ (y : Group). y.start) (get_or_default gs middle d e (omega arith)) in
          grind (arith, ints);
      after = λ k d m n. h.after k d (omega arith) n;
    }

pub narrowed_down : (gs : List Group) (x : ℤ) (low high middle low' high' : ℕ) (e : Group) → StartsRise gs → low' ≡ low → high' ≡ middle → low ≤ middle → middle < high → int_lt (get_or gs middle e).start x ≡ false → IsNarrowed gs x low high → IsNarrowed gs x low' high'
narrowed_down gs x low high middle low' high' e r f g le l t h =
    let inside : high ≤ length gs = h.within in
    record {
      order = omega arith;
      within = omega arith;
      before = λ k d m. h.before k d (omega arith);
      after = λ k d m n.
          let up : (get_or gs middle d).start ≤ℤ (get_or gs k d).start = starts_up gs middle k d r (omega arith) n in
          let same : (get_or gs middle d).start ≡ (get_or gs middle e).start = ap (λ (y : Group). y.start) (get_or_default gs middle d e (omega arith)) in
          grind (arith, ints);
    }

pub narrowed_point : (gs : List Group) (x : ℤ) (low high : ℕ) → high ≤ low → IsNarrowed gs x low high → IsPartitionPoint (λ (g : Group). int_lt g.start x ≡ true) (λ g. int_lt g.start x ≡ false) gs low
narrowed_point gs x low high le h = ((λ k d a b. h.before k d b), (λ k d a b. h.after k d (let o : low ≤ high = h.order in omega arith) b))

-- ---- a span

-- those below the end of those from the start on are within the span
pub below_from : (s : SpanValue) (gs : List Group) → below s.hi (from_on s.lo gs) ≡ within s gs
below_from s [] = refl
below_from s (g ∷ gs) = by (int_le s.lo g.start) (below_from s gs)
  where
    by : (b : Bool) → below s.hi (from_on s.lo gs) ≡ within s gs → below s.hi (cond b (g ∷ from_on s.lo gs) (from_on s.lo gs)) ≡ cond (b && int_lt g.start s.hi) (g ∷ within s gs) (within s gs)
    by true rest = ap (λ xs. cond (int_lt g.start s.hi) (g ∷ xs) xs) rest
    by false rest = rest

-- those below a number, and those from it on, are in order too
pub order_below : (x : ℤ) (gs : List Group) → AreInOrder gs → AreInOrder (below x gs)
order_below x gs h = IsStrictlySortedBy-filter group_cmp (λ g. int_lt g.start x) gs h

pub order_from : (x : ℤ) (gs : List Group) → AreInOrder gs → AreInOrder (from_on x gs)
order_from x gs h = IsStrictlySortedBy-filter group_cmp (λ g. int_le x g.start) gs h

pub order_within : (s : SpanValue) (gs : List Group) → AreInOrder gs → AreInOrder (within s gs)
order_within s gs h = IsStrictlySortedBy-filter group_cmp (λ g. in_span s g.start) gs h

-- the same for the rest from a place on
pub parts_later : (gs : List Group) (x : ℤ) (at i : ℕ) → at ≤ i → i ≤ length gs → PartsAt x gs i → PartsAt x (drop at gs) (i - at)
parts_later gs x at i le m h =
    let left : length (drop at gs) ≡ length gs - at = length-drop at gs in (
      (λ k d a b. subst (λ (g : Group). int_lt g.start x ≡ true) (sym (get_or-drop at gs k d)) (h.0 (at + k) d (omega arith) (omega arith))),
      (λ k d a b. subst (λ (g : Group). int_lt g.start x ≡ false) (sym (get_or-drop at gs k d)) (h.1 (at + k) d (omega arith) (omega arith))),
    )

-- the place of a greater number is the same or a later one
pub parts_up : (gs : List Group) (x y : ℤ) (i j : ℕ) → x ≤ℤ y → i ≤ length gs → j ≤ length gs → PartsAt x gs i → PartsAt y gs j → i ≤ j
parts_up gs x y i j le a b p q = by (cases_lt j i)
  where
    by : (j < i) ⊎ (i ≤ j) → i ≤ j
    by (inr m) = m
    by (inl less) = first gs less a (λ g k l m. p.0 k g (omega arith) l) (λ g k l m. q.1 k g l m)
      where
        first : (xs : List Group) → j < i → i ≤ length xs → ((g : Group) (k : ℕ) → k < i → k < length xs → int_lt (get_or xs k g).start x ≡ true) → ((g : Group) (k : ℕ) → j ≤ k → k < length xs → int_lt (get_or xs k g).start y ≡ false) → i ≤ j
        first [] l m f h = absurd (omega arith)
        first (g ∷ xs) l m f h =
            let one : int_lt (get_or (g ∷ xs) j g).start x ≡ true = f g j l (omega arith) in
            let two : int_lt (get_or (g ∷ xs) j g).start y ≡ false = h g j (omega arith) (omega arith) in
            absurd (grind (arith, ints))

pub before_parts : (gs : List Group) (x : ℤ) (at i : ℕ) → at ≤ i → i ≤ length gs → PartsAt x gs i → take (i - at) (drop at gs) ≡ below x (drop at gs)
before_parts gs x at i le m h =
    let left : length (drop at gs) ≡ length gs - at = length-drop at gs in
    point_before (drop at gs) x (i - at) (omega arith) (parts_later gs x at i le m h)

pub after_parts : (gs : List Group) (x : ℤ) (at i : ℕ) → at ≤ i → i ≤ length gs → PartsAt x gs i → drop i gs ≡ from_on x (drop at gs)
after_parts gs x at i le m h =
    let left : length (drop at gs) ≡ length gs - at = length-drop at gs in
    let sum : at + (i - at) ≡ i = omega arith in
    sym (drop-drop at (i - at) gs ∙ ap (λ n. drop n gs) sum) ∙ point_after (drop at gs) x (i - at) (omega arith) (parts_later gs x at i le m h)

-- the groups between the places of the two ends of a span are those within it
pub between_parts : (s : SpanValue) (gs : List Group) (i j : ℕ) → i ≤ j → i ≤ length gs → j ≤ length gs → PartsAt s.lo gs i → PartsAt s.hi gs j → take (j - i) (drop i gs) ≡ within s gs
between_parts s gs i j o l m p q = before_parts gs s.hi i j o m q ∙ ap (below s.hi) (point_after gs s.lo i l p) ∙ below_from s gs
