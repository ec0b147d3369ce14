-- Laws of groups replaced: each bucket has the right groups, in order, and no others.
use Rattle.std.proofs.Common.{◌≡◌, ℕ, ◌+◌, ◌-◌, ◌<◌, ◌≤◌, length, take, drop, get_or, Bool, true, false, cond, ◌&&◌, ◌||◌, ℤ, ◌≤ℤ◌, ◌<ℤ◌, int_lt, int_le, List, [], ◌∷◌, ◌++◌, filter, refl, sym, ap, ◌∙◌, subst, arith}
use Rattle.std.specs.List.{AllByRecursion, list_all}
use Rattle.std.specs.List.Sorted.{IsStrictlySortedBy}
use Rattle.std.specs.Ordering.{int_eq, ordering_then}
use Rattle.std.specs.declared.cmp.Ordering.TheVariants.{Less, Equal, Greater}
use Rattle.std.proofs.lemmas.Int.{ints, by_lt_z}
use Rattle.std.proofs.lemmas.Bool.Decides.{Decides-int_eq}
use Rattle.std.proofs.lemmas.List.{append-nil, append_assoc, drop_more, drop_all, take_rest}
use Rattle.std.proofs.lemmas.List.Elements.{filter-append}
use Rattle.ts_bucket.specs.Spans.{SpanValue, in_span}
use Rattle.ts_bucket.specs.Ranges.{lies_in}
use Rattle.ts_bucket.proofs.SpanLaws.{in_span-ends}
use Rattle.ts_schema.specs.Rows.{values_cmp}
use Rattle.partial_agg.specs.declared.groups.Group.{Group}
use Rattle.partial_agg.specs.Groups.{group_cmp, AreInOrder}
use Rattle.mat_rows.specs.Replacing.{PartsAt, SpansRise, AreSpans, below, from_on, within, of_bucket, groups_replaced}
use Rattle.mat_rows.proofs.PlaceLaws.{order_below, order_from, order_within, parts_up, before_parts, after_parts}
use Rattle.ts_schema.proofs.Cases.{all_weaker, all_passed}

-- ---- the groups of one bucket

bucket_step : (p : Group → Bool) (b : ℤ) (c : Bool) (g : Group) (gs : List Group) (e : Bool) → int_eq g.start b ≡ e → (int_eq g.start b ≡ true → p g ≡ c) → of_bucket b (filter p gs) ≡ cond c (of_bucket b gs) [] → of_bucket b (filter p (g ∷ gs)) ≡ cond c (of_bucket b (g ∷ gs)) []
bucket_step p b c g gs true at same rest =
    ap (λ x. of_bucket b (cond x (g ∷ filter p gs) (filter p gs))) (same at) ∙ by c rest
  where
    by : (x : Bool) → of_bucket b (filter p gs) ≡ cond x (of_bucket b gs) [] → of_bucket b (cond x (g ∷ filter p gs) (filter p gs)) ≡ cond x (of_bucket b (g ∷ gs)) []
    by true r = ap (λ y. cond y (g ∷ of_bucket b (filter p gs)) (of_bucket b (filter p gs))) at ∙ ap (λ xs. g ∷ xs) r ∙ sym (ap (λ y. cond y (g ∷ of_bucket b gs) (of_bucket b gs)) at)
    by false r = r
bucket_step p b c g gs false at same rest =
    by (p g) ∙ rest ∙ sym (ap (λ y. cond c (cond y (g ∷ of_bucket b gs) (of_bucket b gs)) []) at)
  where
    by : (x : Bool) → of_bucket b (cond x (g ∷ filter p gs) (filter p gs)) ≡ of_bucket b (filter p gs)
    by true = ap (λ y. cond y (g ∷ of_bucket b (filter p gs)) (of_bucket b (filter p gs))) at
    by false = refl

-- all groups of a bucket pass a test of the start, or none does
pub bucket_of_filter : (p : ℤ → Bool) (b : ℤ) (gs : List Group) → of_bucket b (filter (λ g. p g.start) gs) ≡ cond (p b) (of_bucket b gs) []
bucket_of_filter p b [] = by (p b)
  where
    by : (c : Bool) → [] ≡ cond {A = List Group} c [] []
    by true = refl
    by false = refl
bucket_of_filter p b (g ∷ gs) = bucket_step (λ x. p x.start) b (p b) g gs (int_eq g.start b) refl (λ e. ap p ((Decides-int_eq g.start b).0 e)) (bucket_of_filter p b gs)

-- no span holds a number below all of them
none_later : (x b : ℤ) (ss : List SpanValue) → AreSpans ss → AllByRecursion (λ (t : SpanValue). x ≤ℤ t.lo) ss → b <ℤ x → lies_in ss b ≡ false
none_later x b [] a h l = refl
none_later x b (s ∷ ss) a h l =
    let low : x ≤ℤ s.lo = h.0 in
    let out : in_span s b ≡ false = grind (arith, ints) in
    ap (λ c. c || lies_in ss b) out ∙ none_later x b ss a.1 h.1 l

-- each span is at or above the ends of those before it
all_later : (x : ℤ) (s : SpanValue) (ss : List SpanValue) → AreSpans (s ∷ ss) → SpansRise (s ∷ ss) → x ≤ℤ s.lo → AllByRecursion (λ (t : SpanValue). x ≤ℤ t.lo) (s ∷ ss)
all_later x s [] a r le = (le, tt)
all_later x s (t ∷ ss) a r le =
    let size : s.lo ≤ℤ s.hi = a.0 in
    let next : s.hi ≤ℤ t.lo = r.0 in
    (le, all_later x t ss a.1 r.1 (omega (arith, ints)))

later_of : (s : SpanValue) (ss : List SpanValue) → AreSpans (s ∷ ss) → SpansRise (s ∷ ss) → AllByRecursion (λ (t : SpanValue). s.hi ≤ℤ t.lo) ss
later_of s [] a r = tt
later_of s (t ∷ ss) a r = all_later s.hi t ss a.1 r.1 r.0

rise_rest : (s : SpanValue) (ss : List SpanValue) → SpansRise (s ∷ ss) → SpansRise ss
rise_rest s [] r = tt
rise_rest s (t ∷ ss) r = r.1

-- at each bucket the groups are the new ones if it lies in a span, and otherwise the old ones
pub of_bucket-replaced : (b : ℤ) (ss : List SpanValue) (new old : List Group) → AreSpans ss → SpansRise ss → of_bucket b (groups_replaced ss new old) ≡ cond (lies_in ss b) (of_bucket b new) (of_bucket b old)
of_bucket-replaced b [] new old a r = refl
of_bucket-replaced b (s ∷ ss) new old a r =
    filter-append (λ g. int_eq g.start b) (below s.lo old) (within s new ++ groups_replaced ss new (from_on s.hi old))
    ∙ ap (λ xs. of_bucket b (below s.lo old) ++ xs) (filter-append (λ g. int_eq g.start b) (within s new) (groups_replaced ss new (from_on s.hi old)))
    ∙ ap (λ xs. xs ++ (of_bucket b (within s new) ++ of_bucket b (groups_replaced ss new (from_on s.hi old)))) (bucket_of_filter (λ x. int_lt x s.lo) b old)
    ∙ ap (λ xs. cond (int_lt b s.lo) (of_bucket b old) [] ++ (xs ++ of_bucket b (groups_replaced ss new (from_on s.hi old)))) (bucket_of_filter (in_span s) b new)
    ∙ ap (λ xs. cond (int_lt b s.lo) (of_bucket b old) [] ++ (cond (in_span s b) (of_bucket b new) [] ++ xs)) (of_bucket-replaced b ss new (from_on s.hi old) a.1 (rise_rest s ss r))
    ∙ ap (λ xs. cond (int_lt b s.lo) (of_bucket b old) [] ++ (cond (in_span s b) (of_bucket b new) [] ++ cond (lies_in ss b) (of_bucket b new) xs)) (bucket_of_filter (λ x. int_le s.hi x) b old)
    ∙ by_place
  where
    mine : List Group
    mine = of_bucket b new

    theirs : List Group
    theirs = of_bucket b old

    here : (x i l f : Bool) → int_lt b s.lo ≡ x → in_span s b ≡ i → lies_in ss b ≡ l → int_le s.hi b ≡ f → List Group
    here x i l f p q u v = cond x theirs [] ++ (cond i mine [] ++ cond l mine (cond f theirs []))

    Result : Bool → Bool → Bool → Bool → Type 0
    Result x i l f = cond x theirs [] ++ (cond i mine [] ++ cond l mine (cond f theirs [])) ≡ cond (i || l) mine theirs

    below_all : Result true false false false
    below_all = append-nil theirs

    inside : Result false true false false
    inside = append-nil mine

    above : (l : Bool) → Result false false l true
    above true = refl
    above false = refl

    set : (x i l f x' i' l' f' : Bool) → x ≡ x' → i ≡ i' → l ≡ l' → f ≡ f' → Result x' i' l' f' → Result x i l f
    set x i l f x' i' l' f' p q u v e =
        subst (λ y. Result y i l f) (sym p) (subst (λ y. Result x' y l f) (sym q) (subst (λ y. Result x' i' y f) (sym u) (subst (λ y. Result x' i' l' y) (sym v) e)))

    by_place : Result (int_lt b s.lo) (in_span s b) (lies_in ss b) (int_le s.hi b)
    by_place =
        let size : s.lo ≤ℤ s.hi = a.0 in
        by_lt_z b s.lo
        (λ low. set (int_lt b s.lo) (in_span s b) (lies_in ss b) (int_le s.hi b) true false false false (grind (arith, ints)) (grind (arith, ints)) (none_later s.hi b ss a.1 (later_of s ss a r) (omega (arith, ints))) (grind (arith, ints)) below_all)
        (λ high. by_lt_z b s.hi
        (λ under. set (int_lt b s.lo) (in_span s b) (lies_in ss b) (int_le s.hi b) false true false false (grind (arith, ints)) (grind (arith, ints)) (none_later s.hi b ss a.1 (later_of s ss a r) under) (grind (arith, ints)) inside)
        (λ over. set (int_lt b s.lo) (in_span s b) (lies_in ss b) (int_le s.hi b) false false (lies_in ss b) true (grind (arith, ints)) (grind (arith, ints)) refl (grind (arith, ints)) (above (lies_in ss b))))

-- ---- order

less_by_start : (g h : Group) → g.start <ℤ h.start → group_cmp g h ≡ Less
less_by_start g h l =
    let one : int_lt g.start h.start ≡ true = grind (arith, ints) in
    ap (λ b. ordering_then (cond b Less (cond (int_lt h.start g.start) Greater Equal)) (values_cmp g.keys h.keys)) one

all_append : (P : Group → Type 0) (gs hs : List Group) → AllByRecursion P gs → AllByRecursion P hs → AllByRecursion P (gs ++ hs)
all_append P [] hs p q = q
all_append P (g ∷ gs) hs p q = (p.0, all_append P gs hs p.1 q)

filter_step : (P : Group → Type 0) (g : Group) (gs : List Group) (b : Bool) → (b ≡ true → P g) → AllByRecursion P gs → AllByRecursion P (cond b (g ∷ gs) gs)
filter_step P g gs true h p = (h refl, p)
filter_step P g gs false h p = p

all_filter : (p : Group → Bool) (P : Group → Type 0) → ((g : Group) → p g ≡ true → P g) → (gs : List Group) → AllByRecursion P (filter p gs)
all_filter p P f [] = tt
all_filter p P f (g ∷ gs) = filter_step P g (filter p gs) (p g) (f g) (all_filter p P f gs)

all_kept : (p : Group → Bool) (P : Group → Type 0) (gs : List Group) → AllByRecursion P gs → AllByRecursion P (filter p gs)
all_kept p P [] h = tt
all_kept p P (g ∷ gs) h = filter_step P g (filter p gs) (p g) (λ e. h.0) (all_kept p P gs h.1)

-- a property of the new groups and of the old ones is true of all groups
pub all_replaced : (P : Group → Type 0) (ss : List SpanValue) (new old : List Group) → AllByRecursion P new → AllByRecursion P old → AllByRecursion P (groups_replaced ss new old)
all_replaced P [] new old p q = q
all_replaced P (s ∷ ss) new old p q =
    all_append P (below s.lo old) _ (all_kept (λ g. int_lt g.start s.lo) P old q)
    (all_append P (within s new) _ (all_kept (λ g. in_span s g.start) P new p) (all_replaced P ss new (from_on s.hi old) p (all_kept (λ g. int_le s.hi g.start) P old q)))

-- groups in order, those of the first list below a number and those of the second from it on
order_join : (x : ℤ) (gs hs : List Group) → AreInOrder gs → AreInOrder hs → AllByRecursion (λ g. g.start <ℤ x) gs → AllByRecursion (λ h. x ≤ℤ h.start) hs → AreInOrder (gs ++ hs)
unfolding IsStrictlySortedBy
order_join x [] hs p q a b = q
order_join x (g ∷ gs) hs p q a b =
    let less : g.start <ℤ x = a.0 in
    (all_append (λ h. group_cmp g h ≡ Less) gs hs p.0 (all_weaker (λ h. x ≤ℤ h.start) (λ h. group_cmp g h ≡ Less) (λ h le. less_by_start g h (omega (arith, ints))) hs b), order_join x gs hs p.1 q a.1 b)

-- all start from x on, if the old ones do, and the spans are above it
from_replaced : (x : ℤ) (ss : List SpanValue) (new old : List Group) → AreSpans ss → AllByRecursion (λ (t : SpanValue). x ≤ℤ t.lo) ss → AllByRecursion (λ g. x ≤ℤ g.start) old → AllByRecursion (λ g. x ≤ℤ g.start) (groups_replaced ss new old)
from_replaced x [] new old a h o = o
from_replaced x (s ∷ ss) new old a h o =
    let low : x ≤ℤ s.lo = h.0 in
    all_append (λ g. x ≤ℤ g.start) (below s.lo old) _ (all_kept (λ g. int_lt g.start s.lo) (λ g. x ≤ℤ g.start) old o)
    (all_append (λ g. x ≤ℤ g.start) (within s new) _ (all_filter (λ g. in_span s g.start) (λ g. x ≤ℤ g.start) (λ g e. let start : s.lo ≤ℤ g.start = (in_span-ends s g.start e).0 in omega (arith, ints)) new)
    (from_replaced x ss new (from_on s.hi old) a.1 h.1 (all_kept (λ g. int_le s.hi g.start) (λ g. x ≤ℤ g.start) old o)))

-- the groups of both are in order
pub order_replaced : (ss : List SpanValue) (new old : List Group) → AreSpans ss → SpansRise ss → AreInOrder new → AreInOrder old → AreInOrder (groups_replaced ss new old)
order_replaced [] new old a r n o = o
order_replaced (s ∷ ss) new old a r n o =
    let size : s.lo ≤ℤ s.hi = a.0 in
    let rest = groups_replaced ss new (from_on s.hi old) in
    let after : AllByRecursion (λ g. s.hi ≤ℤ g.start) rest = from_replaced s.hi ss new (from_on s.hi old) a.1 (later_of s ss a r) (all_filter (λ g. int_le s.hi g.start) (λ g. s.hi ≤ℤ g.start) (λ g e. grind (arith, ints)) old) in
    let inside : AllByRecursion (λ g. s.lo ≤ℤ g.start) (within s new) = all_filter (λ g. in_span s g.start) (λ g. s.lo ≤ℤ g.start) (λ g e. (in_span-ends s g.start e).0) new in
    order_join s.lo (below s.lo old) (within s new ++ rest) (order_below s.lo old o)
    (order_join s.hi (within s new) rest (order_within s new n) (order_replaced ss new (from_on s.hi old) a.1 (rise_rest s ss r) n (order_from s.hi old o)) (all_filter (λ g. in_span s g.start) (λ g. g.start <ℤ s.hi) (λ g e. (in_span-ends s g.start e).1) new) after)
    (all_filter (λ g. int_lt g.start s.lo) (λ g. g.start <ℤ s.lo) (λ g e. grind (arith, ints)) old)
    (all_append (λ g. s.lo ≤ℤ g.start) (within s new) rest inside (all_weaker (λ g. s.hi ≤ℤ g.start) (λ g. s.lo ≤ℤ g.start) (λ g le. omega (arith, ints)) rest after))

-- ---- spans in order

-- the place is at or before where the next span starts
abbrev pub IsAhead : List Group → ℕ → List SpanValue → Type 0
IsAhead old at [] = Unit {0}
IsAhead old at (s ∷ ss) = (start : ℕ) → start ≤ length old → PartsAt s.lo old start → at ≤ start

-- the groups built so far, with those still to be built from a place on, are the wanted ones
pub record IsReplacing (wanted new old made : List Group) (at : ℕ) (ss : List SpanValue) : Type 0 where
  pub bound : at ≤ length old
  pub ahead : IsAhead old at ss
  pub sizes : AreSpans ss
  pub rising : SpansRise ss
  pub done : made ++ groups_replaced ss new (drop at old) ≡ wanted

zero_ahead : (old : List Group) (ss : List SpanValue) → IsAhead old 0 ss
zero_ahead old [] = tt
zero_ahead old (s ∷ ss) = λ start l p. omega arith

pub replacing_start : (new old : List Group) (ss : List SpanValue) → AreSpans ss → SpansRise ss → IsReplacing (groups_replaced ss new old) new old [] 0 ss
replacing_start new old ss a r = record { bound = omega arith; ahead = zero_ahead old ss; sizes = a; rising = r; done = refl }

next_ahead : (old : List Group) (s : SpanValue) (ss : List SpanValue) (end : ℕ) → end ≤ length old → PartsAt s.hi old end → SpansRise (s ∷ ss) → IsAhead old end ss
next_ahead old s [] end l p r = tt
next_ahead old s (t ∷ ss) end l p r = λ start m q. parts_up old s.hi t.lo end start r.0 l m p q

-- past one span
pub replacing_step : (wanted new old made : List Group) (at : ℕ) (s : SpanValue) (ss : List SpanValue) (start end : ℕ) (made' : List Group) → start ≤ length old → PartsAt s.lo old start → end ≤ length old → PartsAt s.hi old end → made' ≡ (made ++ take (start - at) (drop at old)) ++ within s new → IsReplacing wanted new old made at (s ∷ ss) → IsReplacing wanted new old made' end ss
replacing_step wanted new old made at s ss start end made' l p m q e h =
    let size : s.lo ≤ℤ s.hi = h.sizes.0 in
    let before : at ≤ start = h.ahead start l p in
    let after : start ≤ end = parts_up old s.lo s.hi start end size l m p q in
    let rest = groups_replaced ss new (from_on s.hi (drop at old)) in
    record {
      bound = m;
      ahead = next_ahead old s ss end m q h.rising;
      sizes = h.sizes.1;
      rising = rise_rest s ss h.rising;
      done =
          ap (λ xs. xs ++ groups_replaced ss new (drop end old)) e
          ∙ ap (λ xs. ((made ++ take (start - at) (drop at old)) ++ within s new) ++ groups_replaced ss new xs) (after_parts old s.hi at end (omega arith) m q)
          ∙ ap (λ xs. ((made ++ xs) ++ within s new) ++ rest) (before_parts old s.lo at start before l p)
          ∙ append_assoc (made ++ below s.lo (drop at old)) (within s new) rest
          ∙ append_assoc made (below s.lo (drop at old)) (within s new ++ rest)
          ∙ h.done;
    }

-- the same for the span at a place
pub replacing_at : (wanted new old made : List Group) (at : ℕ) (ss : List SpanValue) (k : ℕ) (s : SpanValue) (start end : ℕ) (made' : List Group) → k < length ss → s ≡ get_or ss k s → start ≤ length old → PartsAt s.lo old start → end ≤ length old → PartsAt s.hi old end → made' ≡ (made ++ take (start - at) (drop at old)) ++ within s new → IsReplacing wanted new old made at (drop k ss) → IsReplacing wanted new old made' end (drop (k + 1) ss)
replacing_at wanted new old made at ss k s start end made' l e a b c d f h =
    let next : drop k ss ≡ s ∷ drop (k + 1) ss = drop_more ss k s l ∙ ap (λ x. x ∷ drop (k + 1) ss) (sym e) in
    replacing_step wanted new old made at s (drop (k + 1) ss) start end made' a b c d f (subst (IsReplacing wanted new old made at) next h)

pub ahead_at : (wanted new old made : List Group) (at : ℕ) (ss : List SpanValue) (k : ℕ) (s : SpanValue) (start : ℕ) → k < length ss → s ≡ get_or ss k s → start ≤ length old → PartsAt s.lo old start → IsReplacing wanted new old made at (drop k ss) → at ≤ start
ahead_at wanted new old made at ss k s start l e a b h =
    let next : drop k ss ≡ s ∷ drop (k + 1) ss = drop_more ss k s l ∙ ap (λ x. x ∷ drop (k + 1) ss) (sym e) in
    (subst (IsReplacing wanted new old made at) next h).ahead start a b

-- past all spans
pub replacing_end : (wanted new old made : List Group) (at : ℕ) (ss : List SpanValue) (k : ℕ) (made' : List Group) → length ss ≤ k → made' ≡ made ++ take (length old - at) (drop at old) → IsReplacing wanted new old made at (drop k ss) → made' ≡ wanted
replacing_end wanted new old made at ss k made' l e h =
    let none : drop k ss ≡ [] = drop_all k ss l in
    e ∙ ap (λ xs. made ++ xs) (take_rest old at) ∙ (subst (IsReplacing wanted new old made at) none h).done

-- the groups of a bucket among those within a span
pub of_bucket-within : (b : ℤ) (s : SpanValue) (gs : List Group) → of_bucket b (within s gs) ≡ cond (in_span s b) (of_bucket b gs) []
of_bucket-within b s gs = bucket_of_filter (in_span s) b gs

tested : (test : Group → Bool) (gs : List Group) → AllByRecursion (λ g. test g ≡ true) gs → list_all test gs ≡ true
tested test [] h = refl
tested test (g ∷ gs) h = ap (λ b. b && list_all test gs) h.0 ∙ tested test gs h.1

-- the same for a test
pub list_all-replaced : (test : Group → Bool) (ss : List SpanValue) (new old : List Group) → list_all test new ≡ true → list_all test old ≡ true → list_all test (groups_replaced ss new old) ≡ true
list_all-replaced test ss new old p q = tested test (groups_replaced ss new old) (all_replaced (λ g. test g ≡ true) ss new old (all_passed test new p) (all_passed test old q))
