-- The answer, bucket by bucket.
use Rattle.std.proofs.Common.{◌≡◌, Bool, true, false, not, ◌&&◌, ◌||◌, cond, map, filter, List, [], ◌∷◌, ◌++◌, ℤ, pos, ◌+ℤ◌, ◌≤ℤ◌, ◌<ℤ◌, int_lt, Option, Some, None, refl, sym, ap, subst, ◌∙◌, arith}
use Rattle.std.specs.List.{AllByRecursion, flat_map}
use Rattle.std.specs.List.Sorted.{IsStrictlySortedBy}
use Rattle.std.specs.Ordering.{int_eq}
use Rattle.std.specs.declared.cmp.Ordering.TheVariants.{Less}
use Rattle.std.proofs.lemmas.Bool.{true≢false, and_parts}
use Rattle.std.proofs.lemmas.Bool.Decides.{Decides-int_eq}
use Rattle.std.proofs.lemmas.Int.{ints}
use Rattle.std.proofs.lemmas.List.Elements.{filter-append}
use Rattle.std.proofs.lemmas.List.{append-nil, map-append}
use Rattle.ts_bucket.specs.Bucket.{IsWidth, is_bucket}
use Rattle.ts_bucket.specs.Ranges.{is_asked}
use Rattle.ts_bucket.specs.WholeSpans.{is_below}
use Rattle.ts_bucket.specs.declared.spans.Span.{Span}
use Rattle.ts_bucket.specs.declared.widths.Width.{Width}
use Rattle.ts_schema.specs.declared.rows.Row.{Row}
use Rattle.partial_agg.specs.declared.groups.Group.{Group}
use Rattle.partial_agg.specs.Groups.{group_cmp, AreInOrder}
use Rattle.ts_model.specs.declared.views.ViewDef.{ViewDef}
use Rattle.ts_model.specs.Answers.{buckets_in}
use Rattle.ts_model.specs.Groups.{cells_of, groups_in, groups_of}
use Rattle.ts_model.proofs.RangeLaws.{RisingBuckets, among, among-buckets_in, rising-buckets_in}
use Rattle.group_fold.proofs.Occurring.{all-append, flat_map-same}
use Rattle.group_fold.proofs.RowGroups.{sorted-groups_of}
use Rattle.group_fold.proofs.Scratches.{filter-none, groups_of_bucket}
use Rattle.realtime_union.specs.Live.{is_live, live_groups}
use Rattle.realtime_union.specs.Laws.{AreKept, UnionsAreOfBuckets, groups_shown}
use Rattle.ts_schema.proofs.Cases.{by_test, all_weaker, all_passed}
use Rattle.partial_agg.proofs.GroupLaws.{less_start}

-- ---- tests of groups

abbrev of_bucket : ℤ → List Group → List Group
of_bucket b gs = filter (λ g. int_eq g.start b) gs

kept_all : (P : Group → Type 0) (test : Group → Bool) (gs : List Group) → AllByRecursion P gs → AllByRecursion (λ g. P g × (test g ≡ true)) (filter test gs)
kept_all P test [] h = tt
kept_all P test (g ∷ gs) h = by_test (test g) (λ e. rw e ((h.0, e), kept_all P test gs h.1)) (λ e. rw e (kept_all P test gs h.1))

-- ---- groups whose starts rise

-- no group starts below an earlier one
abbrev StartsUp : List Group → Type 0
StartsUp [] = Unit {0}
StartsUp (g ∷ gs) = AllByRecursion (λ h. g.start ≤ℤ h.start) gs × StartsUp gs

starts_up : (gs : List Group) → AreInOrder gs → StartsUp gs
unfolding IsStrictlySortedBy
starts_up [] o = tt
starts_up (g ∷ gs) o = (all_weaker (λ h. group_cmp g h ≡ Less) (λ h. g.start ≤ℤ h.start) (less_start g) gs o.0, starts_up gs o.1)

up-filter : (test : Group → Bool) (gs : List Group) → StartsUp gs → StartsUp (filter test gs)
up-filter test [] up = tt
up-filter test (g ∷ gs) up =
    let rest = up-filter test gs up.1 in
    let above = all_weaker (λ h. (g.start ≤ℤ h.start) × (test h ≡ true)) (λ h. g.start ≤ℤ h.start) (λ h p. p.0) (filter test gs) (kept_all (λ h. g.start ≤ℤ h.start) test gs up.0) in
    by_test (test g) (λ e. rw e (above, rest)) (λ e. rw e rest)

up-append : (gs hs : List Group) → AllByRecursion (λ g. AllByRecursion (λ h. g.start ≤ℤ h.start) hs) gs → StartsUp gs → StartsUp hs → StartsUp (gs ++ hs)
up-append [] hs between up after = after
up-append (g ∷ gs) hs between up after = (all-append (λ h. g.start ≤ℤ h.start) gs hs up.0 between.0, up-append gs hs between.1 up.1 after)

-- the groups of the least bucket come first
first_come : (b : ℤ) (gs : List Group) → StartsUp gs → AllByRecursion (λ g. b ≤ℤ g.start) gs → gs ≡ of_bucket b gs ++ filter (λ g. not (int_eq g.start b)) gs
first_come b [] up from = refl
first_come b (g ∷ gs) up from =
    by_test (int_eq g.start b)
    (λ here. rw here (ap (λ hs. g ∷ hs) (first_come b gs up.1 from.1)))
    (λ later.
    let above : b <ℤ g.start = higher b g.start from.0 later in
    let others : AllByRecursion (λ h. int_eq h.start b ≡ false) (g ∷ gs) = (later, all_weaker (λ h. g.start ≤ℤ h.start) (λ h. int_eq h.start b ≡ false) (λ h up. apart b g.start h.start above up) gs up.0) in
    let none : of_bucket b (g ∷ gs) ≡ [] = filter-none (λ h. int_eq h.start b) (g ∷ gs) others in
    sym (ap (λ hs. hs ++ filter (λ h. not (int_eq h.start b)) (g ∷ gs)) none ∙ all_other b (g ∷ gs) others))
  where
    higher : (b s : ℤ) → b ≤ℤ s → int_eq s b ≡ false → b <ℤ s
    higher b s le e = by_test (int_lt b s) (λ l. grind (arith, ints)) (λ n. (let same : s ≡ b = omega (arith, ints, at_most n) in absurd (true≢false (sym ((Decides-int_eq s b).1 same) ∙ e))))
      where
        at_most : int_lt b s ≡ false → s ≤ℤ b
        at_most n = grind (arith, ints)

    apart : (b s t : ℤ) → b <ℤ s → s ≤ℤ t → int_eq t b ≡ false
    apart b s t l m = by_test (int_eq t b) (λ e. (let same : t ≡ b = (Decides-int_eq t b).0 e in absurd (omega (arith, ints, same)))) (λ e. e)

    all_other : (b : ℤ) (hs : List Group) → AllByRecursion (λ h. int_eq h.start b ≡ false) hs → filter (λ h. not (int_eq h.start b)) hs ≡ hs
    all_other b [] o = refl
    all_other b (h ∷ hs) o = rw o.0 (ap (λ xs. h ∷ xs) (all_other b hs o.1))

-- the groups of another bucket are among the others
among_others : (b c : ℤ) (gs : List Group) → (b ≡ c → ⊥) → of_bucket c (filter (λ g. not (int_eq g.start b)) gs) ≡ of_bucket c gs
among_others b c [] apart = refl
among_others b c (g ∷ gs) apart =
    by_test (int_eq g.start b)
    (λ here.
    let other : int_eq g.start c ≡ false = by_test (int_eq g.start c) (λ e. absurd (apart (sym ((Decides-int_eq g.start b).0 here) ∙ (Decides-int_eq g.start c).0 e))) (λ e. e) in
    rw (here, other) (among_others b c gs apart))
    (λ elsewhere. rw elsewhere (ap (λ xs. cond (int_eq g.start c) (g ∷ xs) xs) (among_others b c gs apart)))

above_low : (w : Width) (low : ℤ) (bs : List ℤ) → RisingBuckets w low bs → AllByRecursion (λ b. low ≤ℤ b) bs
above_low w low [] r = tt
above_low w low (b ∷ bs) r =
    let from : low ≤ℤ b = r.0 in
    (from, all_weaker (λ c. (b +ℤ pos 1) ≤ℤ c) (λ c. low ≤ℤ c) (λ c le. omega (arith, ints)) bs (above_low w (b +ℤ pos 1) bs r.2))

-- each of rising numbers is at or above the first
from_first : (low c : ℤ) (bs : List ℤ) → AllByRecursion (λ b. low ≤ℤ b) bs → among c bs ≡ true → low ≤ℤ c
from_first low c [] above e = absurd (true≢false (sym e))
from_first low c (b ∷ bs) above e =
    by_test (int_eq b c)
    (λ here. subst (λ x. low ≤ℤ x) ((Decides-int_eq b c).0 here) above.0)
    (λ later. from_first low c bs above.1 (sym (ap (λ t. t || among c bs) later) ∙ e))

-- groups whose starts rise are, bucket by bucket, those of the bucket
by_buckets : (w : Width) (low : ℤ) (bs : List ℤ) → RisingBuckets w low bs → (gs : List Group) → StartsUp gs → AllByRecursion (λ g. among g.start bs ≡ true) gs → gs ≡ flat_map (λ b. of_bucket b gs) bs
by_buckets w low [] rising [] up all = refl
by_buckets w low [] rising (g ∷ gs) up all = absurd (true≢false (sym all.0))
by_buckets w low (b ∷ bs) rising gs up all =
    let others = filter (λ g. not (int_eq g.start b)) gs in
    let later : AllByRecursion (λ c. (b +ℤ pos 1) ≤ℤ c) bs = above_low w (b +ℤ pos 1) bs rising.2 in
    let from_b : AllByRecursion (λ c. b ≤ℤ c) (b ∷ bs) = (omega (arith, ints), all_weaker (λ c. (b +ℤ pos 1) ≤ℤ c) (λ c. b ≤ℤ c) (λ c le. omega (arith, ints)) bs later) in
    let from : AllByRecursion (λ g. b ≤ℤ g.start) gs = all_weaker (λ g. among g.start (b ∷ bs) ≡ true) (λ g. b ≤ℤ g.start) (λ g e. from_first b g.start (b ∷ bs) from_b e) gs all in
    let rest : AllByRecursion (λ g. among g.start bs ≡ true) others =
    all_weaker (λ g. (among g.start (b ∷ bs) ≡ true) × (not (int_eq g.start b) ≡ true)) (λ g. among g.start bs ≡ true) (λ g p. in_rest b g.start bs p.0 p.1) others (kept_all (λ g. among g.start (b ∷ bs) ≡ true) (λ g. not (int_eq g.start b)) gs all) in
    let same : AllByRecursion (λ c. of_bucket c others ≡ of_bucket c gs) bs = all_weaker (λ c. (b +ℤ pos 1) ≤ℤ c) (λ c. of_bucket c others ≡ of_bucket c gs) (λ c le. among_others b c gs (λ q. below_next b c le q)) bs later in
    first_come b gs up from
    ∙ ap (λ xs. of_bucket b gs ++ xs)
    (by_buckets w (b +ℤ pos 1) bs rising.2 others (up-filter (λ g. not (int_eq g.start b)) gs up) rest
    ∙ flat_map-same (λ c. of_bucket c others) (λ c. of_bucket c gs) bs same)
  where
    below_next : (b c : ℤ) → (b +ℤ pos 1) ≤ℤ c → b ≡ c → ⊥
    below_next b c le q = omega (arith, ints, le, q)

    in_rest : (b c : ℤ) (bs : List ℤ) → among c (b ∷ bs) ≡ true → not (int_eq c b) ≡ true → among c bs ≡ true
    in_rest b c bs e other =
        by_test (int_eq b c)
        (λ here. absurd (true≢false (sym other ∙ ap not ((Decides-int_eq c b).1 (sym ((Decides-int_eq b c).0 here))))))
        (λ later. sym (ap (λ t. t || among c bs) later) ∙ e)

-- ---- materialized groups and live ones

map-flat_map : {X Y Z : Type 0} (f : Y → Z) (g : X → List Y) (xs : List X) → map f (flat_map g xs) ≡ flat_map (λ x. map f (g x)) xs
map-flat_map f g [] = refl
map-flat_map f g (x ∷ xs) = map-append f (g x) (flat_map g xs) ∙ ap (λ zs. map f (g x) ++ zs) (map-flat_map f g xs)

mark_between : (mark : Option ℤ) (a b : ℤ) → is_below a mark ≡ true → is_below b mark ≡ false → a ≤ℤ b
mark_between None a b below above = absurd (true≢false (sym below))
mark_between (Some mark) a b below above = grind (arith, ints)

each_pair : (P Q : Group → Type 0) (R : Group → Group → Type 0) → ((g h : Group) → P g → Q h → R g h) → (gs hs : List Group) → AllByRecursion P gs → AllByRecursion Q hs → AllByRecursion (λ g. AllByRecursion (R g) hs) gs
each_pair P Q R f [] hs p q = tt
each_pair P Q R f (g ∷ gs) hs p q = (all_weaker Q (R g) (λ h. f g h p.0) hs q, each_pair P Q R f gs hs p.1 q)

always : (gs : List Group) → AllByRecursion (λ g. Unit {0}) gs
always [] = tt
always (g ∷ gs) = (tt, always gs)

module _ (w : Width) (mark : Option ℤ) (starts : Span) where
  abbrev IsKept : Group → Type 0
  IsKept g = (is_asked w starts g.start && is_below g.start mark) ≡ true

  abbrev IsLive : Group → Type 0
  IsLive g = is_live w mark starts g.start ≡ true

  unmarked : (b : ℤ) → is_live w mark starts b ≡ true → is_below b mark ≡ false
  unmarked b e = by_test (is_below b mark) (λ below. absurd (true≢false (sym (and_parts (is_asked w starts b) (not (is_below b mark)) e).1 ∙ ap not below))) (λ above. above)

  kept_none : (b : ℤ) (kept : List Group) → AllByRecursion IsKept kept → is_below b mark ≡ false → of_bucket b kept ≡ []
  kept_none b kept all above =
      filter-none (λ g. int_eq g.start b) kept
      (all_weaker IsKept (λ g. int_eq g.start b ≡ false) (λ g e. by_test (int_eq g.start b) (λ here. absurd (true≢false (sym (and_parts (is_asked w starts g.start) (is_below g.start mark) e).1 ∙ (ap (λ x. is_below x mark) ((Decides-int_eq g.start b).0 here) ∙ above)))) (λ other. other)) kept all)

  live_none : (b : ℤ) (live : List Group) → AllByRecursion IsLive live → is_below b mark ≡ true → of_bucket b live ≡ []
  live_none b live all below =
      filter-none (λ g. int_eq g.start b) live
      (all_weaker IsLive (λ g. int_eq g.start b ≡ false) (λ g e. by_test (int_eq g.start b) (λ here. absurd (true≢false (sym below ∙ (ap (λ x. is_below x mark) (sym ((Decides-int_eq g.start b).0 here)) ∙ unmarked g.start e)))) (λ other. other)) live all)

  live_all : (b : ℤ) (gs : List Group) → is_live w mark starts b ≡ true → of_bucket b (filter (λ g. is_live w mark starts g.start) gs) ≡ of_bucket b gs
  live_all b [] e = refl
  live_all b (g ∷ gs) e =
      by_test (int_eq g.start b)
      (λ here. (let at : is_live w mark starts g.start ≡ true = ap (is_live w mark starts) ((Decides-int_eq g.start b).0 here) ∙ e in rw (at, here) (ap (λ xs. g ∷ xs) (live_all b gs e))))
      (λ other. by_test (is_live w mark starts g.start) (λ at. rw (at, other) (live_all b gs e)) (λ at. rw (at, other) (live_all b gs e)))

module _ (def : ViewDef) (kept : List Group) (mark : Option ℤ) (starts : Span) (rows : List Row) (wide : IsWidth def.fold.width) (are : AreKept def.fold.width mark starts kept) where
  abbrev live : List Group
  live = live_groups def mark starts rows

  kept_is : AllByRecursion (IsKept def.fold.width mark starts) kept
  kept_is = all_passed (λ g. is_asked def.fold.width starts g.start && is_below g.start mark) kept are.all

  live_is : AllByRecursion (IsLive def.fold.width mark starts) live
  live_is =
      elim def.only as (λ b. AllByRecursion (IsLive def.fold.width mark starts) (cond b [] (filter (λ g. is_live def.fold.width mark starts g.start) (groups_of def.fold rows)))) [
        | true ↦ tt
        | false ↦ all_weaker (λ g. Unit {0} × IsLive def.fold.width mark starts g) (IsLive def.fold.width mark starts) (λ g p. p.1) _ (kept_all (λ g. Unit {0}) (λ g. is_live def.fold.width mark starts g.start) (groups_of def.fold rows) (always (groups_of def.fold rows)))
      ]

  live_up : StartsUp live
  live_up =
      elim def.only as (λ b. StartsUp (cond b [] (filter (λ g. is_live def.fold.width mark starts g.start) (groups_of def.fold rows)))) [
        | true ↦ tt
        | false ↦ up-filter (λ g. is_live def.fold.width mark starts g.start) (groups_of def.fold rows) (starts_up (groups_of def.fold rows) (sorted-groups_of def.fold wide rows))
      ]

  both_up : StartsUp (kept ++ live)
  both_up =
      up-append kept live
      (each_pair (IsKept def.fold.width mark starts) (IsLive def.fold.width mark starts) (λ g h. g.start ≤ℤ h.start)
      (λ g h p q. mark_between mark g.start h.start (and_parts _ _ p).1 (unmarked def.fold.width mark starts h.start q)) kept live kept_is live_is)
      (starts_up kept are.in_order) live_up

  both_asked : AllByRecursion (λ g. among g.start (buckets_in def.fold.width starts) ≡ true) (kept ++ live)
  both_asked =
      all-append (λ g. among g.start (buckets_in def.fold.width starts) ≡ true) kept live
      (all_weaker (IsKept def.fold.width mark starts) (λ g. among g.start (buckets_in def.fold.width starts) ≡ true) (λ g p. among-buckets_in def.fold.width starts g.start ∙ (and_parts _ _ p).0) kept kept_is)
      (all_weaker (IsLive def.fold.width mark starts) (λ g. among g.start (buckets_in def.fold.width starts) ≡ true) (λ g p. among-buckets_in def.fold.width starts g.start ∙ (and_parts _ _ p).0) live live_is)

  -- for a requested bucket that isn't below the mark, the live groups are those of its rows
  live_at : (b : ℤ) → is_asked def.fold.width starts b ≡ true → is_below b mark ≡ false → of_bucket b live ≡ cond def.only [] (groups_in def.fold rows b)
  live_at b asked above =
      let at : is_live def.fold.width mark starts b ≡ true = rw (asked, above) refl in
      let bucket : is_bucket def.fold.width b ≡ true = (and_parts _ _ (and_parts _ _ asked).1).0 in
      elim def.only as (λ o. of_bucket b (cond o [] (filter (λ g. is_live def.fold.width mark starts g.start) (groups_of def.fold rows))) ≡ cond o [] (groups_in def.fold rows b)) [
        | true ↦ refl
        | false ↦ live_all def.fold.width mark starts b (groups_of def.fold rows) at ∙ groups_of_bucket def.fold wide rows b bucket
      ]

  shown_at : (b : ℤ) → is_asked def.fold.width starts b ≡ true → of_bucket b (kept ++ live) ≡ groups_shown def kept mark rows b
  shown_at b asked =
      filter-append (λ g. int_eq g.start b) kept live
      ∙ by_test (is_below b mark)
      (λ below. rw below (ap (λ xs. of_bucket b kept ++ xs) (live_none def.fold.width mark starts b live live_is below) ∙ append-nil (of_bucket b kept)))
      (λ above. rw above (ap (λ xs. xs ++ of_bucket b live) (kept_none def.fold.width mark starts b kept kept_is above) ∙ live_at b asked above))

pub all_among : (P : ℤ → Type 0) (bs : List ℤ) → ((b : ℤ) → among b bs ≡ true → P b) → AllByRecursion P bs
all_among P [] gives = tt
all_among P (b ∷ bs) gives =
    let here : int_eq b b ≡ true = (Decides-int_eq b b).1 refl in
    (gives b (ap (λ t. t || among b bs) here), all_among P bs (λ c e. gives c (by_test (int_eq b c) (λ at. ap (λ t. t || among c bs) at) (λ other. ap (λ t. t || among c bs) other ∙ e))))

pub unions_are_of_buckets : UnionsAreOfBuckets
unions_are_of_buckets def kept mark starts rows wide are =
    let bs = buckets_in def.fold.width starts in
    let all = kept ++ live_groups def mark starts rows in
    ap (map (cells_of def.fold))
    (by_buckets def.fold.width starts.lo bs (rising-buckets_in def.fold.width starts) all (both_up def kept mark starts rows wide are) (both_asked def kept mark starts rows wide are)
    ∙ flat_map-same (λ b. of_bucket b all) (groups_shown def kept mark rows) bs
    (all_among (λ b. of_bucket b all ≡ groups_shown def kept mark rows b) bs (λ b e. shown_at def kept mark starts rows wide are b (sym (among-buckets_in def.fold.width starts b) ∙ e))))
    ∙ map-flat_map (cells_of def.fold) (groups_shown def kept mark rows) bs
