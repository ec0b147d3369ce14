-- Groups whose partial aggregates are in blocks: what stays if a block grows, and if a row is added to one
-- group.
use Rattle.std.proofs.Common.{◌≡◌, ℕ, zero, suc, ◌+◌, ◌-◌, ◌^◌, ◌<◌, ◌≤◌, List, [], ◌∷◌, ◌++◌, length, get_or, set, take, drop, ℤ, Option, Result, Ok, Err, ⊎_elim, sym, refl, ap, ◌∙◌, subst, arith}
use Rattle.std.specs.List.{AllByRecursion, insert}
use Rattle.std.specs.Prelude.{OnErr, OnOk}
use Rattle.std.proofs.lemmas.Bool.{cases_lt, cases_order}
use Rattle.std.proofs.lemmas.List.{length-append, length-set, length-drop, length-take, get_or_append_left, get_or_default, get_or-map, get_or-set_other, get_or-set_same, drop-append-le, drop_at, take-append-le, take_all, take_at, length-map}
use Rattle.std.specs.declared.cmp.Ordering.TheVariants.{Equal}
use Rattle.ts_schema.specs.declared.rows.Row.{Row}
use Rattle.ts_model.specs.declared.views.Agg.{Agg}
use Rattle.ts_model.specs.declared.views.Fold.{Fold}
use Rattle.partial_agg.specs.declared.groups.Group.{Group}
use Rattle.partial_agg.specs.Groups.{group_cmp}
use Rattle.partial_agg.specs.Summaries.{Summary}
use Rattle.group_fold.specs.declared.heads.Head.{Head}
use Rattle.group_fold.specs.declared.heads.PartsPlace.{PartsPlace}
use Rattle.group_fold.specs.Gathering.{HaveParts, IsAt, IsBelow}
use Rattle.group_fold.specs.Grouping.{row_parts}
use Rattle.group_fold.specs.Merging.{joined_parts}
use Rattle.group_fold.proofs.Counts.{length-row_parts}
use Rattle.group_fold.proofs.Parts.{length-joined_parts}
use Rattle.group_fold.specs.Blocks.{AreHeadsApart, ArePartsApart, HasPartsAt, IsHeadAt, IsPlaceApart, IsPutAt, Keeps, StandIn, group_with_row, parts_at, shown_group, shown_groups}
use Rattle.ts_schema.proofs.Cases.{all_weaker}

-- ---- a part of a list replaced

from_none : (n : ℕ) → 0 + n ≡ n
from_none n = omega arith

from_next : (f n : ℕ) → suc f + n ≡ suc (f + n)
from_next f n = omega arith

module _ {X : Type 0} where
  -- the list with as many items replaced, from a place on
  abbrev pub replaced : ℕ → ℕ → List X → List X → List X
  replaced f n js xs = take f xs ++ (js ++ drop (f + n) xs)

  front_stays : (n f : ℕ) (xs ys : List X) → n ≤ f → f ≤ length xs → take n (take f xs ++ ys) ≡ take n xs
  front_stays zero f xs ys h i = refl
  front_stays (suc n) zero xs ys h i = absurd (omega arith)
  front_stays (suc n) (suc f) [] ys h i = absurd (omega arith)
  front_stays (suc n) (suc f) (x ∷ xs) ys h i = ap (λ zs. x ∷ zs) (front_stays n f xs ys (omega arith) (omega arith))

  -- the items before the replaced part
  before_replaced : (f n g m : ℕ) (js xs : List X) → g + m ≤ f → f + n ≤ length xs → take m (drop g (replaced f n js xs)) ≡ take m (drop g xs)
  before_replaced f n zero m js xs h i = front_stays m f xs (js ++ drop (f + n) xs) (omega arith) (omega arith)
  before_replaced zero n (suc g) m js xs h i = absurd (omega arith)
  before_replaced (suc f) n (suc g) m js [] h i = absurd (omega arith)
  before_replaced (suc f) n (suc g) m js (x ∷ xs) h i =
      ap (λ k. take m (drop g (take f xs ++ (js ++ drop k (x ∷ xs))))) (from_next f n) ∙ before_replaced f n g m js xs (omega arith) (omega arith)

  -- the items after it
  behind_items : (k n : ℕ) (js xs : List X) → length js ≡ n → n ≤ k → n ≤ length xs → drop k (js ++ drop n xs) ≡ drop k xs
  behind_items k zero [] xs e h i = refl
  behind_items k zero (j ∷ js) xs e h i = absurd (omega (arith, e))
  behind_items k (suc n) [] xs e h i = absurd (omega (arith, e))
  behind_items zero (suc n) (j ∷ js) xs e h i = absurd (omega arith)
  behind_items (suc k) (suc n) (j ∷ js) [] e h i = absurd (omega arith)
  behind_items (suc k) (suc n) (j ∷ js) (x ∷ xs) e h i = behind_items k n js xs (omega (arith, e)) (omega arith) (omega arith)

  behind_replaced : (f n g : ℕ) (js xs : List X) → length js ≡ n → f + n ≤ g → f + n ≤ length xs → drop g (replaced f n js xs) ≡ drop g xs
  behind_replaced zero n g js xs e h i = ap (λ k. drop g (js ++ drop k xs)) (from_none n) ∙ behind_items g n js xs e (omega arith) (omega arith)
  behind_replaced (suc f) n zero js xs e h i = absurd (omega arith)
  behind_replaced (suc f) n (suc g) js [] e h i = absurd (omega arith)
  behind_replaced (suc f) n (suc g) js (x ∷ xs) e h i =
      ap (λ k. drop g (take f xs ++ (js ++ drop k (x ∷ xs)))) (from_next f n) ∙ behind_replaced f n g js xs e (omega arith) (omega arith)

  -- the items outside it
  apart_replaced : (f n g : ℕ) (js xs : List X) → length js ≡ n → f + n ≤ length xs → (f < g + n → g < f + n → ⊥) → take n (drop g (replaced f n js xs)) ≡ take n (drop g xs)
  apart_replaced f n g js xs e i apart =
      ⊎_elim
      (λ below.
      ⊎_elim (λ above. absurd (apart below above)) (λ behind. ap (take n) (behind_replaced f n g js xs e behind i)) (cases_lt g (f + n)))
      (λ before. before_replaced f n g n js xs before i) (cases_lt f (g + n))

  own_replaced : (f n : ℕ) (js xs : List X) → length js ≡ n → f + n ≤ length xs → take n (drop f (replaced f n js xs)) ≡ js
  own_replaced zero n js xs e i = ap (λ k. take n (js ++ drop k xs)) (from_none n) ∙ take_at js (drop n xs) n e
  own_replaced (suc f) n js [] e i = absurd (omega arith)
  own_replaced (suc f) n js (x ∷ xs) e i =
      ap (λ k. take n (drop f (take f xs ++ (js ++ drop k (x ∷ xs))))) (from_next f n) ∙ own_replaced f n js xs e (omega arith)

  length-replaced : (f n : ℕ) (js xs : List X) → length js ≡ n → f + n ≤ length xs → length (replaced f n js xs) ≡ length xs
  length-replaced zero n js xs e i =
      let same : length (js ++ drop n xs) ≡ length xs = omega (arith, e, i, length-append js (drop n xs), length-drop n xs) in
      ap (λ k. length (js ++ drop k xs)) (from_none n) ∙ same
  length-replaced (suc f) n js [] e i = absurd (omega arith)
  length-replaced (suc f) n js (x ∷ xs) e i =
      ap (λ k. suc (length (take f xs ++ (js ++ drop k (x ∷ xs))))) (from_next f n) ∙ ap suc (length-replaced f n js xs e (omega arith))

-- ---- blocks that grow

pub keeps_same : (old new : List (List Summary)) → new ≡ old → Keeps old new
keeps_same old new is n p has = subst (λ bs. HasPartsAt n bs p × (parts_at n bs p ≡ parts_at n old p)) (sym is) (has, refl)

pub keeps_on : (old mid new : List (List Summary)) → Keeps old mid → Keeps mid new → Keeps old new
keeps_on old mid new first second n p has =
    let one = first n p has in
    let two = second n p one.0 in
    (two.0, two.1 ∙ one.1)

pub keeps_block : (old new : List (List Summary)) (block : List Summary) → new ≡ old ++ block ∷ [] → Keeps old new
keeps_block old new block is n p has =
    let same = get_or_append_left old (block ∷ []) [] p.block has.block in
    subst (λ bs. HasPartsAt n bs p × (parts_at n bs p ≡ parts_at n old p)) (sym is)
    (record { block = omega (arith, has.block, length-append old (block ∷ [])); within = rw same has.within }, ap (λ b. take n (drop p.from b)) same)

longer_part : (n f : ℕ) (xs ys : List Summary) → f + n ≤ length xs → take n (drop f (xs ++ ys)) ≡ take n (drop f xs)
longer_part n f xs ys h =
    ap (take n) (drop-append-le f xs ys (omega arith)) ∙ take-append-le n (drop f xs) ys (omega (arith, length-drop f xs, h))

-- a block with more after it
pub keeps_longer : (old new : List (List Summary)) (b : ℕ) (block more : List Summary) → b < length old → block ≡ get_or old b block → new ≡ set old b (block ++ more) → Keeps old new
keeps_longer old new b block more h was is n p has =
    subst (λ bs. HasPartsAt n bs p × (parts_at n bs p ≡ parts_at n old p)) (sym is)
    (⊎_elim
    (λ e.
    let own : get_or (set old b (block ++ more)) p.block [] ≡ block ++ more = ap (λ k. get_or (set old b (block ++ more)) k []) e ∙ get_or-set_same old b (block ++ more) [] h in
    let mine : get_or old p.block [] ≡ block = ap (λ k. get_or old k []) e ∙ (get_or_default old b [] block h ∙ sym was) in
    let fits : p.from + n ≤ length block = subst (λ xs. p.from + n ≤ length xs) mine has.within in (
      record {
        block = omega (arith, has.block, length-set old b (block ++ more));
        within = omega (arith, fits, ap length own, length-append block more);
      },
      ap (λ xs. take n (drop p.from xs)) own ∙ (longer_part n p.from block more fits ∙ sym (ap (λ xs. take n (drop p.from xs)) mine)),
    ))
    (λ order.
    let other : get_or (set old b (block ++ more)) p.block [] ≡ get_or old p.block [] =
    get_or-set_other old b p.block (block ++ more) [] (λ e. ⊎_elim (λ l. absurd (omega (arith, e, l))) (λ l. absurd (omega (arith, e, l))) order) in (
      record {
        block = omega (arith, has.block, length-set old b (block ++ more));
        within = omega (arith, has.within, ap length other);
      },
      ap (λ xs. take n (drop p.from xs)) other,
    ))
    (cases_order p.block b))

-- what is appended after a block is there, apart from all that was before
pub put_behind : (old new : List (List Summary)) (b : ℕ) (block parts : List Summary) (p : PartsPlace) → b < length old → block ≡ get_or old b block → new ≡ set old b (block ++ parts) → p.block ≡ b → p.from ≡ length block → IsPutAt parts old new p
put_behind old new b block parts p h was is at from =
    let own : get_or new p.block [] ≡ block ++ parts = ap (λ bs. get_or bs p.block []) is ∙ (ap (λ k. get_or (set old b (block ++ parts)) k []) at ∙ get_or-set_same old b (block ++ parts) [] h) in
    record {
      there = record {
        block = omega (arith, h, at, ap length is, length-set old b (block ++ parts));
        within = omega (arith, from, ap length own, length-append block parts);
      };
      are =
          ap (λ xs. take (length parts) (drop p.from xs)) own
          ∙ (ap (λ k. take (length parts) (drop k (block ++ parts))) from ∙ (ap (take (length parts)) (drop_at block parts (length block) refl) ∙ take_all (length parts) parts (omega arith)));
      apart = λ q has same low high.
          let mine : get_or old q.block [] ≡ block = ap (λ k. get_or old k []) (sym same ∙ at) ∙ (get_or_default old b [] block h ∙ sym was) in
          omega (arith, has.within, ap length mine, from, low, high);
    }

-- blocks to which nothing was appended are kept, and so are those that grew before
pub put_later : (parts : List Summary) (old mid new : List (List Summary)) (p : PartsPlace) → Keeps old mid → IsPutAt parts mid new p → IsPutAt parts old new p
put_later parts old mid new p keeps put = record {
  there = put.there;
  are = put.are;
  apart = λ q has. put.apart q (keeps (length parts) q has).0;
}

-- ---- groups in blocks that grow

within_kept : (n : ℕ) (old new : List (List Summary)) (heads : List Head) → Keeps old new → AllByRecursion (λ h. HasPartsAt n old h.place) heads → AllByRecursion (λ h. HasPartsAt n new h.place) heads
within_kept n old new heads keeps all = all_weaker (λ (h : Head). HasPartsAt n old h.place) (λ h. HasPartsAt n new h.place) (λ h has. (keeps n h.place has).0) heads all

pub stand_kept : (n : ℕ) (old new : List (List Summary)) (heads : List Head) → Keeps old new → StandIn n old heads → StandIn n new heads
stand_kept n old new heads keeps stand = record { within = within_kept n old new heads keeps stand.within; apart = stand.apart }

-- the group of a head with these partial aggregates
abbrev pub with_parts : Head → List Summary → Group
with_parts h parts = record { start = h.start; keys = h.keys; parts = parts }

pub shown_kept : (n : ℕ) (old new : List (List Summary)) (heads : List Head) → Keeps old new → AllByRecursion (λ h. HasPartsAt n old h.place) heads → shown_groups n new heads ≡ shown_groups n old heads
shown_kept n old new [] keeps all = refl
shown_kept n old new (h ∷ hs) keeps all =
    ap (λ parts. with_parts h parts ∷ shown_groups n new hs) (keeps n h.place all.0).1 ∙ ap (λ gs. shown_group n old h ∷ gs) (shown_kept n old new hs keeps all.1)

-- ---- one more group

apart_back : (n : ℕ) (p q : PartsPlace) → ArePartsApart n p q → ArePartsApart n q p
apart_back n p q apart same low high = apart (sym same) high low

apart_all : (n : ℕ) (p : PartsPlace) (blocks : List (List Summary)) (heads : List Head) → ((q : PartsPlace) → HasPartsAt n blocks q → ArePartsApart n p q) → AllByRecursion (λ h. HasPartsAt n blocks h.place) heads → IsPlaceApart n p heads
apart_all n p blocks heads apart all = all_weaker (λ (h : Head). HasPartsAt n blocks h.place) (λ h. ArePartsApart n p h.place) (λ h has. apart h.place has) heads all

all-insert : (P : Head → Type 0) (heads : List Head) (at : ℕ) (h : Head) → AllByRecursion P heads → P h → AllByRecursion P (insert heads at h)
all-insert P heads zero h all p = (p, all)
all-insert P [] (suc at) h all p = (p, all)
all-insert P (x ∷ heads) (suc at) h all p = (all.0, all-insert P heads at h all.1 p)

apart-insert : (n : ℕ) (heads : List Head) (at : ℕ) (h : Head) → AreHeadsApart n heads → IsPlaceApart n h.place heads → AreHeadsApart n (insert heads at h)
apart-insert n heads zero h all new = (new, all)
apart-insert n [] (suc at) h all new = (new, all)
apart-insert n (x ∷ heads) (suc at) h all new =
    (all-insert (λ g. ArePartsApart n x.place g.place) heads at h all.0 (apart_back n h.place x.place new.0), apart-insert n heads at h all.1 new.1)

pub shown-insert : (n : ℕ) (blocks : List (List Summary)) (heads : List Head) (at : ℕ) (h : Head) → shown_groups n blocks (insert heads at h) ≡ insert (shown_groups n blocks heads) at (shown_group n blocks h)
shown-insert n blocks heads zero h = refl
shown-insert n blocks [] (suc at) h = refl
shown-insert n blocks (x ∷ heads) (suc at) h = ap (λ gs. shown_group n blocks x ∷ gs) (shown-insert n blocks heads at h)

pub stand-insert : (n : ℕ) (old new : List (List Summary)) (heads : List Head) (at : ℕ) (h : Head) (parts : List Summary) → length parts ≡ n → Keeps old new → IsPutAt parts old new h.place → StandIn n old heads → StandIn n new (insert heads at h)
stand-insert n old new heads at h parts many keeps put stand =
    let there : HasPartsAt n new h.place = subst (λ m. HasPartsAt m new h.place) many put.there in
    let apart : (q : PartsPlace) → HasPartsAt n old q → ArePartsApart n h.place q = subst (λ m. (q : PartsPlace) → HasPartsAt m old q → ArePartsApart m h.place q) many put.apart in
    record {
      within = all-insert (λ g. HasPartsAt n new g.place) heads at h (within_kept n old new heads keeps stand.within) there;
      apart = apart-insert n heads at h stand.apart (apart_all n h.place old heads apart stand.within);
    }

pub shown_put : (n : ℕ) (old new : List (List Summary)) (heads : List Head) (at : ℕ) (h : Head) (parts : List Summary) (g : Group) → length parts ≡ n → Keeps old new → IsPutAt parts old new h.place → StandIn n old heads
    → h.start ≡ g.start → h.keys ≡ g.keys → parts ≡ g.parts → shown_groups n new (insert heads at h) ≡ insert (shown_groups n old heads) at g
shown_put n old new heads at h parts g many keeps put stand start keys is =
    let are : parts_at n new h.place ≡ g.parts = subst (λ m. parts_at m new h.place ≡ parts) many put.are ∙ is in
    let with : ℤ → List (Option ℤ) → List Summary → Group = λ s ks ps. record { start = s; keys = ks; parts = ps } in
    let made : shown_group n new h ≡ g =
    ap (λ s. with s h.keys (parts_at n new h.place)) start ∙ (ap (λ ks. with g.start ks (parts_at n new h.place)) keys ∙ ap (λ ps. with g.start g.keys ps) are) in
    shown-insert n new heads at h ∙ (ap (λ gs. insert gs at (shown_group n new h)) (shown_kept n old new heads keeps stand.within) ∙ ap (insert (shown_groups n old heads) at) made)

-- whether a head was inserted, or memory ran out
pub stand_tried : {X E : Type 0} (result : Result X E) (n : ℕ) (blocks : List (List Summary)) (old new : List Head) (at : ℕ) (h : Head) → OnOk result (new ≡ insert old at h) → OnErr result (new ≡ old) → StandIn n blocks (insert old at h) → StandIn n blocks old → StandIn n blocks new
stand_tried (Ok x) n blocks old new at h put kept with without = subst (StandIn n blocks) (sym put) with
stand_tried (Err x) n blocks old new at h put kept with without = subst (StandIn n blocks) (sym kept) without

-- ---- how many parts each group has

length-parts_at : (n : ℕ) (blocks : List (List Summary)) (p : PartsPlace) → HasPartsAt n blocks p → length (parts_at n blocks p) ≡ n
length-parts_at n blocks p has =
    let xs = get_or blocks p.block [] in
    omega (arith, has.within, length-take n (drop p.from xs), length-drop p.from xs)

-- groups with this many parts each have the recorded number
same_number : (n m : ℕ) (blocks : List (List Summary)) (h : Head) (hs : List Head) → StandIn n blocks (h ∷ hs) → HaveParts m (shown_groups n blocks (h ∷ hs)) → m ≡ n
same_number n m blocks h hs stand alike = sym alike.0 ∙ length-parts_at n blocks h.place stand.within.0

pub stand_renumbered : (n m : ℕ) (blocks : List (List Summary)) (heads : List Head) → StandIn n blocks heads → HaveParts m (shown_groups n blocks heads) → StandIn m blocks heads
stand_renumbered n m blocks [] stand alike = record { within = tt; apart = tt }
stand_renumbered n m blocks (h ∷ hs) stand alike = subst (λ k. StandIn k blocks (h ∷ hs)) (sym (same_number n m blocks h hs stand alike)) stand

pub shown_renumbered : (n m : ℕ) (blocks : List (List Summary)) (heads : List Head) → StandIn n blocks heads → HaveParts m (shown_groups n blocks heads) → shown_groups m blocks heads ≡ shown_groups n blocks heads
shown_renumbered n m blocks [] stand alike = refl
shown_renumbered n m blocks (h ∷ hs) stand alike = ap (λ k. shown_groups k blocks (h ∷ hs)) (same_number n m blocks h hs stand alike)

-- ---- a row added to one group

apart_from : (n : ℕ) (q p : PartsPlace) (heads : List Head) (at : ℕ) (d : Head) → IsPlaceApart n q heads → at < length heads → p ≡ (get_or heads at d).place → ArePartsApart n p q
apart_from n q p [] at d all low own = absurd (omega arith)
apart_from n q p (h ∷ hs) zero d all low own = apart_back n q p (subst (ArePartsApart n q) (sym own) all.0)
apart_from n q p (h ∷ hs) (suc at) d all low own = apart_from n q p hs at d all.1 (omega arith) own

module _ (n : ℕ) (old new : List (List Summary)) (p : PartsPlace) (block js : List Summary) (has : HasPartsAt n old p) (many : length js ≡ n) (was : block ≡ get_or old p.block block) (is : new ≡ set old p.block (replaced p.from n js block)) where
  was_too : get_or old p.block [] ≡ block
  was_too = get_or_default old p.block [] block has.block ∙ sym was

  fits : p.from + n ≤ length block
  fits = subst (λ xs. p.from + n ≤ length xs) was_too has.within

  own_now : get_or new p.block [] ≡ replaced p.from n js block
  own_now = ap (λ bs. get_or bs p.block []) is ∙ get_or-set_same old p.block (replaced p.from n js block) [] has.block

  as_many : length new ≡ length old
  as_many = ap length is ∙ length-set old p.block (replaced p.from n js block)

  elsewhere_now : (q : PartsPlace) → HasPartsAt n old q → ArePartsApart n p q → HasPartsAt n new q × (parts_at n new q ≡ parts_at n old q)
  elsewhere_now q there apart =
      ⊎_elim
      (λ e.
      let own : get_or new q.block [] ≡ replaced p.from n js block = ap (λ k. get_or new k []) e ∙ own_now in
      let mine : get_or old q.block [] ≡ block = ap (λ k. get_or old k []) e ∙ was_too in (
        record {
          block = omega (arith, as_many, there.block);
          within = omega (arith, there.within, ap length mine, ap length own, length-replaced p.from n js block many fits);
        },
        ap (λ xs. take n (drop q.from xs)) own ∙ (apart_replaced p.from n q.from js block many fits (apart (sym e)) ∙ sym (ap (λ xs. take n (drop q.from xs)) mine)),
      ))
      (λ order.
      let other : get_or new q.block [] ≡ get_or old q.block [] =
      ap (λ bs. get_or bs q.block []) is
      ∙ get_or-set_other old p.block q.block (replaced p.from n js block) [] (λ e. ⊎_elim (λ l. absurd (omega (arith, e, l))) (λ l. absurd (omega (arith, e, l))) order) in (
        record {
          block = omega (arith, as_many, there.block);
          within = omega (arith, there.within, ap length other);
        },
        ap (λ xs. take n (drop q.from xs)) other,
      ))
      (cases_order q.block p.block)

  own_parts : HasPartsAt n new p × (parts_at n new p ≡ js)
  own_parts = (
    record {
      block = omega (arith, as_many, has.block);
      within = omega (arith, ap length own_now, length-replaced p.from n js block many fits, fits);
    },
    ap (λ xs. take n (drop p.from xs)) own_now ∙ own_replaced p.from n js block many fits,
  )

  others_stand : (heads : List Head) → AllByRecursion (λ h. HasPartsAt n old h.place) heads → IsPlaceApart n p heads → AllByRecursion (λ h. HasPartsAt n new h.place) heads
  others_stand [] all apart = tt
  others_stand (h ∷ hs) all apart = ((elsewhere_now h.place all.0 apart.0).0, others_stand hs all.1 apart.1)

  others_shown : (heads : List Head) → AllByRecursion (λ h. HasPartsAt n old h.place) heads → IsPlaceApart n p heads → shown_groups n new heads ≡ shown_groups n old heads
  others_shown [] all apart = refl
  others_shown (h ∷ hs) all apart =
      ap (λ parts. with_parts h parts ∷ shown_groups n new hs) (elsewhere_now h.place all.0 apart.0).1 ∙ ap (λ gs. shown_group n old h ∷ gs) (others_shown hs all.1 apart.1)

  within_added : (heads : List Head) (at : ℕ) (d : Head) → at < length heads → p ≡ (get_or heads at d).place → StandIn n old heads → AllByRecursion (λ h. HasPartsAt n new h.place) heads
  within_added [] at d low own stand = tt
  within_added (h ∷ hs) zero d low own stand =
      (subst (HasPartsAt n new) own own_parts.0, others_stand hs stand.within.1 (subst (λ q. IsPlaceApart n q hs) (sym own) stand.apart.0))
  within_added (h ∷ hs) (suc at) d low own stand = (
    (elsewhere_now h.place stand.within.0 (apart_from n h.place p hs at d stand.apart.0 (omega arith) own)).0,
    within_added hs at d (omega arith) own (record { within = stand.within.1; apart = stand.apart.1 }),
  )

  pub stand_added : (heads : List Head) (at : ℕ) (d : Head) → at < length heads → p ≡ (get_or heads at d).place → StandIn n old heads → StandIn n new heads
  stand_added heads at d low own stand = record { within = within_added heads at d low own stand; apart = stand.apart }

  pub shown_added : (heads : List Head) (at : ℕ) (d : Head) → at < length heads → p ≡ (get_or heads at d).place → StandIn n old heads → shown_groups n new heads ≡ set (shown_groups n old heads) at (with_parts (get_or heads at d) js)
  shown_added [] at d low own stand = absurd (omega arith)
  shown_added (h ∷ hs) zero d low own stand =
      ap (λ parts. with_parts h parts ∷ shown_groups n new hs) (subst (λ q. parts_at n new q ≡ js) own own_parts.1)
      ∙ ap (λ gs. with_parts h js ∷ gs) (others_shown hs stand.within.1 (subst (λ q. IsPlaceApart n q hs) (sym own) stand.apart.0))
  shown_added (h ∷ hs) (suc at) d low own stand =
      ap (λ parts. with_parts h parts ∷ shown_groups n new hs) (elsewhere_now h.place stand.within.0 (apart_from n h.place p hs at d stand.apart.0 (omega arith) own)).1
      ∙ ap (λ gs. shown_group n old h ∷ gs) (shown_added hs at d (omega arith) own (record { within = stand.within.1; apart = stand.apart.1 }))

-- ---- the same for the head at a place

parts_there : (n : ℕ) (blocks : List (List Summary)) (heads : List Head) (at : ℕ) (d : Head) → AllByRecursion (λ h. HasPartsAt n blocks h.place) heads → at < length heads → HasPartsAt n blocks (get_or heads at d).place
parts_there n blocks [] at d all low = absurd (omega arith)
parts_there n blocks (h ∷ hs) zero d all low = all.0
parts_there n blocks (h ∷ hs) (suc at) d all low = parts_there n blocks hs at d all.1 (omega arith)

module _ (n : ℕ) (blocks : List (List Summary)) (heads : List Head) (at : ℕ) (head : Head) (block : List Summary) (stand : StandIn n blocks heads) (low : at < length heads) (is : head ≡ get_or heads at head) (was : block ≡ get_or blocks head.place.block block) where
  own_there : HasPartsAt n blocks head.place
  own_there = subst (λ h. HasPartsAt n blocks h.place) (sym is) (parts_there n blocks heads at head stand.within low)

  own_block : get_or blocks head.place.block [] ≡ block
  own_block = get_or_default blocks head.place.block [] block own_there.block ∙ sym was

  own_part : take n (drop head.place.from block) ≡ parts_at n blocks head.place
  own_part = ap (λ xs. take n (drop head.place.from xs)) (sym own_block)

  -- the group is the one that is shown there
  pub shown_there : (groups : List Group) → shown_groups n blocks heads ≡ groups → (d : Group) → get_or groups at d ≡ shown_group n blocks head
  shown_there groups are d =
      ap (λ gs. get_or gs at d) (sym are) ∙ (get_or-map (shown_group n blocks) heads at head d low ∙ ap (shown_group n blocks) (sym is))

  module _ (fold : Fold) (row : Row) (aggs : List Agg) (aggs_are : aggs ≡ fold.aggs) (groups : List Group) (are : shown_groups n blocks heads ≡ groups) (below : (d : Group) → IsBelow (2 ^ 62 - 1) fold (get_or groups at d)) where
    own_below : IsBelow (2 ^ 62 - 1) fold (shown_group n blocks head)
    own_below = subst (IsBelow (2 ^ 62 - 1) fold) (shown_there groups are (shown_group n blocks head)) (below (shown_group n blocks head))

    as_many_parts : length aggs ≡ n
    as_many_parts = ap length aggs_are ∙ (sym own_below.0 ∙ length-parts_at n blocks head.place own_there)

    pub fits_block : head.place.from + length aggs ≤ length block
    fits_block = omega (arith, as_many_parts, own_there.within, ap length own_block)

    pub room_in_block : AllByRecursion (λ p. p.count < 2 ^ 62 - 1) (take (length aggs) (drop head.place.from block))
    room_in_block =
        subst (λ k. AllByRecursion (λ p. p.count < 2 ^ 62 - 1) (take k (drop head.place.from block))) (sym as_many_parts)
        (subst (AllByRecursion (λ p. p.count < 2 ^ 62 - 1)) (sym own_part) own_below.1)

    module _ (made : List Summary) (made_is : made ≡ take head.place.from block ++ (joined_parts (take (length aggs) (drop head.place.from block)) (row_parts aggs row) ++ drop (head.place.from + length aggs) block)) where
      made_so : made ≡ replaced head.place.from n (joined_parts (take n (drop head.place.from block)) (row_parts aggs row)) block
      made_so =
          subst (λ k. made ≡ take head.place.from block ++ (joined_parts (take k (drop head.place.from block)) (row_parts aggs row) ++ drop (head.place.from + k) block)) as_many_parts made_is

      many_more : length (joined_parts (take n (drop head.place.from block)) (row_parts aggs row)) ≡ n
      many_more =
          let mine : length (take n (drop head.place.from block)) ≡ n = ap length own_part ∙ length-parts_at n blocks head.place own_there in
          length-joined_parts (take n (drop head.place.from block)) (row_parts aggs row) (mine ∙ (sym as_many_parts ∙ sym (length-row_parts aggs row))) ∙ mine

      pub stand_grown : StandIn n (set blocks head.place.block made) heads
      stand_grown =
          stand_added n blocks (set blocks head.place.block made) head.place block (joined_parts (take n (drop head.place.from block)) (row_parts aggs row)) own_there many_more was
          (ap (set blocks head.place.block) made_so) heads at head low (ap (λ (h : Head). h.place) is) stand

      pub shown_grown : (d : Group) → shown_groups n (set blocks head.place.block made) heads ≡ set groups at (group_with_row fold row (get_or groups at d))
      shown_grown d =
          let js = joined_parts (take n (drop head.place.from block)) (row_parts aggs row) in
          let now : with_parts head js ≡ group_with_row fold row (get_or groups at d) =
          ap (λ ps. with_parts head (joined_parts ps (row_parts aggs row))) own_part
          ∙ (ap (λ more. with_parts head (joined_parts (parts_at n blocks head.place) (row_parts more row))) aggs_are ∙ ap (group_with_row fold row) (sym (shown_there groups are d))) in
          shown_added n blocks (set blocks head.place.block made) head.place block js own_there many_more was
          (ap (set blocks head.place.block) made_so) heads at head low (ap (λ (h : Head). h.place) is) stand
          ∙ (ap (λ gs. set gs at (with_parts (get_or heads at head) js)) are ∙ (ap (λ h. set groups at (with_parts h js)) (sym is) ∙ ap (set groups at) now))

-- ---- a group at a place

pub is_at_head : (n : ℕ) (blocks : List (List Summary)) (heads : List Head) (g : Group) (at : ℕ) → IsHeadAt g heads at → IsAt g (shown_groups n blocks heads) at
is_at_head n blocks heads g at is = record {
  within = omega (arith, is.within, length-map heads (shown_group n blocks));
  same = λ d. at_some heads at d is.within (λ h. is.same h);
}
  where
    at_some : (hs : List Head) (k : ℕ) (d : Group) → k < length hs → ((h : Head) → group_cmp (shown_group 0 [] (get_or hs k h)) g ≡ Equal) → group_cmp (get_or (shown_groups n blocks hs) k d) g ≡ Equal
    at_some [] k d low same = absurd (omega arith)
    at_some (h ∷ hs) zero d low same = same h
    at_some (h ∷ hs) (suc k) d low same = at_some hs k d (omega arith) same
