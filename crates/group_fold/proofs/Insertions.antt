-- A group inserted in its place: where it ends up, and that the order in which groups are inserted has no
-- effect.
use Rattle.std.proofs.Common.{◌≡◌, List, [], ◌∷◌, ◌++◌, sym, refl, ap, ◌∙◌}
use Rattle.std.specs.List.{AllByRecursion}
use Rattle.std.specs.Ordering.{ordering_reverse}
use Rattle.std.specs.declared.cmp.Ordering.{Ordering}
use Rattle.std.specs.declared.cmp.Ordering.TheVariants.{Less, Equal, Greater}
use Rattle.std.proofs.lemmas.Cmp.{tied_back, alike_right}
use Rattle.partial_agg.specs.declared.groups.Group.{Group}
use Rattle.partial_agg.specs.Summaries.{Summary, summary_of_both}
use Rattle.partial_agg.specs.Groups.{group_cmp}
use Rattle.partial_agg.proofs.GroupLaws.{group_cmp_total, group_cmp-place}
use Rattle.partial_agg.proofs.Joined.{joined_assoc, joined_comm}
use Rattle.group_fold.specs.Merging.{joined_parts, merge_of, with_group, with_groups}

-- ---- cases on an order

pub by_order : {G : Type 0} (o : Ordering) → (o ≡ Less → G) → (o ≡ Equal → G) → (o ≡ Greater → G) → G
by_order Less less equal greater = less refl
by_order Equal less equal greater = equal refl
by_order Greater less equal greater = greater refl

pub less_back : (g h : Group) → group_cmp g h ≡ Less → group_cmp h g ≡ Greater
less_back g h e = group_cmp_total.antisymm h g ∙ ap ordering_reverse e

pub greater_back : (g h : Group) → group_cmp g h ≡ Greater → group_cmp h g ≡ Less
greater_back g h e = group_cmp_total.antisymm h g ∙ ap ordering_reverse e

pub equal_back : (g h : Group) → group_cmp g h ≡ Equal → group_cmp h g ≡ Equal
equal_back g h e = tied_back group_cmp_total g h e

pub less_trans : (g h k : Group) → group_cmp g h ≡ Less → group_cmp h k ≡ Less → group_cmp g k ≡ Less
less_trans g h k p q = group_cmp_total.trans g h k p q

pub greater_trans : (g h k : Group) → group_cmp g h ≡ Greater → group_cmp h k ≡ Greater → group_cmp g k ≡ Greater
greater_trans g h k p q = less_back k g (less_trans k h g (greater_back h k q) (greater_back g h p))

-- equal groups compare alike
pub alike : (g h k : Group) → group_cmp g h ≡ Equal → group_cmp g k ≡ group_cmp h k
alike g h k e = group_cmp_total.congr g h k e

pub alike_to : (g h k : Group) → group_cmp g h ≡ Equal → group_cmp k g ≡ group_cmp k h
alike_to g h k e = alike_right group_cmp_total g h k e

-- ---- one step of putting a group in

pub at_less : (g x : Group) (xs : List Group) → group_cmp g x ≡ Less → with_group g (x ∷ xs) ≡ g ∷ x ∷ xs
at_less g x xs e = rw e refl

pub at_equal : (g x : Group) (xs : List Group) → group_cmp g x ≡ Equal → with_group g (x ∷ xs) ≡ merge_of g x ∷ xs
at_equal g x xs e = rw e refl

pub at_greater : (g x : Group) (xs : List Group) → group_cmp g x ≡ Greater → with_group g (x ∷ xs) ≡ x ∷ with_group g xs
at_greater g x xs e = rw e refl

-- ---- where a group ends up

pub with_group-front : (g : Group) (xs : List Group) → AllByRecursion (λ x. group_cmp g x ≡ Less) xs → with_group g xs ≡ g ∷ xs
with_group-front g [] h = refl
with_group-front g (x ∷ xs) h = at_less g x xs h.0

pub with_group-low : (g : Group) (xs ys : List Group) → AllByRecursion (λ y. group_cmp g y ≡ Less) ys → with_group g (xs ++ ys) ≡ with_group g xs ++ ys
with_group-low g [] ys h = with_group-front g ys h
with_group-low g (x ∷ xs) ys h =
    by_order (group_cmp g x)
    (λ e. at_less g x (xs ++ ys) e ∙ ap (λ zs. zs ++ ys) (sym (at_less g x xs e)))
    (λ e. at_equal g x (xs ++ ys) e ∙ ap (λ zs. zs ++ ys) (sym (at_equal g x xs e)))
    (λ e. at_greater g x (xs ++ ys) e ∙ ap (λ zs. x ∷ zs) (with_group-low g xs ys h) ∙ ap (λ zs. zs ++ ys) (sym (at_greater g x xs e)))

pub with_group-past : (g : Group) (xs ys : List Group) → AllByRecursion (λ x. group_cmp g x ≡ Greater) xs → with_group g (xs ++ ys) ≡ xs ++ with_group g ys
with_group-past g [] ys h = refl
with_group-past g (x ∷ xs) ys h = at_greater g x (xs ++ ys) h.0 ∙ ap (λ zs. x ∷ zs) (with_group-past g xs ys h.1)

-- ---- merging

joined_parts_assoc : (ps qs rs : List Summary) → joined_parts (joined_parts ps qs) rs ≡ joined_parts ps (joined_parts qs rs)
joined_parts_assoc [] qs rs = refl
joined_parts_assoc (p ∷ ps) [] rs = refl
joined_parts_assoc (p ∷ ps) (q ∷ qs) [] = refl
joined_parts_assoc (p ∷ ps) (q ∷ qs) (r ∷ rs) =
    ap (λ s. s ∷ joined_parts (joined_parts ps qs) rs) (joined_assoc p q r) ∙ ap (λ ss. summary_of_both p (summary_of_both q r) ∷ ss) (joined_parts_assoc ps qs rs)

pub joined_parts_comm : (ps qs : List Summary) → joined_parts ps qs ≡ joined_parts qs ps
joined_parts_comm [] [] = refl
joined_parts_comm [] (q ∷ qs) = refl
joined_parts_comm (p ∷ ps) [] = refl
joined_parts_comm (p ∷ ps) (q ∷ qs) = ap (λ s. s ∷ joined_parts ps qs) (joined_comm p q) ∙ ap (λ ss. summary_of_both q p ∷ ss) (joined_parts_comm ps qs)

merged_assoc : (f g h : Group) → merge_of (merge_of f g) h ≡ merge_of f (merge_of g h)
merged_assoc f g h =
    let made : List Summary → Group = λ ps. record { start = f.start; keys = f.keys; parts = ps } in
    ap made (joined_parts_assoc f.parts g.parts h.parts)

pub merged_comm : (g h : Group) → group_cmp g h ≡ Equal → merge_of g h ≡ merge_of h g
merged_comm g h e =
    let place = group_cmp-place g h e in
    rw (place.0, place.1, joined_parts_comm g.parts h.parts) refl

-- ---- the order in which groups are inserted

-- two groups of one place: inserted one by one, or merged first
pub with_group-twice : (g h : Group) (xs : List Group) → group_cmp g h ≡ Equal → with_group (merge_of g h) xs ≡ with_group g (with_group h xs)
with_group-twice g h [] e = sym (at_equal g h [] e)
with_group-twice g h (x ∷ xs) e =
    by_order (group_cmp h x)
    (λ o.
    let p : group_cmp (merge_of g h) x ≡ Less = alike g h x e ∙ o in
    at_less (merge_of g h) x xs p ∙ sym (at_equal g h (x ∷ xs) e) ∙ ap (with_group g) (sym (at_less h x xs o)))
    (λ o.
    let p : group_cmp (merge_of g h) x ≡ Equal = alike g h x e ∙ o in
    at_equal (merge_of g h) x xs p ∙ ap (λ m. m ∷ xs) (merged_assoc g h x) ∙ sym (at_equal g (merge_of h x) xs e) ∙ ap (with_group g) (sym (at_equal h x xs o)))
    (λ o.
    let p : group_cmp (merge_of g h) x ≡ Greater = alike g h x e ∙ o in
    let q : group_cmp g x ≡ Greater = alike g h x e ∙ o in
    at_greater (merge_of g h) x xs p ∙ ap (λ zs. x ∷ zs) (with_group-twice g h xs e) ∙ sym (at_greater g x (with_group h xs) q) ∙ ap (with_group g) (sym (at_greater h x xs o)))

-- two groups of different places, inserted in either order
less_first : (g h : Group) (xs : List Group) → group_cmp g h ≡ Less → with_group g (with_group h xs) ≡ with_group h (with_group g xs)
less_first g h [] e = at_less g h [] e ∙ sym (at_greater h g [] (less_back g h e))
less_first g h (x ∷ xs) e =
    by_order (group_cmp h x)
    -- g < h < x
    (λ o.
    let p : group_cmp g x ≡ Less = less_trans g h x e o in
    ap (with_group g) (at_less h x xs o) ∙ at_less g h (x ∷ xs) e ∙ ap (λ zs. g ∷ zs) (sym (at_less h x xs o)) ∙ sym (at_greater h g (x ∷ xs) (less_back g h e)) ∙ ap (with_group h) (sym (at_less g x xs p)))
    -- g < h = x
    (λ o.
    let p : group_cmp g x ≡ Less = sym (alike_to h x g o) ∙ e in
    ap (with_group g) (at_equal h x xs o) ∙ at_less g (merge_of h x) xs e ∙ ap (λ zs. g ∷ zs) (sym (at_equal h x xs o)) ∙ sym (at_greater h g (x ∷ xs) (less_back g h e)) ∙ ap (with_group h) (sym (at_less g x xs p)))
    -- x < h, and g anywhere below h
    (λ o.
    ap (with_group g) (at_greater h x xs o)
    ∙ by_order (group_cmp g x)
    (λ p.
    at_less g x (with_group h xs) p ∙ ap (λ zs. g ∷ zs) (sym (at_greater h x xs o)) ∙ sym (at_greater h g (x ∷ xs) (less_back g h e)) ∙ ap (with_group h) (sym (at_less g x xs p)))
    (λ p.
    at_equal g x (with_group h xs) p ∙ sym (at_greater h (merge_of g x) xs (less_back g h e)) ∙ ap (with_group h) (sym (at_equal g x xs p)))
    (λ p.
    at_greater g x (with_group h xs) p ∙ ap (λ zs. x ∷ zs) (less_first g h xs e) ∙ sym (at_greater h x (with_group g xs) o) ∙ ap (with_group h) (sym (at_greater g x xs p))))

pub with_group-commutes : (g h : Group) (xs : List Group) → with_group g (with_group h xs) ≡ with_group h (with_group g xs)
with_group-commutes g h xs =
    by_order (group_cmp g h)
    (λ e. less_first g h xs e)
    (λ e.
    sym (with_group-twice g h xs e) ∙ ap (λ m. with_group m xs) (merged_comm g h e) ∙ with_group-twice h g xs (equal_back g h e))
    (λ e. sym (less_first h g xs (greater_back g h e)))

-- a group inserted into a list, and the list's groups into another
pub with_groups-with_group : (g : Group) (gs hs : List Group) → with_groups (with_group g gs) hs ≡ with_group g (with_groups gs hs)
with_groups-with_group g [] hs = refl
with_groups-with_group g (x ∷ xs) hs =
    by_order (group_cmp g x)
    (λ e. ap (λ zs. with_groups zs hs) (at_less g x xs e))
    (λ e. ap (λ zs. with_groups zs hs) (at_equal g x xs e) ∙ with_group-twice g x (with_groups xs hs) e)
    (λ e.
    ap (λ zs. with_groups zs hs) (at_greater g x xs e) ∙ ap (with_group x) (with_groups-with_group g xs hs) ∙ with_group-commutes x g (with_groups xs hs))
