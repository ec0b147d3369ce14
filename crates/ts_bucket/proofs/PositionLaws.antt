-- Laws of positions: the later of two doesn't depend on their order, and it commutes with the part above a
-- position or a last refresh.
use Rattle.std.proofs.Common.{◌≡◌, ℕ, ◌≤◌, max, Bool, true, false, ◌||◌, cond, nat_lt, Option, Some, None, refl, sym, ap, ◌∙◌, arith}
use Rattle.std.specs.Prelude.{is_some}
use Rattle.std.proofs.lemmas.Bool.{cond-false}
use Rattle.std.proofs.lemmas.Bool.Decides.{nat_tests}
use Rattle.std.proofs.Math.Nat.{max_comm}
use Rattle.ts_bucket.specs.Positions.{later, is_above, is_before, above, above_last}

-- later has nothing as its unit, on both sides
pub later-none : (p : Option ℕ) → later p None ≡ p
later-none None = refl
later-none (Some p) = refl

pub later-comm : (p q : Option ℕ) → later p q ≡ later q p
later-comm None None = refl
later-comm None (Some q) = refl
later-comm (Some p) None = refl
later-comm (Some p) (Some q) = ap Some (max_comm p q)

pub later-assoc : (p q r : Option ℕ) → later (later p q) r ≡ later p (later q r)
later-assoc None q r = refl
later-assoc (Some p) None r = refl
later-assoc (Some p) (Some q) None = refl
later-assoc (Some p) (Some q) (Some r) = ap Some (let e : max (max p q) r ≡ max p (max q r) = omega arith in e)

pub later-self : (p : Option ℕ) → later p p ≡ p
later-self None = refl
later-self (Some p) = ap Some (let e : max p p ≡ p = omega arith in e)

-- the later of two is above s if and only if one of them is
pub is_above-later : (s : ℕ) (p q : Option ℕ) → is_above s (later p q) ≡ (is_above s p || is_above s q)
is_above-later s None q = refl
is_above-later s (Some p) None = grind (arith, nat_tests)
is_above-later s (Some p) (Some q) = grind (arith, nat_tests)

above_both : (s p q : ℕ) (a b : Bool) → nat_lt s p ≡ a → nat_lt s q ≡ b → above s (Some (max p q)) ≡ later (above s (Some p)) (above s (Some q))
above_both s p q true true e f = grind (arith, nat_tests)
above_both s p q true false e f = grind (arith, nat_tests)
above_both s p q false true e f = grind (arith, nat_tests)
above_both s p q false false e f = grind (arith, nat_tests)

-- what is above s of the later of two is the later of what is above s of each
pub above-later : (s : ℕ) (p q : Option ℕ) → above s (later p q) ≡ later (above s p) (above s q)
above-later s None q = refl
above-later s (Some p) None = sym (later-none (above s (Some p)))
above-later s (Some p) (Some q) = above_both s p q (nat_lt s p) (nat_lt s q) refl refl

-- what is above the greater of two positions
pub above-above : (s t : ℕ) (p : Option ℕ) → above s (above t p) ≡ above (max s t) p
above-above s t None = refl
above-above s t (Some p) = grind (arith, nat_tests)

-- what isn't above a position isn't above a greater one
pub is_above-greater : (s t : ℕ) (p : Option ℕ) → s ≤ t → is_above s p ≡ false → is_above t p ≡ false
is_above-greater s t None l e = refl
is_above-greater s t (Some p) l e = grind (arith, nat_tests)

pub is_above-at : (s p : ℕ) → p ≤ s → is_above s (Some p) ≡ false
is_above-at s p l = grind (arith, nat_tests)

-- nothing is left of what isn't above
pub above-nothing : (s : ℕ) (p : Option ℕ) → is_above s p ≡ false → above s p ≡ None
above-nothing s p e = cond-false (is_above s p) p None e

pub is_some-above : (s : ℕ) (p : Option ℕ) → is_some (above s p) ≡ is_above s p
is_some-above s None = refl
is_some-above s (Some p) = elim (nat_lt s p) as (λ t. is_some (cond t (Some p) None) ≡ t) [ true ↦ refl | false ↦ refl ]

pub is_some-later : (p q : Option ℕ) → is_some (later p q) ≡ (is_some p || is_some q)
is_some-later None q = refl
is_some-later (Some p) None = refl
is_some-later (Some p) (Some q) = refl

-- above the greater of two positions it makes no difference what was left out at the lesser
pub above-lesser : (s t : ℕ) (p : Option ℕ) → t ≤ s → above s (above t p) ≡ above s p
above-lesser s t p l =
    let m : max s t ≡ s = omega arith in
    above-above s t p ∙ ap (λ n. above n p) m

-- what is above a position, above one at or below it
pub above-kept : (s t : ℕ) (p : Option ℕ) → t ≤ s → above t (above s p) ≡ above s p
above-kept s t p l =
    let m : max t s ≡ s = omega arith in
    above-above t s p ∙ ap (λ n. above n p) m

pub is_above-above : (m s : ℕ) (p : Option ℕ) → is_above m p ≡ false → is_above m (above s p) ≡ false
is_above-above m s None e = refl
is_above-above m s (Some p) e = elim (nat_lt s p) as (λ t. is_above m (cond t (Some p) None) ≡ false) [ true ↦ e | false ↦ refl ]

pub is_before-above : (q s : ℕ) (p : Option ℕ) → is_before q p ≡ true → is_before q (above s p) ≡ true
is_before-above q s None e = refl
is_before-above q s (Some p) e = elim (nat_lt s p) as (λ t. is_before q (cond t (Some p) None) ≡ true) [ true ↦ e | false ↦ refl ]

-- ---- above a last refresh

pub at_or_below : (s q : ℕ) → nat_lt s q ≡ false → q ≤ s
at_or_below s q e = grind (arith, nat_tests)

-- above a position that no last refresh is above, what was left out there makes no difference
pub above-above_last : (s : ℕ) (last p : Option ℕ) → is_above s last ≡ false → above s (above_last last p) ≡ above s p
above-above_last s None p e = refl
above-above_last s (Some q) p e = above-lesser s q p (at_or_below s q e)

pub above_last-later : (last p q : Option ℕ) → above_last last (later p q) ≡ later (above_last last p) (above_last last q)
above_last-later None p q = refl
above_last-later (Some s) p q = above-later s p q

pub above_last-twice : (last p : Option ℕ) → above_last last (above_last last p) ≡ above_last last p
above_last-twice None p = refl
above_last-twice (Some s) p = above-kept s s p (omega arith)

pub above_last-nothing : (last : Option ℕ) → above_last last None ≡ None
above_last-nothing None = refl
above_last-nothing (Some s) = refl

-- a position that the last refresh is before is above it
pub above_last-before : (last : Option ℕ) (q : ℕ) → is_before q last ≡ true → above_last last (Some q) ≡ Some q
above_last-before None q e = refl
above_last-before (Some s) q e = ap (λ t. cond t (Some q) None) e

-- a last refresh that is raised to a snapshot, and what was pending above it, and is above the snapshot
pub above_last-raised : (last p : Option ℕ) (snap : ℕ) → above_last last p ≡ p → above_last (later last (Some snap)) (above snap p) ≡ above snap p
above_last-raised None p snap e = above-kept snap snap p (omega arith)
above_last-raised (Some q) p snap e =
    let m : max (max q snap) snap ≡ max snap q = omega arith in
    above-above (max q snap) snap p ∙ (ap (λ n. above n p) m ∙ (sym (above-above snap q p) ∙ ap (above snap) e))

-- what is above a last refresh that was raised to a snapshot is above the snapshot
pub above-raised : (last p : Option ℕ) (snap : ℕ) → above_last (later last (Some snap)) p ≡ p → above snap p ≡ p
above-raised None p snap e = e
above-raised (Some q) p snap e =
    let l : snap ≤ max q snap = omega arith in
    ap (above snap) (sym e) ∙ (above-kept (max q snap) snap p l ∙ e)
