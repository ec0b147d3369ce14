-- Laws of a log: what its hulls touch, and what feeding them makes pending.
use Rattle.std.proofs.Common.{◌≡◌, ℕ, suc, ◌≤◌, max, Bool, true, false, ◌||◌, ◌&&◌, cond, nat_lt, nat_le, List, [], ◌∷◌, ◌++◌, ℤ, ◌+ℤ◌, ◌≤ℤ◌, int_lt, Option, Some, None, refl, sym, ap, ◌∙◌, arith}
use Rattle.std.specs.Prelude.{is_some}
use Rattle.std.proofs.lemmas.Bool.{true≢false, and_parts, and_from}
use Rattle.std.proofs.lemmas.Bool.Decides.{nat_tests}
use Rattle.std.proofs.lemmas.Int.{ints}
use Rattle.std.proofs.Math.Bool.{or-false, or_assoc}
use Rattle.ts_bucket.specs.Positions.{later, is_above, is_before, above, above_last}
use Rattle.ts_bucket.specs.Spans.{meets}
use Rattle.ts_bucket.specs.declared.spans.Hull.{Hull}
use Rattle.ts_bucket.specs.declared.widths.Width.{Width}
use Rattle.ts_bucket.proofs.PositionLaws.{later-none, later-assoc, above-later, above-nothing, above-above_last, above_last-later, above_last-twice, above_last-before, above_last-nothing, is_some-later, is_some-above}
use Rattle.ts_bucket.proofs.TouchLaws.{log_touch-append}
use Rattle.ts_bucket.specs.Touches.{Noted, log_touch}
use Rattle.ts_model.specs.Refreshes.{is_met}
use Rattle.coverage.specs.Notes.{log_after, fed_one, pending_after}
use Rattle.coverage.specs.Coverage.{RisesFrom, is_upto}

-- ---- what a log touches

missed : (w : Width) (b threshold : ℤ) (hull : Hull) → (b +ℤ w.step) ≤ℤ threshold → int_lt hull.least threshold ≡ false → meets w b hull ≡ false
missed w b threshold hull below above = grind (arith, ints)

-- in a bucket that ends at or below the threshold, a commit's hull is logged if it meets the bucket
pub log_touch-logged : (w : Width) (b : ℤ) (hull : Option Hull) (k : ℕ) (threshold : ℤ) (log : List Noted) → (b +ℤ w.step) ≤ℤ threshold → log_touch w b (log_after hull k threshold log) ≡ later (log_touch w b log) (cond (is_met w b hull) (Some k) None)
log_touch-logged w b None k threshold log below = sym (later-none (log_touch w b log))
log_touch-logged w b (Some hull) k threshold log below =
    elim (int_lt hull.least threshold) as (λ t. int_lt hull.least threshold ≡ t → log_touch w b (cond t (log ++ (record { hull = hull; at = k } ∷ [])) log) ≡ later (log_touch w b log) (cond (meets w b hull) (Some k) None)) [
      | true ↦ λ _. log_touch-append w b log (record { hull = hull; at = k })
      | false ↦ λ above. sym (ap (λ m. later (log_touch w b log) (cond m (Some k) None)) (missed w b threshold hull below above) ∙ later-none (log_touch w b log))
    ] refl

-- ---- a log that rises

rises_below : (q r : ℕ) (p : Option ℕ) → is_before q p ≡ true → nat_lt q r ≡ true → is_before r p ≡ true
rises_below q r None e f = refl
rises_below q r (Some p) e f = grind (arith, nat_tests)

-- a log that rises from a position rises from each earlier one
pub rises_from_before : (p : Option ℕ) (q : ℕ) (log : List Noted) → is_before q p ≡ true → RisesFrom (Some q) log → RisesFrom p log
rises_from_before p q [] e r = tt
rises_from_before p q (entry ∷ log) e r = (rises_below q entry.at p e r.0, r.1)

before_next : (m q : ℕ) (p : Option ℕ) → is_above m p ≡ false → m ≤ q → is_before (suc q) p ≡ true
before_next m q None e l = refl
before_next m q (Some p) e l = grind (arith, nat_tests)

upto_is : (m q : ℕ) → nat_le q m ≡ true → is_above m (Some q) ≡ false
upto_is m q e = grind (arith, nat_tests)

-- a log still rises with an entry after all others
pub rises_further : (m : ℕ) (p : Option ℕ) (log : List Noted) (hull : Hull) → is_above m p ≡ false → is_upto m log ≡ true → RisesFrom p log → RisesFrom p (log ++ (record { hull = hull; at = suc m } ∷ []))
rises_further m p [] hull past upto r = (before_next m m p past (omega arith), tt)
rises_further m p (entry ∷ log) hull past upto r =
    let parts = and_parts (nat_le entry.at m) (is_upto m log) upto in
    (r.0, rises_further m (Some entry.at) log hull (upto_is m entry.at parts.0) parts.1 r.1)

pub rises-logged : (m : ℕ) (p : Option ℕ) (log : List Noted) (hull : Option Hull) (threshold : ℤ) → is_above m p ≡ false → is_upto m log ≡ true → RisesFrom p log → RisesFrom p (log_after hull (suc m) threshold log)
rises-logged m p log None threshold past upto r = r
rises-logged m p log (Some hull) threshold past upto r =
    elim (int_lt hull.least threshold) as (λ t. RisesFrom p (cond t (log ++ (record { hull = hull; at = suc m } ∷ [])) log)) [ true ↦ rises_further m p log hull past upto r | false ↦ r ]

-- ---- a log up to a position

le_next : (q m : ℕ) → nat_le q m ≡ true → nat_le q (suc m) ≡ true
le_next q m e = grind (arith, nat_tests)

pub upto_next : (m : ℕ) (log : List Noted) → is_upto m log ≡ true → is_upto (suc m) log ≡ true
upto_next m [] e = refl
upto_next m (entry ∷ log) e =
    let parts = and_parts (nat_le entry.at m) (is_upto m log) e in
    and_from _ _ (le_next entry.at m parts.0) (upto_next m log parts.1)

le_self : (m : ℕ) → nat_le m m ≡ true
le_self m = grind (arith, nat_tests)

upto_further : (m : ℕ) (log : List Noted) (hull : Hull) → is_upto m log ≡ true → is_upto (suc m) (log ++ (record { hull = hull; at = suc m } ∷ [])) ≡ true
upto_further m [] hull e = and_from _ _ (le_self (suc m)) refl
upto_further m (entry ∷ log) hull e =
    let parts = and_parts (nat_le entry.at m) (is_upto m log) e in
    and_from _ _ (le_next entry.at m parts.0) (upto_further m log hull parts.1)

pub upto-logged : (m : ℕ) (log : List Noted) (hull : Option Hull) (threshold : ℤ) → is_upto m log ≡ true → is_upto (suc m) (log_after hull (suc m) threshold log) ≡ true
upto-logged m log None threshold e = upto_next m log e
upto-logged m log (Some hull) threshold e =
    elim (int_lt hull.least threshold) as (λ t. is_upto (suc m) (cond t (log ++ (record { hull = hull; at = suc m } ∷ [])) log) ≡ true) [ true ↦ upto_further m log hull e | false ↦ upto_next m log e ]

-- ---- what feeding makes pending

later_greater : (p : Option ℕ) (q : ℕ) → is_before q p ≡ true → later p (Some q) ≡ Some q
later_greater None q e = refl
later_greater (Some p) q e = ap Some (let m : max p q ≡ q = grind (arith, nat_tests) in m)

not_before_at : (s q : ℕ) (last : Option ℕ) → is_before q last ≡ false → is_above s last ≡ false → is_above s (Some q) ≡ false
not_before_at s q None e f = absurd (true≢false e)
not_before_at s q (Some r) e f = grind (arith, nat_tests)

-- above a position that the last refresh isn't above, what is pending after a log that rises was fed is the greatest of what was pending and what the log touches
pub above-fed : (w : Width) (b : ℤ) (s : ℕ) (last p : Option ℕ) (log : List Noted) → is_above s last ≡ false → RisesFrom p log → above s (pending_after w b last log p) ≡ above s (later p (log_touch w b log))
above-fed w b s last p [] low r = ap (above s) (sym (later-none p))
above-fed w b s last p (entry ∷ log) low r =
    elim (meets w b entry.hull) as (λ m. above s (pending_after w b last log (cond (m && is_before entry.at last) (Some entry.at) p)) ≡ above s (later p (later (cond m (Some entry.at) None) (log_touch w b log)))) [
      | true ↦
          elim (is_before entry.at last) as (λ t. is_before entry.at last ≡ t → above s (pending_after w b last log (cond t (Some entry.at) p)) ≡ above s (later p (later (Some entry.at) (log_touch w b log)))) [
            | true ↦ λ _.
                above-fed w b s last (Some entry.at) log low r.1
                ∙ ap (above s) (ap (λ q. later q (log_touch w b log)) (sym (later_greater p entry.at r.0)) ∙ later-assoc p (Some entry.at) (log_touch w b log))
            | false ↦ λ refreshed.
                let none : above s (Some entry.at) ≡ None = above-nothing s (Some entry.at) (not_before_at s entry.at last refreshed low) in
                let here : above s (later (Some entry.at) (log_touch w b log)) ≡ above s (log_touch w b log) = above-later s (Some entry.at) (log_touch w b log) ∙ ap (λ q. later q (above s (log_touch w b log))) none in
                above-fed w b s last p log low (rises_from_before p entry.at log r.0 r.1)
                ∙ (above-later s p (log_touch w b log) ∙ (ap (later (above s p)) (sym here) ∙ sym (above-later s p (later (Some entry.at) (log_touch w b log)))))
          ] refl
      | false ↦ above-fed w b s last p log low (rises_from_before p entry.at log r.0 r.1)
    ]

-- what is fed is pending
pub is_some-fed : (w : Width) (b : ℤ) (last p : Option ℕ) (log : List Noted) → is_some p ≡ true → is_some (pending_after w b last log p) ≡ true
is_some-fed w b last p [] e = e
is_some-fed w b last p (entry ∷ log) e =
    is_some-fed w b last (fed_one w b last entry p) log (elim (meets w b entry.hull && is_before entry.at last) as (λ t. is_some (cond t (Some entry.at) p) ≡ true) [ true ↦ refl | false ↦ e ])

-- an entry that meets the bucket is fed if and only if it is above the last refresh
fed_above : (last : Option ℕ) (q : ℕ) → is_some (above_last last (Some q)) ≡ is_before q last
fed_above None q = refl
fed_above (Some s) q = is_some-above s (Some q)

some_one : (w : Width) (b : ℤ) (last p : Option ℕ) (entry : Noted) → is_some (fed_one w b last entry p) ≡ (is_some p || is_some (above_last last (cond (meets w b entry.hull) (Some entry.at) None)))
some_one w b last p entry =
    elim (meets w b entry.hull) as (λ m. is_some (cond (m && is_before entry.at last) (Some entry.at) p) ≡ (is_some p || is_some (above_last last (cond m (Some entry.at) None)))) [
      | true ↦ choice (is_before entry.at last) p ∙ ap (λ t. is_some p || t) (sym (fed_above last entry.at))
      | false ↦ sym (ap (λ q. is_some p || is_some q) (above_last-nothing last) ∙ or-false (is_some p))
    ]
  where
    choice : (t : Bool) (p : Option ℕ) → is_some (cond t (Some entry.at) p) ≡ (is_some p || t)
    choice true None = refl
    choice true (Some q) = refl
    choice false None = refl
    choice false (Some q) = refl

-- something is pending after a log was fed if and only if something was pending, or the log touches the bucket
-- above the last refresh
pub some-fed : (w : Width) (b : ℤ) (last p : Option ℕ) (log : List Noted) → is_some (pending_after w b last log p) ≡ (is_some p || is_some (above_last last (log_touch w b log)))
some-fed w b last p [] = sym (ap (λ q. is_some p || is_some q) (above_last-nothing last) ∙ or-false (is_some p))
some-fed w b last p (entry ∷ log) =
    let here : Option ℕ = cond (meets w b entry.hull) (Some entry.at) None in
    let rest : Option ℕ = log_touch w b log in
    some-fed w b last (fed_one w b last entry p) log
    ∙ ap (λ t. t || is_some (above_last last rest)) (some_one w b last p entry)
    ∙ or_assoc (is_some p) (is_some (above_last last here)) (is_some (above_last last rest))
    ∙ ap (λ t. is_some p || t) (sym (ap is_some (above_last-later last here rest) ∙ is_some-later (above_last last here) (above_last last rest)))

-- and above the last refresh
fresh_one : (w : Width) (b : ℤ) (last p : Option ℕ) (entry : Noted) → above_last last p ≡ p → above_last last (fed_one w b last entry p) ≡ fed_one w b last entry p
fresh_one w b last p entry e =
    elim (meets w b entry.hull) as (λ m. above_last last (cond (m && is_before entry.at last) (Some entry.at) p) ≡ cond (m && is_before entry.at last) (Some entry.at) p) [
      | true ↦
          elim (is_before entry.at last) as (λ t. is_before entry.at last ≡ t → above_last last (cond t (Some entry.at) p) ≡ cond t (Some entry.at) p) [
            | true ↦ λ before. above_last-before last entry.at before
            | false ↦ λ _. e
          ] refl
      | false ↦ e
    ]

pub fresh-fed : (w : Width) (b : ℤ) (last p : Option ℕ) (log : List Noted) → above_last last p ≡ p → above_last last (pending_after w b last log p) ≡ pending_after w b last log p
fresh-fed w b last p [] e = e
fresh-fed w b last p (entry ∷ log) e = fresh-fed w b last (fed_one w b last entry p) log (fresh_one w b last p entry e)

-- and not after the last position of the log
pub past-fed : (m : ℕ) (w : Width) (b : ℤ) (last p : Option ℕ) (log : List Noted) → is_above m p ≡ false → is_upto m log ≡ true → is_above m (pending_after w b last log p) ≡ false
past-fed m w b last p [] past upto = past
past-fed m w b last p (entry ∷ log) past upto =
    let parts = and_parts (nat_le entry.at m) (is_upto m log) upto in
    let here = upto_is m entry.at parts.0 in
    past-fed m w b last (fed_one w b last entry p) log (elim (meets w b entry.hull && is_before entry.at last) as (λ t. is_above m (cond t (Some entry.at) p) ≡ false) [ true ↦ here | false ↦ past ]) parts.1

-- ---- pending positions

-- above a position that the last refresh isn't above, the pending position is the greatest of what is pending and what the log touches
pub above-pending : (s : ℕ) (last p q : Option ℕ) → is_above s last ≡ false → above s (later p (above_last last q)) ≡ above s (later p q)
above-pending s last p q low =
    above-later s p (above_last last q) ∙ (ap (later (above s p)) (above-above_last s last q low) ∙ sym (above-later s p q))

-- with an empty log the pending position is what is pending
pub pending-alone : (last p : Option ℕ) → later p (above_last last None) ≡ p
pending-alone last p = ap (later p) (above_last-nothing last) ∙ later-none p

-- the pending position is above the last refresh, if what is pending is
pub fresh-pending : (last p q : Option ℕ) → above_last last p ≡ p → above_last last (later p (above_last last q)) ≡ later p (above_last last q)
fresh-pending last p q e =
    above_last-later last p (above_last last q) ∙ (ap (λ x. later x (above_last last (above_last last q))) e ∙ ap (later p) (above_last-twice last q))
