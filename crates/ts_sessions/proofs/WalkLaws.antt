-- Laws of walks: how they continue, in order, and where they broke off.
use Rattle.std.proofs.Common.{Bool, true, false, sym, refl, subst, inl, inr}
use Rattle.std.specs.Prelude.{IsTrue, ◌||◌, is_some}
use Rattle.std.proofs.lemmas.Bool.{true≢false}
use Rattle.ts_model.specs.History.{History}
use Rattle.ts_model.specs.States.{State, stands_still}
use Rattle.ts_sessions.specs.Procedures.{Procedure, sees, adds, ends, followed_by, ending_as}
use Rattle.ts_sessions.specs.Held.{GoesOn}
use Rattle.ts_sessions.specs.Walks.{Walks, Breaks, Sees}
use Rattle.ts_sessions.proofs.StateLaws.{sees_trans, goes_trans, goes_same, goes_seen, goes_made, goes_failed}

-- ---- the state after a walk continues the state before it

pub goes_walks : {A : Type 0} (alone failed : Bool) (old : State) (procedure : Procedure A) (new : State) (y : A) → Walks alone failed old procedure new y → GoesOn old new
goes_walks alone failed old (sees shown f) new y w = goes_trans old w.mid new (goes_seen alone old w.mid w.first) (goes_walks alone failed w.mid (f w.mid.history) new y w.rest)
goes_walks alone failed old (adds e next stop) new y (inl w) = goes_walks alone failed old stop new y w.1
goes_walks alone failed old (adds e next stop) new y (inr (inl w)) = goes_trans old w.mid new (goes_made e old w.mid w.first) (goes_walks alone failed w.mid next new y w.rest)
goes_walks alone failed old (adds e next stop) new y (inr (inr w)) = goes_trans old w.1.mid new (goes_failed e old w.1.mid w.1.first) (goes_walks alone false w.1.mid stop new y w.1.rest)
goes_walks alone failed old (ends a) new y w = goes_same old new w.1

pub goes_breaks : {A : Type 0} (alone : Bool) (old : State) (procedure : Procedure A) (new : State) → Breaks alone old procedure new → GoesOn old new
goes_breaks alone old (sees shown f) new b = goes_trans old b.mid new (goes_seen alone old b.mid b.first) (goes_breaks alone b.mid (f b.mid.history) new b.rest)
goes_breaks alone old (adds e next stop) new (inl b) = goes_same old new b
goes_breaks alone old (adds e next stop) new (inr (inl b)) = goes_breaks alone old stop new b.1
goes_breaks alone old (adds e next stop) new (inr (inr (inl b))) = goes_trans old b.mid new (goes_made e old b.mid b.first) (goes_breaks alone b.mid next new b.rest)
goes_breaks alone old (adds e next stop) new (inr (inr (inr b))) = goes_trans old b.mid new (goes_failed e old b.mid b.first) (goes_breaks alone b.mid stop new b.rest)
goes_breaks alone old (ends a) new b = goes_same old new b

-- ---- where they broke off

-- a walk that ended may have broken off there
pub walks_break : {A : Type 0} (alone failed : Bool) (old : State) (procedure : Procedure A) (new : State) (y : A) → Walks alone failed old procedure new y → Breaks alone old procedure new
walks_break alone failed old (sees shown f) new y w = record { mid = w.mid; first = w.first; rest = walks_break alone failed w.mid (f w.mid.history) new y w.rest }
walks_break alone failed old (adds e next stop) new y (inl w) = inr (inl (w.0, walks_break alone failed old stop new y w.1))
walks_break alone failed old (adds e next stop) new y (inr (inl w)) = inr (inr (inl (record { mid = w.mid; first = w.first; rest = walks_break alone failed w.mid next new y w.rest })))
walks_break alone failed old (adds e next stop) new y (inr (inr w)) = inr (inr (inr (record { mid = w.1.mid; first = w.1.first; rest = walks_break alone false w.1.mid stop new y w.1.rest })))
walks_break alone failed old (ends a) new y w = w.1

-- a procedure that wasn't begun
pub not_begun : {A : Type 0} (alone : Bool) (old : State) (procedure : Procedure A) → Breaks alone old procedure old
not_begun alone old (sees shown f) = record { mid = old; first = inl refl; rest = not_begun alone old (f old.history) }
not_begun alone old (adds e next stop) = inl refl
not_begun alone old (ends a) = refl

-- a procedure that broke off, whatever would follow it
pub breaks_first : {A B : Type 0} (alone : Bool) (old : State) (first : Procedure A) (next : A → Procedure B) (new : State) → Breaks alone old first new → Breaks alone old (followed_by first next) new
breaks_first alone old (sees shown f) next new b = record { mid = b.mid; first = b.first; rest = breaks_first alone b.mid (f b.mid.history) next new b.rest }
breaks_first alone old (adds e n stop) next new (inl b) = inl b
breaks_first alone old (adds e n stop) next new (inr (inl b)) = inr (inl (b.0, breaks_first alone old stop next new b.1))
breaks_first alone old (adds e n stop) next new (inr (inr (inl b))) = inr (inr (inl (record { mid = b.mid; first = b.first; rest = breaks_first alone b.mid n next new b.rest })))
breaks_first alone old (adds e n stop) next new (inr (inr (inr b))) = inr (inr (inr (record { mid = b.mid; first = b.first; rest = breaks_first alone b.mid stop next new b.rest })))
breaks_first alone old (ends a) next new b = subst (λ s. Breaks alone old (next a) s) (sym b) (not_begun alone old (next a))

-- ---- procedures in order

-- if a store has stopped, its disk fails no more
no_fall : {A : Type 0} (alone : Bool) (old : State) (procedure : Procedure A) (new : State) (y : A) → IsTrue (stands_still old) → Walks alone true old procedure new y → ⊥
no_fall alone old (sees shown f) new y s w = no_fall alone w.mid (f w.mid.history) new y ((goes_seen alone old w.mid w.first).still s) w.rest
no_fall alone old (adds e next stop) new y s (inl w) = no_fall alone old stop new y s w.1
no_fall alone old (adds e next stop) new y s (inr (inl w)) = absurd (true≢false (sym (subst (λ x. IsTrue (is_some x)) w.first.went_on s)))
no_fall alone old (adds e next stop) new y s (inr (inr w)) = absurd (true≢false (sym (subst (λ x. IsTrue (is_some x)) w.1.first.went_on s)))
no_fall alone old (ends a) new y s w = absurd (true≢false w.0)

-- if the disk failed in a walk, the store has stopped after it
fallen_stands : {A : Type 0} (alone : Bool) (old : State) (procedure : Procedure A) (new : State) (y : A) → Walks alone true old procedure new y → IsTrue (stands_still new)
fallen_stands alone old (sees shown f) new y w = fallen_stands alone w.mid (f w.mid.history) new y w.rest
fallen_stands alone old (adds e next stop) new y (inl w) = fallen_stands alone old stop new y w.1
fallen_stands alone old (adds e next stop) new y (inr (inl w)) = fallen_stands alone w.mid next new y w.rest
fallen_stands alone old (adds e next stop) new y (inr (inr w)) =
    let here : IsTrue (stands_still w.1.mid) = subst (λ x. IsTrue (is_some x)) (sym w.1.first.failed) refl in
    (goes_walks alone false w.1.mid stop new y w.1.rest).still here
fallen_stands alone old (ends a) new y w = absurd (true≢false w.0)

-- a procedure without a disk fault, and what follows it
put_after : {A B : Type 0} (alone failed : Bool) (old : State) (first : Procedure A) (mid : State) (a : A) (next : A → Procedure B) (new : State) (y : B) → Walks alone false old first mid a → Walks alone failed mid (next a) new y → Walks alone failed old (followed_by first next) new y
put_after alone failed old (sees shown f) mid a next new y w v = record { mid = w.mid; first = w.first; rest = put_after alone failed w.mid (f w.mid.history) mid a next new y w.rest v }
put_after alone failed old (adds e n stop) mid a next new y (inl w) v = inl (w.0, put_after alone failed old stop mid a next new y w.1 v)
put_after alone failed old (adds e n stop) mid a next new y (inr (inl w)) v = inr (inl (record { mid = w.mid; first = w.first; rest = put_after alone failed w.mid n mid a next new y w.rest v }))
put_after alone failed old (adds e n stop) mid a next new y (inr (inr w)) v = absurd (true≢false (sym w.0))
put_after alone failed old (ends x) mid a next new y w v = subst (λ s. Walks alone failed s (next x) new y) w.1 (subst (λ z. Walks alone failed mid (next z) new y) w.2 v)

put_fallen : {A B : Type 0} (alone : Bool) (old : State) (first : Procedure A) (mid : State) (a : A) (next : A → Procedure B) (new : State) (y : B) → Walks alone true old first mid a → Walks alone false mid (next a) new y → Walks alone true old (followed_by first next) new y
put_fallen alone old (sees shown f) mid a next new y w v = record { mid = w.mid; first = w.first; rest = put_fallen alone w.mid (f w.mid.history) mid a next new y w.rest v }
put_fallen alone old (adds e n stop) mid a next new y (inl w) v = inl (w.0, put_fallen alone old stop mid a next new y w.1 v)
put_fallen alone old (adds e n stop) mid a next new y (inr (inl w)) v = inr (inl (record { mid = w.mid; first = w.first; rest = put_fallen alone w.mid n mid a next new y w.rest v }))
put_fallen alone old (adds e n stop) mid a next new y (inr (inr w)) v = inr (inr (refl, record { mid = w.1.mid; first = w.1.first; rest = put_after alone false w.1.mid stop mid a next new y w.1.rest v }))
put_fallen alone old (ends x) mid a next new y w v = absurd (true≢false w.0)

-- two walks in order, of a procedure and of the one that follows it, are one walk of both. The disk may have failed in
-- either
pub put_together : {A B : Type 0} (alone failed failed_then : Bool) (old : State) (first : Procedure A) (mid : State) (a : A) (next : A → Procedure B) (new : State) (y : B) → Walks alone failed old first mid a → Walks alone failed_then mid (next a) new y → Walks alone (failed || failed_then) old (followed_by first next) new y
put_together alone false failed_then old first mid a next new y w v = put_after alone failed_then old first mid a next new y w v
put_together alone true false old first mid a next new y w v = put_fallen alone old first mid a next new y w v
put_together alone true true old first mid a next new y w v = absurd (no_fall alone mid (next a) new y (fallen_stands alone old first mid a w) v)

-- the same if the second broke off
pub break_together : {A B : Type 0} (alone failed : Bool) (old : State) (first : Procedure A) (mid : State) (a : A) (next : A → Procedure B) (new : State) → Walks alone failed old first mid a → Breaks alone mid (next a) new → Breaks alone old (followed_by first next) new
break_together alone failed old (sees shown f) mid a next new w v = record { mid = w.mid; first = w.first; rest = break_together alone failed w.mid (f w.mid.history) mid a next new w.rest v }
break_together alone failed old (adds e n stop) mid a next new (inl w) v = inr (inl (w.0, break_together alone failed old stop mid a next new w.1 v))
break_together alone failed old (adds e n stop) mid a next new (inr (inl w)) v = inr (inr (inl (record { mid = w.mid; first = w.first; rest = break_together alone failed w.mid n mid a next new w.rest v })))
break_together alone failed old (adds e n stop) mid a next new (inr (inr w)) v = inr (inr (inr (record { mid = w.1.mid; first = w.1.first; rest = break_together alone false w.1.mid stop mid a next new w.1.rest v })))
break_together alone failed old (ends x) mid a next new w v = subst (λ s. Breaks alone s (next x) new) w.1 (subst (λ z. Breaks alone mid (next z) new) w.2 v)

-- a walk of a procedure is a walk of the procedure with a function of its result
pub walks_as : {A B : Type 0} (g : A → B) (alone failed : Bool) (old : State) (procedure : Procedure A) (new : State) (y : A) → Walks alone failed old procedure new y → Walks alone failed old (ending_as g procedure) new (g y)
walks_as g alone true old procedure new y w = put_together alone true false old procedure new y (λ a. ends (g a)) new (g y) w (refl, refl, refl)
walks_as g alone false old procedure new y w = put_together alone false false old procedure new y (λ a. ends (g a)) new (g y) w (refl, refl, refl)

-- ---- reads

-- a procedure that begins with a read, from an earlier state on
pub walks_seen : {A : Type 0} (alone failed : Bool) (old mid : State) (shown : History → Bool) (f : History → Procedure A) (new : State) (y : A) → Sees alone old mid → Walks alone failed mid (sees shown f) new y → Walks alone failed old (sees shown f) new y
walks_seen alone failed old mid shown f new y s w = record { mid = w.mid; first = sees_trans alone old mid w.mid s w.first; rest = w.rest }

pub breaks_seen : {A : Type 0} (alone : Bool) (old mid : State) (shown : History → Bool) (f : History → Procedure A) (new : State) → Sees alone old mid → Breaks alone mid (sees shown f) new → Breaks alone old (sees shown f) new
breaks_seen alone old mid shown f new s b = record { mid = b.mid; first = sees_trans alone old mid b.mid s b.first; rest = b.rest }
