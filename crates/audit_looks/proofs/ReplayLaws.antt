-- A procedure gives what a replay of it yields, and a replay has one outcome.
use Rattle.std.proofs.Common.{◌≡◌, ℕ, suc, ◌≤◌, Bool, true, List, [], ◌∷◌, ◌++◌, Option, Some, None, inl, inr, sym, ap, ◌∙◌}
use Rattle.std.specs.Prelude.{nat_le, ◌&&◌}
use Rattle.std.proofs.lemmas.Bool.{true≢false, and_parts, and_from, leb-true, le-leb}
use Rattle.std.proofs.lemmas.Option.{none-some, same_Some}
use Rattle.ts_model.specs.declared.events.Event.{Event}
use Rattle.ts_model.specs.History.{History, position, prefix}
use Rattle.ts_sessions.specs.Gives.{Gives}
use Rattle.ts_sessions.specs.Procedures.{Procedure, sees, adds, ends, ending_as}
use Rattle.audit_looks.specs.Replay.{Told, Tells, may_look}
use Rattle.audit_looks.specs.ReplayLaws.{ToldIsGiven, ToldOnce}

-- ---- reads that may be printed

-- a read may be printed at a position
record MayLook (all : History) (at : ℕ) (shown : History → Bool) (p : ℕ) : Type 0 where
  low : at ≤ p
  high : p ≤ position all
  look : shown (prefix all p) ≡ true

may_parts : (all : History) (at : ℕ) (shown : History → Bool) (p : ℕ) → may_look all at shown p ≡ true → MayLook all at shown p
may_parts all at shown p e =
    let parts = and_parts (nat_le at p && nat_le p (position all)) (shown (prefix all p)) e in
    let bounds = and_parts (nat_le at p) (nat_le p (position all)) parts.0 in
    record { low = leb-true at p bounds.0; high = leb-true p (position all) bounds.1; look = parts.1 }

pub may_from : (all : History) (at : ℕ) (shown : History → Bool) (p : ℕ) → at ≤ p → p ≤ position all → shown (prefix all p) ≡ true → may_look all at shown p ≡ true
may_from all at shown p low high look =
    and_from (nat_le at p && nat_le p (position all)) (shown (prefix all p)) (and_from (nat_le at p) (nat_le p (position all)) (le-leb at p low) (le-leb p (position all) high)) look

-- ---- a procedure gives the outcome of its replay

-- by some read positions
record GivesSo {A : Type 0} (all : History) (at : ℕ) (so_far : List (ℕ × Event)) (procedure : Procedure A) (told : Told A) : Type 0 where
  looks : List (Option ℕ)
  gives : Gives all None at so_far procedure looks told.last told.given told.end

told_given : {A : Type 0} (all : History) (at : ℕ) (so_far : List (ℕ × Event)) (procedure : Procedure A) (ps : List ℕ) (told : Told A) → Tells all at so_far procedure ps (Some told) → GivesSo all at so_far procedure told
told_given all at so_far (sees shown f) [] told (inl t) =
    let rest = told_given all at so_far (f all) [] told t.1 in
    record { looks = None ∷ rest.looks; gives = (t.0, rest.gives) }
told_given all at so_far (sees shown f) [] told (inr t) = absurd (none-some told (sym t.1))
told_given all at so_far (sees shown f) (p ∷ ps) told (inl t) =
    let may = may_parts all at shown p t.0 in
    let rest = told_given all p so_far (f (prefix all p)) ps told t.1 in
    record { looks = Some p ∷ rest.looks; gives = (may.low, may.high, may.look, rest.gives) }
told_given all at so_far (sees shown f) (p ∷ ps) told (inr (inl t)) =
    let rest = told_given all at so_far (f all) (p ∷ ps) told t.2 in
    record { looks = None ∷ rest.looks; gives = (t.1, rest.gives) }
told_given all at so_far (sees shown f) (p ∷ ps) told (inr (inr t)) = absurd (none-some told (sym t.2))
told_given all at so_far (adds e next stopped) ps told (inl t) =
    let rest = told_given all (suc at) (so_far ++ (suc at, e) ∷ []) next ps told t.1 in
    record { looks = rest.looks; gives = inr (t.0, rest.gives) }
told_given all at so_far (adds e next stopped) ps told (inr t) = absurd (none-some told (sym t.1))
told_given all at so_far (ends a) ps told t =
    let end = same_Some told (record { last = at; given = so_far; end = a }) t in
    record { looks = []; gives = (ap (λ x. x.last) end, ap (λ x. x.given) end, ap (λ x. x.end) end) }

pub told_is_given : {A : Type 0} → ToldIsGiven A
told_is_given all at procedure ps told t = let so = told_given all at [] procedure ps told t in record { looks = so.looks; gives = so.gives }

-- ---- one outcome

pub told_once : {A : Type 0} → ToldOnce A
told_once all at so_far (sees shown f) [] r s (inl t) (inl u) = told_once all at so_far (f all) [] r s t.1 u.1
told_once all at so_far (sees shown f) [] r s (inl t) (inr u) = absurd (true≢false (sym u.0 ∙ t.0))
told_once all at so_far (sees shown f) [] r s (inr t) (inl u) = absurd (true≢false (sym t.0 ∙ u.0))
told_once all at so_far (sees shown f) [] r s (inr t) (inr u) = t.1 ∙ sym u.1
told_once all at so_far (sees shown f) (p ∷ ps) r s (inl t) (inl u) = told_once all p so_far (f (prefix all p)) ps r s t.1 u.1
told_once all at so_far (sees shown f) (p ∷ ps) r s (inl t) (inr (inl u)) = absurd (true≢false (sym t.0 ∙ u.0))
told_once all at so_far (sees shown f) (p ∷ ps) r s (inl t) (inr (inr u)) = absurd (true≢false (sym t.0 ∙ u.0))
told_once all at so_far (sees shown f) (p ∷ ps) r s (inr (inl t)) (inl u) = absurd (true≢false (sym u.0 ∙ t.0))
told_once all at so_far (sees shown f) (p ∷ ps) r s (inr (inl t)) (inr (inl u)) = told_once all at so_far (f all) (p ∷ ps) r s t.2 u.2
told_once all at so_far (sees shown f) (p ∷ ps) r s (inr (inl t)) (inr (inr u)) = absurd (true≢false (sym u.1 ∙ t.1))
told_once all at so_far (sees shown f) (p ∷ ps) r s (inr (inr t)) (inl u) = absurd (true≢false (sym u.0 ∙ t.0))
told_once all at so_far (sees shown f) (p ∷ ps) r s (inr (inr t)) (inr (inl u)) = absurd (true≢false (sym t.1 ∙ u.1))
told_once all at so_far (sees shown f) (p ∷ ps) r s (inr (inr t)) (inr (inr u)) = t.2 ∙ sym u.2
told_once all at so_far (adds e next stopped) ps r s (inl t) (inl u) = told_once all (suc at) (so_far ++ (suc at, e) ∷ []) next ps r s t.1 u.1
told_once all at so_far (adds e next stopped) ps r s (inl t) (inr u) = absurd (u.0 t.0)
told_once all at so_far (adds e next stopped) ps r s (inr t) (inl u) = absurd (t.0 u.0)
told_once all at so_far (adds e next stopped) ps r s (inr t) (inr u) = t.1 ∙ sym u.1
told_once all at so_far (ends a) ps r s t u = t ∙ sym u

-- ---- the value at the end of a replay

-- an outcome with a function of its value
abbrev told_as : {A B : Type 0} → (A → B) → Option (Told A) → Option (Told B)
told_as g None = None
told_as g (Some t) = Some (record { last = t.last; given = t.given; end = g t.end })

pub tells_as : {A B : Type 0} (g : A → B) (all : History) (at : ℕ) (so_far : List (ℕ × Event)) (procedure : Procedure A) (ps : List ℕ) (r : Option (Told A)) → Tells all at so_far procedure ps r → Tells all at so_far (ending_as g procedure) ps (told_as g r)
tells_as g all at so_far (sees shown f) [] r (inl t) = inl (t.0, tells_as g all at so_far (f all) [] r t.1)
tells_as g all at so_far (sees shown f) [] r (inr t) = inr (t.0, ap (told_as g) t.1)
tells_as g all at so_far (sees shown f) (p ∷ ps) r (inl t) = inl (t.0, tells_as g all p so_far (f (prefix all p)) ps r t.1)
tells_as g all at so_far (sees shown f) (p ∷ ps) r (inr (inl t)) = inr (inl (t.0, t.1, tells_as g all at so_far (f all) (p ∷ ps) r t.2))
tells_as g all at so_far (sees shown f) (p ∷ ps) r (inr (inr t)) = inr (inr (t.0, t.1, ap (told_as g) t.2))
tells_as g all at so_far (adds e next stopped) ps r (inl t) = inl (t.0, tells_as g all (suc at) (so_far ++ (suc at, e) ∷ []) next ps r t.1)
tells_as g all at so_far (adds e next stopped) ps r (inr t) = inr (t.0, ap (told_as g) t.1)
tells_as g all at so_far (ends a) ps r t = ap (told_as g) t
