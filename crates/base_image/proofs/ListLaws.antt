-- Lists that are read from the front.
use Rattle.std.proofs.Common.{◌≡◌, ◌-◌, ◌<◌, ◌≤◌, Bool, true, false, ◌&&◌, List, [], ◌∷◌, length, take, drop, get_or, refl, sym, ap, ◌∙◌, arith}
use Rattle.std.specs.List.{list_all}
use Rattle.std.proofs.lemmas.List.{take_all}

pub front : {X : Type 0} (left rest : List X) (x : X) → 1 ≤ length left → rest ≡ take (length left - 1) (drop 1 left) → x ≡ get_or left 0 x → left ≡ x ∷ rest
front [] rest x h r e = absurd (omega (arith, h))
front {X} (y ∷ ys) rest x h r e =
    let whole : rest ≡ ys = r ∙ take_all (length (y ∷ ys) - 1) ys (omega arith) in
    ap (λ (z : X). z ∷ ys) (sym e) ∙ ap (λ (zs : List X). x ∷ zs) (sym whole)

pub none_left : {X : Type 0} (left : List X) → length left < 1 → left ≡ []
none_left [] h = refl
none_left (x ∷ xs) h = absurd (omega arith)

-- ---- a test of all items, from the front

-- the rest shows whether all pass
abbrev pub IsToldBy : {X : Type 0} → (X → Bool) → List X → List X → Type 0
IsToldBy p all left = list_all p left ≡ list_all p all

pub told_next : {X : Type 0} (p : X → Bool) (all left rest : List X) (x : X) → left ≡ x ∷ rest → p x ≡ true → IsToldBy p all left → IsToldBy p all rest
told_next p all left rest x is passes so_far = sym (ap (list_all p) is ∙ ap (λ (t : Bool). t && list_all p rest) passes) ∙ so_far

pub told_not : {X : Type 0} (p : X → Bool) (all left rest : List X) (x : X) → left ≡ x ∷ rest → p x ≡ false → IsToldBy p all left → list_all p all ≡ false
told_not p all left rest x is fails so_far = sym so_far ∙ ap (list_all p) is ∙ ap (λ (t : Bool). t && list_all p rest) fails

pub told_all : {X : Type 0} (p : X → Bool) (all left : List X) → left ≡ [] → IsToldBy p all left → list_all p all ≡ true
told_all p all left is so_far = sym so_far ∙ ap (list_all p) is
