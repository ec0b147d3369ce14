-- Laws of edges: the value at a number is that of the last edge at or below it.
use Rattle.std.proofs.Common.{◌≡◌, ◌≢◌, ℕ, zero, suc, ◌-◌, ◌<◌, ◌≤◌, true, false, cond, ℤ, ◌≤ℤ◌, ◌<ℤ◌, int_lt, int_le, List, [], ◌∷◌, ◌++◌, length, take, get_or, Option, refl, sym, ap, ◌∙◌, arith}
use Rattle.std.proofs.lemmas.Int.{ints, by_lt_z}
use Rattle.span_map.specs.declared.edges.Edge.{Edge}
use Rattle.span_map.specs.Edges.{value_from, last_value, IsBelowFirst, IsRising, place_upto}

-- the value at a number is that after the edges at or below it
pub value_from-place : (v : Option ℕ) (es : List Edge) (t : ℤ) → value_from v es t ≡ last_value v (take (place_upto t es) es)
value_from-place v [] t = refl
value_from-place v (e ∷ es) t = by_lt_z t e.from
    (λ below.
    let low : int_lt t e.from ≡ true = grind (arith, ints) in
    let fails : int_le e.from t ≡ false = grind (arith, ints) in
    ap (λ b. cond b v (value_from e.value es t)) low ∙ sym (ap (λ b. last_value v (take (cond b (suc (place_upto t es)) 0) (e ∷ es))) fails))
    (λ above.
    let high : int_lt t e.from ≡ false = grind (arith, ints) in
    let passes : int_le e.from t ≡ true = grind (arith, ints) in
    ap (λ b. cond b v (value_from e.value es t)) high ∙ value_from-place e.value es t ∙ sym (ap (λ b. last_value v (take (cond b (suc (place_upto t es)) 0) (e ∷ es))) passes))

-- the value after some edges is that of the last of them
last_value-take : (v : Option ℕ) (es : List Edge) (i : ℕ) (d : Edge) → i < length es → last_value v (take (suc i) es) ≡ (get_or es i d).value
last_value-take v [] i d l = absurd (omega arith)
last_value-take v (e ∷ es) zero d l = refl
last_value-take v (e ∷ es) (suc i) d l = last_value-take e.value es i d (omega arith)

pub last_value-count : (v : Option ℕ) (es : List Edge) (count : ℕ) (d : Edge) → count ≢ 0 → count ≤ length es → (get_or es (count - 1) d).value ≡ last_value v (take count es)
last_value-count v es zero d some l = absurd (some refl)
last_value-count v es (suc i) d some l = let back : suc i - 1 ≡ i = omega arith in ap (λ k. (get_or es k d).value) back ∙ sym (last_value-take v es i d (omega arith))

-- below the edges the value is the one before them
pub value_from-below : (v : Option ℕ) (es : List Edge) (x t : ℤ) → IsBelowFirst x es → t ≤ℤ x → value_from v es t ≡ v
value_from-below v [] x t h le = refl
value_from-below v (e ∷ es) x t h le = let low : int_lt t e.from ≡ true = grind (arith, ints) in ap (λ b. cond b v (value_from e.value es t)) low

-- a number below one that is below the edges is below them
pub IsBelowFirst-from : (x y : ℤ) (es : List Edge) → x ≤ℤ y → IsBelowFirst y es → IsBelowFirst x es
IsBelowFirst-from x y [] le h = tt
IsBelowFirst-from x y (e ∷ es) le h = omega (arith, ints)

-- each of the edges is below x
abbrev pub AllBelow : ℤ → List Edge → Type 0
AllBelow x [] = Unit {0}
AllBelow x (e ∷ es) = (e.from <ℤ x) × AllBelow x es

pub all_below-higher : (x y : ℤ) (es : List Edge) → x ≤ℤ y → AllBelow x es → AllBelow y es
all_below-higher x y [] le b = tt
all_below-higher x y (e ∷ es) le b = (let l : e.from <ℤ x = b.0 in omega (arith, ints), all_below-higher x y es le b.1)

-- ---- one edge more at the end

pub last_value-end : (v : Option ℕ) (xs : List Edge) (x : Edge) → last_value v (xs ++ x ∷ []) ≡ x.value
last_value-end v [] x = refl
last_value-end v (y ∷ xs) x = last_value-end y.value xs x

-- below it the values stay
pub value_from-before_end : (v : Option ℕ) (xs : List Edge) (x : Edge) (t : ℤ) → t <ℤ x.from → value_from v (xs ++ x ∷ []) t ≡ value_from v xs t
value_from-before_end v [] x t l = let low : int_lt t x.from ≡ true = grind (arith, ints) in ap (λ b. cond b v x.value) low
value_from-before_end v (y ∷ xs) x t l = ap (λ w. cond (int_lt t y.from) v w) (value_from-before_end y.value xs x t l)

-- above all edges the value is that of the last
pub value_from-above : (v : Option ℕ) (es : List Edge) (x t : ℤ) → AllBelow x es → x ≤ℤ t → value_from v es t ≡ last_value v es
value_from-above v [] x t b le = refl
value_from-above v (e ∷ es) x t b le =
    let l : e.from <ℤ x = b.0 in
    let high : int_lt t e.from ≡ false = grind (arith, ints) in
    ap (λ c. cond c v (value_from e.value es t)) high ∙ value_from-above e.value es x t b.1 le

pub value_from-end : (v : Option ℕ) (xs : List Edge) (x : Edge) (t : ℤ) → AllBelow x.from xs → x.from ≤ℤ t → value_from v (xs ++ x ∷ []) t ≡ x.value
value_from-end v [] x t b le = let high : int_lt t x.from ≡ false = grind (arith, ints) in ap (λ c. cond c v x.value) high
value_from-end v (y ∷ xs) x t b le =
    let l : y.from <ℤ x.from = b.0 in
    let high : int_lt t y.from ≡ false = grind (arith, ints) in
    ap (λ c. cond c v (value_from y.value (xs ++ x ∷ []) t)) high ∙ value_from-end y.value xs x t b.1 le

pub below-end : (y : ℤ) (xs : List Edge) (x : Edge) → y <ℤ x.from → IsBelowFirst y xs → IsBelowFirst y (xs ++ x ∷ [])
below-end y [] x l h = l
below-end y (z ∷ xs) x l h = h

pub rising-end : (xs : List Edge) (x : Edge) → AllBelow x.from xs → IsRising xs → IsRising (xs ++ x ∷ [])
rising-end [] x b r = (tt, tt)
rising-end (z ∷ xs) x b r = (below-end z.from xs x b.0 r.0, rising-end xs x b.1 r.1)

pub all_below-end : (y : ℤ) (xs : List Edge) (x : Edge) → x.from <ℤ y → AllBelow y xs → AllBelow y (xs ++ x ∷ [])
all_below-end y [] x l b = (l, tt)
all_below-end y (z ∷ xs) x l b = (b.0, all_below-end y xs x l b.1)
