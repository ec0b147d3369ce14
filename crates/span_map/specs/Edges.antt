-- Edges: the numbers at which the value of a map changes, in rising order.
use Rattle.std.specs.Prelude.{◌≡◌, ℕ, suc, Bool, false, cond, ℤ, ◌<ℤ◌, int_lt, int_le, List, [], ◌∷◌, ◌++◌, take, drop, Option, None, is_some, count_by}
use Rattle.std.specs.Ordering.{int_eq}
use Rattle.span_map.specs.declared.edges.Edge.{Edge}

-- the value at t, if the value before the edges is v: that of the last edge at or below t
abbrev pub value_from : Option ℕ → List Edge → ℤ → Option ℕ
value_from v [] t = v
value_from v (e ∷ es) t = cond (int_lt t e.from) v (value_from e.value es t)

-- edges with the same values, number by number
abbrev pub HaveSameValues : List Edge → List Edge → Type 0
HaveSameValues old new = (t : ℤ) → value_from None new t ≡ value_from None old t

-- each new value is the image of the old one at its number
abbrev pub MakesValues : (Option ℕ → ℤ → Option ℕ) → List Edge → List Edge → Type 0
MakesValues made_of old new = (t : ℤ) → value_from None new t ≡ made_of (value_from None old t) t

-- the value of the last of these edges, if the value before them is v
abbrev pub last_value : Option ℕ → List Edge → Option ℕ
last_value v [] = v
last_value v (e ∷ es) = last_value e.value es

-- the first of these edges is at t
abbrev pub begins_at : ℤ → List Edge → Bool
begins_at t [] = false
begins_at t (e ∷ es) = int_eq e.from t

-- how many edges are before the first one above t
abbrev pub place_upto : ℤ → List Edge → ℕ
place_upto t [] = 0
place_upto t (e ∷ es) = cond (int_le e.from t) (suc (place_upto t es)) 0

-- how many edges are before the first one at or above t
abbrev pub place_below : ℤ → List Edge → ℕ
place_below t [] = 0
place_below t (e ∷ es) = cond (int_lt e.from t) (suc (place_below t es)) 0

-- x is below the first of these edges
abbrev pub IsBelowFirst : ℤ → List Edge → Type 0
IsBelowFirst x [] = Unit {0}
IsBelowFirst x (e ∷ es) = x <ℤ e.from

-- each edge is below the next
abbrev pub IsRising : List Edge → Type 0
IsRising [] = Unit {0}
IsRising (e ∷ es) = IsBelowFirst e.from es × IsRising es

-- the edge begins a piece
abbrev pub has_value : Edge → Bool
has_value e = is_some e.value

-- how many pieces the edges begin
abbrev pub piece_count : List Edge → ℕ
piece_count es = count_by has_value es

-- the value at lo, and the edges above lo and below hi
abbrev pub value_on : ℤ → List Edge → Option ℕ
value_on lo es = last_value None (take (place_upto lo es) es)

abbrev pub between : ℤ → ℤ → List Edge → List Edge
between lo hi es = take (place_below hi (drop (place_upto lo es) es)) (drop (place_upto lo es) es)

-- edges; the first, at lo, begins the value v, and the last, at hi, begins none
abbrev pub edges_between : ℤ → ℤ → Option ℕ → List Edge → List Edge
edges_between lo hi v es = record { from = lo; value = v } ∷ es ++ record { from = hi; value = None } ∷ []
