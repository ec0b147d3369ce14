-- Two maps combined by a rule, number by number, one edge at a time.
use Rattle.std.specs.Prelude.{◌≡◌, ℕ, cond, ℤ, nat_eq, nat_le, List, [], ◌∷◌, ◌++◌, Option, Some, None}
use Rattle.std.specs.Int.{int_min}
use Rattle.std.specs.Option.{option_eq}
use Rattle.std.specs.Ordering.{int_eq}
use Rattle.ts_bucket.specs.Positions.{later, above_last}
use Rattle.span_map.specs.Edges.{last_value, value_from}
use Rattle.span_map.specs.declared.edges.Edge.{Edge}
use Rattle.span_map.specs.declared.rules.Rule.{Rule}
use Rattle.span_map.specs.declared.rules.Rule.TheVariants.{Over, Later, Above, NotBelow, Where}

-- the result of a rule for the values of two maps: the second one if it exists; the later one; the second one
-- if it is above the first, if it isn't below it, or if the first exists
abbrev pub combined_by : Rule → Option ℕ → Option ℕ → Option ℕ
combined_by Over v None = v
combined_by Over v (Some p) = Some p
combined_by Later v w = later v w
combined_by Above v w = above_last v w
combined_by NotBelow None w = w
combined_by NotBelow (Some p) None = None
combined_by NotBelow (Some p) (Some q) = cond (nat_le p q) (Some q) None
combined_by Where None w = None
combined_by Where (Some p) w = w

-- the number of the first of two lists of edges
abbrev pub earliest : List Edge → List Edge → Option ℤ
earliest [] [] = None
earliest [] (e ∷ es) = Some e.from
earliest (d ∷ ds) [] = Some d.from
earliest (d ∷ ds) (e ∷ es) = Some (int_min d.from e.from)

-- the value from x on, if it was v before, and the edges are those from x on
abbrev pub value_from_on : ℤ → Option ℕ → List Edge → Option ℕ
value_from_on x v [] = v
value_from_on x v (e ∷ es) = cond (int_eq e.from x) e.value v

-- the edges above x, of those from x on
abbrev pub edges_past : ℤ → List Edge → List Edge
edges_past x [] = []
edges_past x (e ∷ es) = cond (int_eq e.from x) es (e ∷ es)

-- the edges with one more at their end, unless it begins the value that they end with
abbrev pub with_last : List Edge → Edge → List Edge
with_last es e = cond (option_eq nat_eq e.value (last_value None es)) es (es ++ e ∷ [])

-- at each number the value of the edges is the result of the rule for the values of two maps
abbrev pub Combines : Rule → List Edge → List Edge → List Edge → Type 0
Combines rule first second both =
    (t : ℤ) → value_from None both t ≡ combined_by rule (value_from None first t) (value_from None second t)
