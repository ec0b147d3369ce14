-- The values of one map, replaced within a span by those of another.
use Rattle.std.specs.Prelude.{◌≡◌, ℕ, cond, nat_eq, ℤ, List, [], ◌∷◌, ◌++◌, Option}
use Rattle.std.specs.Option.{option_eq}
use Rattle.ts_bucket.specs.Spans.{SpanValue, in_span}
use Rattle.span_map.specs.Edges.{between, last_value, value_on}
use Rattle.span_map.specs.declared.edges.Edge.{Edge}

-- within the span the new values are those of the part, and elsewhere they are the old ones
abbrev pub IsPatched : SpanValue → (ℤ → Option ℕ) → (ℤ → Option ℕ) → (ℤ → Option ℕ) → Type 0
IsPatched s part old new = (t : ℤ) → new t ≡ cond (in_span s t) (part t) (old t)

-- the edge, unless the value before it is the same v
abbrev pub edge_if : Option ℕ → Edge → List Edge
edge_if v e = cond (option_eq nat_eq e.value v) [] (e ∷ [])

-- edges from the start of a span to its end with the values of these edges, if v is before them and w after
-- them
abbrev pub patch_of : SpanValue → Option ℕ → List Edge → Option ℕ → List Edge
patch_of s v es w =
    edge_if v (record { from = s.lo; value = value_on s.lo es })
    ++ between s.lo s.hi es
    ++ edge_if (last_value (value_on s.lo es) (between s.lo s.hi es)) (record { from = s.hi; value = w })
