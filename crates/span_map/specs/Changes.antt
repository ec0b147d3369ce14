-- Changes of the values within a span.
use Rattle.std.specs.Prelude.{◌≡◌, ℕ, ◌≤◌, cond, ℤ, List, Option, Some, None, int_lt, [], ◌∷◌, ◌++◌, length, map, take, drop, insert}
use Rattle.ts_bucket.specs.Positions.{later, above}
use Rattle.ts_bucket.specs.Spans.{SpanValue, in_span}
use Rattle.span_map.specs.Edges.{value_from}
use Rattle.span_map.specs.declared.edges.Edge.{Edge}
use Rattle.span_map.specs.declared.changes.Change.{Change}
use Rattle.span_map.specs.declared.changes.Change.TheVariants.{Set, ClearUpto, Raise}

-- a value after a change
abbrev pub value_after : Change → Option ℕ → Option ℕ
value_after (Set p) v = Some p
value_after (ClearUpto p) v = above p v
value_after (Raise p) v = later v (Some p)

-- an edge after a change within a span
abbrev pub edge_changed : SpanValue → Change → Edge → Edge
edge_changed s c e = record { from = e.from; value = cond (in_span s e.from) (value_after c e.value) e.value }

-- edges of which those before one place are changed and those from a second place on aren't yet; the edges
-- between the two places are dropped
abbrev pub edges_halfway : SpanValue → Change → ℕ → ℕ → List Edge → List Edge
edges_halfway s c done todo es = take done es ++ map (edge_changed s c) (drop todo es)

-- the edges with one more at t, if there was none, which changes no value
abbrev pub with_edge : Option ℕ → ℤ → List Edge → List Edge
with_edge v t [] = record { from = t; value = v } ∷ []
with_edge v t (e ∷ es) =
    cond (int_lt t e.from) (record { from = t; value = v } ∷ e ∷ es)
    (cond (int_lt e.from t) (e ∷ with_edge e.value t es) (e ∷ es))

-- this edge, inserted at this place, is the one that is missing at t
abbrev pub IsMissingAt : ℤ → List Edge → ℕ × Edge → Type 0
IsMissingAt t es missing = (missing.0 ≤ length es) × (insert es missing.0 missing.1 ≡ with_edge None t es)

-- within the span each value of the new edges is the old value after the change, and elsewhere it is the old
-- value
abbrev pub ChangesValues : SpanValue → Change → List Edge → List Edge → Type 0
ChangesValues s c old new =
    (t : ℤ) → value_from None new t ≡ cond (in_span s t) (value_after c (value_from None old t)) (value_from None old t)
