-- Places among edges: the number of edges before one.
use Rattle.std.specs.Prelude.{ℕ, Bool, int_lt, int_le, List}
use Rattle.span_map.specs.Edges.{place_below, place_upto}
use Rattle.span_map.specs.declared.edges.Edge.{Edge}
use Rattle.span_map.specs.declared.search.Before.{Before}
use Rattle.span_map.specs.declared.search.Before.TheVariants.{Below, Upto}

-- the edge is before a place
abbrev pub stands_before : Before → Edge → Bool
stands_before (Upto t) e = int_le e.from t
stands_before (Below t) e = int_lt e.from t

-- the number of edges before a place, if they rise
abbrev pub place_before : Before → List Edge → ℕ
place_before (Upto t) es = place_upto t es
place_before (Below t) es = place_below t es
