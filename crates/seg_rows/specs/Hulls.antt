-- The hull of rows: their least and their greatest time.
use Rattle.std.specs.Prelude.{Bool, true, not, List, [], ◌∷◌, ℤ, Option, Some, None}
use Rattle.std.specs.Int.{int_min, int_max}
use Rattle.ts_bucket.specs.Spans.{HullValue, SpanValue, overlaps}
use Rattle.ts_schema.specs.declared.rows.Row.{Row}

-- the least hull that holds both
abbrev pub joined_hull : Option HullValue → Option HullValue → Option HullValue
joined_hull None b = b
joined_hull (Some g) None = Some g
joined_hull (Some g) (Some h) = Some (record { least = int_min g.least h.least; most = int_max g.most h.most })

-- the hull of one time
abbrev pub hull_at : ℤ → Option HullValue
hull_at t = Some (record { least = t; most = t })

-- the least and the greatest time of these rows, if there are rows
abbrev pub hull_of : List Row → Option HullValue
hull_of [] = None
hull_of (row ∷ rows) = joined_hull (hull_at row.at) (hull_of rows)

-- the greatest number of a hull
abbrev pub most_of : Option HullValue → Option ℤ
most_of None = None
most_of (Some h) = Some h.most

-- the span and the hull have no number in common
abbrev pub misses : SpanValue → Option HullValue → Bool
misses s None = true
misses s (Some h) = not (overlaps h s)
