-- Assigning where a floor has no value or a lower one, one edge of the floor at a time.
use Rattle.std.specs.Prelude.{ℕ, cond, ◌&&◌, ℤ, int_lt, int_le, List, [], ◌∷◌, Option, Some, None}
use Rattle.std.specs.Int.{int_max, int_min}
use Rattle.ts_bucket.specs.Positions.{is_before}
use Rattle.ts_bucket.specs.Spans.{SpanValue}
use Rattle.span_map.specs.declared.edges.Edge.{Edge}

-- the value at t after the numbers of an open run below its end were assigned
abbrev pub run_filled : Option ℤ → ℤ → ℕ → Option ℕ → ℤ → Option ℕ
run_filled None end pos v t = v
run_filled (Some from) end pos v t = cond (int_le from t && int_lt t end) (Some pos) v

-- an open run stays, and one opens at x if none is
abbrev pub open_run : Option ℤ → ℤ → Option ℤ
open_run None x = Some x
open_run (Some from) x = Some from

-- the open run at the start of a span at which the floor has the value v
abbrev pub run_on : SpanValue → ℕ → Option ℕ → Option ℤ
run_on s pos v = cond (is_before pos v) (Some s.lo) None

-- the open run after an edge of the floor
abbrev pub run_past : SpanValue → ℕ → Option ℤ → Edge → Option ℤ
run_past s pos run e = cond (is_before pos e.value) (open_run run (int_max e.from s.lo)) None

-- the value at t after an edge of the floor: an edge with the position or a later one ends the run
abbrev pub value_past : SpanValue → ℕ → Option ℤ → Edge → Option ℕ → ℤ → Option ℕ
value_past s pos run e v t = cond (is_before pos e.value) v (run_filled run (int_min e.from s.hi) pos v t)

-- the value at t after all edges of the floor
abbrev pub floor_filled : SpanValue → ℕ → Option ℤ → List Edge → Option ℕ → ℤ → Option ℕ
floor_filled s pos run [] v t = run_filled run s.hi pos v t
floor_filled s pos run (e ∷ es) v t = floor_filled s pos (run_past s pos run e) es (value_past s pos run e v t) t
