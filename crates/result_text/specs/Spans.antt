-- The texts of ranges.
use Rattle.std.specs.Prelude.{ℕ, ℤ, List, ◌++◌, codes, if◌then◌else◌}
use Rattle.std.specs.Ordering.{int_eq}
use Rattle.std.specs.Fmt.{signed_decimal}
use Rattle.ts_bucket.specs.declared.spans.Span.{Span}

-- where a range begins: `min` for the start of the first bucket
abbrev pub start_text : ℤ → ℤ → List ℕ
start_text min lo = if int_eq lo min then codes "min" else signed_decimal lo

-- a range, whose end is excluded
abbrev pub span_text : ℤ → Span → List ℕ
span_text min span = start_text min span.lo ++ codes ".." ++ signed_decimal span.hi

-- a range that ends a line
abbrev pub span_end : ℤ → Span → List ℕ
span_end min span = codes " " ++ span_text min span ++ codes "\n"
