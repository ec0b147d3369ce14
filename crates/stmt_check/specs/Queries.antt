-- The buckets of an aggregate that tests request, and the chunks below a bound.
use Rattle.std.specs.Prelude.{ℕ, ◌==◌, Bool, true, false, not, ◌&&◌, ℤ, pos as nonneg, ◌+ℤ◌, List, [], ◌∷◌, Option, Some, None}
use Rattle.std.specs.Int.{int_max, int_min}
use Rattle.ts_bucket.specs.WholeSpans.{least, greatest}
use Rattle.ts_bucket.specs.Chunks.{chunk_start}
use Rattle.ts_bucket.specs.Bucket.{is_time}
use Rattle.ts_bucket.specs.Spans.{SpanValue}
use Rattle.ts_model.specs.Numbers.{no_column, bad_time}
use Rattle.ts_model.specs.declared.outcomes.Refusal.{Refusal}
use Rattle.ts_model.specs.declared.views.ViewDef.{ViewDef}
use Rattle.ts_schema.specs.declared.conditions.Cmp.{Cmp}
use Rattle.ts_schema.specs.declared.conditions.Cmp.TheVariants.{Eq, Ne, Lt, Le, Gt, Ge, IsNull, NotNull}
use Rattle.ts_schema.specs.declared.conditions.Test.{Test}
use Rattle.ts_catalog.specs.Columns.{view_column_of}
use Rattle.stmt_syntax.specs.declared.statements.NamedTest.{NamedTest}
use Rattle.stmt_check.specs.Refusals.{◌⊳◌, refusal_if}

-- the next number, if it fits 64 bits
abbrev pub next : ℤ → ℤ
next n = int_min (n +ℤ nonneg 1) greatest

-- a comparison that bounds the start of a bucket
abbrev pub bounds_start : Cmp → Bool
bounds_start Eq = true
bounds_start Ne = false
bounds_start Lt = true
bounds_start Le = true
bounds_start Gt = true
bounds_start Ge = true
bounds_start IsNull = false
bounds_start NotNull = false

-- the column is the bucket column
abbrev pub is_bucket_column : Option ℕ → Bool
is_bucket_column None = false
is_bucket_column (Some n) = n == 0

-- tests on an aggregate: each is on its bucket column, and bounds it
abbrev pub starts_refusal : ℕ → ViewDef → List NamedTest → Option Refusal
starts_refusal pos def [] = None
starts_refusal pos def (t ∷ ts) =
    refusal_if pos no_column (not (is_bucket_column (view_column_of def t.col) && bounds_start t.cmp))
    ⊳ starts_refusal pos def ts

-- the least start that passes a test
abbrev pub from_of : Cmp → ℤ → ℤ
from_of Eq n = n
from_of Ne n = least
from_of Lt n = least
from_of Le n = least
from_of Gt n = next n
from_of Ge n = n
from_of IsNull n = least
from_of NotNull n = least

-- the number below which starts lie that pass a test
abbrev pub below_of : Cmp → ℤ → ℤ
below_of Eq n = next n
below_of Ne n = greatest
below_of Lt n = n
below_of Le n = next n
below_of Gt n = greatest
below_of Ge n = greatest
below_of IsNull n = greatest
below_of NotNull n = greatest

-- the greatest of the bounds from below
abbrev pub from_all : ℤ → List NamedTest → ℤ
from_all lo [] = lo
from_all lo (t ∷ ts) = from_all (int_max lo (from_of t.cmp t.num)) ts

-- the least of the bounds from above
abbrev pub below_all : ℤ → List NamedTest → ℤ
below_all hi [] = hi
below_all hi (t ∷ ts) = below_all (int_min hi (below_of t.cmp t.num)) ts

-- the starts that pass all tests
abbrev pub starts_of : List NamedTest → SpanValue
starts_of tests = let lo = from_all least tests in record { lo = lo; hi = int_max lo (below_all greatest tests) }

-- a bound of a window lies in the range of times
abbrev pub bound_refusal : ℕ → Option ℤ → Option Refusal
bound_refusal pos None = None
bound_refusal pos (Some t) = refusal_if pos bad_time (not (is_time t))

-- the test that drop_chunks applies: the time lies before the chunk that holds n
abbrev pub drop_test : ℤ → ℤ → Test
drop_test interval n = record { col = 0; cmp = Lt; num = chunk_start interval n }
