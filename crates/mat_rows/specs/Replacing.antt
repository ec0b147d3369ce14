-- Groups with those of some spans replaced.
use Rattle.std.specs.Prelude.{◌≡◌, ℕ, true, false, ℤ, ◌≤ℤ◌, int_lt, int_le, List, [], ◌∷◌, ◌++◌, filter, Bool, cond}
use Rattle.std.specs.List.Sorted.{IsPartitionPoint}
use Rattle.std.specs.Ordering.{int_eq}
use Rattle.ts_bucket.specs.Spans.{SpanValue, in_span}
use Rattle.partial_agg.specs.declared.groups.Group.{Group}
use Rattle.std.specs.List.{list_all}
use Rattle.ts_bucket.specs.Ranges.{lies_in}

-- the groups whose buckets start below x, from x on, and in a span
abbrev pub below : ℤ → List Group → List Group
below x groups = filter (λ g. int_lt g.start x) groups

abbrev pub from_on : ℤ → List Group → List Group
from_on x groups = filter (λ g. int_le x g.start) groups

abbrev pub within : SpanValue → List Group → List Group
within s groups = filter (λ g. in_span s g.start) groups

-- the groups of the list before a place start below x, and those after it from x on
abbrev pub PartsAt : ℤ → List Group → ℕ → Type 0
PartsAt x groups place = IsPartitionPoint (λ g. int_lt g.start x ≡ true) (λ g. int_lt g.start x ≡ false) groups place

-- the groups of the bucket that starts at b
abbrev pub of_bucket : ℤ → List Group → List Group
of_bucket b groups = filter (λ g. int_eq g.start b) groups

-- the old groups, with those that start in one of the spans replaced by the new ones
abbrev pub groups_replaced : List SpanValue → List Group → List Group → List Group
groups_replaced [] new old = old
groups_replaced (s ∷ ss) new old = below s.lo old ++ (within s new ++ groups_replaced ss new (from_on s.hi old))

-- each bucket has its new groups if it starts in one of the spans, and otherwise its old ones
abbrev pub BucketsAreOfBoth : List SpanValue → List Group → List Group → List Group → Type 0
BucketsAreOfBoth spans new old groups =
    (b : ℤ) → of_bucket b groups ≡ cond (lies_in spans b) (of_bucket b new) (of_bucket b old)

-- a test that all new and all old groups pass, all of these groups pass
abbrev pub PassAsBoth : List Group → List Group → List Group → Type 0
PassAsBoth new old groups =
    (test : Group → Bool) → list_all test new ≡ true → list_all test old ≡ true → list_all test groups ≡ true

-- each span starts at or above the end of the one before it
abbrev pub SpansRise : List SpanValue → Type 0
SpansRise [] = Unit {0}
SpansRise (s ∷ []) = Unit {0}
SpansRise (s ∷ t ∷ ss) = (s.hi ≤ℤ t.lo) × SpansRise (t ∷ ss)

-- no span ends below its start
abbrev pub AreSpans : List SpanValue → Type 0
AreSpans [] = Unit {0}
AreSpans (s ∷ ss) = (s.lo ≤ℤ s.hi) × AreSpans ss
