-- The order of groups.
use Rattle.std.specs.Prelude.{List}
use Rattle.std.specs.Ordering.{int_cmp, then_cmp, on}
use Rattle.std.specs.declared.cmp.Ordering.{Ordering}
use Rattle.std.specs.List.Sorted.{IsStrictlySortedBy}
use Rattle.ts_schema.specs.Rows.{values_cmp}
use Rattle.partial_agg.specs.declared.groups.Group.{Group}

-- groups by bucket, then by keys
abbrev pub group_cmp : Group → Group → Ordering
group_cmp = then_cmp (on (λ g. g.start) int_cmp) (on (λ g. g.keys) values_cmp)

-- groups in order: by bucket, and then by keys, and no two of one bucket with the same keys
abbrev pub AreInOrder : List Group → Type 0
AreInOrder groups = IsStrictlySortedBy group_cmp groups
