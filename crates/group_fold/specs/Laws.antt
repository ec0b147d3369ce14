-- Laws of groups, each in one sentence.
use Rattle.std.specs.Prelude.{◌≡◌, Bool, true, cond, List, [], ◌∷◌, filter, flat_map, ℤ, ◌+ℤ◌, Option, Some, None}
use Rattle.std.specs.Ordering.{int_eq}
use Rattle.ts_bucket.specs.Bucket.{IsWidth, is_bucket, bucket_of}
use Rattle.ts_bucket.specs.Ranges.{lies_in, is_asked}
use Rattle.ts_bucket.specs.declared.spans.Span.{Span}
use Rattle.ts_bucket.specs.declared.widths.Width.{Width}
use Rattle.ts_schema.specs.declared.rows.Row.{Row}
use Rattle.ts_schema.specs.Conditions.{passes_all}
use Rattle.ts_model.specs.declared.views.Fold.{Fold}
use Rattle.ts_model.specs.Rows.{in_order}
use Rattle.ts_model.specs.Answers.{buckets_in}
use Rattle.ts_model.specs.Groups.{groups_in, groups_of}
use Rattle.ts_model.specs.Jobs.{rows_of_spans}
use Rattle.ts_model.specs.Windows.{last_end}
use Rattle.partial_agg.specs.declared.groups.Group.{Group}

-- rows that are the same when sorted have the same groups
abbrev pub OrderPlaysNoPart : Type 0
OrderPlaysNoPart =
    (fold : Fold) (xs ys : List Row) → IsWidth fold.width → in_order xs ≡ in_order ys
    → groups_of fold xs ≡ groups_of fold ys

-- the groups whose buckets pass a test are those of the rows whose buckets pass it
abbrev pub GroupsOfSomeBuckets : Type 0
GroupsOfSomeBuckets =
    (fold : Fold) (test : ℤ → Bool) (rows : List Row) → IsWidth fold.width
    → filter (λ g. test g.start) (groups_of fold rows) ≡ groups_of fold
    (filter (λ row. test (bucket_of fold.width row.at)) rows)

-- so the groups that start in these spans are those of the rows of the spans
abbrev pub GroupsOfSpans : Type 0
GroupsOfSpans =
    (fold : Fold) (spans : List Span) (rows : List Row) → IsWidth fold.width
    → filter (λ g. lies_in spans g.start) (groups_of fold rows) ≡ groups_of fold (rows_of_spans fold spans rows)

-- and the groups that start at a bucket are those of the bucket
abbrev pub GroupsOfOneBucket : Type 0
GroupsOfOneBucket =
    (fold : Fold) (rows : List Row) (b : ℤ) → IsWidth fold.width → is_bucket fold.width b ≡ true
    → filter (λ g. int_eq g.start b) (groups_of fold rows) ≡ groups_in fold rows b

-- over the rows of these spans, a bucket in the spans has the groups that it has over all rows, and any other
-- bucket has none
abbrev pub SpansKeepGroups : Type 0
SpansKeepGroups =
    (fold : Fold) (spans : List Span) (rows : List Row) (b : ℤ) → IsWidth fold.width → is_bucket fold.width b ≡ true
    → groups_in fold (rows_of_spans fold spans rows) b ≡ cond (lies_in spans b) (groups_in fold rows b) []

-- the groups of the requested buckets, in order, are the groups that start at such a bucket
abbrev pub GroupsOfAsked : Type 0
GroupsOfAsked =
    (fold : Fold) (starts : Span) (rows : List Row) → IsWidth fold.width
    → flat_map (groups_in fold rows) (buckets_in fold.width starts) ≡ filter (λ g. is_asked fold.width starts g.start)
    (groups_of fold rows)

-- the end of the bucket of the last of these groups
abbrev pub end_of_last : Width → List Group → Option ℤ
end_of_last w [] = None
end_of_last w (g ∷ []) = Some (g.start +ℤ w.step)
end_of_last w (g ∷ h ∷ groups) = end_of_last w (h ∷ groups)

-- the end of the last group is the greatest end of a bucket with a row that passes
abbrev pub LastGroupEnds : Type 0
LastGroupEnds =
    (fold : Fold) (rows : List Row) → IsWidth fold.width
    → end_of_last fold.width (groups_of fold rows) ≡ last_end fold.width
    (filter (λ row. passes_all row fold.tests) rows)
