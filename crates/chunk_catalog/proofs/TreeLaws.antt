-- Laws of what is inserted into a part of a tree, and of a delete in its parts.
use Rattle.std.proofs.Common.{◌≡◌, ℕ, ◌+◌, ◌≤◌, Bool, ℤ, Option, List, ◌++◌, map, length, sym, ◌∙◌, ap, arith}
use Rattle.std.specs.List.{count_by}
use Rattle.std.proofs.lemmas.List.{map-append, length-append}
use Rattle.ts_bucket.specs.Spans.{HullValue}
use Rattle.ts_schema.specs.declared.conditions.Test.{Test}
use Rattle.seg_rows.specs.Hulls.{joined_hull, hull_of}
use Rattle.seg_rows.specs.Versions.{Version, HasMore, taken_at}
use Rattle.seg_rows.proofs.HullLaws.{hull_of-append}
use Rattle.seg_rows.proofs.VersionLaws.{taken_at-append, taken_at-length}
use Rattle.chunk_catalog.specs.declared.time_ranges.TimeRange.{TimeRange}
use Rattle.chunk_catalog.specs.Places.{Placed, in_chunk, place, versions_in, after_kill_in}
use Rattle.chunk_catalog.proofs.PlaceLaws.{reached-append, reached_few}
use Rattle.ts_schema.proofs.Cases.{count-append}

-- how often a test passes in three lists
count_three : (test : Placed → Bool) (l c r : List Placed) → count_by test (l ++ c ++ r) ≡ count_by test l + count_by test c + count_by test r
count_three test l c r = omega (arith, count-append test (l ++ c) r, count-append test l c)

-- what is added to one of three lists is added to all three together
pub more_first : (more l new c r whole : List Placed) → whole ≡ l ++ c ++ r → HasMore more l new → HasMore more whole (new ++ c ++ r)
more_first more l new c r whole is added test = omega (arith, ap (count_by test) is, count_three test l c r, count_three test new c r, added test)

pub more_last : (more l c r new whole : List Placed) → whole ≡ l ++ c ++ r → HasMore more r new → HasMore more whole (l ++ c ++ new)
more_last more l c r new whole is added test = omega (arith, ap (count_by test) is, count_three test l c r, count_three test l c new, added test)

-- a chunk with more versions
pub more_here : (s : ℤ) (l r : List Placed) (vs more : List Version) → HasMore (in_chunk s more) (l ++ in_chunk s vs ++ r) (l ++ in_chunk s (vs ++ more) ++ r)
more_here s l r vs more test =
    omega (arith, count_three test l (in_chunk s vs) r, count_three test l (in_chunk s (vs ++ more)) r, ap (count_by test) (map-append (place s) vs more), count-append test (in_chunk s vs) (in_chunk s more))

-- ---- a delete in three lists of versions of a tree

module _ (r : TimeRange) (p : ℕ) (tests : List Test) (l c e whole : List Placed) (is : whole ≡ l ++ c ++ e) where
  pub killed_over : (l2 c2 e2 : List Placed) → l2 ≡ map (after_kill_in r p tests) l → c2 ≡ map (after_kill_in r p tests) c → e2 ≡ map (after_kill_in r p tests) e
      → l2 ++ c2 ++ e2 ≡ map (after_kill_in r p tests) whole
  killed_over l2 c2 e2 first middle last =
      ap (λ xs. xs ++ c2 ++ e2) first
      ∙ (ap (λ xs. map (after_kill_in r p tests) l ++ xs ++ e2) middle
      ∙ (ap (λ xs. map (after_kill_in r p tests) l ++ map (after_kill_in r p tests) c ++ xs) last
      ∙ (ap (λ xs. xs ++ map (after_kill_in r p tests) e) (sym (map-append (after_kill_in r p tests) l c))
      ∙ (sym (map-append (after_kill_in r p tests) (l ++ c) e) ∙ ap (map (after_kill_in r p tests)) (sym is)))))

  taken_over : taken_at p tests (versions_in r whole) ≡ taken_at p tests (versions_in r l) ++ taken_at p tests (versions_in r c) ++ taken_at p tests (versions_in r e)
  taken_over =
      ap (λ ps. taken_at p tests (versions_in r ps)) is
      ∙ (ap (taken_at p tests) (reached-append r (l ++ c) e)
      ∙ (taken_at-append p tests (versions_in r (l ++ c)) (versions_in r e)
      ∙ ap (λ rs. rs ++ taken_at p tests (versions_in r e)) (ap (taken_at p tests) (reached-append r l c) ∙ taken_at-append p tests (versions_in r l) (versions_in r c))))

  pub counted_over : (i j k : ℕ) → i ≡ length (taken_at p tests (versions_in r l)) → j ≡ length (taken_at p tests (versions_in r c)) → k ≡ length (taken_at p tests (versions_in r e))
      → i + j + k ≡ length (taken_at p tests (versions_in r whole))
  counted_over i j k first middle last =
      omega (arith, ap length taken_over, length-append (taken_at p tests (versions_in r l) ++ taken_at p tests (versions_in r c)) (taken_at p tests (versions_in r e)), length-append (taken_at p tests (versions_in r l)) (taken_at p tests (versions_in r c)), first, middle, last)

  pub hull_over : (f g h : Option HullValue) → f ≡ hull_of (taken_at p tests (versions_in r l)) → g ≡ hull_of (taken_at p tests (versions_in r c)) → h ≡ hull_of (taken_at p tests (versions_in r e))
      → joined_hull (joined_hull f g) h ≡ hull_of (taken_at p tests (versions_in r whole))
  hull_over f g h first middle last =
      ap (λ x. joined_hull (joined_hull x g) h) first
      ∙ (ap (λ x. joined_hull (joined_hull (hull_of (taken_at p tests (versions_in r l))) x) h) middle
      ∙ (ap (λ x. joined_hull (joined_hull (hull_of (taken_at p tests (versions_in r l))) (hull_of (taken_at p tests (versions_in r c)))) x) last
      ∙ (ap (λ x. joined_hull x (hull_of (taken_at p tests (versions_in r e)))) (sym (hull_of-append (taken_at p tests (versions_in r l)) (taken_at p tests (versions_in r c))))
      ∙ (sym (hull_of-append (taken_at p tests (versions_in r l) ++ taken_at p tests (versions_in r c)) (taken_at p tests (versions_in r e))) ∙ ap hull_of (sym taken_over)))))

  -- at most all versions are removed
  pub few_over_all : (i j k : ℕ) → i ≡ length (taken_at p tests (versions_in r l)) → j ≡ length (taken_at p tests (versions_in r c)) → k ≡ length (taken_at p tests (versions_in r e))
      → i + j + k ≤ length whole
  few_over_all i j k first middle last =
      omega (arith, counted_over i j k first middle last, taken_at-length p tests (versions_in r whole), reached_few r whole)
