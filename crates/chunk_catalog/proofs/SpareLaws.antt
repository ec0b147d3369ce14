-- Versions from which a delete takes nothing: all are deleted already, or none has a time that passes.
use Rattle.std.proofs.Common.{◌≡◌, ℕ, ℤ, pos, negsuc, true, false, cond, Option, Some, None, List, [], ◌∷◌, ◌++◌, ◌≤ℤ◌, refl, sym, ◌∙◌, ap, arith}
use Rattle.std.specs.Prelude.{FitsSigned, nat_le}
use Rattle.std.specs.Int.{w64}
use Rattle.std.specs.List.{filter, list_all}
use Rattle.std.proofs.lemmas.Int.{ints}
use Rattle.std.proofs.lemmas.Bool.{false_from_ne_true}
use Rattle.std.proofs.Math.Bool.{and-false}
use Rattle.ts_bucket.specs.Spans.{HullValue, in_hull}
use Rattle.ts_schema.specs.declared.rows.Row.{Row}
use Rattle.ts_schema.specs.declared.conditions.Test.{Test}
use Rattle.ts_schema.specs.Conditions.{passes_all}
use Rattle.ts_schema.proofs.Cases.{and_first, and_second}
use Rattle.seg_rows.specs.Hulls.{joined_hull, hull_at, hull_of}
use Rattle.seg_rows.specs.Versions.{Version, died_out, is_dead_at, is_taken, later_death, rows_of, taken_at, visible_at}
use Rattle.seg_rows.proofs.DeathLaws.{dead_apart, died_out-append}
use Rattle.seg_rows.proofs.HullLaws.{joined_hull-assoc, joined_hull-comm}
use Rattle.chunk_catalog.specs.declared.time_ranges.TimeRange.{TimeRange}
use Rattle.chunk_catalog.specs.Places.{Placed, in_chunk, versions_in, versions_of}
use Rattle.chunk_catalog.specs.Reach.{HoldsPassing, in_reach}
use Rattle.chunk_catalog.proofs.PlaceLaws.{in_joined_first, versions_of-append, versions_of-in_chunk}
use Rattle.chunk_catalog.proofs.ReachLaws.{not_both}

-- a number between two of 64 bits has 64 bits
fits_between : (a b t : ℤ) → FitsSigned w64 a → FitsSigned w64 b → a ≤ℤ t → t ≤ℤ b → FitsSigned w64 t
fits_between a b (pos n) fa fb low high = record { sfits = omega (arith, ints, fa.sfits, fb.sfits, low, high) }
fits_between a b (negsuc n) fa fb low high = record { sfits = omega (arith, ints, fa.sfits, fb.sfits, low, high) }

-- the times of rows lie in their hull, and in a wider one
within_joined : (rows : List Row) (k : Option HullValue) (h : HullValue) → Some h ≡ joined_hull k (hull_of rows) → list_all (λ row. in_hull h row.at) rows ≡ true
within_joined [] k h e = refl
within_joined (x ∷ rows) k h e =
    let point : in_hull (record { least = x.at; most = x.at }) x.at ≡ true = grind (arith, ints) in
    let turned : Some h ≡ joined_hull (hull_at x.at) (joined_hull (hull_of rows) k) =
    e ∙ (joined_hull-comm k (joined_hull (hull_at x.at) (hull_of rows)) ∙ sym (joined_hull-assoc (hull_at x.at) (hull_of rows) k)) in
    let here : in_hull h x.at ≡ true = in_joined_first (record { least = x.at; most = x.at }) (joined_hull (hull_of rows) k) h x.at turned point in
    rw here (within_joined rows (joined_hull k (hull_at x.at)) h (e ∙ joined_hull-assoc k (hull_at x.at) (hull_of rows)))

-- if the hull of all times is out of the range of those that pass, nothing is taken
module _ (r : TimeRange) (h : HullValue) (low : FitsSigned w64 h.least) (high : FitsSigned w64 h.most) (apart : (t : ℤ) → in_hull h t ≡ true → in_reach r t ≡ false) (tests : List Test) (holds : HoldsPassing tests r) (p : ℕ) where
  none_within : (vs : List Version) → list_all (λ row. in_hull h row.at) (rows_of vs) ≡ true → taken_at p tests vs ≡ []
  none_within [] inside = refl
  none_within (v ∷ vs) inside =
      let here : in_hull h v.row.at ≡ true = and_first (in_hull h v.row.at) (list_all (λ row. in_hull h row.at) (rows_of vs)) inside in
      let above : h.least ≤ℤ v.row.at = grind (arith, ints) in
      let below : v.row.at ≤ℤ h.most = grind (arith, ints) in
      let fails : passes_all v.row tests ≡ false =
      false_from_ne_true (passes_all v.row tests) (λ passes. not_both (in_reach r v.row.at) (holds v.row (fits_between h.least h.most v.row.at low high above below) passes) (apart v.row.at here)) in
      let spared : is_taken p tests v ≡ false = rw fails (and-false (visible_at p v)) in
      rw spared (none_within vs (and_second (in_hull h v.row.at) (list_all (λ row. in_hull h row.at) (rows_of vs)) inside))

  pub none_apart : (vs : List Version) → Some h ≡ hull_of (rows_of vs) → taken_at p tests vs ≡ []
  none_apart vs e = none_within vs (within_joined (rows_of vs) None h e)

-- if all versions are deleted, a delete takes nothing from any part of them
pub none_reached : (r : TimeRange) (p : ℕ) (tests : List Test) (ps : List Placed) → is_dead_at p (died_out (versions_of ps)) ≡ true → taken_at p tests (versions_in r ps) ≡ []
none_reached r p tests [] h = refl
none_reached r p tests (x ∷ ps) h =
    let parts = dead_apart p x.version.died (died_out (versions_of ps)) h in
    let hidden : visible_at p x.version ≡ false = rw parts.0 (and-false (nat_le x.version.born p)) in
    elim (in_reach r x.start) as (λ b. taken_at p tests (versions_of (cond b (x ∷ filter (λ y. in_reach r y.start) ps) (filter (λ y. in_reach r y.start) ps))) ≡ []) [
      | true ↦ rw hidden (none_reached r p tests ps parts.1)
      | false ↦ none_reached r p tests ps parts.1
    ]

-- the last delete in two trees and a chunk between them
pub dead_over : (l r : List Placed) (s : ℤ) (vs : List Version) (d e mid f dead : Option ℕ) → d ≡ died_out (versions_of l) → e ≡ died_out vs → mid ≡ later_death d e
    → f ≡ died_out (versions_of r) → dead ≡ later_death mid f → dead ≡ died_out (versions_of (l ++ in_chunk s vs ++ r))
dead_over l r s vs d e mid f dead first here middle last whole =
    let parts : versions_of (l ++ in_chunk s vs ++ r) ≡ versions_of l ++ vs ++ versions_of r =
    versions_of-append (l ++ in_chunk s vs) r
    ∙ ap (λ xs. xs ++ versions_of r) (versions_of-append l (in_chunk s vs) ∙ ap (λ xs. versions_of l ++ xs) (versions_of-in_chunk s vs)) in
    rw (parts, died_out-append (versions_of l ++ vs) (versions_of r), died_out-append (versions_of l) vs, ← first, ← here, ← last, ← middle) whole
