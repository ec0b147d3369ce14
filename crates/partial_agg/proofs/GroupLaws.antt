-- Laws of the order of groups. It is total, it compares the bucket first, and groups that compare equal have
-- the same bucket and keys.
use Rattle.std.proofs.Common.{◌≡◌, refl, true, false, cond, ℤ, ◌≤ℤ◌, arith}
use Rattle.std.specs.Cmp.{IsTotalOrder}
use Rattle.std.specs.Prelude.{int_lt}
use Rattle.std.specs.Ordering.{int_cmp, ordering_then}
use Rattle.std.specs.declared.cmp.Ordering.{Ordering}
use Rattle.std.specs.declared.cmp.Ordering.TheVariants.{Less, Equal, Greater}
use Rattle.std.proofs.lemmas.Cmp.{int_cmp_total, on_total, then_total}
use Rattle.std.proofs.lemmas.Int.{ints}
use Rattle.std.proofs.lemmas.Map.Lookups.{exact_signed}
use Rattle.ts_schema.specs.Rows.{values_cmp}
use Rattle.ts_schema.proofs.OrderLaws.{values_cmp_total, values_cmp_exact, then_equal}
use Rattle.partial_agg.specs.declared.groups.Group.{Group}
use Rattle.partial_agg.specs.Groups.{group_cmp}

pub group_cmp_total : IsTotalOrder group_cmp
group_cmp_total = then_total (on_total (λ g. g.start) int_cmp_total) (on_total (λ g. g.keys) values_cmp_total)

pub group_cmp-place : (g h : Group) → group_cmp g h ≡ Equal → (g.start ≡ h.start) × (g.keys ≡ h.keys)
group_cmp-place g h e =
    let both = then_equal (int_cmp g.start h.start) (values_cmp g.keys h.keys) e in
    (exact_signed g.start h.start both.0, values_cmp_exact g.keys h.keys both.1)

not_above : (x y : ℤ) (o : Ordering) → ordering_then (int_cmp x y) o ≡ Less → x ≤ℤ y
not_above x y o e =
    elim (int_lt y x) as (λ b. int_lt y x ≡ b → ordering_then (cond (int_lt x y) Less (cond b Greater Equal)) o ≡ Less → x ≤ℤ y) [
      | true ↦ λ above f. let below : int_lt x y ≡ false = grind (arith, ints, above) in cc (rw below at f)
      | false ↦ λ low f. grind (arith, ints, low)
    ] refl e

-- the first of two groups in order starts no later
pub less_start : (g h : Group) → group_cmp g h ≡ Less → g.start ≤ℤ h.start
less_start g h e = not_above g.start h.start (values_cmp g.keys h.keys) e
