-- Columns that are read in order.
use Rattle.std.proofs.Common.{◌≡◌, ℕ, zero, suc, ◌==◌, List, [], ◌∷◌, ◌++◌, map, length, drop, get_or, true, refl, ap, ◌∙◌, arith}
use Rattle.std.proofs.lemmas.Bool.{and_parts, eqb-true}
use Rattle.hier_agg.specs.Wholes.{run_from}

drop_next : {X : Type 0} (all : List X) (n : ℕ) (x : X) (rest : List X) → drop n all ≡ x ∷ rest → drop (suc n) all ≡ rest
drop_next [] zero x rest e = absurd (cc e)
drop_next [] (suc n) x rest e = absurd (cc e)
drop_next (y ∷ all) zero x rest e = cc e
drop_next (y ∷ all) (suc n) x rest e = drop_next all n x rest e

read_first : {X : Type 0} (all : List X) (n : ℕ) (x d : X) (rest : List X) → drop n all ≡ x ∷ rest → get_or all n d ≡ x
read_first [] zero x d rest e = absurd (cc e)
read_first [] (suc n) x d rest e = absurd (cc e)
read_first (y ∷ all) zero x d rest e = cc e
read_first (y ∷ all) (suc n) x d rest e = read_first all n x d rest e

-- the items from a place on are read at the numbers from it on
pub read_run : {X : Type 0} (d : X) (all : List X) (n : ℕ) (ks : List ℕ) (back others : List X) → drop n all ≡ back ++ others → run_from n ks ≡ true → length ks ≡ length back → map (λ k. get_or all k d) ks ≡ back
read_run d all n [] [] others is run same = refl
read_run d all n [] (x ∷ back) others is run same = absurd (omega (arith, same))
read_run d all n (k ∷ ks) [] others is run same = absurd (omega (arith, same))
read_run d all n (k ∷ ks) (x ∷ back) others is run same =
    let parts = and_parts (k == n) (run_from (suc n) ks) run in
    let first : get_or all k d ≡ x = ap (λ m. get_or all m d) (eqb-true k n parts.0) ∙ read_first all n x d (back ++ others) is in
    ap (λ v. v ∷ map (λ m. get_or all m d) ks) first
    ∙ ap (λ vs. x ∷ vs) (read_run d all (suc n) ks back others (drop_next all n x (back ++ others) is) parts.1 (omega (arith, same)))

pub drop_front : {X : Type 0} (front back : List X) → drop (length front) (front ++ back) ≡ back
drop_front [] back = refl
drop_front (x ∷ front) back = drop_front front back
