-- Whether each byte of a text is below 128.
use Rattle.std.proofs.Common.{◌≡◌, ℕ, zero, suc, ◌<◌, Bool, true, false, List, [], ◌∷◌, get_or, refl, sym, arith}
use Rattle.std.proofs.lemmas.Bool.{and_from, and_parts, false_from_ne_true, lt-ltb, ltb-true}
use Rattle.std.specs.Char.{is_ascii}
use Rattle.std.specs.List.{list_all}
use Rattle.std.specs.Prelude.{MatchBool}
use Rattle.std.specs.Str.{IsAscii, IsNotAscii}

list_all-ascii : (bs : List ℕ) → IsAscii bs → list_all is_ascii bs ≡ true
list_all-ascii [] all = refl
list_all-ascii (b ∷ bs) all = and_from _ _ (lt-ltb b 128 (all 0)) (list_all-ascii bs (λ i. all (suc i)))

ascii_at : (bs : List ℕ) (i : ℕ) → list_all is_ascii bs ≡ true → get_or bs i 0 < 128
ascii_at [] i all = omega arith
ascii_at (b ∷ bs) zero all = ltb-true b 128 (and_parts _ _ all).0
ascii_at (b ∷ bs) (suc i) all = ascii_at bs i (and_parts _ _ all).1

-- a test of the whole text says it of each byte
pub ascii_of_each : (all : Bool) (bs : List ℕ) → MatchBool all (IsAscii bs) (IsNotAscii bs) → all ≡ list_all is_ascii bs
ascii_of_each true bs ascii = sym (list_all-ascii bs ascii)
ascii_of_each false bs other = sym (false_from_ne_true _ (λ all. let below = ascii_at bs other.0 all in omega (arith, below, other.1)))
