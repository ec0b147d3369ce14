-- Inputs read in pieces.
use Rattle.std.proofs.Common.{◌≡◌, ℕ, ◌+◌, ◌≤◌, List, ◌++◌, length, take, drop, None, Some, sym, ap, subst, ◌∙◌, arith, drop_at, length-append, take-append-drop}
use Rattle.std.proofs.lemmas.List.{take-append-le}
use Rattle.std.specs.Prelude.{Option}
use Rattle.std.specs.Io.KnownBytes.{Consumes}
use Rattle.std.proofs.KnownBytes.{Consumes-trans}
use Rattle.ts_io.specs.Whole.{Passes}

-- what is held begins with what was held before and grew by what was taken
pub grown : (before now : List ℕ) → take (length before) now ≡ before → before ++ drop (length before) now ≡ now
grown before now front = ap (λ l. l ++ drop (length before) now) (sym front) ∙ take-append-drop (length before) now

pub Consumes-grown : (start old new : Option (List ℕ)) (before now : List ℕ) → Consumes start old before → take (length before) now ≡ before
    → Consumes old new (drop (length before) now) → Consumes start new now
Consumes-grown start old new before now so_far front more =
    subst (Consumes start new) (grown before now front) (Consumes-trans start old new before (drop (length before) now) so_far more)

-- one byte too many was taken
pub Passes-cut : (n : ℕ) (old new : Option (List ℕ)) (held : List ℕ) → Consumes old new held → length held ≡ n + 1 → Passes n old new (take n held)
Passes-cut n None new held taken long = tt
Passes-cut n (Some xs) None held taken long = taken
Passes-cut n (Some xs) (Some ys) held taken long =
    let within : n ≤ length held = omega arith in (
      omega (arith, ap length taken, length-append held ys),
      sym (ap (take n) taken ∙ take-append-le n held ys within),
      sym (ap (drop (n + 1)) taken ∙ drop_at held ys (n + 1) long),
    )
