-- The bytes that reads of a disk return.
use Rattle.std.proofs.Common.{◌≡◌, ℕ, ◌≤◌, List, Option, None, Some, Result, Ok, Err, IsSome, IsSomeAnd, IfSome, length, refl, sym, subst}
use Rattle.ts_disk.specs.CrashImage.{Torn, file_after_write}
use Rattle.ts_disk.specs.Disk.{Writes}
use Rattle.ts_disk.proofs.Images.{torn_written}

-- ---- options

pub some_also : {A : Type 0} (o : Option A) (P Q : A → Type 0) → ((a : A) → P a → Q a) → IsSomeAnd o P → IsSomeAnd o Q
some_also None P Q from p = p
some_also (Some a) P Q from p = from a p

pub some_is : {A : Type 0} (o : Option A) (a : A) (P : A → Type 0) → o ≡ Some a → P a → IsSomeAnd o P
some_is {A = A} o a P is p = subst (λ (x : Option A). IsSomeAnd x P) (sym is) p

pub some_told : {A : Type 0} (o : Option A) (a : A) → o ≡ Some a → IsSome o
some_told o a is = subst IsSome (sym is) refl

pub the_told : {A : Type 0} (o : Option A) → IsSome o → (a : A) × (o ≡ Some a)
the_told None some = absurd (cc some)
the_told (Some a) some = (a, refl)

-- ---- writes

-- a write leaves the bytes torn, or at most written whole
pub torn_after : {T E : Type 0} (before now : Option (List ℕ)) (at : ℕ) (piece file : List ℕ) (result : Result T E)
    → before ≡ Some file → IfSome before (λ whole. at ≤ length whole) → Writes before at piece result now → IsSomeAnd now (Torn at (length piece) file)
torn_after {T = T} {E = E} before now at piece file (Ok v) told within writes =
    let wrote : now ≡ Some (file_after_write file at piece) = subst (λ (o : Option (List ℕ)). Writes {T = T} {E = E} o at piece (Ok v) now) told writes in
    let le : at ≤ length file = subst (λ (o : Option (List ℕ)). IfSome o (λ whole. at ≤ length whole)) told within in
    some_is now (file_after_write file at piece) (Torn at (length piece) file) wrote (torn_written file at piece le)
torn_after {T = T} {E = E} before now at piece file (Err e) told within writes =
    subst (λ (o : Option (List ℕ)). Writes {T = T} {E = E} o at piece (Err e) now) told writes
