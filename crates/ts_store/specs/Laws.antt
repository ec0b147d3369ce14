-- Laws of what journals contain.
use Rattle.std.specs.Prelude.{◌≡◌, ◌⊎◌, ℕ, ◌<◌, List, get_or}
use Rattle.ts_model.specs.History.{History}
use Rattle.ts_store.specs.Stands.{Stands, IsDamagedAt}

-- a file contains one history
abbrev pub StandsOnce : Type 0
StandsOnce = (file : List ℕ) (g h : History) → Stands file g → Stands file h → g ≡ h

-- a file that contains a history isn't damaged
abbrev pub StandsOrDamaged : Type 0
StandsOrDamaged = (file : List ℕ) (h : History) (at : ℕ) → Stands file h → IsDamagedAt file at → ⊥

-- a file is damaged at one place
abbrev pub DamagedOnce : Type 0
DamagedOnce = (file : List ℕ) (p q : ℕ) → IsDamagedAt file p → IsDamagedAt file q → p ≡ q

-- each number of a file is a byte
abbrev pub AreBytes : List ℕ → Type 0
AreBytes file = (i : ℕ) → get_or file i 0 < 256

-- a file contains some history, or is damaged at some place
abbrev pub IsJudged : List ℕ → Type 0
IsJudged file = ((h : History) × Stands file h) ⊎ ((at : ℕ) × IsDamagedAt file at)

-- each file contains a history or is damaged
abbrev pub EachIsJudged : Type 0
EachIsJudged = (file : List ℕ) → AreBytes file → IsJudged file
