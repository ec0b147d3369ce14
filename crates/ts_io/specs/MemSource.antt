-- A source in memory.
use Rattle.std.specs.Prelude.{◌≡◌, ℕ, Bool, true, false, ◌==◌, ◌&&◌, nat_lt, List, length, drop, min}
use Rattle.ts_schema.specs.Counts.{one_more}
use Rattle.ts_io.specs.Schedule.{is_listed}
use Rattle.ts_io.specs.declared.sources.Got.{Got}
use Rattle.ts_io.specs.declared.sources.Got.TheVariants.{Bytes, Failed}

-- the bytes left, whether the end was reported, and the most that a call returns; the numbers of the calls that
-- fail, and how many calls there were and how many failed
pub record Supply : Type 0 where
  pub left : List ℕ
  pub ended : Bool
  pub most : ℕ
  pub fails : List ℕ
  pub calls : ℕ
  pub faults : ℕ

-- a source of these bytes before its first call
abbrev pub source_of : List ℕ → ℕ → List ℕ → Supply
source_of bytes most fails = record { left = bytes; ended = false; most = most; fails = fails; calls = 0; faults = 0 }

-- a read into this much room: a listed call fails and is counted, every other returns as much as possible
abbrev pub Supplies : Supply → ℕ → Got → Supply → Type 0
Supplies old room (Bytes n) new =
    (is_listed old.fails (one_more old.calls) ≡ false) × (n ≡ min old.most (min room (length old.left)))
    × (new ≡ record old { left = drop n old.left; ended = (n == 0) && nat_lt 0 room; calls = one_more old.calls })
Supplies old room Failed new =
    (is_listed old.fails (one_more old.calls) ≡ true)
    × (new ≡ record old { calls = one_more old.calls; faults = one_more old.faults })
