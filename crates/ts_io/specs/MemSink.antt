-- A sink in memory.
use Rattle.std.specs.Prelude.{◌≡◌, ℕ, List, ◌++◌, length, take, min, false}
use Rattle.ts_schema.specs.Counts.{one_more}
use Rattle.ts_io.specs.Schedule.{is_listed}
use Rattle.ts_io.specs.declared.sinks.Put.{Put}
use Rattle.ts_io.specs.declared.sinks.Put.TheVariants.{Bytes, Failed}

-- the bytes written and the most that a call takes; the numbers of the calls that fail, and how many calls
-- there were and how many failed
pub record Store : Type 0 where
  pub written : List ℕ
  pub most : ℕ
  pub fails : List ℕ
  pub calls : ℕ
  pub faults : ℕ

-- a write of a piece: a call that isn't listed takes as much as possible, or runs out of memory; one that fails
-- is counted and takes nothing
abbrev pub Stores : Store → List ℕ → Put → Store → Type 0
Stores old piece (Bytes n) new = (is_listed old.fails (one_more old.calls) ≡ false) × (n ≡ min old.most (length piece))
    × (new ≡ record old { written = old.written ++ take n piece; calls = one_more old.calls })
Stores old piece Failed new = new ≡ record old { calls = one_more old.calls; faults = one_more old.faults }
