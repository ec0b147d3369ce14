-- Readers and writers of std as a source and a sink.
use Rattle.std.specs.Prelude.{ℕ, Bool, cond, ◌==◌, ◌&&◌, nat_lt, List, length, Result, Ok, Err}
use Rattle.ts_io.specs.declared.sources.Got.{Got}
use Rattle.ts_io.specs.declared.sources.Got.TheVariants as got
use Rattle.ts_io.specs.declared.sinks.Put.{Put}
use Rattle.ts_io.specs.declared.sinks.Put.TheVariants as put

-- the reader, whether it has reported its end, and how many of its reads failed
pub record Input (R : Type 0) : Type 0 where
  pub reader : R
  pub ended : Bool
  pub faults : ℕ

-- the writer, and how many writes to it failed
pub record Output (W : Type 0) : Type 0 where
  pub writer : W
  pub faults : ℕ

-- what a read returned: as many bytes as it says, and nothing after an error
abbrev pub got_of : {E : Type 0} → Result ℕ E → Got
got_of (Ok n) = got.Bytes n
got_of (Err e) = got.Failed

-- what a write took: as many bytes as it says, and nothing after an error or if it took none of a piece that
-- isn't empty
abbrev pub put_of : {E : Type 0} → Result ℕ E → List ℕ → Put
put_of (Ok n) piece = cond (n == 0 && nat_lt 0 (length piece)) put.Failed (put.Bytes n)
put_of (Err e) piece = put.Failed
