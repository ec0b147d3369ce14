-- A text sent to a sink by a page, which collects bytes to write them together.
use Rattle.std.specs.Prelude.{◌≡◌, ℕ, Bool, ◌&&◌, ◌==◌, nat_le, List, ◌++◌, Option, Result, MatchResult}
use Rattle.std.specs.Io.KnownBytes.{Appends}
use Rattle.json.specs.Print.{escape_letter}
use Rattle.ts_io.specs.Whole.{AppendsPart}
use Rattle.ts_io.specs.declared.whole.WriteFault.{WriteFault}

-- of the bytes in the page and of a text after them, the front was written, and the page has the rest
pub record Gathers (old new : Option (List ℕ)) (before after text : List ℕ) : Type 0 where
  pub front : List ℕ
  pub grew : Appends old new front
  pub waits : before ++ text ≡ front ++ after

-- the same or, if the sink failed, a prefix of the two was written
abbrev pub Sends :
    Result (Unit {0}) WriteFault → Option (List ℕ) → Option (List ℕ) → List ℕ → List ℕ → List ℕ → Type 0
Sends result old new before after text =
    MatchResult result (λ _. Gathers old new before after text) (λ _. AppendsPart old new (before ++ text))

-- a byte of a text needs no escape
abbrev pub is_plain : ℕ → Bool
is_plain byte = (escape_letter byte == 0) && nat_le 32 byte
