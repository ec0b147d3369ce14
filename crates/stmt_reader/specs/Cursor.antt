use Rattle.std.specs.Prelude.{ℕ, List}
use Rattle.stmt_tokens.specs.Streams.{Stream, stream}

-- a text and how many of its bytes were read
pub record Cursor : Type 0 where
  pub text : List ℕ
  pub at : ℕ

-- the tokens that are left
abbrev pub ahead : Cursor → Stream
ahead c = stream c.text c.at
