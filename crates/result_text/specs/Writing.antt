-- A text that is appended to a buffer.
use Rattle.std.specs.Prelude.{ℕ, List}

-- the contents of the buffer, and the text appended
pub record Written : Type 0 where
  pub before : List ℕ
  pub after : List ℕ
