-- The greatest number of rows of an INSERT.
use Rattle.std.specs.Prelude.{ℕ}

-- the most rows of one INSERT
abbrev pub most_rows : ℕ
most_rows = 1000
