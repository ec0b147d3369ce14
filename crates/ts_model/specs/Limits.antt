-- Limits of what events hold, and of how many sessions a script has.
use Rattle.std.specs.Prelude.{ℕ, Bool, ◌&&◌, ◌-◌, ◌^◌, ℤ, int_le}
use Rattle.ts_bucket.specs.WholeSpans.{least, greatest}

-- the most tables, and the most aggregates
abbrev pub most_relations : ℕ
most_relations = 64

-- the most columns of a table, and of an output
abbrev pub most_columns : ℕ
most_columns = 16

-- the most sessions of a script
abbrev pub most_sessions : ℕ
most_sessions = 64

-- no event comes after this position
abbrev pub last_position : ℕ
last_position = 2 ^ 62

-- an event takes fewer bytes than this
abbrev pub bytes_limit : ℕ
bytes_limit = 2 ^ 32

-- a number of 64 bits
abbrev pub is_word : ℤ → Bool
is_word v = int_le least v && int_le v greatest
