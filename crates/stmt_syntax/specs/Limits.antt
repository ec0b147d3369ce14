-- How long texts may be, and how great a number.
use Rattle.std.specs.Prelude.{ℕ, ℤ, pos, negsuc, Bool, ◌&&◌, int_le}

-- the bytes that a line may have before its line end
abbrev pub longest_line : ℕ
longest_line = 65536

-- the bytes of input that are read as lines
abbrev pub longest_input : ℕ
longest_input = 67108864

-- the number fits 64 bits
abbrev pub is_i64 : ℤ → Bool
is_i64 z = int_le (negsuc 9223372036854775807) z && int_le z (pos 9223372036854775807)
