-- The pieces of a transcript's text.
use Rattle.std.specs.Prelude.{ℕ, Bool, List, ◌++◌, codes, decimal}
use Rattle.json.specs.Print.{escape, quoted}
use Rattle.serde_json.specs.Written.{comma_if}
use Rattle.transcript.specs.declared.pieces.Piece.{Piece}
use Rattle.transcript.specs.declared.pieces.Piece.TheVariants.{Plain, Escaped}

-- the text of a piece
abbrev pub piece_text : Piece → List ℕ
piece_text (Plain bytes) = bytes.now
piece_text (Escaped text) = escape text.now

-- the last member of a transcript, and the end of its text
abbrev pub start_text : ℕ → List ℕ
start_text start = codes ",\"start\":" ++ (decimal start ++ codes "}\n")

-- a session transcript up to its first exchange, after a comma if another comes before it
abbrev pub talk_head : Bool → List ℕ → List ℕ
talk_head later name = comma_if later ++ (codes "{\"name\":" ++ (quoted name ++ codes ",\"replies\":["))
