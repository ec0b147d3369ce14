-- One of the images that a crash may leave, chosen by a number that picks from the writes since the last sync.
use Rattle.std.specs.Prelude.{ℕ, ◌+◌, ◌-◌, ◌/◌, ◌%◌, ◌^◌, Bool, true, ◌&&◌, not, ◌==◌, if◌then◌else◌, List, [], ◌∷◌, ◌++◌, length, take, replicate}
use Rattle.ts_disk.specs.CrashImage.{State, file_after_write}
use Rattle.ts_disk.specs.declared.disk_acts.Piece.{Piece}

-- bit i of a number
abbrev pub bit : ℕ → ℕ → Bool
bit pick i = pick / 2 ^ i % 2 == 1

-- write number i is kept
abbrev pub is_kept : ℕ → ℕ → Bool
is_kept pick i = bit pick (i % 63)

-- none of these writes, numbered from i on, is kept
abbrev pub none_kept : ℕ → ℕ → List Piece → Bool
none_kept pick i [] = true
none_kept pick i (piece ∷ pieces) = not (is_kept pick i) && none_kept pick (i + 1) pieces

-- the first half of these bytes, rounded up
abbrev pub half : List ℕ → List ℕ
half bytes = take ((length bytes + 1) / 2) bytes

-- the part kept of a write that these writes follow: the first half, if that is picked and it is the last one
-- kept
abbrev pub kept_part : ℕ → ℕ → List ℕ → List Piece → List ℕ
kept_part pick i bytes pieces = if bit pick 63 && none_kept pick (i + 1) pieces then half bytes else bytes

-- a file with bytes written at a place; a gap before them is filled with zeros
abbrev pub file_with : List ℕ → ℕ → List ℕ → List ℕ
file_with file at bytes = file_after_write (file ++ replicate (at - length file) 0) at bytes

-- a file after the kept ones of these writes, which are numbered from i on
abbrev pub picked_from : ℕ → ℕ → List ℕ → List Piece → List ℕ
picked_from pick i file [] = file
picked_from pick i file (piece ∷ pieces) =
    picked_from pick (i + 1)
    (if is_kept pick i then file_with file piece.at (kept_part pick i piece.bytes pieces) else file) pieces

-- the image picked
abbrev pub image_picked : ℕ → State → List ℕ
image_picked pick state = picked_from pick 0 state.synced state.writes
