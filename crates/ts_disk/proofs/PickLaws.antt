-- The image picked is a crash image.
use Rattle.std.proofs.Common.{◌≡◌, ◌⊎◌, inl, inr, ⊎_elim, ℕ, ◌+◌, ◌-◌, ◌/◌, ◌<◌, ◌≤◌, Bool, true, false, ◌&&◌, List, [], ◌∷◌, ◌++◌, length, get_or, replicate, refl, sym, ◌∙◌, ap, subst, arith, length-append, length-take, if◌then◌else◌}
use Rattle.std.proofs.lemmas.Bool.{cases_Bool, or_parts}
use Rattle.std.proofs.lemmas.List.{get_or_append_left, length-replicate}
use Rattle.std.specs.List.{list_any}
use Rattle.ts_disk.specs.CrashImage.{State, IsImage, covers, at_rest, file_after_write}
use Rattle.ts_disk.specs.ImageLaws.{length-written, length-written-le, get_or-written, apart}
use Rattle.ts_disk.specs.MemDisk.{after, state_after, begins_within, all_within}
use Rattle.ts_disk.specs.PickedImages.{bit, is_kept, none_kept, half, kept_part, file_with, picked_from, image_picked}
use Rattle.ts_disk.specs.declared.disk_acts.Act.{Act}
use Rattle.ts_disk.specs.declared.disk_acts.Act.TheVariants.{Write, Sync}
use Rattle.ts_disk.specs.declared.disk_acts.Piece.{Piece}

-- these writes end within n bytes
abbrev end_within : ℕ → List Piece → Type 0
end_within n [] = Unit {0}
end_within n (piece ∷ pieces) = (piece.at + length piece.bytes ≤ n) × end_within n pieces

end_within_push : (n m : ℕ) (pieces : List Piece) (piece : Piece) → n ≤ m → end_within n pieces → piece.at + length piece.bytes ≤ m → end_within m (pieces ++ piece ∷ [])
end_within_push n m [] piece le all here = (here, tt)
end_within_push n m (p ∷ pieces) piece le all here =
    let first : p.at + length p.bytes ≤ n = all.0 in
    (omega arith, end_within_push n m pieces piece le all.1 here)

-- no write ends after the bytes, and they have no fewer bytes than at the last sync
record Holds (s : State) : Type 0 where
  grown : length s.synced ≤ length s.now
  ends : end_within (length s.now) s.writes

holds_after : (s : State) (act : Act) → Holds s → begins_within s act → Holds (after s act)
holds_after s (Write piece) holds begins = record {
  grown = omega (arith, holds.grown, length-written-le s.now piece.at piece.bytes);
  ends = end_within_push (length s.now) (length (file_after_write s.now piece.at piece.bytes)) s.writes piece (length-written-le s.now piece.at piece.bytes) holds.ends (omega (arith, begins, length-written s.now piece.at piece.bytes));
}
holds_after s Sync holds begins = record { grown = omega arith; ends = tt }

holds_state : (s : State) (acts : List Act) → Holds s → all_within s acts → Holds (state_after s acts)
holds_state s [] holds all = holds
holds_state s (act ∷ acts) holds all = holds_state (after s act) acts (holds_after s act holds all.0) all.1

-- the part kept of a write is at most the whole
part_shorter : (pick i : ℕ) (bytes : List ℕ) (pieces : List Piece) → length (kept_part pick i bytes pieces) ≤ length bytes
part_shorter pick i bytes pieces = elim (cases_Bool (bit pick 63 && none_kept pick (i + 1) pieces)) [
  | inl picks ↦ subst (λ (b : Bool). length (if b then half bytes else bytes) ≤ length bytes) (sym picks) (omega (arith, length-take ((length bytes + 1) / 2) bytes))
  | inr doesnt ↦ subst (λ (b : Bool). length (if b then half bytes else bytes) ≤ length bytes) (sym doesnt) (omega arith)
]

length-patched : (file : List ℕ) (at : ℕ) (bytes : List ℕ) (n : ℕ) → length file ≤ n → at + length bytes ≤ n → (length file ≤ length (file_with file at bytes)) × (length (file_with file at bytes) ≤ n)
length-patched file at bytes n le ends =
    let filled = file ++ replicate (at - length file) 0 in
    let size : length filled ≡ length file + (at - length file) = length-append file (replicate (at - length file) 0) ∙ ap (λ (m : ℕ). length file + m) (length-replicate (at - length file) 0) in (
      omega (arith, size, length-written-le filled at bytes),
      omega (arith, size, length-written filled at bytes),
    )

pub get_or-patched : (file : List ℕ) (at : ℕ) (bytes : List ℕ) (j : ℕ) → j < length file → (j < at) ⊎ (at + length bytes ≤ j) → get_or (file_with file at bytes) j 0 ≡ get_or file j 0
get_or-patched file at bytes j le outside =
    let filled = file ++ replicate (at - length file) 0 in
    get_or-written filled at bytes j (omega (arith, length-append file (replicate (at - length file) 0))) outside ∙ get_or_append_left file (replicate (at - length file) 0) 0 j le

-- the file after one of the writes that the number picks from
abbrev next_file : ℕ → ℕ → List ℕ → Piece → List Piece → List ℕ
next_file pick i file piece pieces = if is_kept pick i then file_with file piece.at (kept_part pick i piece.bytes pieces) else file

length-next : (pick i : ℕ) (file : List ℕ) (piece : Piece) (pieces : List Piece) (n : ℕ) → length file ≤ n → piece.at + length piece.bytes ≤ n
    → (length file ≤ length (next_file pick i file piece pieces)) × (length (next_file pick i file piece pieces) ≤ n)
length-next pick i file piece pieces n le ends = elim (is_kept pick i) as (λ (b : Bool). (length file ≤ length (if b then file_with file piece.at (kept_part pick i piece.bytes pieces) else file)) × (length (if b then file_with file piece.at (kept_part pick i piece.bytes pieces) else file) ≤ n)) [
  | true ↦ length-patched file piece.at (kept_part pick i piece.bytes pieces) n le (omega (arith, part_shorter pick i piece.bytes pieces))
  | false ↦ (omega arith, le)
]

get_or-next : (pick i : ℕ) (file : List ℕ) (piece : Piece) (pieces : List Piece) (j : ℕ) → j < length file → covers j piece ≡ false → get_or (next_file pick i file piece pieces) j 0 ≡ get_or file j 0
get_or-next pick i file piece pieces j le none = elim (is_kept pick i) as (λ (b : Bool). get_or (if b then file_with file piece.at (kept_part pick i piece.bytes pieces) else file) j 0 ≡ get_or file j 0) [
  | true ↦ get_or-patched file piece.at (kept_part pick i piece.bytes pieces) j le (⊎_elim (λ low. inl low) (λ high. inr (omega (arith, part_shorter pick i piece.bytes pieces))) (apart j piece none))
  | false ↦ refl
]

length-picked : (pick i : ℕ) (file : List ℕ) (pieces : List Piece) (n : ℕ) → length file ≤ n → end_within n pieces → (length file ≤ length (picked_from pick i file pieces)) × (length (picked_from pick i file pieces) ≤ n)
length-picked pick i file [] n le all = (omega arith, le)
length-picked pick i file (piece ∷ pieces) n le all =
    let one = length-next pick i file piece pieces n le all.0 in
    let rest = length-picked pick (i + 1) (next_file pick i file piece pieces) pieces n one.1 all.1 in
    let a : length file ≤ length (next_file pick i file piece pieces) = one.0 in
    let b : length (next_file pick i file piece pieces) ≤ length (picked_from pick i file (piece ∷ pieces)) = rest.0 in
    (omega arith, rest.1)

get_or-picked : (pick i : ℕ) (file : List ℕ) (pieces : List Piece) (n j : ℕ) → length file ≤ n → end_within n pieces → j < length file → list_any (covers j) pieces ≡ false → get_or (picked_from pick i file pieces) j 0 ≡ get_or file j 0
get_or-picked pick i file [] n j le all in_file none = refl
get_or-picked pick i file (piece ∷ pieces) n j le all in_file none =
    let one = length-next pick i file piece pieces n le all.0 in
    let longer : length file ≤ length (next_file pick i file piece pieces) = one.0 in
    let parts = or_parts (covers j piece) (list_any (covers j) pieces) none in
    get_or-picked pick (i + 1) (next_file pick i file piece pieces) pieces n j one.1 all.1 (omega arith) parts.1
    ∙ get_or-next pick i file piece pieces j in_file parts.0

pub picked_image : (pick : ℕ) (first : List ℕ) (acts : List Act) → all_within (at_rest first) acts → IsImage (state_after (at_rest first) acts) (image_picked pick (state_after (at_rest first) acts))
picked_image pick first acts all =
    let s = state_after (at_rest first) acts in
    let holds = holds_state (at_rest first) acts (record { grown = omega arith; ends = tt }) all in
    let sizes = length-picked pick 0 s.synced s.writes (length s.now) holds.grown holds.ends in
    record {
      no_shorter = sizes.0;
      no_longer = sizes.1;
      outside = λ j le none. get_or-picked pick 0 s.synced s.writes (length s.now) j holds.grown holds.ends le none;
    }
