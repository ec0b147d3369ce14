-- The outcomes of torn writes.
use Rattle.std.proofs.Common.{◌≡◌, inl, inr, ℕ, ◌+◌, ◌<◌, ◌≤◌, Bool, true, false, ◌||◌, cond, min, max, List, [], ◌∷◌, ◌++◌, length, map, take, drop, get_or, refl, sym, ◌∙◌, ap, arith, append_assoc, length-append, length-take, length-drop}
use Rattle.std.proofs.lemmas.Bool.{cases_Bool}
use Rattle.std.proofs.lemmas.Bool.Decides.{nat_tests}
use Rattle.std.proofs.lemmas.List.{ext_get_or, get_or-take, get_or-drop, take_at, drop_at}
use Rattle.std.proofs.lemmas.List.Folds.{list_any-append}
use Rattle.std.proofs.lemmas.List.FromFn.{length-map-range_with_len, get_or-map-range_with_len}
use Rattle.std.specs.List.{list_any, range_with_len}
use Rattle.ts_disk.specs.CrashImage.{State, IsImage, Torn, covers, file_after_write}
use Rattle.ts_disk.specs.ImageLaws.{length-written}
use Rattle.ts_disk.specs.MemDisk.{after}
use Rattle.ts_disk.specs.declared.disk_acts.Act.TheVariants.{Write}
use Rattle.ts_disk.specs.declared.disk_acts.Piece.{Piece}

-- a crash may leave everything unchanged
pub torn_refl : (at n : ℕ) (c : List ℕ) → Torn at n c c
torn_refl at n c = record { before = refl; after = refl; no_shorter = omega arith; no_longer = omega arith }

-- or the whole write
pub torn_written : (file : List ℕ) (at : ℕ) (piece : List ℕ) → at ≤ length file → Torn at (length piece) file (file_after_write file at piece)
torn_written file at piece le =
    let front = take at file in
    let rest = drop (at + length piece) file in
    let size : length front ≡ at = omega (arith, length-take at file) in
    record {
      before = ap (take at) (append_assoc front piece rest) ∙ take_at front (piece ++ rest) at size;
      after = drop_at (front ++ piece) rest (at + length piece) (omega (arith, size, length-append front piece));
      no_shorter = omega (arith, length-written file at piece);
      no_longer = omega (arith, length-written file at piece);
    }

covered_any : (i : ℕ) (pieces : List Piece) (piece : Piece) → list_any (covers i) pieces ≡ false → covers i piece ≡ false → list_any (covers i) (pieces ++ piece ∷ []) ≡ false
covered_any i pieces piece none not_here = list_any-append (covers i) pieces (piece ∷ []) ∙ ap (λ (b : Bool). b || (covers i piece || false)) none ∙ ap (λ (b : Bool). b || false) not_here

-- an image after a write comes from an image before it: in the range of the write, that earlier image has the
-- bytes of the last sync
module _ (s : State) (piece : Piece) (c : List ℕ) (begins : piece.at ≤ length s.now) (grown : length s.synced ≤ length s.now) (image : IsImage (after s (Write piece)) c) where
  at_byte : ℕ → ℕ
  at_byte i = cond (covers i piece) (get_or s.synced i 0) (get_or c i 0)

  pub earlier : List ℕ
  earlier = map at_byte (range_with_len 0 (min (length s.now) (length c)))

  length-earlier : length earlier ≡ min (length s.now) (length c)
  unfolding earlier
  length-earlier = length-map-range_with_len at_byte 0 (min (length s.now) (length c))

  get-earlier : (i : ℕ) → i < min (length s.now) (length c) → get_or earlier i 0 ≡ at_byte i
  unfolding earlier
  get-earlier i le = get_or-map-range_with_len at_byte 0 (min (length s.now) (length c)) i i 0 le (omega arith)

  outside_stays : (i : ℕ) → covers i piece ≡ false → at_byte i ≡ get_or c i 0
  unfolding at_byte
  outside_stays i none = ap (λ (b : Bool). cond b (get_or s.synced i 0) (get_or c i 0)) none

  inside_is : (i : ℕ) → covers i piece ≡ true → at_byte i ≡ get_or s.synced i 0
  unfolding at_byte
  inside_is i some = ap (λ (b : Bool). cond b (get_or s.synced i 0) (get_or c i 0)) some

  low_apart : (i : ℕ) → i < piece.at → covers i piece ≡ false
  low_apart i low = grind (arith, nat_tests)

  high_apart : (i : ℕ) → piece.at + length piece.bytes ≤ i → covers i piece ≡ false
  high_apart i high = grind (arith, nat_tests)

  longest : length c ≤ max (length s.now) (piece.at + length piece.bytes)
  longest = omega (arith, image.no_longer, length-written s.now piece.at piece.bytes)

  earlier_before : take piece.at c ≡ take piece.at earlier
  earlier_before = ext_get_or 0 (take piece.at c) (take piece.at earlier)
      (omega (arith, length-take piece.at c, length-take piece.at earlier, length-earlier))
      (λ i le.
      let low : i < piece.at = omega (arith, length-take piece.at c) in
      let in_c : i < length c = omega (arith, length-take piece.at c) in
      get_or-take piece.at c i 0 low
      ∙ sym (outside_stays i (low_apart i low))
      ∙ sym (get-earlier i (omega arith))
      ∙ sym (get_or-take piece.at earlier i 0 low))

  earlier_after : drop (piece.at + length piece.bytes) c ≡ drop (piece.at + length piece.bytes) earlier
  earlier_after =
      let end = piece.at + length piece.bytes in
      ext_get_or 0 (drop end c) (drop end earlier)
      (omega (arith, length-drop end c, length-drop end earlier, length-earlier, longest))
      (λ i le.
      get_or-drop end c i 0
      ∙ sym (outside_stays (end + i) (high_apart (end + i) (omega arith)))
      ∙ sym (get-earlier (end + i) (omega (arith, length-drop end c, longest)))
      ∙ sym (get_or-drop end earlier i 0))

  pub torn_from : Torn piece.at (length piece.bytes) earlier c
  torn_from = record {
    before = earlier_before;
    after = earlier_after;
    no_shorter = omega (arith, length-earlier);
    no_longer = omega (arith, length-earlier, longest);
  }

  earlier_outside : (i : ℕ) → i < length s.synced → list_any (covers i) s.writes ≡ false → get_or earlier i 0 ≡ get_or s.synced i 0
  earlier_outside i le none =
      get-earlier i (omega (arith, image.no_shorter)) ∙ elim (cases_Bool (covers i piece)) [
        | inl here ↦ inside_is i here
        | inr not_here ↦ outside_stays i not_here ∙ image.outside i le (covered_any i s.writes piece none not_here)
      ]

  pub earlier_image : IsImage s earlier
  earlier_image = record {
    no_shorter = omega (arith, image.no_shorter, length-earlier);
    no_longer = omega (arith, length-earlier);
    outside = earlier_outside;
  }

  pub torn_image : (d : List ℕ) × IsImage s d × Torn piece.at (length piece.bytes) d c
  torn_image = (earlier, earlier_image, torn_from)
