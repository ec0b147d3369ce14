-- How acts are repeated.
use Rattle.std.proofs.Common.{◌≡◌, inl, inr, ℕ, ◌+◌, ◌<◌, ◌≤◌, min, List, [], ◌∷◌, ◌++◌, length, take, drop, get_or, refl, sym, ◌∙◌, ap, arith, length-take}
use Rattle.std.proofs.lemmas.Bool.{cases_lt}
use Rattle.std.proofs.lemmas.List.{take_all, drop_all, take_more, drop-append-le}
use Rattle.ts_disk.specs.CrashImage.{State, at_rest, file_after_write}
use Rattle.ts_disk.specs.MemDisk.{after, state_after, pieces_of}
use Rattle.ts_disk.specs.declared.disk_acts.Act.{Act}
use Rattle.ts_disk.specs.declared.disk_acts.Act.TheVariants.{Write, Sync}
use Rattle.ts_disk.specs.declared.disk_acts.Piece.{Piece}
use Rattle.ts_disk.proofs.ActLaws.{state_push}

-- the first i acts have been done again, and the last sync among them was number `since`
pub record Replaying (first : List ℕ) (acts : List Act) (i since : ℕ) (synced now : List ℕ) : Type 0 where
  pub state : state_after (at_rest first) (take i acts) ≡ record { synced = synced; writes = pieces_of (drop since (take i acts)); now = now }
  pub within : since ≤ i
  pub in_acts : i ≤ length acts

pub pieces_push : (acts : List Act) (piece : Piece) → pieces_of (acts ++ Write piece ∷ []) ≡ pieces_of acts ++ piece ∷ []
pieces_push [] piece = refl
pieces_push (Write p ∷ acts) piece = ap (λ (ps : List Piece). p ∷ ps) (pieces_push acts piece)
pieces_push (Sync ∷ acts) piece = pieces_push acts piece

pub replayed_none : (first : List ℕ) (acts : List Act) → Replaying first acts 0 0 first first
replayed_none first acts = record { state = refl; within = omega arith; in_acts = omega arith }

module _ (first : List ℕ) (acts : List Act) (i since : ℕ) (synced now : List ℕ) (so_far : Replaying first acts i since synced now) (more : i < length acts) where
  pub replayed_sync : get_or acts i Sync ≡ Sync → Replaying first acts (i + 1) (i + 1) now now
  replayed_sync is = record {
    state = ap (λ (l : List Act). state_after (at_rest first) l) (take_more acts i Sync more ∙ ap (λ (a : Act). take i acts ++ a ∷ []) is)
        ∙ state_push (at_rest first) (take i acts) Sync
        ∙ ap (λ (s : State). at_rest s.now) so_far.state
        ∙ ap (λ (l : List Act). record { synced = now; writes = pieces_of l; now = now }) (sym (drop_all (i + 1) (take (i + 1) acts) (omega (arith, length-take (i + 1) acts))));
    within = omega arith;
    in_acts = omega arith;
  }

  pub replayed_write : (piece : Piece) → get_or acts i Sync ≡ Write piece → (next : List ℕ) → next ≡ file_after_write now piece.at piece.bytes → Replaying first acts (i + 1) since synced next
  replayed_write piece is next wrote =
      let one_more : take (i + 1) acts ≡ take i acts ++ Write piece ∷ [] = take_more acts i Sync more ∙ ap (λ (a : Act). take i acts ++ a ∷ []) is in
      let longer : pieces_of (drop since (take (i + 1) acts)) ≡ pieces_of (drop since (take i acts)) ++ piece ∷ [] =
      ap (λ (l : List Act). pieces_of (drop since l)) one_more
      ∙ ap pieces_of (drop-append-le since (take i acts) (Write piece ∷ []) (omega (arith, so_far.within, so_far.in_acts, length-take i acts)))
      ∙ pieces_push (drop since (take i acts)) piece in
      record {
        state = ap (λ (l : List Act). state_after (at_rest first) l) one_more
            ∙ state_push (at_rest first) (take i acts) (Write piece)
            ∙ ap (λ (s : State). after s (Write piece)) so_far.state
            ∙ (λ k. record { synced = synced; writes = sym longer k; now = sym wrote k });
        within = omega (arith, so_far.within);
        in_acts = omega arith;
      }

-- a write that begins after the end is like one at the end
pub written-min : (file : List ℕ) (at : ℕ) (piece : List ℕ) → file_after_write file (min (length file) at) piece ≡ file_after_write file at piece
written-min file at piece = elim (cases_lt (length file) at) [
  | inl past ↦
      let place : min (length file) at ≡ length file = omega arith in
      ap (λ (n : ℕ). file_after_write file n piece) place
      ∙ (λ k. take_all (length file) file (omega arith) k ++ piece ++ drop_all (length file + length piece) file (omega arith) k)
      ∙ sym (λ k. take_all at file (omega arith) k ++ piece ++ drop_all (at + length piece) file (omega arith) k)
  | inr inside ↦ let place : min (length file) at ≡ at = omega arith in ap (λ (n : ℕ). file_after_write file n piece) place
]
