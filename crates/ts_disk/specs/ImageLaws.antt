-- Properties of the images of a disk in memory at each moment.
use Rattle.std.proofs.Common.{◌≡◌, ◌⊎◌, inl, inr, ℕ, ◌+◌, ◌-◌, ◌<◌, ◌≤◌, Bool, true, false, ◌||◌, min, List, [], ◌∷◌, ◌++◌, length, take, drop, get_or, refl, sym, ◌∙◌, ap, subst, arith, length-append, length-take, length-drop}
use Rattle.std.proofs.lemmas.Bool.Decides.{nat_tests}
use Rattle.std.proofs.lemmas.List.{take_all, get_or_append_left, get_or-append_right, get_or-take, get_or-drop}
use Rattle.std.specs.List.{list_any}
use Rattle.std.proofs.lemmas.List.Folds.{list_any-append}
use Rattle.ts_disk.specs.CrashImage.{State, IsImage, covers, at_rest, file_after_write}
use Rattle.ts_disk.specs.MemDisk.{Recorded, WasImage, after, state_after, content, leaves, moment}
use Rattle.ts_disk.specs.declared.disk_acts.Act.{Act}
use Rattle.ts_disk.specs.declared.disk_acts.Act.TheVariants.{Write, Sync}
use Rattle.ts_disk.specs.declared.disk_acts.Piece.{Piece}

-- ---- lists

pub length-written : (file : List ℕ) (at : ℕ) (piece : List ℕ)
    → length (file_after_write file at piece) ≡ min at (length file) + length piece + (length file - (at + length piece))
length-written file at piece =
    omega
    (arith, length-append (take at file ++ piece) (drop (at + length piece) file), length-append (take at file) piece, length-take at file, length-drop (at + length piece) file)

pub length-written-le : (file : List ℕ) (at : ℕ) (piece : List ℕ) → length file ≤ length (file_after_write file at piece)
length-written-le file at piece = omega (arith, length-written file at piece)

-- bytes outside a write stay
pub get_or-written :
    (file : List ℕ) (at : ℕ) (piece : List ℕ) (i : ℕ) → i < length file → (i < at) ⊎ (at + length piece ≤ i)
    → get_or (file_after_write file at piece) i 0 ≡ get_or file i 0
get_or-written file at piece i in_file (inl low) =
    let front = take at file in
    let short : i < length front = omega (arith, length-take at file) in
    let longer : i < length (front ++ piece) = omega (arith, length-append front piece) in
    get_or_append_left (front ++ piece) (drop (at + length piece) file) 0 i longer
    ∙ get_or_append_left front piece 0 i short
    ∙ get_or-take at file i 0 low
get_or-written file at piece i in_file (inr high) =
    let front = take at file ++ piece in
    let size : length front ≡ at + length piece =
    omega (arith, length-append (take at file) piece, length-take at file) in
    let place : (at + length piece) + (i - (at + length piece)) ≡ i = omega arith in
    get_or-append_right front (drop (at + length piece) file) (at + length piece) i 0 size high
    ∙ get_or-drop (at + length piece) file (i - (at + length piece)) 0
    ∙ ap (λ (k : ℕ). get_or file k 0) place

-- a place that a write doesn't cover lies before or after it
pub apart : (i : ℕ) (piece : Piece) → covers i piece ≡ false → (i < piece.at) ⊎ (piece.at + length piece.bytes ≤ i)
apart i piece none = grind (arith, nat_tests)

pub covered-push : (i : ℕ) (pieces : List Piece) (piece : Piece) → list_any (covers i) (pieces ++ piece ∷ []) ≡ false
    → (list_any (covers i) pieces ≡ false) × (covers i piece ≡ false)
covered-push i pieces piece none =
    none_of (list_any (covers i) pieces) (covers i piece) (sym (list_any-append (covers i) pieces (piece ∷ [])) ∙ none)
  where
    none_of : (a b : Bool) → (a || (b || false)) ≡ false → (a ≡ false) × (b ≡ false)
    none_of false false is = (refl, refl)
    none_of false true is = absurd (cc is)
    none_of true b is = absurd (cc is)

-- ---- the bytes that a read returns are an image

pub shows-at_rest : (file : List ℕ) → IsImage (at_rest file) file
shows-at_rest file = record { no_shorter = omega arith; no_longer = omega arith; outside = λ i le none. refl }

shows-after : (s : State) (act : Act) → IsImage s s.now → IsImage (after s act) (after s act).now
shows-after s (Write piece) shows = record {
  no_shorter = omega (arith, shows.no_shorter, length-written-le s.now piece.at piece.bytes);
  no_longer = omega arith;
  outside = λ i le none.
      let parts = covered-push i s.writes piece none in
      get_or-written s.now piece.at piece.bytes i (omega (arith, shows.no_shorter)) (apart i piece parts.1) ∙ shows.outside i le parts.0;
}
shows-after s Sync shows = shows-at_rest s.now

pub shows-state :
    (s : State) (acts : List Act) → IsImage s s.now → IsImage (state_after s acts) (state_after s acts).now
shows-state s [] shows = shows
shows-state s (act ∷ acts) shows = shows-state (after s act) acts (shows-after s act shows)

pub shows_an_image : (disk : Recorded) → leaves disk (content disk)
shows_an_image disk = shows-state (at_rest disk.first) disk.acts (shows-at_rest disk.first)

-- ---- moments

all_acts : (acts : List Act) (n : ℕ) → length acts ≤ n → take n acts ≡ acts
all_acts acts n le = take_all n acts le

pub counts_now : (disk : Recorded) (t : ℕ) (c : List ℕ) → t ≤ moment disk → leaves disk c → WasImage disk t c
counts_now disk t c le image = record {
  when = length disk.acts;
  from = le;
  past = omega arith;
  image =
      subst (λ (acts : List Act). IsImage (state_after (at_rest disk.first) acts) c)
      (sym (all_acts disk.acts (length disk.acts) (omega arith))) image;
}

pub only_now : (disk : Recorded) (c : List ℕ) → WasImage disk (moment disk) c → leaves disk c
only_now disk c was =
    subst (λ (acts : List Act). IsImage (state_after (at_rest disk.first) acts) c)
    (all_acts disk.acts was.when was.from) was.image
