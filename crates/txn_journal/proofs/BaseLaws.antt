-- The walk to the last base.
use Rattle.std.proofs.Common.{◌≡◌, ◌≢◌, ◌⊎◌, inl, inr, ⊎_elim, ℕ, ◌+◌, ◌<◌, ◌≤◌, Bool, true, false, cond, List, [], ◌∷◌, ◌++◌, length, take, drop, get_or, refl, sym, ◌∙◌, ap, subst, arith, append_assoc}
use Rattle.std.specs.Prelude.{◌&&◌, nat_eq, nat_lt, zero, suc}
use Rattle.std.proofs.lemmas.Bool.{lt-ltb}
use Rattle.std.proofs.lemmas.List.{append-nil, get_or-take, get_or-drop, length-drop, length-take-le, take_at}
use Rattle.txn_journal.specs.Contents.{has_base, is_base, nothing, version_of}
use Rattle.txn_journal.specs.Frames.{AllFit, IsShort, frames, front}
use Rattle.txn_journal.specs.Reading.{HasFrames, IsHead, ReadsTo, StartsAs}
use Rattle.txn_journal.specs.declared.heads.Head.TheVariants.{Closed, Frame, Short}
use Rattle.txn_journal.specs.declared.heads.Start.TheVariants.{Journal as StartsJournal}
use Rattle.txn_journal.specs.declared.versions.Version.{Version}
use Rattle.txn_journal.specs.declared.versions.Version.TheVariants.{Two}
use Rattle.txn_journal.proofs.ContentLaws.{LastBase, none_of_both, none_of_one}
use Rattle.txn_journal.proofs.FollowsLaws.{front-append, gate_behind, none_there}
use Rattle.txn_journal.proofs.FrameLaws.{fit-append}
use Rattle.txn_journal.proofs.ReadingLaws.{begins_frames, frame_read, split}

-- a walk is at a commit byte, and passed its last base at another, or passed none
pub record HasWalked (file : List ℕ) (at base : ℕ) : Type 0 where
  pub mark : ℕ
  pub passed : List (List ℕ)
  pub frames : HasFrames file mark at passed
  pub is_two : version_of mark ≡ Two
  pub last : ((base ≡ 8) × (has_base Two passed ≡ false)) ⊎ ((last : LastBase Two passed) × (base ≡ length (front mark last.before)))

pub walk_begins : (file : List ℕ) → 9 ≤ length file → StartsAs (StartsJournal Two) file → HasWalked file 8 8
walk_begins file long starts = record { mark = get_or file 7 0; passed = []; frames = begins_frames Two file long starts; is_two = sym starts.1; last = inl (refl, refl) }

-- ---- one frame more

-- the byte after a length says whether the payload is a base
is_base_by : (file : List ℕ) (at n first : ℕ) → IsHead (Frame n first) file at → is_base Two (take n (drop (at + 5) file)) ≡ (nat_lt 0 n && nat_eq first 8)
is_base_by file at zero first head = refl
is_base_by file at (suc n) first head =
    let there : get_or (take (suc n) (drop (at + 5) file)) 0 0 ≡ first =
    get_or-take (suc n) (drop (at + 5) file) 0 0 (omega arith) ∙ get_or-drop (at + 5) file 0 0 ∙ ap (λ (i : ℕ). get_or file i 0) (omega arith) ∙ sym head.4 in
    let some : nat_lt 0 (suc n) ≡ true = lt-ltb 0 (suc n) (omega arith) in
    (λ k. nat_eq (there k) 8) ∙ (λ k. sym some k && nat_eq first 8)

module _ (file : List ℕ) (at base n first : ℕ) (walked : HasWalked file at base) (within : at < length file) (head : IsHead (Frame n first) file at) (room : at + 5 + n < length file) where
  abbrev payload : List ℕ
  payload = take n (drop (at + 5) file)

  later : HasFrames file walked.mark (at + 5 + n) (walked.passed ++ payload ∷ [])
  later = frame_read file walked.mark at walked.passed walked.frames within n first payload head (length-take-le n (drop (at + 5) file) (omega (arith, room, length-drop (at + 5) file))) refl

  walks_base : (nat_lt 0 n && nat_eq first 8) ≡ true → HasWalked file (at + 5 + n) at
  walks_base is = record {
    mark = walked.mark;
    passed = walked.passed ++ payload ∷ [];
    frames = later;
    is_two = walked.is_two;
    last = inr (
      record {
        before = walked.passed;
        payload = payload;
        behind = [];
        split = sym (append-nil (walked.passed ++ payload ∷ []));
        base = is_base_by file at n first head ∙ is;
        none = refl;
      },
      walked.frames.place,
    );
  }

  walks_on : (nat_lt 0 n && nat_eq first 8) ≡ false → HasWalked file (at + 5 + n) base
  walks_on is =
      let plain : is_base Two payload ≡ false = is_base_by file at n first head ∙ is in
      record {
        mark = walked.mark;
        passed = walked.passed ++ payload ∷ [];
        frames = later;
        is_two = walked.is_two;
        last = ⊎_elim
            (λ none. inl (none.0, none_of_both Two walked.passed (payload ∷ []) none.1 (none_of_one Two payload plain)))
            (λ there. let last = there.0 in inr (
              record {
                before = last.before;
                payload = last.payload;
                behind = last.behind ++ payload ∷ [];
                split = ap (λ (l : List (List ℕ)). l ++ payload ∷ []) last.split ∙ append_assoc (last.before ++ last.payload ∷ []) last.behind (payload ∷ []);
                base = last.base;
                none = none_of_both Two last.behind (payload ∷ []) last.none (none_of_one Two payload plain);
              },
              there.1,
            ))
            walked.last;
      }

  pub walks : (base_there : Bool) (next now : ℕ) → base_there ≡ (nat_lt 0 n && nat_eq first 8) → next ≡ at + 5 + n → now ≡ cond base_there at base → HasWalked file next now
  walks true next now is there last = subst (λ (b : ℕ). HasWalked file next b) (sym last) (subst (λ (i : ℕ). HasWalked file i at) (sym there) (walks_base (sym is)))
  walks false next now is there last = subst (λ (b : ℕ). HasWalked file next b) (sym last) (subst (λ (i : ℕ). HasWalked file i base) (sym there) (walks_on (sym is)))

-- ---- the end of the walk

-- a journal begins with the frames of some payloads if it begins with those of more
part_of : (file : List ℕ) (mark at : ℕ) (some more : List (List ℕ)) (base : ℕ) → HasFrames file mark at (some ++ more) → (rest : List ℕ) → file ≡ front mark some ++ rest → base ≡ length (front mark some) → HasFrames file mark base some
part_of file mark at some more base frames rest is place = record {
  before = ap (take base) is ∙ take_at (front mark some) rest base (sym place);
  place = place;
  long = frames.long;
  fit = (fit-append some more frames.fit).0;
}

module _ (file : List ℕ) (at base : ℕ) (walked : HasWalked file at base) (within : at < length file) (stops : (get_or file at 0 ≢ 1) ⊎ IsShort (drop (at + 1) file)) where
  abbrev gate : ℕ
  gate = get_or file at 0

  abbrev rest : List ℕ
  rest = drop (at + 1) file

  there : file ≡ front walked.mark walked.passed ++ gate ∷ rest
  there = split file walked.mark at walked.passed walked.frames within

  ends_without : base ≡ 8 → has_base Two walked.passed ≡ false → ReadsTo file Two base nothing
  ends_without place none = record {
    mark = walked.mark;
    before = [];
    frames = part_of file walked.mark at [] walked.passed base walked.frames (frames walked.passed ++ gate ∷ rest) there place;
    of_version = walked.is_two;
    counts = inl (refl, none_there file walked.mark [] walked.passed gate rest walked.frames.fit stops there (ap (λ (v : Version). has_base v walked.passed) walked.is_two ∙ none));
  }

  ends_with : (last : LastBase Two walked.passed) → base ≡ length (front walked.mark last.before) → ReadsTo file Two base nothing
  ends_with last place =
      let upto = last.before ++ last.payload ∷ [] in
      let fit : AllFit (upto ++ last.behind) = subst AllFit last.split walked.frames.fit in
      let whole : file ≡ front walked.mark (upto ++ last.behind) ++ gate ∷ rest = there ∙ ap (λ (l : List (List ℕ)). front walked.mark l ++ gate ∷ rest) last.split in
      let next = gate_behind last.behind gate rest in
      let behind : file ≡ front walked.mark upto ++ next.0 ∷ next.1.0 = whole ∙ front-append walked.mark upto last.behind (gate ∷ rest) ∙ ap (λ (l : List ℕ). front walked.mark upto ++ l) next.1.1 in
      let joined = last.split ∙ append_assoc last.before (last.payload ∷ []) last.behind in
      record {
        mark = walked.mark;
        before = last.before;
        frames = part_of file walked.mark at last.before ((last.payload ∷ []) ++ last.behind) base (subst (HasFrames file walked.mark at) joined walked.frames) (frames ((last.payload ∷ []) ++ last.behind) ++ gate ∷ rest)
            (there ∙ ap (λ (l : List (List ℕ)). front walked.mark l ++ gate ∷ rest) joined ∙ front-append walked.mark last.before ((last.payload ∷ []) ++ last.behind) (gate ∷ rest)) place;
        of_version = walked.is_two;
        counts = inr (
          refl,
          record {
            payload = last.payload;
            gate = next.0;
            rest = next.1.0;
            split = behind;
            fits = (fit-append last.before (last.payload ∷ []) (fit-append upto last.behind fit).0).1.0;
            base = ap (λ (v : Version). is_base v last.payload) walked.is_two ∙ last.base;
            last = none_there file walked.mark upto last.behind gate rest fit stops whole (ap (λ (v : Version). has_base v last.behind) walked.is_two ∙ last.none);
          },
        );
      }

  stops_at : ReadsTo file Two base nothing
  stops_at = ⊎_elim (λ without. ends_without without.0 without.1) (λ with. ends_with with.0 with.1) walked.last

pub walk_ends : (file : List ℕ) (at base : ℕ) → HasWalked file at base → at < length file → IsHead Closed file at → ReadsTo file Two base nothing
walk_ends file at base walked within shut = stops_at file at base walked within (inl shut)

pub walk_breaks : (file : List ℕ) (at base : ℕ) → HasWalked file at base → at < length file → IsHead Short file at → ReadsTo file Two base nothing
walk_breaks file at base walked within short = stops_at file at base walked within (inr short.1)
