-- One step of reading.
use Rattle.std.proofs.Common.{◌≡◌, ◌≢◌, inl, inr, ⊎_elim, ℕ, ◌+◌, ◌^◌, ◌<◌, ◌≤◌, true, false, List, [], ◌∷◌, ◌++◌, length, take, drop, get_or, Option, Some, refl, sym, ◌∙◌, ap, subst, arith, append_assoc, take-append-drop}
use Rattle.std.proofs.lemmas.Bool.{cond-true, cond-false}
use Rattle.std.proofs.lemmas.List.{take_at, take_more, drop_more, drop-drop, append_cancel_left, get_or-take}
use Rattle.std.specs.Int.{w32, to_le_bytes}
use Rattle.txn_journal.specs.Calls.{LiesAs}
use Rattle.txn_journal.specs.Contents.{Content, content_from, has_base, is_base, nothing, version_of, with_payload}
use Rattle.txn_journal.specs.Frames.{AllFit, Fits, Follows, HoldsTo, NoBaseBehind, StandsFor, IsDamaged, IsShort, body, counted_before, front, header}
use Rattle.txn_journal.specs.Places.{IsReading}
use Rattle.txn_journal.specs.Reading.{BaseFollows, Counts, HasFrames, HasRead, IsHead, IsReadTo, Progress, ReadsTo, StartsAs, at_gate, based_on, with_next}
use Rattle.txn_journal.specs.declared.heads.Head.TheVariants.{Closed, Frame, Short}
use Rattle.txn_journal.specs.declared.heads.Start.TheVariants.{Bare as StartsBare, Journal as StartsJournal}
use Rattle.txn_journal.specs.declared.journals.JournalState.{JournalState}
use Rattle.txn_journal.specs.declared.journals.JournalState.TheVariants.{Bare, Ready, Still}
use Rattle.txn_journal.specs.declared.versions.Version.{Version}
use Rattle.txn_journal.specs.declared.versions.Version.TheVariants.{One}
use Rattle.txn_journal.proofs.ContentLaws.{base_counts, head_and_rest, next_counts, none_in_one, payloads_push}
use Rattle.txn_journal.proofs.FrameLaws.{front-push, length-front-push, fit-push}
use Rattle.txn_journal.proofs.UniqueLaws.{goes_on, same_payload}

-- ---- the frames before a commit byte

-- a file is what precedes a commit byte, that byte, and what follows
module _ (file : List ℕ) (mark at : ℕ) (payloads : List (List ℕ)) (read : HasFrames file mark at payloads) (within : at < length file) where
  pub split : file ≡ front mark payloads ++ get_or file at 0 ∷ drop (at + 1) file
  split = sym (take-append-drop at file) ∙ ap (λ (l : List ℕ). l ++ drop at file) read.before ∙ ap (λ (l : List ℕ). front mark payloads ++ l) (drop_more file at 0 within)

  not_header : get_or file at 0 ≡ 1 → file ≡ header → ⊥
  not_header is_open same =
      let eight : at ≡ 8 = omega (arith, read.place, within, ap length same) in
      let zero_there : get_or file at 0 ≡ 0 = ap (λ (n : ℕ). get_or file n 0) eight ∙ ap (λ (l : List ℕ). get_or l 8 0) same in
      absurd (omega (arith, is_open, zero_there))

  pub long_there : get_or file at 0 ≡ 1 → 9 < length file
  long_there is_open = ⊎_elim (λ more. more) (λ same. absurd (not_header is_open same)) read.long

  pub frame_read : (n first : ℕ) (payload : List ℕ) → IsHead (Frame n first) file at → length payload ≡ n → payload ≡ take n (drop (at + 5) file) → HasFrames file mark (at + 5 + n) (payloads ++ payload ∷ [])
  frame_read n first payload head size is =
      let rest = drop (at + 1) file in
      let behind = drop (at + 5 + n) file in
      let five : (at + 1) + 4 ≡ at + 5 = omega arith in
      let length_there : to_le_bytes w32 (length payload) ≡ take 4 rest = ap (to_le_bytes w32) size ∙ head.3 in
      let second : drop 4 rest ≡ payload ++ behind =
      drop-drop 4 (at + 1) file
      ∙ ap (λ (k : ℕ). drop k file) five
      ∙ sym (take-append-drop n (drop (at + 5) file))
      ∙ (λ k. sym is k ++ drop-drop n (at + 5) file k) in
      let parts : rest ≡ body payload ++ behind =
      sym (take-append-drop 4 rest) ∙ (λ k. sym length_there k ++ second k) ∙ sym (append_assoc (to_le_bytes w32 (length payload)) payload behind) in
      let whole : file ≡ front mark (payloads ++ payload ∷ []) ++ behind =
      split ∙ (λ k. front mark payloads ++ head.0 k ∷ parts k) ∙ sym (front-push mark payloads payload behind) in
      let long : length (front mark (payloads ++ payload ∷ [])) ≡ at + 5 + n = omega (arith, length-front-push mark payloads payload, read.place, size) in
      record {
        before = ap (take (at + 5 + n)) whole ∙ take_at (front mark (payloads ++ payload ∷ [])) behind (at + 5 + n) long;
        place = sym long;
        long = read.long;
        fit = fit-push payloads payload read.fit (subst (λ (m : ℕ). m < 2 ^ 32) (sym size) head.2);
      }

-- the bytes after a commit byte of 1 are those of a list of frames
behind_gate : (file : List ℕ) (mark at : ℕ) (payloads : List (List ℕ)) (payload rest : List ℕ) → HasFrames file mark at payloads → at < length file → file ≡ front mark (payloads ++ payload ∷ []) ++ rest
    → (get_or file at 0 ≡ 1) × (drop (at + 1) file ≡ body payload ++ rest)
behind_gate file mark at payloads payload rest read within is =
    let both : front mark payloads ++ get_or file at 0 ∷ drop (at + 1) file ≡ front mark payloads ++ 1 ∷ (body payload ++ rest) =
    sym (split file mark at payloads read within) ∙ is ∙ front-push mark payloads payload rest in
    let there : get_or file at 0 ∷ drop (at + 1) file ≡ 1 ∷ (body payload ++ rest) =
    append_cancel_left (front mark payloads) (get_or file at 0 ∷ drop (at + 1) file) (1 ∷ (body payload ++ rest)) both in
    (ap (λ (l : List ℕ). get_or l 0 0) there, ap (drop 1) there)

-- no base follows after one more payload
none_behind_next : (file : List ℕ) (mark : ℕ) (payloads : List (List ℕ)) (payload : List ℕ) → NoBaseBehind file mark payloads → NoBaseBehind file mark (payloads ++ payload ∷ [])
none_behind_next file mark payloads payload none more gate rest fit is =
    let joined = append_assoc payloads (payload ∷ []) more in
    (head_and_rest (version_of mark) payload more
    (none (payload ∷ more) gate rest (subst AllFit joined fit) (is ∙ ap (λ (l : List (List ℕ)). front mark l ++ gate ∷ rest) joined))).1

-- ---- the part of a journal that was read

module _ (file : List ℕ) (version : Version) (at : ℕ) (content : Content) (read : ReadsTo file version at content) (within : at < length file) where
  split_there : file ≡ front read.mark read.before ++ get_or file at 0 ∷ drop (at + 1) file
  split_there = split file read.mark at read.before read.frames within

  behind_base : (follows : BaseFollows file read.mark read.before) → (get_or file at 0 ≡ 1) × (drop (at + 1) file ≡ body follows.payload ++ follows.gate ∷ follows.rest)
  behind_base follows = behind_gate file read.mark at read.before follows.payload (follows.gate ∷ follows.rest) read.frames within follows.split

  pub closed_lies : IsHead Closed file at → HoldsTo file version at content
  closed_lies shut = by_counts read.counts
    where
      by_counts : Counts file read.mark read.before content → HoldsTo file version at content
      by_counts (inl so_far) = record {
        holds = record { mark = read.mark; all = read.before; gate = get_or file at 0; ignored = drop (at + 1) file; split = split_there; closed = shut; fit = read.frames.fit; counts = so_far.0 };
        of_version = read.of_version;
        place = read.frames.place;
      }
      by_counts (inr awaits) = absurd (shut (behind_base awaits.1).0)

  pub short_breaks : IsHead Short file at → IsDamaged file content at
  short_breaks head = by_counts read.counts
    where
      by_counts : Counts file read.mark read.before content → IsDamaged file content at
      by_counts (inl so_far) = record {
        long = long_there file read.mark at read.before read.frames within head.0;
        broken = inr (record {
          mark = read.mark;
          all = read.before;
          rest = drop (at + 1) file;
          split = split_there ∙ ap (λ (g : ℕ). front read.mark read.before ++ g ∷ drop (at + 1) file) head.0;
          short = head.1;
          place = read.frames.place;
          fit = read.frames.fit;
          counts = so_far.0;
        });
      }
      by_counts (inr awaits) =
          absurd (goes_on awaits.1.payload (awaits.1.gate ∷ awaits.1.rest) awaits.1.fits (inr (subst IsShort (behind_base awaits.1).1 head.1)) (omega arith))

  -- one more payload was read
  module _ (n first : ℕ) (payload : List ℕ) (head : IsHead (Frame n first) file at) (size : length payload ≡ n) (is : payload ≡ take n (drop (at + 5) file)) (behind : at + 5 + n < length file) where
    later : HasFrames file read.mark (at + 5 + n) (read.before ++ payload ∷ [])
    later = frame_read file read.mark at read.before read.frames within n first payload head size is

    split_behind : file ≡ front read.mark (read.before ++ payload ∷ []) ++ get_or file (at + 5 + n) 0 ∷ drop (at + 5 + n + 1) file
    split_behind = split file read.mark (at + 5 + n) (read.before ++ payload ∷ []) later behind

    fits : Fits payload
    fits = subst (λ (m : ℕ). m < 2 ^ 32) (sym size) head.2

    abbrev Last : Type 0
    Last = NoBaseBehind file read.mark (read.before ++ payload ∷ [])

    abbrev so_far : Content
    so_far = content_from (version_of read.mark) read.before

    pushed : content_from (version_of read.mark) (read.before ++ payload ∷ []) ≡ with_payload version so_far payload
    pushed = payloads_push (version_of read.mark) nothing read.before payload ∙ ap (λ (v : Version). with_payload v so_far payload) read.of_version

    follows_there : content ≡ counted_before version read.before payload → Last → Follows file version content payload at
    follows_there counts last = record {
      mark = read.mark;
      before = read.before;
      gate = get_or file (at + 5 + n) 0;
      rest = drop (at + 5 + n + 1) file;
      split = split_behind;
      fit = later.fit;
      place = read.frames.place;
      of_version = read.of_version;
      counts = counts;
      last = last;
    }

    read_there : with_payload version content payload ≡ with_payload version so_far payload → Last → ReadsTo file version (at + 5 + n) (with_payload version content payload)
    read_there counts last = record { mark = read.mark; before = read.before ++ payload ∷ []; frames = later; of_version = read.of_version; counts = inl (counts ∙ sym pushed, last) }

    pub frame_counts : Follows file version content payload at × ReadsTo file version (at + 5 + n) (with_payload version content payload)
    frame_counts = by_counts read.counts
      where
        by_counts : Counts file read.mark read.before content → Follows file version content payload at × ReadsTo file version (at + 5 + n) (with_payload version content payload)
        by_counts (inl counts) =
            let none = counts.1 (payload ∷ []) (get_or file (at + 5 + n) 0) (drop (at + 5 + n + 1) file) later.fit split_behind in
            let plain : is_base version payload ≡ false = ap (λ (v : Version). is_base v payload) (sym read.of_version) ∙ (head_and_rest (version_of read.mark) payload [] none).0 in
            let last = none_behind_next file read.mark read.before payload counts.1 in
            let here : content ≡ content_from version read.before = counts.0 ∙ ap (λ (v : Version). content_from v read.before) read.of_version in (
              follows_there (here ∙ sym (cond-false _ nothing (content_from version read.before) plain)) last,
              read_there (ap (λ (c : Content). with_payload version c payload) counts.0) last,
            )
        by_counts (inr awaits) =
            let base = awaits.1 in
            let there = (behind_base base).1 in
            let here = (behind_gate file read.mark at read.before payload (get_or file (at + 5 + n) 0 ∷ drop (at + 5 + n + 1) file) read.frames within split_behind).1 in
            let same = (same_payload base.payload payload (base.gate ∷ base.rest) (get_or file (at + 5 + n) 0 ∷ drop (at + 5 + n + 1) file) base.fits fits (sym there ∙ here)).0 in
            let is_one : is_base version payload ≡ true = (λ k. is_base (sym read.of_version k) (sym same k)) ∙ base.base in
            let last : Last = subst (λ (p : List ℕ). NoBaseBehind file read.mark (read.before ++ p ∷ [])) same base.last in (
              follows_there (awaits.0 ∙ sym (cond-true _ nothing (content_from version read.before) is_one)) last,
              read_there (base_counts version content payload is_one ∙ sym (base_counts version so_far payload is_one)) last,
            )

-- ---- the place at which reading begins

pub begins_bare : (file : List ℕ) → StartsAs StartsBare file → IsReadTo Bare One file 8 nothing
begins_bare file starts = (starts.0, starts.1, refl, refl)

-- a journal begins with its magic bytes and the byte of its version
pub begins_frames : (version : Version) (file : List ℕ) → 9 ≤ length file → StartsAs (StartsJournal version) file → HasFrames file (get_or file 7 0) 8 []
begins_frames version file long starts = record {
  before = take_more file 7 0 (omega (arith, long)) ∙ ap (λ (l : List ℕ). l ++ get_or file 7 0 ∷ []) starts.0;
  place = refl;
  long = starts.2;
  fit = tt;
}

pub begins_one : (file : List ℕ) → 9 ≤ length file → StartsAs (StartsJournal One) file → IsReadTo Ready One file 8 nothing
begins_one file long starts = record {
  mark = get_or file 7 0;
  before = [];
  frames = begins_frames One file long starts;
  of_version = sym starts.1;
  counts = inl (refl, λ more gate rest fit is. ap (λ (v : Version). has_base v more) (sym starts.1) ∙ none_in_one more);
}

-- ---- a reader

-- a reader of a file with a header
ready_of : (s : JournalState) (version : Version) (file : List ℕ) (at : ℕ) (content : Content) → s ≢ Bare → IsReadTo s version file at content → s ≡ Ready
ready_of Bare version file at content armed read = absurd (armed refl)
ready_of Ready version file at content armed read = refl
ready_of Still version file at content armed read = absurd read

pub within_size : (told : Option (List ℕ)) (s : JournalState) (size at : ℕ) → s ≢ Bare → IsReading told s size at → at < size
within_size told Bare size at armed reading = absurd (armed refl)
within_size told Ready size at armed reading = reading.1
within_size told Still size at armed reading = absurd reading

module _ {D : Type 0} (bytes : D → Option (List ℕ)) (old : Progress D) (disk : D) (size : ℕ) (file : List ℕ) (content : Content)
    (armed : old.standing ≢ Bare) (within : old.at < old.size) (has : HasRead bytes old file content) (same : bytes disk ≡ bytes old.disk) (long : size ≡ length file) where
  is_ready : old.standing ≡ Ready
  is_ready = ready_of old.standing old.version file old.at content armed has.read

  ready_read : ReadsTo file old.version old.at content
  ready_read = subst (λ (s : JournalState). IsReadTo s old.version file old.at content) is_ready has.read

  in_file : old.at < length file
  in_file = omega (arith, within, has.size)

  -- the version byte gives the reader's version
  pub version_there : version_of (get_or file 7 0) ≡ old.version
  version_there =
      let read = ready_read in
      ap version_of (sym (get_or-take old.at file 7 0 (omega (arith, read.frames.place))) ∙ ap (λ (l : List ℕ). get_or l 7 0) read.frames.before)
      ∙ read.of_version

  pub step_closed : IsHead Closed file old.at → StandsFor file content × HasRead bytes (record old { disk = disk; size = size; is_done = true }) file content
  step_closed shut =
      let lies = closed_lies file old.version old.at content ready_read in_file shut in (
        inr lies.holds,
        record { told = same ∙ has.told; size = long; read = has.read; done = λ is. subst (λ (s : JournalState). LiesAs s old.version file old.at content) (sym is_ready) lies },
      )

  pub step_short : IsHead Short file old.at → IsDamaged file content old.at × HasRead bytes (record old { disk = disk; size = size; is_done = false }) file content
  step_short short = (
    short_breaks file old.version old.at content ready_read in_file short,
    record { told = same ∙ has.told; size = long; read = has.read; done = λ is. absurd (cc is) },
  )

  module _ (n first behind : ℕ) (payload : List ℕ) (head : IsHead (Frame n first) file old.at) (is_long : length payload ≡ n) (is : payload ≡ take (length payload) (drop (old.at + 5) file)) (moves : behind ≡ old.at + 5 + n) (ends : behind < size) where
    abbrev Read : Content → Type 0
    Read now = HasRead bytes (record old { disk = disk; size = size; at = behind; payload = payload; is_done = false }) file now

    counted_more : Follows file old.version content payload old.at × ReadsTo file old.version (old.at + 5 + n) (with_payload old.version content payload)
    counted_more = frame_counts file old.version old.at content ready_read in_file n first payload head is_long (is ∙ ap (λ (m : ℕ). take m (drop (old.at + 5) file)) is_long) (omega (arith, moves, ends, long))

    read_more : (now : Content) → with_payload old.version content payload ≡ now → Read now
    read_more now counts = record {
      told = same ∙ has.told;
      size = long;
      read = subst (λ (s : JournalState). IsReadTo s old.version file behind now) (sym is_ready)
          (subst (λ (m : ℕ). ReadsTo file old.version m now) (sym moves) (subst (λ (c : Content). ReadsTo file old.version (old.at + 5 + n) c) counts counted_more.1));
      done = λ no_end. absurd (cc no_end);
    }

    step_base : is_base old.version payload ≡ true → Follows file old.version content payload old.at × Read (based_on payload)
    step_base base = (counted_more.0, read_more (based_on payload) (base_counts old.version content payload base))

    step_payload : is_base old.version payload ≡ false → Follows file old.version content payload old.at × Read (with_next content payload)
    step_payload plain = (counted_more.0, read_more (with_next content payload) (next_counts old.version content payload plain))

    -- and the version was read again
    module _ (now : Version) (is_now : now ≡ old.version) where
      abbrev ReadNow : Version → Content → Type 0
      ReadNow v counts = HasRead bytes (record { disk = disk; standing = old.standing; version = v; size = size; at = behind; payload = payload; is_done = false }) file counts

      pub step_base_now : is_base now payload ≡ true → Follows file now content payload old.at × ReadNow now (based_on payload)
      step_base_now = subst (λ (v : Version). is_base v payload ≡ true → Follows file v content payload old.at × ReadNow v (based_on payload)) (sym is_now) step_base

      pub step_payload_now : is_base now payload ≡ false → Follows file now content payload old.at × ReadNow now (with_next content payload)
      step_payload_now = subst (λ (v : Version). is_base v payload ≡ false → Follows file v content payload old.at × ReadNow v (with_next content payload)) (sym is_now) step_payload

-- a reader at the commit byte at which reading begins
pub opens_at : {D : Type 0} (bytes : D → Option (List ℕ)) (reader : Progress D) (disk : D) (standing : JournalState) (version : Version) (size at : ℕ) (file : List ℕ)
    → reader ≡ at_gate disk standing version size at → bytes disk ≡ Some file → size ≡ length file → IsReadTo standing version file at nothing → HasRead bytes reader file nothing
opens_at {D} bytes reader disk standing version size at file made told long read =
    subst (λ (r : Progress D). HasRead bytes r file nothing) (sym made) (record { told = told; size = long; read = read; done = λ is. absurd (cc is) })
