-- The effect of a checkpoint on the disk.
use Rattle.std.proofs.Common.{◌≡◌, ◌⊎◌, inl, inr, ⊎_elim, ℕ, ◌≤◌, true, false, List, ◌∷◌, [], Option, None, IsSomeAnd, refl, sym, ◌∙◌, ap, subst}
use Rattle.std.specs.Prelude.{◌-◌, ◌^◌, length, min}
use Rattle.ts_disk.specs.CrashImage.{LeavesOnly}
use Rattle.ts_disk.proofs.Told.{some_also}
use Rattle.ts_model.specs.History.{History, start, resumed, ◌▸◌, Begins, same}
use Rattle.ts_model.specs.declared.events.Event.{Event}
use Rattle.ts_model.specs.declared.images.Image.{Image}
use Rattle.image_laws.specs.Images.{OneImage}
use Rattle.base_image.specs.Spelling as image_spelling
use Rattle.event_codec.specs.Spelling as spelling
use Rattle.txn_journal.specs.Calls.{IsAtRest, Logged}
use Rattle.txn_journal.specs.Contents.{Content, has_base, is_base, content_of_version_2}
use Rattle.txn_journal.specs.Frames.{StandsFor, StandsForEither as StandsForOne, WithOrWithout}
use Rattle.txn_journal.specs.Reading.{based_on}
use Rattle.txn_journal.specs.declared.versions.Version.{Version}
use Rattle.txn_journal.specs.declared.versions.Version.TheVariants.{Two}
use Rattle.txn_journal.proofs.ContentLaws.{base_counts, none_of_both, none_of_one, raised_same}
use Rattle.txn_journal.proofs.JournalLaws.{lies_stands}
use Rattle.txn_journal.proofs.Moments.{follows, weaker}
use Rattle.engine_core.specs.Values.{Past}
use Rattle.ts_store.specs.Checkpoints.{BeginsSaved, EndsAs, HasImage, HasImageWithin, HoldsImage, IfUntouched, IfWritten, ImagesHaveOneLength, IsImageOf, StandsForImage, StandsSaved}
use Rattle.ts_store.specs.Images.{BeginSince, IsBetween, StandsForMore}
use Rattle.ts_store.specs.declared.checkpoints.CheckEnd.{CheckEnd}
use Rattle.ts_store.specs.declared.checkpoints.CheckEnd.TheVariants.{Done, Nothing, TooLong, DiskFault, Stopped, NoMemory}
use Rattle.ts_store.specs.Stands.{IsSound, content_of, payloads_of}
use Rattle.ts_store.proofs.HistoryLaws.{no_event_is_base, sound_resumed}

-- ---- a base after a journal

-- with a base only the base counts
base_alone : (version : Version) (content : Content) (frame c : List ℕ) → version ≡ Two → is_base Two frame ≡ true → content_of_version_2 content ≡ content
    → WithOrWithout version (content_of_version_2 content) frame c → StandsForOne content (based_on frame) c
base_alone version content frame c two base stays (inl stands) = inl (subst (StandsFor c) stays stands)
base_alone version content frame c two base stays (inr stands) =
    inr (subst (StandsFor c) (base_counts version (content_of_version_2 content) frame (ap (λ (v : Version). is_base v frame) two ∙ base)) stands)

raised_alone : (content : Content) (frame c : List ℕ) → content_of_version_2 content ≡ content → StandsForOne content (content_of_version_2 content) c → StandsForOne content (based_on frame) c
raised_alone content frame c stays (inl stands) = inl stands
raised_alone content frame c stays (inr stands) = inl (subst (StandsFor c) stays stands)

pub base_run : {D : Type 0} (moment : D → ℕ) (left_since : D → ℕ → List ℕ → Type 0) (old mid new : D) (version : Version) (content : Content) (frame : List ℕ)
    → version ≡ Two → is_base Two frame ≡ true → content_of_version_2 content ≡ content
    → LeavesOnly moment left_since old mid (StandsForOne content (content_of_version_2 content)) → LeavesOnly moment left_since mid new (WithOrWithout version (content_of_version_2 content) frame)
    → LeavesOnly moment left_since old new (StandsForOne content (based_on frame))
base_run moment left_since old mid new version content frame two base stays first second =
    follows moment left_since old mid new (StandsForOne content (content_of_version_2 content)) (WithOrWithout version (content_of_version_2 content) frame) (StandsForOne content (based_on frame)) first second
    (λ c either. raised_alone content frame c stays either)
    (λ c either. base_alone version content frame c two base stays either)

-- ---- the image of a history after its journal

no_bases : (h : History) → has_base Two (payloads_of h) ≡ false
no_bases start = refl
no_bases (resumed i) = refl
no_bases (h ▸ e) = none_of_both Two (payloads_of h) (spelling.event e ∷ []) (no_bases h) (none_of_one Two (spelling.event e) (no_event_is_base Two e))

pub counts_raised : (h : History) → content_of_version_2 (content_of h) ≡ content_of h
counts_raised h = raised_same (content_of h) (no_bases h)

image_stands : (h : History) (frame c : List ℕ) → IsImageOf h frame → StandsFor c (based_on frame) → StandsForImage h c
image_stands h frame c image stands = record {
  image = image.image;
  is = image.is;
  stands = record { holds = subst (StandsFor c) (ap based_on image.spelled) stands; sound = sound_resumed image.image image.formed image.is_valid };
}

saved_stands : (h : History) (frame : List ℕ) → IsSound h → IsImageOf h frame → (c : List ℕ) → StandsForOne (content_of h) (based_on frame) c → StandsSaved h c
saved_stands h frame sound image c (inl stands) = inl (record { holds = stands; sound = sound })
saved_stands h frame sound image c (inr stands) = inr (image_stands h frame c image stands)

-- the images of a history have one length, since it has one image
pub one_length : OneImage → ImagesHaveOneLength
one_length one h m n a b = a.bytes ∙ ap (λ (i : Image). min (length (image_spelling.image i)) (2 ^ 64 - 1)) (one h a.image b.image a.is b.is) ∙ sym b.bytes

-- an image of this many bytes has at most as many as these
pub image_within : (h : History) (n most : ℕ) → HasImage h n → n ≤ most → HasImageWithin h most
image_within h n most image within = record { bytes = n; image = image; within = within }

-- what holds where the store went on holds where something may have been written
pub written_from : (P : Type 0) (end : CheckEnd) (past : Past) (failed : Option Event) (most : ℕ) → EndsAs end past failed most → (failed ≡ None → IfWritten end P) → IfWritten end P
written_from P (Done p n) past failed most ends there = there ends.0.0
written_from P (Nothing p) past failed most ends there = tt
written_from P (TooLong p n) past failed most ends there = tt
written_from P DiskFault past failed most ends there = there ends.0.0
written_from P (Stopped p) past failed most ends there = tt
written_from P NoMemory past failed most ends there = tt

-- the content of reads stays if nothing was written
pub untouched_shows : {D : Type 0} (bytes : D → Option (List ℕ)) (end : CheckEnd) (old new : D) (P : List ℕ → Type 0) → IfUntouched end (new ≡ old) → IsSomeAnd (bytes old) P → IfUntouched end (IsSomeAnd (bytes new) P)
untouched_shows bytes (Done p n) old new P same_disk shown = tt
untouched_shows bytes (Nothing p) old new P same_disk shown = subst (λ disk. IsSomeAnd (bytes disk) P) (sym same_disk) shown
untouched_shows bytes (TooLong p n) old new P same_disk shown = subst (λ disk. IsSomeAnd (bytes disk) P) (sym same_disk) shown
untouched_shows bytes DiskFault old new P same_disk shown = tt
untouched_shows bytes (Stopped p) old new P same_disk shown = subst (λ disk. IsSomeAnd (bytes disk) P) (sym same_disk) shown
untouched_shows bytes NoMemory old new P same_disk shown = subst (λ disk. IsSomeAnd (bytes disk) P) (sym same_disk) shown

module _ {D : Type 0} (bytes : D → Option (List ℕ)) (may_leave : D → List ℕ → Type 0) (moment : D → ℕ) (left_since : D → ℕ → List ℕ → Type 0) where
  pub saves_run : (h : History) (frame : List ℕ) (old new : D) → IsSound h → IsImageOf h frame
      → LeavesOnly moment left_since old new (StandsForOne (content_of h) (based_on frame)) → LeavesOnly moment left_since old new (StandsSaved h)
  saves_run h frame old new sound image run = weaker moment left_since old new (StandsForOne (content_of h) (based_on frame)) (StandsSaved h) run (saved_stands h frame sound image)

  pub saves_shown : (h : History) (frame : List ℕ) (told : Option (List ℕ)) → IsSound h → IsImageOf h frame
      → IsSomeAnd told (StandsForOne (content_of h) (based_on frame)) → IsSomeAnd told (StandsSaved h)
  saves_shown h frame told sound image shown = some_also told (StandsForOne (content_of h) (based_on frame)) (StandsSaved h) (saved_stands h frame sound image) shown

  pub saves_done : (h : History) (frame : List ℕ) (journal : Logged D) → IsImageOf h frame → IsAtRest bytes may_leave journal (based_on frame) → HoldsImage bytes may_leave journal.disk h
  saves_done h frame journal image rest = record {
    file = rest.tells.file;
    told = rest.tells.told;
    durable = rest.durable;
    stands = image_stands h frame rest.tells.file image (lies_stands journal.standing journal.version rest.tells.file journal.end (based_on frame) rest.tells.lies);
  }

  -- since an earlier moment each image begins with a history, or is that of one that does
  pub begins_run : (end : CheckEnd) (h seen : History) (t : ℕ) (old new : D) → IfWritten end (LeavesOnly moment left_since old new (StandsSaved seen)) → IfUntouched end (new ≡ old) → Begins h seen → t ≤ moment old
      → BeginSince left_since old t h → (c : List ℕ) → left_since new t c → BeginsSaved h c
  begins_run end h seen t old new run untouched begins le begin c left = by_end end run untouched
    where
      stays : StandsForMore h c → BeginsSaved h c
      stays more = record { all = more.all; stands = inl more.stands; begins = more.begins }

      goes : LeavesOnly moment left_since old new (StandsSaved seen) → BeginsSaved h c
      goes here = ⊎_elim (λ past. stays (begin c past)) (λ now. record { all = seen; stands = now; begins = begins }) (here.before t c le left)

      same_disk : new ≡ old → BeginsSaved h c
      same_disk is = stays (begin c (subst (λ (d : D). left_since d t c) is left))

      by_end : (e : CheckEnd) → IfWritten e (LeavesOnly moment left_since old new (StandsSaved seen)) → IfUntouched e (new ≡ old) → BeginsSaved h c
      by_end (Done p n) here is = goes here
      by_end (Nothing p) here is = same_disk is
      by_end (TooLong p n) here is = same_disk is
      by_end DiskFault here is = goes here
      by_end (Stopped p) here is = same_disk is
      by_end NoMemory here is = same_disk is

  -- and since the start it is between the opening and the history, or the image
  pub images_run : (end : CheckEnd) (opening seen : History) (failed : Option Event) (t : ℕ) (old new : D) → IfWritten end (LeavesOnly moment left_since old new (StandsSaved seen)) → IfUntouched end (new ≡ old)
      → Begins opening seen → t ≤ moment old → ((c : List ℕ) → left_since old t c → IsBetween opening seen failed c) → (c : List ℕ) → left_since new t c → IsBetween opening seen failed c ⊎ StandsForImage seen c
  images_run end opening seen failed t old new run untouched from le images c left = by_end end run untouched
    where
      now_or_image : StandsSaved seen c → IsBetween opening seen failed c ⊎ StandsForImage seen c
      now_or_image (inl stands) = inl (record { history = seen; stands = stands; from = from; upto = inl same })
      now_or_image (inr image) = inr image

      goes : LeavesOnly moment left_since old new (StandsSaved seen) → IsBetween opening seen failed c ⊎ StandsForImage seen c
      goes here = ⊎_elim (λ past. inl (images c past)) now_or_image (here.before t c le left)

      same_disk : new ≡ old → IsBetween opening seen failed c ⊎ StandsForImage seen c
      same_disk is = inl (images c (subst (λ (d : D). left_since d t c) is left))

      by_end : (e : CheckEnd) → IfWritten e (LeavesOnly moment left_since old new (StandsSaved seen)) → IfUntouched e (new ≡ old) → IsBetween opening seen failed c ⊎ StandsForImage seen c
      by_end (Done p n) here is = goes here
      by_end (Nothing p) here is = same_disk is
      by_end (TooLong p n) here is = same_disk is
      by_end DiskFault here is = goes here
      by_end (Stopped p) here is = same_disk is
      by_end NoMemory here is = same_disk is
