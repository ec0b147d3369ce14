-- What a checkpoint has done, by how it ended and what it left on the disk.
use Rattle.std.proofs.Common.{◌≡◌, ◌≢◌, ◌↔◌, ◌⊎◌, inl, inr, ⊎_elim, ℕ, ◌≤◌, false, List, [], Option, Some, None, IfSome, IsSomeAnd, refl, sym, ap, ◌∙◌, subst, IsSome}
use Rattle.std.specs.Io.KnownBytes.{Appends}
use Rattle.ts_io.specs.Faults.{Counted}
use Rattle.ts_io.specs.Whole.{AppendsPart}
use Rattle.ts_model.specs.declared.events.Event.{Event}
use Rattle.ts_model.specs.History.{History, events_of, position}
use Rattle.engine_core.specs.Histories.{history_of}
use Rattle.engine_core.specs.Values.{Past}
use Rattle.txn_journal.specs.Calls.{IsAtRest, IsTold, Logged}
use Rattle.txn_journal.specs.Contents.{Content}
use Rattle.ts_store.specs.Checkpoints.{CountsEnd, EndsAs, HasImage, HasImageWithin, HoldsImage, IfSaved, IfUntouched, IfWritten, StandsForImage, StandsSaved}
use Rattle.ts_store.specs.Images.{HasHeader, IsBetween, IsDurable}
use Rattle.ts_store.specs.Stands.{Stands, content_of}
use Rattle.ts_store.specs.Stores.{stop_at}
use Rattle.ts_store.specs.declared.checkpoints.CheckEnd.{CheckEnd}
use Rattle.ts_store.specs.declared.checkpoints.CheckEnd.TheVariants as ends
use Rattle.ts_store.proofs.ImageLaws.{holds_header, shown_told}
use Rattle.ts_top.specs.Checkpoints.{AsBefore, AsEither, AsImage, CheckpointTo, ImageFailed, TellsEnd, ToldNothing, ToldSaved, ToldTooLong, longest_image, nothing_text, saved_text, too_long_text}
use Rattle.ts_top.specs.Endings.{is_disk_fault, is_read_fault}
use Rattle.ts_top.specs.Openings.{NotOpened}
use Rattle.ts_top.specs.Outcomes.{IfWentOn, Outside, LeftAfter}
use Rattle.ts_top.specs.declared.endings.Status.{Status}
use Rattle.ts_top.specs.declared.endings.Status.TheVariants.{Done, Refused, BadWords, ReadFault, WriteFault, DiskFault, Damaged, NoMemory, InputLong}
use Rattle.ts_top.proofs.LogLaws.{events_of_past}
use Rattle.ts_top.proofs.ParallelLaws.{only_one}
use Rattle.ts_top.proofs.PrintLaws.{none_not_some}
use Rattle.ts_disk.proofs.Told.{some_is, some_told, the_told}

-- ---- a store that hasn't stopped

never_stopped : (h : History) (failed : Option Event) (p : ℕ) → failed ≡ None → stop_at h failed ≡ Some p → ⊥
never_stopped h None p goes_on is = cc is
never_stopped h (Some e) p goes_on is = cc goes_on

-- what a crash since the start might have left, if no event was appended
pub history_or_image : (opening h : History) (failed : Option Event) (c : List ℕ) → opening ≡ h → failed ≡ None → IsBetween opening h failed c ⊎ StandsForImage h c → StandsSaved h c
history_or_image opening h failed c whole goes_on either =
    ⊎_elim (λ between. inl (only_one h failed c goes_on (subst (λ g. IsBetween g h failed c) whole between))) (λ image. inr image) either

-- a base that exists isn't missing
no_base_counts : (base : Option (List ℕ)) (some : List ℕ) → base ≡ Some some → base ≡ None → ⊥
no_base_counts None some is none = cc is
no_base_counts (Some b) some is none = cc none

-- a file that represents an image has a header
image_header : (h : History) (file : List ℕ) → StandsForImage h file → HasHeader file
image_header h file image =
    ⊎_elim
    (λ short. absurd (no_base_counts _ _ refl (ap (λ (content : Content). content.base) short.1)))
    (λ holds. holds_header file _ holds)
    image.stands.holds

-- ---- the disk

module _ {D : Type 0} (bytes : D → Option (List ℕ)) (may_leave : D → List ℕ → Type 0) (moment : D → ℕ) (left_since : D → ℕ → List ℕ → Type 0) (begun new : D) (journal : Logged D) (h : History) where
  abbrev pub Known : Type 0
  Known = IsSome (bytes begun)

  abbrev pub Durable : Type 0
  Durable = IsDurable bytes may_leave begun

  abbrev pub Safe : CheckEnd → Type 0
  Safe end = Known → IfWritten end (IsSomeAnd (bytes new) (StandsSaved h)) × IfSaved end (HoldsImage bytes may_leave new h)

  abbrev pub LeftSince : List ℕ → Type 0
  LeftSince = LeftAfter bytes may_leave moment left_since begun new

  module _ (stands : (file : List ℕ) → bytes begun ≡ Some file → Stands file h) (tells : Known → IsTold bytes journal (content_of h)) (rests : Durable → IsAtRest bytes may_leave journal (content_of h)) where
    shown : Known → IsSomeAnd (bytes journal.disk) (λ c. Stands c h)
    shown some = let known = the_told (bytes begun) some in shown_told bytes journal h (stands known.0 known.1).sound (tells some)

    durable_before : Durable → IsDurable bytes may_leave journal.disk
    durable_before d = let rest = rests d in record { file = rest.tells.file; told = rest.tells.told; durable = rest.durable }

    as_before : new ≡ journal.disk → ((c : List ℕ) → LeftAfter bytes may_leave moment left_since begun journal.disk c → Stands c h) → AsBefore Known LeftSince h (bytes new)
    as_before same images = record {
      holds = λ d. subst (λ disk. IsSomeAnd (bytes disk) (λ c. Stands c h)) (sym same) (shown d);
      images = λ c image. images c (subst (λ disk. LeftAfter bytes may_leave moment left_since begun disk c) same image);
    }

    as_image : (p n : ℕ) → Safe (ends.Done p n) → ((c : List ℕ) → LeftSince c → StandsSaved h c) → AsImage Known LeftSince h (bytes new)
    as_image p n safe images = record {
      holds = λ some. let saved : HoldsImage bytes may_leave new h = (safe some).1 in some_is (bytes new) saved.file (StandsForImage h) saved.told saved.stands;
      images = images;
    }

    as_either : Safe ends.DiskFault → ((c : List ℕ) → LeftSince c → StandsSaved h c) → AsEither Known LeftSince h (bytes new)
    as_either safe images = record { holds = λ some. (safe some).0; images = images }

    -- all bytes are on the disk again
    pub lasts : (end : CheckEnd) → Safe end → IfUntouched end (new ≡ journal.disk) → IfSaved end (Durable → IsDurable bytes may_leave new) × IfUntouched end (Durable → IsDurable bytes may_leave new)
    lasts (ends.Done p n) safe same =
        (λ d. let saved : HoldsImage bytes may_leave new h = (safe (some_told (bytes begun) d.file d.told)).1 in record { file = saved.file; told = saved.told; durable = saved.durable }, tt)
    lasts (ends.Nothing p) safe same = (tt, λ d. subst (IsDurable bytes may_leave) (sym same) (durable_before d))
    lasts (ends.TooLong p n) safe same = (tt, λ d. subst (IsDurable bytes may_leave) (sym same) (durable_before d))
    lasts ends.DiskFault safe same = (tt, tt)
    lasts (ends.Stopped p) safe same = (tt, λ d. subst (IsDurable bytes may_leave) (sym same) (durable_before d))
    lasts ends.NoMemory safe same = (tt, λ d. subst (IsDurable bytes may_leave) (sym same) (durable_before d))

    -- what the call has done
    module _ (past : Past) (is_past : h ≡ history_of past) (failed : Option Event) (goes_on : failed ≡ None) (o : Outside) (stood : IfSome o.file_before (λ file. Stands file h)) (file : o.file ≡ bytes new) (unprinted : Type 0) where
      later : past.events ≢ [] → events_of h ≢ []
      later some none = some (sym (events_of_past past) ∙ ap events_of (sym is_past) ∙ none)

      at_end : (p : ℕ) → p ≡ position (history_of past) → p ≡ position h
      at_end p is = is ∙ ap position (sym is_past)

      abbrev To : Status → Type 0
      To status = CheckpointTo status Known LeftSince unprinted ⊥ o

      abbrev Ends : CheckEnd → Type 0
      Ends end = EndsAs end past failed longest_image

      saved : (p n : ℕ) (Wrote : List ℕ → Type 0) → Ends (ends.Done p n) → AsImage Known LeftSince h (bytes new) → Wrote (saved_text p n) → ToldSaved Known LeftSince Wrote o h
      saved p n Wrote end journal wrote = record {
        line = saved_text p n;
        tells = record {
          later = later end.0.1;
          bytes = n;
          image = subst (λ g. HasImage g n) (sym is_past) end.2;
          within = end.3;
          text = ap (λ (q : ℕ). saved_text q n) (at_end p end.1);
        };
        wrote = wrote;
        journal = subst (AsImage Known LeftSince h) (sym file) journal;
      }

      nothing : (p : ℕ) (Wrote : List ℕ → Type 0) → Ends (ends.Nothing p) → AsBefore Known LeftSince h (bytes new) → Wrote (nothing_text p) → ToldNothing Known LeftSince Wrote o h
      nothing p Wrote end journal wrote = record {
        line = nothing_text p;
        tells = record { none = ap events_of is_past ∙ events_of_past past ∙ end.1; text = ap nothing_text (at_end p end.2) };
        wrote = wrote;
        journal = subst (AsBefore Known LeftSince h) (sym file) journal;
      }

      too_long : (p n : ℕ) (Wrote : List ℕ → Type 0) → Ends (ends.TooLong p n) → AsBefore Known LeftSince h (bytes new) → Wrote (too_long_text p n) → ToldTooLong Known LeftSince Wrote o h
      too_long p n Wrote end journal wrote = record {
        line = too_long_text p n;
        tells = record {
          later = later end.0.1;
          bytes = n;
          image = subst (λ g. HasImage g n) (sym is_past) end.2;
          beyond = end.3;
          text = ap (λ (q : ℕ). too_long_text q n) (at_end p end.1);
        };
        wrote = wrote;
        journal = subst (AsBefore Known LeftSince h) (sym file) journal;
      }

      image_failed : Ends ends.DiskFault → AsEither Known LeftSince h (bytes new) → ImageFailed h (AsEither Known LeftSince h o.file)
      image_failed end journal = record {
        later = later end.0.1;
        image = subst (λ g. HasImageWithin g longest_image) (sym is_past) end.1;
        journal = subst (AsEither Known LeftSince h) (sym file) journal;
      }

      pub ended_to : (end : CheckEnd) (status : Status) → Ends end → Safe end → IfUntouched end (new ≡ journal.disk)
          → ((c : List ℕ) → LeftAfter bytes may_leave moment left_since begun journal.disk c → Stands c h) → ((c : List ℕ) → LeftSince c → StandsSaved h c)
          → TellsEnd end status unprinted o.written_before o.written → To status
      ended_to (ends.Done p n) status end safe same before images (inl told) =
          subst To (sym told.0) (record { opening = h; stood = stood; ran = inl (saved p n (Appends o.written_before o.written) end (as_image p n safe images) told.1) })
      ended_to (ends.Done p n) status end safe same before images (inr told) =
          subst To (sym told.0) (record { opening = h; stood = stood; ran = inl (saved p n (AppendsPart o.written_before o.written) end (as_image p n safe images) told.1) })
      ended_to (ends.Nothing p) status end safe same before images (inl told) =
          subst To (sym told.0) (record { opening = h; stood = stood; ran = inr (nothing p (Appends o.written_before o.written) end (as_before same before) told.1) })
      ended_to (ends.Nothing p) status end safe same before images (inr told) =
          subst To (sym told.0) (record { opening = h; stood = stood; ran = inr (inl (nothing p (AppendsPart o.written_before o.written) end (as_before same before) told.1)) })
      ended_to (ends.TooLong p n) status end safe same before images (inl told) =
          subst To (sym told.0) (record { opening = h; stood = stood; ran = too_long p n (Appends o.written_before o.written) end (as_before same before) told.1 })
      ended_to (ends.TooLong p n) status end safe same before images (inr told) =
          subst To (sym told.0) (record { opening = h; stood = stood; ran = inr (inr (too_long p n (AppendsPart o.written_before o.written) end (as_before same before) told.1)) })
      ended_to ends.DiskFault status end safe same before images told =
          subst To (sym told.0) (told.1, inr (record { opening = h; stood = stood; ran = image_failed end (as_either safe images) }))
      ended_to (ends.Stopped p) status end safe same before images told = absurd (never_stopped (history_of past) failed p goes_on end)
      ended_to ends.NoMemory status end safe same before images told =
          subst To (sym told.0) (told.1, inr (record { opening = h; stood = stood; ran = (later end.1, subst (AsBefore Known LeftSince h) (sym file) (as_before same before)) }))

  -- the header exists
  pub headed : (end : CheckEnd) → Safe end → (Known → IfUntouched end (IsSomeAnd (bytes new) HasHeader)) → IfSaved end (Known → IsSomeAnd (bytes new) HasHeader) × IfUntouched end (Known → IsSomeAnd (bytes new) HasHeader)
  headed (ends.Done p n) safe untouched =
      (λ some. let saved : HoldsImage bytes may_leave new h = (safe some).1 in some_is (bytes new) saved.file HasHeader saved.told (image_header h saved.file saved.stands), tt)
  headed (ends.Nothing p) safe untouched = (tt, untouched)
  headed (ends.TooLong p n) safe untouched = (tt, untouched)
  headed ends.DiskFault safe untouched = (tt, tt)
  headed (ends.Stopped p) safe untouched = (tt, untouched)
  headed ends.NoMemory safe untouched = (tt, untouched)

-- ---- the status

-- P is true if the call continued, if it is true when the image was saved and when nothing was written
pub went_on : (end : CheckEnd) (status : Status) (unprinted : Type 0) (before written : Option (List ℕ)) (P : Type 0) → TellsEnd end status unprinted before written → IfSaved end P × IfUntouched end P → IfWentOn status P
went_on (ends.Done p n) status unprinted before written P (inl told) holds = subst (λ x. IfWentOn x P) (sym told.0) holds.0
went_on (ends.Done p n) status unprinted before written P (inr told) holds = subst (λ x. IfWentOn x P) (sym told.0) holds.0
went_on (ends.Nothing p) status unprinted before written P (inl told) holds = subst (λ x. IfWentOn x P) (sym told.0) holds.1
went_on (ends.Nothing p) status unprinted before written P (inr told) holds = subst (λ x. IfWentOn x P) (sym told.0) holds.1
went_on (ends.TooLong p n) status unprinted before written P (inl told) holds = subst (λ x. IfWentOn x P) (sym told.0) holds.1
went_on (ends.TooLong p n) status unprinted before written P (inr told) holds = subst (λ x. IfWentOn x P) (sym told.0) holds.1
went_on ends.DiskFault status unprinted before written P told holds = subst (λ x. IfWentOn x P) (sym told.0) tt
went_on (ends.Stopped p) status unprinted before written P told holds = subst (λ x. IfWentOn x P) (sym told.0) tt
went_on ends.NoMemory status unprinted before written P told holds = subst (λ x. IfWentOn x P) (sym told.0) tt

-- no read fault is reported
pub no_read_fault : (end : CheckEnd) (status : Status) (unprinted : Type 0) (before written : Option (List ℕ)) → TellsEnd end status unprinted before written → is_read_fault status ≡ false
no_read_fault (ends.Done p n) status unprinted before written (inl told) = ap is_read_fault told.0
no_read_fault (ends.Done p n) status unprinted before written (inr told) = ap is_read_fault told.0
no_read_fault (ends.Nothing p) status unprinted before written (inl told) = ap is_read_fault told.0
no_read_fault (ends.Nothing p) status unprinted before written (inr told) = ap is_read_fault told.0
no_read_fault (ends.TooLong p n) status unprinted before written (inl told) = ap is_read_fault told.0
no_read_fault (ends.TooLong p n) status unprinted before written (inr told) = ap is_read_fault told.0
no_read_fault ends.DiskFault status unprinted before written told = ap is_read_fault told.0
no_read_fault (ends.Stopped p) status unprinted before written told = ap is_read_fault told.0
no_read_fault ends.NoMemory status unprinted before written told = ap is_read_fault told.0

-- a disk fault is reported if the count rose
pub counted_disk : (end : CheckEnd) (status : Status) (unprinted : Type 0) (before written : Option (List ℕ)) (past : Past) (failed : Option Event) (most faults now : ℕ) → failed ≡ None → EndsAs end past failed most
    → TellsEnd end status unprinted before written → CountsEnd end faults now → Counted faults now (is_disk_fault status)
counted_disk (ends.Done p n) status unprinted before written past failed most faults now goes_on end (inl told) counts = subst (λ x. Counted faults now (is_disk_fault x)) (sym told.0) counts
counted_disk (ends.Done p n) status unprinted before written past failed most faults now goes_on end (inr told) counts = subst (λ x. Counted faults now (is_disk_fault x)) (sym told.0) counts
counted_disk (ends.Nothing p) status unprinted before written past failed most faults now goes_on end (inl told) counts = subst (λ x. Counted faults now (is_disk_fault x)) (sym told.0) counts
counted_disk (ends.Nothing p) status unprinted before written past failed most faults now goes_on end (inr told) counts = subst (λ x. Counted faults now (is_disk_fault x)) (sym told.0) counts
counted_disk (ends.TooLong p n) status unprinted before written past failed most faults now goes_on end (inl told) counts = subst (λ x. Counted faults now (is_disk_fault x)) (sym told.0) counts
counted_disk (ends.TooLong p n) status unprinted before written past failed most faults now goes_on end (inr told) counts = subst (λ x. Counted faults now (is_disk_fault x)) (sym told.0) counts
counted_disk ends.DiskFault status unprinted before written past failed most faults now goes_on end told counts = subst (λ x. Counted faults now (is_disk_fault x)) (sym told.0) counts
counted_disk (ends.Stopped p) status unprinted before written past failed most faults now goes_on end told counts = absurd (never_stopped (history_of past) failed p goes_on end)
counted_disk ends.NoMemory status unprinted before written past failed most faults now goes_on end told counts = subst (λ x. Counted faults now (is_disk_fault x)) (sym told.0) counts

-- ---- the opening

module _ (told : Type 0) (left : List ℕ → Type 0) (unprinted : Type 0) (o : Outside) where
  -- if the journal was opened, the disk may have changed
  pub changed_or_kept : (status : Status) (kept : Type 0) → CheckpointTo status told left unprinted ⊥ o → CheckpointTo status told left unprinted kept o
  changed_or_kept Done kept to = to
  changed_or_kept Refused kept to = to
  changed_or_kept BadWords kept to = to
  changed_or_kept ReadFault kept to = to
  changed_or_kept WriteFault kept to = to
  changed_or_kept DiskFault kept to = (to.0, ⊎_elim (λ early. inl (⊎_elim (λ never. absurd never) (λ failed. inr failed) early)) (λ over. inr over) to.1)
  changed_or_kept (Damaged at) kept to = absurd to.1
  changed_or_kept NoMemory kept to = (to.0, ⊎_elim (λ never. absurd never) (λ over. inr over) to.1)
  changed_or_kept InputLong kept to = to

  -- a call that opened no journal
  pub not_opened_checkpoint : (status : Status) (kept : Type 0) → unprinted → NotOpened status told left kept o.file_before o.file → CheckpointTo status told left unprinted kept o
  not_opened_checkpoint Done kept still n = absurd n
  not_opened_checkpoint Refused kept still n = absurd n
  not_opened_checkpoint BadWords kept still n = absurd n
  not_opened_checkpoint ReadFault kept still n = absurd n
  not_opened_checkpoint WriteFault kept still n = absurd n
  not_opened_checkpoint DiskFault kept still n = (still, inl n)
  not_opened_checkpoint (Damaged at) kept still n = (still, n.0, n.1)
  not_opened_checkpoint NoMemory kept still n = (still, inl n)
  not_opened_checkpoint InputLong kept still n = absurd n

  -- the words named a command
  good_words : (status : Status) (kept : Type 0) → CheckpointTo status told left unprinted kept o → status ≡ BadWords → ⊥
  good_words Done kept to is = cc is
  good_words Refused kept to is = cc is
  good_words BadWords kept to is = to
  good_words ReadFault kept to is = cc is
  good_words WriteFault kept to is = cc is
  good_words DiskFault kept to is = cc is
  good_words (Damaged at) kept to is = cc is
  good_words NoMemory kept to is = cc is
  good_words InputLong kept to is = cc is

  pub not_bad_words : {T : Type 0} (status : Status) (kept : Type 0) (asked : Option T) (x : T) → CheckpointTo status told left unprinted kept o → asked ≡ Some x → ((status ≡ BadWords) ↔ (asked ≡ None))
  not_bad_words status kept asked x to is = (λ bad. absurd (good_words status kept to bad), λ none. absurd (none_not_some x asked none is))
