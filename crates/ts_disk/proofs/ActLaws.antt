-- One more act, of a disk in memory.
use Rattle.std.proofs.Common.{◌≡◌, ◌⊎◌, inl, inr, ⊎_elim, ℕ, ◌+◌, ◌≤◌, List, [], ◌∷◌, ◌++◌, length, Some, Result, Ok, Err, IsSomeAnd, IfSome, OnOk, OnErr, refl, sym, ◌∙◌, ap, subst, arith, length-append}
use Rattle.std.proofs.lemmas.Bool.{cases_lt}
use Rattle.std.proofs.lemmas.List.{ext_get_or, take_all, take-append-le}
use Rattle.ts_schema.specs.Counts.{one_more}
use Rattle.ts_disk.specs.CrashImage.{State, IsImage, Torn, Follows, LeavesNoMore, Only, Elapses, at_rest, file_after_write}
use Rattle.ts_disk.specs.Disk.{Writes}
use Rattle.ts_disk.specs.ImageLaws.{shows-state, shows-at_rest}
use Rattle.ts_disk.specs.MemDisk.{Recorded, WasImage, PerformsAct, after, state_after, state_of, content, known_bytes, leaves, moment, begins_within, all_within}
use Rattle.ts_disk.specs.declared.disk_acts.Act.{Act}
use Rattle.ts_disk.specs.declared.disk_acts.Act.TheVariants.{Write, Sync}
use Rattle.ts_disk.specs.declared.disk_acts.Piece.{Piece}
use Rattle.ts_disk.proofs.Images.{torn_refl, torn_image}

pub state_push : (s : State) (acts : List Act) (act : Act) → state_after s (acts ++ act ∷ []) ≡ after (state_after s acts) act
state_push s [] act = refl
state_push s (a ∷ acts) act = state_push (after s a) acts act

pub within_push : (s : State) (acts : List Act) (act : Act) → all_within s acts → begins_within (state_after s acts) act → all_within s (acts ++ act ∷ [])
within_push s [] act all here = (here, tt)
within_push s (a ∷ acts) act all here = (all.0, within_push (after s a) acts act all.1 here)

-- the record after one more act
abbrev pub more : Recorded → Act → Recorded
more disk act = record disk { acts = disk.acts ++ act ∷ [] }

-- the record after one more fault
abbrev pub failed : Recorded → Recorded
failed disk = record disk { faults = one_more disk.faults }

module _ (disk : Recorded) where
  grown : length (state_of disk).synced ≤ length (content disk)
  grown = (shows-state (at_rest disk.first) disk.acts (shows-at_rest disk.first)).no_shorter

  pub leaves_more : (act : Act) (c : List ℕ) → leaves (more disk act) c → IsImage (after (state_of disk) act) c
  leaves_more act c image = subst (λ (s : State). IsImage s c) (state_push (at_rest disk.first) disk.acts act) image

  time_more : (act : Act) → Elapses (moment disk) (moment (more disk act)) (WasImage disk) (WasImage (more disk act)) (leaves (more disk act))
  time_more act = record {
    later = omega (arith, length-append disk.acts (act ∷ []));
    nothing_else = λ t c le was. elim (cases_lt was.when (length disk.acts + 1)) [
      | inl here ↦ inl (record {
        when = was.when;
        from = was.from;
        past = omega arith;
        image = subst (λ (acts : List Act). IsImage (state_after (at_rest disk.first) acts) c) (take-append-le was.when disk.acts (act ∷ []) (omega arith)) was.image;
      })
      | inr last ↦ inr (subst (λ (acts : List Act). IsImage (state_after (at_rest disk.first) acts) c) (take_all was.when (disk.acts ++ act ∷ []) (omega (arith, length-append disk.acts (act ∷ [])))) was.image)
    ];
    keeps = λ t c le was. record {
      when = was.when;
      from = was.from;
      past = omega (arith, was.past, length-append disk.acts (act ∷ []));
      image = subst (λ (acts : List Act). IsImage (state_after (at_rest disk.first) acts) c) (sym (take-append-le was.when disk.acts (act ∷ []) was.past)) was.image;
    };
  }

  same_past : (t : ℕ) (c : List ℕ) → WasImage (failed disk) t c → WasImage disk t c
  same_past t c was = record { when = was.when; from = was.from; past = was.past; image = was.image }

  past_same : (t : ℕ) (c : List ℕ) → WasImage disk t c → WasImage (failed disk) t c
  past_same t c was = record { when = was.when; from = was.from; past = was.past; image = was.image }

  time_failed : Elapses (moment disk) (moment (failed disk)) (WasImage disk) (WasImage (failed disk)) (leaves (failed disk))
  time_failed = record {
    later = omega arith;
    nothing_else = λ t c le was. inl (same_past t c was);
    keeps = λ t c le was. past_same t c was;
  }

  pub did_time : {T E : Type 0} (act : Act) (result : Result T E) (new : Recorded) → PerformsAct act disk result new → Elapses (moment disk) (moment new) (WasImage disk) (WasImage new) (leaves new)
  did_time act (Ok v) new does = subst (λ (r : Recorded). Elapses (moment disk) (moment r) (WasImage disk) (WasImage r) (leaves r)) (sym does) (time_more act)
  did_time act (Err e) new does = subst (λ (r : Recorded). Elapses (moment disk) (moment r) (WasImage disk) (WasImage r) (leaves r)) (sym does) time_failed

  -- the effect of one call on what a crash may leave
  pub did_leave : {T E : Type 0} (act : Act) (result : Result T E) (new : Recorded) → PerformsAct act disk result new → (c : List ℕ) → leaves new c → IsImage (after (state_of disk) act) c ⊎ leaves disk c
  did_leave act (Ok v) new does c image = inl (leaves_more act c (subst (λ (r : Recorded). leaves r c) does image))
  did_leave act (Err e) new does c image = inr (subst (λ (r : Recorded). leaves r c) does image)

  content_more : (act : Act) → content (more disk act) ≡ (after (state_of disk) act).now
  content_more act = ap (λ (s : State). s.now) (state_push (at_rest disk.first) disk.acts act)

  pub did_write : {T E : Type 0} (piece : Piece) (result : Result T E) (new : Recorded) → PerformsAct (Write piece) disk result new → Writes (known_bytes disk) piece.at piece.bytes result (known_bytes new)
  did_write piece (Ok v) new does = ap (λ (r : Recorded). known_bytes r) does ∙ ap (λ (file : List ℕ). Some file) (content_more (Write piece))
  did_write piece (Err e) new does = subst (λ (r : Recorded). IsSomeAnd (known_bytes r) (Torn piece.at (length piece.bytes) (content disk))) (sym does) (torn_refl piece.at (length piece.bytes) (content disk))

  pub did_tear : {T E : Type 0} (piece : Piece) (result : Result T E) (new : Recorded) → PerformsAct (Write piece) disk result new → piece.at ≤ length (content disk) → Follows (Torn piece.at (length piece.bytes)) (leaves disk) (leaves new)
  did_tear piece result new does begins c image = ⊎_elim (λ here. torn_image (state_of disk) piece c begins grown here) (λ old. (c, old, torn_refl piece.at (length piece.bytes) c)) (did_leave (Write piece) result new does c image)

  pub did_sync : {T E : Type 0} (result : Result T E) (new : Recorded) → PerformsAct Sync disk result new → known_bytes new ≡ known_bytes disk
  did_sync (Ok v) new does = ap (λ (r : Recorded). known_bytes r) does ∙ ap (λ (file : List ℕ). Some file) (content_more Sync)
  did_sync (Err e) new does = ap (λ (r : Recorded). known_bytes r) does

  image_at_rest : (file c : List ℕ) → IsImage (at_rest file) c → c ≡ file
  image_at_rest file c image = ext_get_or 0 c file (omega (arith, image.no_shorter, image.no_longer)) (λ i le. image.outside i (omega (arith, image.no_longer)) refl)

  pub did_last : {T E : Type 0} (result : Result T E) (new : Recorded) → PerformsAct Sync disk result new → OnOk result (IfSome (known_bytes disk) (λ file. Only file (leaves new)))
  did_last (Ok v) new does = λ c image. image_at_rest (content disk) c (leaves_more Sync c (subst (λ (r : Recorded). leaves r c) does image))
  did_last (Err e) new does = tt

  pub did_leave_less : {T E : Type 0} (result : Result T E) (new : Recorded) → PerformsAct Sync disk result new → LeavesNoMore (leaves disk) (leaves new)
  did_leave_less result new does c image = ⊎_elim (λ synced. subst (leaves disk) (sym (image_at_rest (content disk) c synced)) (shows-state (at_rest disk.first) disk.acts (shows-at_rest disk.first))) (λ old. old) (did_leave Sync result new does c image)

-- after a write, noted or not, the bytes match the acts
pub noted : {T E : Type 0} (first : State) (acts later : List Act) (piece : Piece) (bytes now : List ℕ) (result : Result T E)
    → bytes ≡ (state_after first acts).now → all_within first acts → piece.at ≤ length bytes
    → OnOk result (now ≡ file_after_write bytes piece.at piece.bytes) → OnOk result (later ≡ acts ++ Write piece ∷ [])
    → OnErr result (now ≡ bytes) → OnErr result (later ≡ acts)
    → (now ≡ (state_after first later).now) × all_within first later
noted first acts later piece bytes now (Ok v) is within begins wrote note kept same =
    let more_acts : later ≡ acts ++ Write piece ∷ [] = note in
    let new_bytes : now ≡ file_after_write bytes piece.at piece.bytes = wrote in
    let here : begins_within (state_after first acts) (Write piece) = subst (λ (file : List ℕ). piece.at ≤ length file) is begins in (
      new_bytes ∙ ap (λ (file : List ℕ). file_after_write file piece.at piece.bytes) is ∙ sym (ap (λ (s : State). s.now) (state_push first acts (Write piece))) ∙ sym (ap (λ (l : List Act). (state_after first l).now) more_acts),
      subst (λ (l : List Act). all_within first l) (sym more_acts) (within_push first acts (Write piece) within here),
    )
noted first acts later piece bytes now (Err e) is within begins wrote note kept same =
    let same_acts : later ≡ acts = same in
    let same_bytes : now ≡ bytes = kept in (
      same_bytes ∙ is ∙ sym (ap (λ (l : List Act). (state_after first l).now) same_acts),
      subst (λ (l : List Act). all_within first l) (sym same_acts) within,
    )
