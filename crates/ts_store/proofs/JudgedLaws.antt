-- Each file of bytes contains a history, or is damaged at a place.
use Rattle.std.proofs.Common.{◌≡◌, ◌≢◌, ◌⊎◌, inl, inr, ⊎_elim, ℕ, zero, suc, ◌+◌, ◌^◌, ◌≤◌, ◌<◌, Bool, true, false, nat_lt, List, [], ◌∷◌, ◌++◌, length, take, drop, get_or, Result, Ok, Err, refl, sym, ◌∙◌, ap, subst, arith, append_assoc}
use Rattle.std.specs.Int.{w32, from_le_bytes}
use Rattle.std.proofs.lemmas.Bool.{true≢false, cond-false, cond-true, ltb-true, ltb-false}
use Rattle.std.proofs.lemmas.Nat.{le_bytes_4}
use Rattle.std.proofs.lemmas.List.{append-nil, get_or-drop, get_or-take, length-drop, length-take-le, take_all}
use Rattle.std.proofs.Math.ListN.{get_or-eq_default}
use Rattle.ts_model.specs.declared.events.Event.{Event}
use Rattle.ts_model.specs.declared.images.Image.{Image}
use Rattle.ts_model.specs.declared.rosters.Roster.{Roster}
use Rattle.ts_model.specs.Allowed.{allowed}
use Rattle.ts_model.specs.Valid.{valid}
use Rattle.base_image.specs.Formed.{IsFormed as IsFormedImage}
use Rattle.base_image.specs.Reading.{whole_image}
use Rattle.base_image.specs.Spelling as images
use Rattle.base_image.proofs.ReadLaws.{is_formed as is_formed_image, is_spelled as is_spelled_image, not_another, not_one}
use Rattle.ts_model.specs.History.{History, start, resumed, ◌▸◌}
use Rattle.event_codec.specs.Formed.{IsFormed}
use Rattle.event_codec.specs.Reading.{whole_event}
use Rattle.event_codec.specs.Spelling as spelling
use Rattle.event_codec.proofs.Decodings.{is_formed, is_no_event, is_spelled}
use Rattle.txn_journal.specs.Contents.{content_from, has_base, nothing, version_of, with_payload}
use Rattle.txn_journal.specs.Frames.{AllFit, Follows, IsShort, counted_before, front, magic}
use Rattle.txn_journal.specs.Reading.{HasFrames, IsHead, based_on}
use Rattle.txn_journal.specs.declared.heads.Head.{Head}
use Rattle.txn_journal.specs.declared.heads.Head.TheVariants.{Closed, Frame, Short}
use Rattle.txn_journal.specs.declared.versions.Version.{Version}
use Rattle.txn_journal.proofs.ContentLaws.{LastBase, base_counts, base_or_none, head_and_rest, payloads_push}
use Rattle.txn_journal.proofs.FollowsLaws.{front-append, gate_behind, none_there}
use Rattle.txn_journal.proofs.FrameLaws.{fit-append}
use Rattle.txn_journal.proofs.ReadingLaws.{begins_frames, frame_read, split}
use Rattle.ts_store.specs.Laws.{AreBytes, IsJudged, EachIsJudged}
use Rattle.ts_store.specs.Stands.{IsNeither, IsNextEvent, IsNoEvent, IsNoImage, IsSound, content_of}
use Rattle.ts_store.proofs.HistoryLaws.{event_counts, no_other, sound_push, sound_resumed, sound_start}
use Rattle.ts_store.proofs.ReplayLaws.{damaged_short, damaged_there}

-- ---- numbers and lists are the same or not

same_number : (x y : ℕ) → (x ≡ y) ⊎ (x ≢ y)
same_number zero zero = inl refl
same_number zero (suc y) = inr (λ is. omega (arith, is))
same_number (suc x) zero = inr (λ is. omega (arith, is))
same_number (suc x) (suc y) = ⊎_elim (λ same. inl (ap suc same)) (λ other. inr (λ is. other (omega (arith, is)))) (same_number x y)

same_list : (xs ys : List ℕ) → (xs ≡ ys) ⊎ (xs ≢ ys)
same_list [] [] = inl refl
same_list [] (y ∷ ys) = inr (λ is. cc is)
same_list (x ∷ xs) [] = inr (λ is. cc is)
same_list (x ∷ xs) (y ∷ ys) = ⊎_elim
    (λ first. ⊎_elim (λ rest. inl (λ k. first k ∷ rest k)) (λ other. inr (λ is. let rest : xs ≡ ys = cc is in other rest)) (same_list xs ys))
    (λ other. inr (λ is. let first : x ≡ y = cc is in other first))
    (same_number x y)

below_or_not : (m n : ℕ) → (m < n) ⊎ (n ≤ m)
below_or_not m n = by_test (nat_lt m n) refl
  where
    by_test : (b : Bool) → nat_lt m n ≡ b → (m < n) ⊎ (n ≤ m)
    by_test true is = inl (ltb-true m n is)
    by_test false is = inr (ltb-false m n is)

-- ---- a payload is the bytes of an event that may come next, or of none

abbrev NextOrNone : History → List ℕ → Type 0
NextOrNone h payload = ((e : Event) × IsNextEvent h payload e) ⊎ IsNoEvent h payload

by_fit : (h : History) (payload : List ℕ) (e : Event) (fits : Bool) → payload ≡ spelling.event e → IsFormed e → allowed h e ≡ fits → NextOrNone h payload
by_fit h payload e true spelled formed fits = inl (e, record { spelled = spelled; formed = formed; fits = fits })
by_fit h payload e false spelled formed none = inr (subst (λ (p : List ℕ). IsNoEvent h p) (sym spelled) (no_other h e formed (λ fits. true≢false (sym fits ∙ none))))

by_reading : (h : History) (payload : List ℕ) (read : Result (Event × List ℕ) (List ℕ)) → whole_event payload ≡ read → NextOrNone h payload
by_reading h payload (Ok (e, end)) is = by_fit h payload e (allowed h e) (is_spelled payload e end is) (is_formed payload e end is) refl
by_reading h payload (Err left) is = inr (λ e next. is_no_event payload left is e next.formed next.spelled)

next_or_none : (h : History) (payload : List ℕ) → NextOrNone h payload
next_or_none h payload = by_reading h payload (whole_event payload) refl

-- ---- a payload is the bytes of a valid image, or of none

abbrev ImageOrNone : List ℕ → Type 0
ImageOrNone payload = ((i : Image) × (IsFormedImage i × (valid i ≡ true) × (payload ≡ images.image i))) ⊎ IsNoImage payload

by_validity : (payload : List ℕ) (i : Image) (r : Roster) (end : List ℕ) (is_valid : Bool) → whole_image payload ≡ Ok ((i, r), end) → valid i ≡ is_valid → ImageOrNone payload
by_validity payload i r end true read is = inl (i, (is_formed_image payload i r end read, is, is_spelled_image payload i r end read))
by_validity payload i r end false read is = inr (not_another payload i r end read is)

by_image : (payload : List ℕ) (read : Result ((Image × Roster) × List ℕ) (List ℕ)) → whole_image payload ≡ read → ImageOrNone payload
by_image payload (Ok ((i, r), end)) is = by_validity payload i r end (valid i) is refl
by_image payload (Err left) is = inr (not_one payload left is)

image_or_none : (payload : List ℕ) → ImageOrNone payload
image_or_none payload = by_image payload (whole_image payload) refl

-- ---- the meaning of a commit byte and the bytes after it

few_bytes : (bytes : List ℕ) → ((i : ℕ) → get_or bytes i 0 < 256) → from_le_bytes w32 bytes < 2 ^ 32
few_bytes bytes each = omega (arith, each 0, each 1, each 2, each 3)

module _ (file : List ℕ) (bytes : AreBytes file) where
  four_bytes : (at i : ℕ) → get_or (take 4 (drop at file)) i 0 < 256
  four_bytes at i = ⊎_elim
      (λ within. subst (λ (n : ℕ). n < 256) (sym (get_or-take 4 (drop at file) i 0 within ∙ get_or-drop at file i 0)) (bytes (at + i)))
      (λ beyond. subst (λ (n : ℕ). n < 256) (sym (get_or-eq_default (take 4 (drop at file)) 0 {n = i} (short beyond))) (let few : 0 < 256 = omega arith in few))
      (below_or_not i 4)
    where
      short : 4 ≤ i → length (take 4 (drop at file)) ≤ i
      short beyond = ⊎_elim
          (λ less. let all : take 4 (drop at file) ≡ drop at file = take_all 4 (drop at file) (omega (arith, less)) in omega (arith, ap length all, less, beyond))
          (λ more. omega (arith, length-take-le 4 (drop at file) more, beyond))
          (below_or_not (length (drop at file)) 4)

  open_head : (at : ℕ) → get_or file at 0 ≡ 1 → (head : Head) × IsHead head file at
  open_head at is =
      let rest = drop (at + 1) file in
      let count = from_le_bytes w32 (take 4 (drop (at + 1) file)) in
      ⊎_elim
      (λ few. (Short, (is, inl few)))
      (λ enough. ⊎_elim
      (λ less. (Short, (is, inr less)))
      (λ whole. (Frame count (get_or file (at + 5) 0), (is, whole, few_bytes (take 4 rest) (four_bytes (at + 1)), le_bytes_4 (take 4 rest) count (length-take-le 4 rest enough) (four_bytes (at + 1)) refl, refl)))
      (below_or_not (length rest) (5 + count)))
      (below_or_not (length rest) 4)

  head_of : (at : ℕ) → (head : Head) × IsHead head file at
  head_of at = ⊎_elim (open_head at) (λ shut. (Closed, shut)) (same_number (get_or file at 0) 1)

  -- ---- frame by frame

  -- the frames of a journal, and the place at which they end
  record FramesEnd (mark : ℕ) : Type 0 where
    all : List (List ℕ)
    gate : ℕ
    rest : List ℕ
    split : file ≡ front mark all ++ gate ∷ rest
    stops : (gate ≢ 1) ⊎ IsShort rest
    fit : AllFit all

  module _ (mark : ℕ) where
    ends_at : (at : ℕ) (payloads : List (List ℕ)) → HasFrames file mark at payloads → at < length file → (get_or file at 0 ≢ 1) ⊎ IsShort (drop (at + 1) file) → FramesEnd mark
    ends_at at payloads frames within stops = record { all = payloads; gate = get_or file at 0; rest = drop (at + 1) file; split = split file mark at payloads frames within; stops = stops; fit = frames.fit }

    step : (at : ℕ) (payloads : List (List ℕ)) → HasFrames file mark at payloads → at < length file → (head : Head) → IsHead head file at
        → ((later : ℕ) (more : List (List ℕ)) → HasFrames file mark later more → later < length file → at < later → FramesEnd mark) → FramesEnd mark
    step at payloads frames within Closed is more = ends_at at payloads frames within (inl is)
    step at payloads frames within Short is more = ends_at at payloads frames within (inr is.1)
    step at payloads frames within (Frame n first) is more =
        let payload = take n (drop (at + 5) file) in
        let long : length (take n (drop (at + 5) file)) ≡ n = length-take-le n (drop (at + 5) file) (omega (arith, is.1, length-drop (at + 1) file, length-drop (at + 5) file)) in
        more (at + 5 + n) (payloads ++ payload ∷ []) (frame_read file mark at payloads frames within n first payload is long refl) (omega (arith, is.1, length-drop (at + 1) file)) (omega arith)

    walk : (fuel at : ℕ) (payloads : List (List ℕ)) → HasFrames file mark at payloads → at < length file → length file ≤ fuel + at → FramesEnd mark
    walk zero at payloads frames within enough = absurd (omega (arith, within, enough))
    walk (suc fuel) at payloads frames within enough = step at payloads frames within (head_of at).0 (head_of at).1 (λ p more f w later. walk fuel p more f w (omega (arith, enough, later)))

  -- ---- payload by payload

  module _ (mark : ℕ) (frames : FramesEnd mark) (long : 9 < length file) where
    abbrev version : Version
    version = version_of mark

    -- a payload after others, after which there is no base
    follows_at : (h : History) (seen behind : List (List ℕ)) (payload : List ℕ) → frames.all ≡ (seen ++ payload ∷ []) ++ behind → content_of h ≡ counted_before version seen payload → has_base version behind ≡ false
        → Follows file version (content_of h) payload (length (front mark seen))
    follows_at h seen behind payload is counts none =
        let fit : AllFit ((seen ++ payload ∷ []) ++ behind) = subst AllFit is frames.fit in
        let whole : file ≡ front mark ((seen ++ payload ∷ []) ++ behind) ++ frames.gate ∷ frames.rest = frames.split ∙ ap (λ (l : List (List ℕ)). front mark l ++ frames.gate ∷ frames.rest) is in
        let next = gate_behind behind frames.gate frames.rest in
        record {
          mark = mark;
          before = seen;
          gate = next.0;
          rest = next.1.0;
          split = whole ∙ front-append mark (seen ++ payload ∷ []) behind (frames.gate ∷ frames.rest) ∙ ap (λ (l : List ℕ). front mark (seen ++ payload ∷ []) ++ l) next.1.1;
          fit = (fit-append (seen ++ payload ∷ []) behind fit).0;
          place = refl;
          of_version = refl;
          counts = counts;
          last = none_there file mark (seen ++ payload ∷ []) behind frames.gate frames.rest fit frames.stops whole none;
        }

    wrong_at : (h : History) (seen behind : List (List ℕ)) (payload : List ℕ) → IsSound h → frames.all ≡ (seen ++ payload ∷ []) ++ behind → content_of h ≡ counted_before version seen payload → has_base version behind ≡ false
        → IsNeither version h payload → IsJudged file
    wrong_at h seen behind payload sound is counts none neither = inr (
      length (front mark seen),
      damaged_there file h (length (front mark seen)) sound (record { version = version; payload = payload; follows = follows_at h seen behind payload is counts none; neither = neither }),
    )

    -- all payloads counted, so the end decides
    end_judged : (h : History) → IsSound h → content_of h ≡ content_from version frames.all → IsJudged file
    end_judged h sound counts = ⊎_elim
        (λ shut. inl (
          h,
          record {
            holds = inr (record { mark = mark; all = frames.all; gate = frames.gate; ignored = frames.rest; split = frames.split; closed = shut; fit = frames.fit; counts = counts });
            sound = sound;
          },
        ))
        (λ short. ⊎_elim
        (λ is_open. inr (
          length (front mark frames.all),
          damaged_short file h (length (front mark frames.all)) sound
              (record {
                long = long;
                broken = inr (record {
                  mark = mark;
                  all = frames.all;
                  rest = frames.rest;
                  split = frames.split ∙ ap (λ (g : ℕ). front mark frames.all ++ g ∷ frames.rest) is_open;
                  short = short;
                  place = refl;
                  fit = frames.fit;
                  counts = counts;
                });
              }),
        ))
        (λ shut. inl (
          h,
          record {
            holds = inr (record { mark = mark; all = frames.all; gate = frames.gate; ignored = frames.rest; split = frames.split; closed = shut; fit = frames.fit; counts = counts });
            sound = sound;
          },
        ))
        (same_number frames.gate 1))
        frames.stops

    -- after the payloads that counted there is no base
    events_judged : (h : History) (seen todo : List (List ℕ)) → IsSound h → frames.all ≡ seen ++ todo → content_of h ≡ content_from version seen → has_base version todo ≡ false → IsJudged file
    events_judged h seen [] sound is counts none = end_judged h sound (counts ∙ ap (content_from version) (sym (is ∙ append-nil seen)))
    events_judged h seen (payload ∷ todo) sound is counts none =
        let kinds = head_and_rest version payload todo none in
        let joined : frames.all ≡ (seen ++ payload ∷ []) ++ todo = is ∙ sym (append_assoc seen (payload ∷ []) todo) in
        ⊎_elim
        (λ next. events_judged (h ▸ next.0) (seen ++ payload ∷ []) todo (sound_push h next.0 sound next.1.fits next.1.formed) joined
        (sym (event_counts version h next.0)
        ∙ (λ k. with_payload version (counts k) (sym next.1.spelled k))
        ∙ sym (payloads_push version nothing seen payload))
        kinds.1)
        (λ no_event. wrong_at h seen todo payload sound joined (counts ∙ sym (cond-false _ nothing (content_from version seen) kinds.0)) kinds.1 (inr (kinds.0, no_event)))
        (next_or_none h payload)

    -- the last base is the image that the history begins with
    base_judged : LastBase version frames.all → IsJudged file
    base_judged last = ⊎_elim
        (λ image.
        let i = image.0 in
        let counts : content_of (resumed i) ≡ content_from version (last.before ++ last.payload ∷ []) =
        ap based_on (sym image.1.2) ∙ sym (base_counts version (content_from version last.before) last.payload last.base) ∙ sym (payloads_push version nothing last.before last.payload) in
        events_judged (resumed i) (last.before ++ last.payload ∷ []) last.behind (sound_resumed i image.1.0 image.1.1) last.split counts last.none)
        (λ no_image. wrong_at start last.before last.behind last.payload sound_start last.split (sym (cond-true _ nothing (content_from version last.before) last.base)) last.none (inl (last.base, no_image)))
        (image_or_none last.payload)

    frames_judged : IsJudged file
    frames_judged = ⊎_elim
        (λ none. events_judged start [] frames.all sound_start refl refl none)
        base_judged
        (base_or_none version frames.all)

  judged : IsJudged file
  judged = ⊎_elim
      (λ few. inl (start, record { holds = inl (omega (arith, few), refl); sound = sound_start }))
      (λ enough. let more : 9 < length file = omega (arith, enough) in ⊎_elim
      (λ begins.
      let mark = get_or file 7 0 in
      let frames : HasFrames file (get_or file 7 0) 8 [] = begins_frames (version_of (get_or file 7 0)) file (omega (arith, more)) (begins, refl, inl more) in
      frames_judged (get_or file 7 0) (walk (get_or file 7 0) (length file) 8 [] frames (omega (arith, more)) (omega arith)) more)
      (λ foreign. inr (0, damaged_short file start 0 sound_start (record { long = more; broken = inl (record { begins = foreign; none = refl; place = refl }) })))
      (same_list (take 7 file) magic))
      (below_or_not (length file) 10)

pub each_is_judged : EachIsJudged
each_is_judged = judged
