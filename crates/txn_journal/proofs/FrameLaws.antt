-- The crash images at each step of an append.
use Rattle.std.proofs.Common.{◌≡◌, ◌⊎◌, inl, inr, ⊎_elim, ℕ, ◌+◌, ◌-◌, ◌<◌, ◌≤◌, List, [], ◌∷◌, ◌++◌, length, take, drop, get_or, refl, sym, ◌∙◌, ap, subst, arith, append_assoc, length-append, take-append-drop}
use Rattle.std.proofs.lemmas.Bool.{cases_eq}
use Rattle.std.proofs.lemmas.List.{append-nil, take_at, drop_at, drop_all, drop_more}
use Rattle.std.specs.Int.{w32, to_le_bytes}
use Rattle.ts_disk.specs.CrashImage.{file_after_write, Torn}
use Rattle.txn_journal.specs.Contents.{Content, content_from, nothing, content_of_version_2, version_of, with_payload}
use Rattle.txn_journal.specs.Frames.{AllFit, Fits, HoldsTo, StandsFor, StandsForEither, WithOrWithout, body, frames, front, header, magic, payload_of}
use Rattle.txn_journal.specs.declared.versions.Version.{Version}
use Rattle.txn_journal.specs.declared.versions.Version.TheVariants.{One, Two}
use Rattle.txn_journal.proofs.ContentLaws.{payloads_push, raised_one, raised_two}

pub length-body : (payload : List ℕ) → length (body payload) ≡ 4 + length payload
length-body payload = omega (arith, length-append (to_le_bytes w32 (length payload)) payload)

pub frames-push : (payloads : List (List ℕ)) (payload rest : List ℕ) → frames (payloads ++ payload ∷ []) ++ rest ≡ frames payloads ++ 1 ∷ (body payload ++ rest)
frames-push [] payload rest = ap (λ (l : List ℕ). 1 ∷ l) (ap (λ (l : List ℕ). l ++ rest) (append-nil (body payload)))
frames-push (p ∷ payloads) payload rest = ap (λ (l : List ℕ). 1 ∷ l)
    (append_assoc (body p) (frames (payloads ++ payload ∷ [])) rest
    ∙ ap (λ (l : List ℕ). body p ++ l) (frames-push payloads payload rest)
    ∙ sym (append_assoc (body p) (frames payloads) (1 ∷ (body payload ++ rest))))

-- one more payload, before a commit byte
pub front-push : (mark : ℕ) (payloads : List (List ℕ)) (payload rest : List ℕ) → front mark (payloads ++ payload ∷ []) ++ rest ≡ front mark payloads ++ 1 ∷ (body payload ++ rest)
front-push mark payloads payload rest = ap (λ (l : List ℕ). magic ++ mark ∷ l) (frames-push payloads payload rest)

pub length-front-push : (mark : ℕ) (payloads : List (List ℕ)) (payload : List ℕ) → length (front mark (payloads ++ payload ∷ [])) ≡ length (front mark payloads) + 5 + length payload
length-front-push mark payloads payload =
    let whole : front mark (payloads ++ payload ∷ []) ++ [] ≡ front mark payloads ++ 1 ∷ (body payload ++ []) = front-push mark payloads payload [] in
    omega (arith, ap length (append-nil (front mark (payloads ++ payload ∷ []))), ap length whole, length-append (front mark payloads) (1 ∷ (body payload ++ [])), ap length (append-nil (body payload)), length-body payload)

pub fit-push : (payloads : List (List ℕ)) (payload : List ℕ) → AllFit payloads → Fits payload → AllFit (payloads ++ payload ∷ [])
fit-push [] payload all fits = (fits, tt)
fit-push (p ∷ payloads) payload all fits = (all.0, fit-push payloads payload all.1 fits)

pub fit-append : (some more : List (List ℕ)) → AllFit (some ++ more) → AllFit some × AllFit more
fit-append [] more all = (tt, all)
fit-append (p ∷ some) more all = let rest = fit-append some more all.1 in ((all.0, rest.0), rest.1)

pub fit-join : (some more : List (List ℕ)) → AllFit some → AllFit more → AllFit (some ++ more)
fit-join [] more fits all = all
fit-join (p ∷ some) more fits all = (fits.0, fit-join some more fits.1 all)

-- a file that is the front of these payloads and a commit byte, with anything after it
split_at_gate : (file : List ℕ) (n : ℕ) (before : List ℕ) → take n file ≡ before → n < length file → file ≡ before ++ get_or file n 0 ∷ drop (n + 1) file
split_at_gate file n before is le = sym (take-append-drop n file) ∙ ap (λ (l : List ℕ). l ++ drop n file) is ∙ ap (λ (l : List ℕ). before ++ l) (drop_more file n 0 le)

module _ (version : Version) (content : Content) (end : ℕ) where
  -- the commit byte isn't 1 in any outcome of the first write
  pub torn_behind : (file c : List ℕ) (n : ℕ) → HoldsTo file version end content → Torn (end + 1) n file c → StandsFor c content
  torn_behind file c n lies torn =
      let holds = lies.holds in
      let before = front holds.mark holds.all in
      let kept : take (end + 1) file ≡ before ++ holds.gate ∷ [] =
      ap (take (end + 1)) (holds.split ∙ sym (append_assoc before (holds.gate ∷ []) holds.ignored))
      ∙ take_at (before ++ holds.gate ∷ []) holds.ignored (end + 1) (omega (arith, lies.place, length-append before (holds.gate ∷ []))) in
      let whole : c ≡ before ++ holds.gate ∷ drop (end + 1) c =
      sym (take-append-drop (end + 1) c) ∙ ap (λ (l : List ℕ). l ++ drop (end + 1) c) (torn.before ∙ kept) ∙ append_assoc before (holds.gate ∷ []) (drop (end + 1) c) in
      inr (record { mark = holds.mark; all = holds.all; gate = holds.gate; ignored = drop (end + 1) c; split = whole; closed = holds.closed; fit = holds.fit; counts = holds.counts })

module _ (mark : ℕ) (payloads : List (List ℕ)) (end : ℕ) (place : end ≡ length (front mark payloads)) where
  -- the frame follows the commit byte, with a commit byte of 0 after it
  abbrev pub staged : ℕ → List ℕ → List ℕ → List ℕ
  staged gate payload rest = front mark payloads ++ gate ∷ (body payload ++ 0 ∷ rest)

  pub written_behind : (file : List ℕ) (payload : List ℕ) (gate : ℕ) (ignored : List ℕ) → file ≡ front mark payloads ++ gate ∷ ignored
      → (rest : List ℕ) × (file_after_write file (end + 1) (body payload ++ 0 ∷ []) ≡ staged gate payload rest)
  written_behind file payload gate ignored split =
      let piece = body payload ++ 0 ∷ [] in
      let rest = drop (end + 1 + length piece) file in
      let kept : take (end + 1) file ≡ front mark payloads ++ gate ∷ [] =
      ap (take (end + 1)) (split ∙ sym (append_assoc (front mark payloads) (gate ∷ []) ignored))
      ∙ take_at (front mark payloads ++ gate ∷ []) ignored (end + 1) (omega (arith, place, length-append (front mark payloads) (gate ∷ []))) in (
        rest,
        ap (λ (l : List ℕ). l ++ piece ++ rest) kept
            ∙ append_assoc (front mark payloads ++ gate ∷ []) piece rest
            ∙ append_assoc (front mark payloads) (gate ∷ []) (piece ++ rest)
            ∙ ap (λ (l : List ℕ). front mark payloads ++ gate ∷ l) (append_assoc (body payload) (0 ∷ []) rest),
      )

  -- one more payload counts
  one_more : (version : Version) (content : Content) (payload : List ℕ) → version_of mark ≡ version → content ≡ content_from (version_of mark) payloads
      → with_payload version content payload ≡ content_from (version_of mark) (payloads ++ payload ∷ [])
  one_more version content payload of_version counts =
      (λ k. with_payload (sym of_version k) (counts k) payload) ∙ sym (payloads_push (version_of mark) nothing payloads payload)

  -- the frame is whole in each outcome of the second write
  pub torn_gate : (version : Version) (content : Content) (gate : ℕ) (payload rest c : List ℕ) → version_of mark ≡ version → content ≡ content_from (version_of mark) payloads
      → Fits payload → AllFit payloads → Torn end 1 (staged gate payload rest) c → WithOrWithout version content payload c
  torn_gate version content gate payload rest c of_version counts fits all torn =
      let file = staged gate payload rest in
      let longer : length (front mark payloads) < length c = omega (arith, torn.no_shorter, length-append (front mark payloads) (gate ∷ (body payload ++ 0 ∷ rest))) in
      let low : take end c ≡ front mark payloads = torn.before ∙ take_at (front mark payloads) (gate ∷ (body payload ++ 0 ∷ rest)) end (omega (arith, place)) in
      let high : drop (end + 1) c ≡ body payload ++ 0 ∷ rest =
      torn.after
      ∙ ap (drop (end + 1)) (sym (append_assoc (front mark payloads) (gate ∷ []) (body payload ++ 0 ∷ rest)))
      ∙ drop_at (front mark payloads ++ gate ∷ []) (body payload ++ 0 ∷ rest) (end + 1) (omega (arith, place, length-append (front mark payloads) (gate ∷ []))) in
      let whole : c ≡ front mark payloads ++ get_or c end 0 ∷ (body payload ++ 0 ∷ rest) =
      split_at_gate c end (front mark payloads) low (omega (arith, place, longer)) ∙ ap (λ (l : List ℕ). front mark payloads ++ get_or c end 0 ∷ l) high in
      elim (cases_eq (get_or c end 0) 1) [
        | inl is_open ↦ inr (inr (record {
          mark = mark;
          all = payloads ++ payload ∷ [];
          gate = 0;
          ignored = rest;
          split = whole ∙ ap (λ (g : ℕ). front mark payloads ++ g ∷ (body payload ++ 0 ∷ rest)) is_open ∙ sym (front-push mark payloads payload (0 ∷ rest));
          closed = λ is. absurd (omega arith);
          fit = fit-push payloads payload all fits;
          counts = one_more version content payload of_version counts;
        }))
        | inr shut ↦ inl (inr (record { mark = mark; all = payloads; gate = get_or c end 0; ignored = body payload ++ 0 ∷ rest; split = whole; closed = shut; fit = all; counts = counts }))
      ]

  -- and after it the commit byte is 1
  pub written_gate : (version : Version) (content : Content) (gate : ℕ) (payload rest : List ℕ) → version_of mark ≡ version → content ≡ content_from (version_of mark) payloads
      → Fits payload → AllFit payloads → (later : ℕ) → later ≡ end + 5 + length payload → HoldsTo (file_after_write (staged gate payload rest) end (1 ∷ [])) version later (with_payload version content payload)
  written_gate version content gate payload rest of_version counts fits all later is = record {
    holds = record {
      mark = mark;
      all = payloads ++ payload ∷ [];
      gate = 0;
      ignored = rest;
      split =
          ap (λ (l : List ℕ). l ++ (1 ∷ []) ++ drop (end + 1) (staged gate payload rest)) (take_at (front mark payloads) (gate ∷ (body payload ++ 0 ∷ rest)) end (omega (arith, place)))
          ∙ ap (λ (l : List ℕ). front mark payloads ++ (1 ∷ []) ++ l)
          (ap (drop (end + 1)) (sym (append_assoc (front mark payloads) (gate ∷ []) (body payload ++ 0 ∷ rest)))
          ∙ drop_at (front mark payloads ++ gate ∷ []) (body payload ++ 0 ∷ rest) (end + 1) (omega (arith, place, length-append (front mark payloads) (gate ∷ []))))
          ∙ append_assoc (front mark payloads) (1 ∷ []) (body payload ++ 0 ∷ rest)
          ∙ sym (front-push mark payloads payload (0 ∷ rest));
      closed = λ is_open. absurd (omega arith);
      fit = fit-push payloads payload all fits;
      counts = one_more version content payload of_version counts;
    };
    of_version = of_version;
    place = omega (arith, is, place, length-front-push mark payloads payload);
  }

-- a file of at most nine bytes, over which a header is written, has at most nine bytes in each outcome
pub torn_header : (file c : List ℕ) → length file ≤ 9 → Torn 0 9 file c → StandsFor c nothing
torn_header file c short torn = inl (omega (arith, torn.no_longer), refl)

pub written_header : (file : List ℕ) → length file ≤ 9 → file_after_write file 0 header ≡ header
written_header file short = ap (λ (l : List ℕ). header ++ l) (drop_all 9 file short)

pub header_holds : HoldsTo header One 8 nothing
header_holds = record {
  holds = record { mark = 49; all = []; gate = 0; ignored = []; split = refl; closed = λ is. absurd (omega arith); fit = tt; counts = refl };
  of_version = refl;
  place = refl;
}

-- ---- the byte of the version

-- a file whose eighth byte is overwritten
version_written : (mark other : ℕ) (rest : List ℕ) → file_after_write (magic ++ mark ∷ rest) 7 (other ∷ []) ≡ magic ++ other ∷ rest
version_written mark other rest = refl

-- each outcome of that write differs in this byte only
torn_version : (mark : ℕ) (rest c : List ℕ) → Torn 7 1 (magic ++ mark ∷ rest) c → c ≡ magic ++ get_or c 7 0 ∷ rest
torn_version mark rest c torn =
    split_at_gate c 7 magic torn.before (omega (arith, torn.no_shorter)) ∙ ap (λ (l : List ℕ). magic ++ get_or c 7 0 ∷ l) torn.after

-- the content with this version byte, given the content in version 1
counts_with : (mark other : ℕ) (content : Content) (all : List (List ℕ)) → version_of mark ≡ One → content ≡ content_from (version_of mark) all
    → (version_of other ≡ One → content ≡ content_from (version_of other) all) × (version_of other ≡ Two → content_of_version_2 content ≡ content_from (version_of other) all)
counts_with mark other content all is_one counts = (
  λ one. counts ∙ ap (λ (v : Version). content_from v all) (is_one ∙ sym one),
  λ two. ap content_of_version_2 (counts ∙ ap (λ (v : Version). content_from v all) is_one) ∙ raised_one all ∙ ap (λ (v : Version). content_from v all) (sym two),
)

one_or_two : (version : Version) → (version ≡ One) ⊎ (version ≡ Two)
one_or_two One = inl refl
one_or_two Two = inr refl

pub torn_raise : (file c : List ℕ) (end : ℕ) (content : Content) → HoldsTo file One end content → Torn 7 1 file c → StandsForEither content (content_of_version_2 content) c
torn_raise file c end content lies torn =
    let holds = lies.holds in
    let rest = frames holds.all ++ holds.gate ∷ holds.ignored in
    let whole : c ≡ magic ++ get_or c 7 0 ∷ rest = torn_version holds.mark rest c (subst (λ (f : List ℕ). Torn 7 1 f c) holds.split torn) in
    let with = counts_with holds.mark (get_or c 7 0) content holds.all lies.of_version holds.counts in
    ⊎_elim
    (λ one. inl (inr (record { mark = get_or c 7 0; all = holds.all; gate = holds.gate; ignored = holds.ignored; split = whole; closed = holds.closed; fit = holds.fit; counts = with.0 one })))
    (λ two. inr (inr (record { mark = get_or c 7 0; all = holds.all; gate = holds.gate; ignored = holds.ignored; split = whole; closed = holds.closed; fit = holds.fit; counts = with.1 two })))
    (one_or_two (version_of (get_or c 7 0)))

pub written_raise : (file : List ℕ) (end : ℕ) (content : Content) → HoldsTo file One end content → HoldsTo (file_after_write file 7 (50 ∷ [])) Two end (content_of_version_2 content)
written_raise file end content lies =
    let holds = lies.holds in
    record {
      holds = record {
        mark = 50;
        all = holds.all;
        gate = holds.gate;
        ignored = holds.ignored;
        split = ap (λ (f : List ℕ). file_after_write f 7 (50 ∷ [])) holds.split;
        closed = holds.closed;
        fit = holds.fit;
        counts = (counts_with holds.mark 50 content holds.all lies.of_version holds.counts).1 refl;
      };
      of_version = refl;
      place = lies.place;
    }

-- a file of version 2 keeps its content
pub raised_holds : (file : List ℕ) (end : ℕ) (content : Content) → HoldsTo file Two end content → content_of_version_2 content ≡ content
raised_holds file end content lies =
    let is : content ≡ content_from Two lies.holds.all = lies.holds.counts ∙ ap (λ (v : Version). content_from v lies.holds.all) lies.of_version in
    ap content_of_version_2 is ∙ raised_two lies.holds.all ∙ sym is

-- the payload of a closed frame
pub closed_frame : (payload bytes : List ℕ) → bytes ≡ to_le_bytes w32 (length payload) ++ payload ++ 0 ∷ [] → (payload_of bytes ≡ payload) × (bytes ≡ body (payload_of bytes) ++ 0 ∷ [])
closed_frame payload bytes is =
    let long : length bytes ≡ length payload + 5 = omega (arith, ap length is, length-append (to_le_bytes w32 (length payload) ++ payload) (0 ∷ []), length-body payload) in
    let held : payload_of bytes ≡ payload =
    (λ k. take (length bytes - 5) (drop 4 (is k)))
    ∙ ap (λ (n : ℕ). take n (payload ++ 0 ∷ [])) (omega arith)
    ∙ take_at payload (0 ∷ []) (length payload) refl in
    (held, is ∙ ap (λ (p : List ℕ). body p ++ 0 ∷ []) (sym held))
