-- Payloads with their places.
use Rattle.std.proofs.Common.{◌≡◌, ◌⊎◌, inl, inr, ⊎_elim, ℕ, ◌+◌, false, List, [], ◌∷◌, ◌++◌, length, Option, Some, None, refl, sym, ◌∙◌, ap, subst, arith, append_assoc, length-append}
use Rattle.std.specs.Prelude.{IsSome, is_some}
use Rattle.std.proofs.lemmas.Bool.{cond-false, true≢false}
use Rattle.std.proofs.lemmas.List.{map-append}
use Rattle.txn_journal.specs.Contents.{Content, base_alone, content_from, is_base, payload_list, nothing}
use Rattle.txn_journal.specs.Frames.{Follows, body, frames, front, payloads_at, payloads_of}
use Rattle.txn_journal.specs.Reading.{based_on, with_next}
use Rattle.txn_journal.specs.Recovering.{AreListed, BeginsIn}
use Rattle.txn_journal.specs.declared.payloads.Payload.{Payload}
use Rattle.txn_journal.specs.declared.versions.Version.{Version}
use Rattle.txn_journal.proofs.ContentLaws.{all_without_base}
use Rattle.txn_journal.proofs.FrameLaws.{length-body}

placed-push : (at : ℕ) (payloads : List (List ℕ)) (payload : List ℕ) → payloads_at at (payloads ++ payload ∷ []) ≡ payloads_at at payloads ++ record { bytes = payload; at = at + length (frames payloads) } ∷ []
placed-push at [] payload = let same : at ≡ at + 0 = omega arith in ap (λ (n : ℕ). record { bytes = payload; at = n } ∷ []) same
placed-push at (p ∷ payloads) payload =
    let moved : at + 5 + length p + length (frames payloads) ≡ at + length (frames (p ∷ payloads)) =
    omega (arith, length-append (body p) (frames payloads), length-body p) in
    ap (λ (ps : List Payload). record { bytes = p; at = at } ∷ ps)
    (placed-push (at + 5 + length p) payloads payload ∙ ap (λ (n : ℕ). payloads_at (at + 5 + length p) payloads ++ record { bytes = payload; at = n } ∷ []) moved)

length-frames-push : (payloads : List (List ℕ)) (payload : List ℕ) → length (frames (payloads ++ payload ∷ [])) ≡ length (frames payloads) + 5 + length payload
length-frames-push [] payload = omega (arith, length-append (body payload) [], length-body payload)
length-frames-push (p ∷ payloads) payload =
    omega (arith, length-frames-push payloads payload, length-append (body p) (frames payloads), length-append (body p) (frames (payloads ++ payload ∷ [])))

-- these payloads with their places are the content of a file, up to this commit byte
pub record ListedTo (file : List ℕ) (payloads : List Payload) (content : Content) (at : ℕ) : Type 0 where
  pub first : ℕ
  pub all : payloads_of payloads ≡ payload_list content
  pub places : payloads ≡ payloads_at first (payloads_of payloads)
  pub upto : at ≡ first + length (frames (payloads_of payloads))
  pub begins : (payloads ≡ []) ⊎ BeginsIn file content.base first

-- without content there is no base
no_base : (file : List ℕ) (content : Content) (first : ℕ) → payload_list content ≡ [] → (content.base ≡ None → first ≡ 8) → BeginsIn file content.base first
no_base file content first none eight = by_base content.base refl
  where
    by_base : (base : Option (List ℕ)) → content.base ≡ base → BeginsIn file base first
    by_base None is = eight is
    by_base (Some b) is =
        let some : b ∷ content.payloads ≡ [] = ap (λ (o : Option (List ℕ)). base_alone o ++ content.payloads) (sym is) ∙ none in
        absurd (omega (arith, ap length some))

pub are_listed : (file : List ℕ) (payloads : List Payload) (content : Content) (at : ℕ) → ListedTo file payloads content at → AreListed file payloads content
are_listed file payloads content at to = ⊎_elim
    (λ none. record {
      first = 8;
      all = to.all;
      places = subst (λ (ps : List Payload). ps ≡ payloads_at 8 (payloads_of ps)) (sym none) refl;
      begins = no_base file content 8 (sym to.all ∙ ap payloads_of none) (λ is. refl);
    })
    (λ there. record { first = to.first; all = to.all; places = to.places; begins = there })
    to.begins

pub none_listed : (file : List ℕ) (payloads : List Payload) (at : ℕ) → payloads ≡ [] → ListedTo file payloads nothing at
none_listed file payloads at is = subst (λ (ps : List Payload). ListedTo file ps nothing at) (sym is) (record { first = at; all = refl; places = refl; upto = omega arith; begins = inl refl })

-- only a base
pub base_listed : (file : List ℕ) (version : Version) (content : Content) (new : List Payload) (bytes : List ℕ) (at later : ℕ) → new ≡ record { bytes = bytes; at = at } ∷ [] → later ≡ at + 5 + length bytes
    → Follows file version content bytes at → ListedTo file new (based_on bytes) later
base_listed file version content new bytes at later is moves follows =
    let all : payloads_of new ≡ bytes ∷ [] = ap payloads_of is in
    record {
      first = at;
      all = all;
      places = is ∙ sym (ap (payloads_at at) all);
      upto = omega (arith, moves, ap (λ (ps : List (List ℕ)). length (frames ps)) all, length-frames-push [] bytes);
      begins = inr (record { mark = follows.mark; before = follows.before; rest = follows.gate ∷ follows.rest; split = follows.split; place = follows.place });
    }

-- if nothing counts so far and the next payload isn't a base, it is at the first commit byte
first_place : (file : List ℕ) (version : Version) (content : Content) (payload : List ℕ) (at : ℕ) → Follows file version content payload at → is_base version payload ≡ false
    → payload_list content ≡ [] → BeginsIn file content.base at
first_place file version content payload at follows plain none = no_base file content at none at_first
  where
    counts : content ≡ content_from version follows.before
    counts = follows.counts ∙ cond-false _ nothing (content_from version follows.before) plain

    at_first : content.base ≡ None → at ≡ 8
    at_first is =
        let without : IsSome (content_from version follows.before).base → ⊥ = λ some. true≢false (sym some ∙ ap (λ (c : Content). is_some c.base) (sym counts) ∙ ap is_some is) in
        let before : follows.before ≡ [] =
        sym (all_without_base version nothing follows.before without) ∙ ap (λ (c : Content). c.payloads) (sym counts) ∙ ap (λ (b : Option (List ℕ)). base_alone b ++ content.payloads) (sym is) ∙ none in
        follows.place ∙ ap (λ (ps : List (List ℕ)). length (front follows.mark ps)) before

-- one more payload, at its place
pub next_listed : (file : List ℕ) (version : Version) (payloads new : List Payload) (content : Content) (bytes : List ℕ) (at later : ℕ) → new ≡ payloads ++ record { bytes = bytes; at = at } ∷ []
    → ListedTo file payloads content at → later ≡ at + 5 + length bytes → Follows file version content bytes at → is_base version bytes ≡ false → ListedTo file new (with_next content bytes) later
next_listed file version payloads new content bytes at later is before moves follows plain =
    let all : payloads_of new ≡ payloads_of payloads ++ bytes ∷ [] = ap payloads_of is ∙ map-append (λ (p : Payload). p.bytes) payloads (record { bytes = bytes; at = at } ∷ []) in
    let listed_now : payloads_of new ≡ payload_list (with_next content bytes) = all ∙ ap (λ (ps : List (List ℕ)). ps ++ bytes ∷ []) before.all ∙ append_assoc (base_alone content.base) content.payloads (bytes ∷ []) in
    let places_now : new ≡ payloads_at before.first (payloads_of new) =
    is ∙ (λ k. before.places k ++ record { bytes = bytes; at = before.upto k } ∷ []) ∙ sym (placed-push before.first (payloads_of payloads) bytes) ∙ ap (payloads_at before.first) (sym all) in
    let upto_now : later ≡ before.first + length (frames (payloads_of new)) =
    omega (arith, moves, before.upto, ap (λ (ps : List (List ℕ)). length (frames ps)) all, length-frames-push (payloads_of payloads) bytes) in
    record {
      first = before.first;
      all = listed_now;
      places = places_now;
      upto = upto_now;
      begins = ⊎_elim
          (λ none.
          let here : at ≡ before.first = before.upto ∙ ap (λ (ps : List Payload). before.first + length (frames (payloads_of ps))) none ∙ omega arith in
          inr (subst (λ (n : ℕ). BeginsIn file content.base n) here (first_place file version content bytes at follows plain (sym before.all ∙ ap payloads_of none))))
          inr
          before.begins;
    }
