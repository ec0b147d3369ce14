-- The items of a list, sent in order.
use Rattle.std.proofs.Common.{◌≡◌, ℕ, zero, suc, ◌+◌, ◌<◌, Bool, true, List, [], ◌∷◌, ◌++◌, length, take, drop, get_or, Option, Result, sym, subst, append_assoc, append-nil, ap, refl, ◌∙◌, arith}
use Rattle.std.specs.List.{flat_map}
use Rattle.serde_json.specs.Written.{comma_if, compact_text, items_text}
use Rattle.ts_io.specs.Whole.{AppendsPart}
use Rattle.ts_io.specs.declared.whole.WriteFault.{WriteFault}
use Rattle.transcript.specs.Pieces.{piece_text}
use Rattle.transcript.specs.Sending.{Gathers, Sends}
use Rattle.transcript.specs.Text.{exchange_data, exchanges_data, talk_data, talks_data}
use Rattle.transcript.specs.declared.pieces.Piece.{Piece}
use Rattle.transcript.specs.declared.transcripts.Exchange.{Exchange}
use Rattle.transcript.specs.declared.transcripts.SessionTranscript.{SessionTranscript}
use Rattle.transcript.proofs.Sequel.{SentSome, some_sent, some_failed, rest_sent, first_failed, gathers_both, part_of_both}

no_items_left : {A : Type 0} → (xs : List A) → length xs ≡ 0 → xs ≡ []
no_items_left [] h = refl
no_items_left (x ∷ xs) h = absurd cc

module _ (old mid new : Option (List ℕ)) (before page after text : List ℕ) where
  -- a comma, an item, and the rest, grouped as in the text of a list
  grouped : (now : Option (List ℕ)) (comma item rest : List ℕ) → SentSome old now before page text (comma ++ (item ++ rest)) → SentSome old now before page text ((comma ++ item) ++ rest)
  grouped now comma item rest h = subst (SentSome old now before page text) (sym (append_assoc comma item rest)) h

  module _ (later : Bool) where
    exchange_first : (left rest : List Exchange) (x : Exchange) → SentSome old mid before page text (items_text later (exchanges_data left)) → left ≡ x ∷ rest
        → SentSome old mid before page text ((comma_if later ++ compact_text (exchange_data x)) ++ items_text true (exchanges_data rest))
    exchange_first left rest x h is = grouped mid (comma_if later) (compact_text (exchange_data x)) (items_text true (exchanges_data rest)) (subst (λ xs. SentSome old mid before page text (items_text later (exchanges_data xs))) is h)

    pub exchange_next : (left rest : List Exchange) (x : Exchange) → SentSome old mid before page text (items_text later (exchanges_data left)) → left ≡ x ∷ rest → Gathers mid new page after (comma_if later ++ compact_text (exchange_data x))
        → SentSome old new before after text (items_text true (exchanges_data rest))
    exchange_next left rest x h is more = some_sent old mid new before page after text (comma_if later ++ compact_text (exchange_data x)) (items_text true (exchanges_data rest)) (exchange_first left rest x h is) more

    pub exchange_failed : (left rest : List Exchange) (x : Exchange) → SentSome old mid before page text (items_text later (exchanges_data left)) → left ≡ x ∷ rest → AppendsPart mid new (page ++ (comma_if later ++ compact_text (exchange_data x)))
        → AppendsPart old new (before ++ text)
    exchange_failed left rest x h is part = some_failed old mid new before page after text (comma_if later ++ compact_text (exchange_data x)) (items_text true (exchanges_data rest)) (exchange_first left rest x h is) part

    pub exchanges_end : (left : List Exchange) (r : Result (Unit {0}) WriteFault) → SentSome old mid before page text (items_text later (exchanges_data left)) → length left ≡ 0 → Sends r mid new page after (93 ∷ []) → Sends r old new before after text
    exchanges_end left r h none sent = rest_sent old mid new before page after text (93 ∷ []) r (subst (λ xs. SentSome old mid before page text (items_text later (exchanges_data xs))) (no_items_left left none) h) sent

    talk_first : (left rest : List SessionTranscript) (x : SessionTranscript) → SentSome old mid before page text (items_text later (talks_data left)) → left ≡ x ∷ rest
        → SentSome old mid before page text ((comma_if later ++ compact_text (talk_data x)) ++ items_text true (talks_data rest))
    talk_first left rest x h is = grouped mid (comma_if later) (compact_text (talk_data x)) (items_text true (talks_data rest)) (subst (λ xs. SentSome old mid before page text (items_text later (talks_data xs))) is h)

    pub talk_next : (left rest : List SessionTranscript) (x : SessionTranscript) → SentSome old mid before page text (items_text later (talks_data left)) → left ≡ x ∷ rest → Gathers mid new page after (comma_if later ++ compact_text (talk_data x))
        → SentSome old new before after text (items_text true (talks_data rest))
    talk_next left rest x h is more = some_sent old mid new before page after text (comma_if later ++ compact_text (talk_data x)) (items_text true (talks_data rest)) (talk_first left rest x h is) more

    pub talk_failed : (left rest : List SessionTranscript) (x : SessionTranscript) → SentSome old mid before page text (items_text later (talks_data left)) → left ≡ x ∷ rest → AppendsPart mid new (page ++ (comma_if later ++ compact_text (talk_data x)))
        → AppendsPart old new (before ++ text)
    talk_failed left rest x h is part = some_failed old mid new before page after text (comma_if later ++ compact_text (talk_data x)) (items_text true (talks_data rest)) (talk_first left rest x h is) part

    pub talks_end : (left : List SessionTranscript) (r : Result (Unit {0}) WriteFault) → SentSome old mid before page text (items_text later (talks_data left)) → length left ≡ 0 → Sends r mid new page after (93 ∷ []) → Sends r old new before after text
    talks_end left r h none sent = rest_sent old mid new before page after text (93 ∷ []) r (subst (λ xs. SentSome old mid before page text (items_text later (talks_data xs))) (no_items_left left none) h) sent

-- ---- pieces

-- a list is the part before an index, the item there, and the rest
piece_apart : (pieces : List Piece) (i : ℕ) (d : Piece) → i < length pieces → flat_map piece_text pieces ≡ flat_map piece_text (take i pieces) ++ (piece_text (get_or pieces i d) ++ flat_map piece_text (drop (suc i) pieces))
piece_apart [] i d l = absurd (omega (arith, l))
piece_apart (p ∷ pieces) zero d l = refl
piece_apart (p ∷ pieces) (suc i) d l =
    ap (λ s. piece_text p ++ s) (piece_apart pieces i d (omega (arith, l))) ∙ sym (append_assoc (piece_text p) (flat_map piece_text (take i pieces)) (piece_text (get_or pieces i d) ++ flat_map piece_text (drop (suc i) pieces)))

piece_more : (pieces : List Piece) (i : ℕ) (d : Piece) → i < length pieces → flat_map piece_text (take (suc i) pieces) ≡ flat_map piece_text (take i pieces) ++ piece_text (get_or pieces i d)
piece_more [] i d l = absurd (omega (arith, l))
piece_more (p ∷ pieces) zero d l = append-nil (piece_text p)
piece_more (p ∷ pieces) (suc i) d l = ap (λ s. piece_text p ++ s) (piece_more pieces i d (omega (arith, l))) ∙ sym (append_assoc (piece_text p) (flat_map piece_text (take i pieces)) (piece_text (get_or pieces i d)))

module _ (old mid new : Option (List ℕ)) (before page : List ℕ) (pieces : List Piece) (i : ℕ) (d : Piece) (l : i < length pieces) (g : Gathers old mid before page (flat_map piece_text (take i pieces))) where
  pub piece_next : (after : List ℕ) → Gathers mid new page after (piece_text (get_or pieces i d)) → Gathers old new before after (flat_map piece_text (take (i + 1) pieces))
  piece_next after more =
      let next : i + 1 ≡ suc i = omega arith in
      subst (Gathers old new before after) (sym (ap (λ k. flat_map piece_text (take k pieces)) next ∙ piece_more pieces i d l)) (gathers_both old mid new before page after (flat_map piece_text (take i pieces)) (piece_text (get_or pieces i d)) g more)

  pub piece_failed : AppendsPart mid new (page ++ piece_text (get_or pieces i d)) → AppendsPart old new (before ++ flat_map piece_text pieces)
  piece_failed part =
      let front = flat_map piece_text (take i pieces) in
      let item = piece_text (get_or pieces i d) in
      let rest = flat_map piece_text (drop (suc i) pieces) in
      subst (λ t. AppendsPart old new (before ++ t)) (sym (piece_apart pieces i d l ∙ sym (append_assoc front item rest)))
      (first_failed old new before (front ++ item) rest (part_of_both old mid new before page [] front item g part))
