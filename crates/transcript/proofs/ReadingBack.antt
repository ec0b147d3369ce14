-- The text of a transcript is read back.
use Rattle.std.proofs.Common.{◌≡◌, ◌<◌, ◌≤◌, ◌^◌, Bool, true, false, List, [], ◌∷◌, ◌++◌, Option, Some, option_and_then, IsUtf8, codes, decimal, refl, sym, ap, ◌∙◌, subst, arith, append-nil}
use Rattle.std.specs.List.{AllByRecursion}
use Rattle.std.proofs.lemmas.Fmt.{IsAscii-decimal}
use Rattle.std.proofs.lemmas.Str.{IsUtf8-append, IsUtf8-nil, IsUtf8-from_ascii}
use Rattle.json.specs.Json as json
use Rattle.json.specs.Lex.{tokens}
use Rattle.json.specs.Token.{Token}
use Rattle.json.specs.Tree as tree
use Rattle.json.specs.Tree.{json_tokens, HasNumbers, ItemsHaveNumbers}
use Rattle.json.proofs.Printed.Decimals.{IsNumber-decimal}
use Rattle.json.proofs.Printed.Tokens.{tokens-print}
use Rattle.json.proofs.Printed.Trees.{value-json_tokens, ArePrintable-json_tokens}
use Rattle.json.proofs.Printed.Utf8.{IsUtf8-quoted, IsUtf8-are_ascii}
use Rattle.serde_json.specs.Data.{Data}
use Rattle.serde_json.specs.Read.{read, max_depth, of_json, of_items}
use Rattle.serde_json.specs.Written.{compact_text, items_text, comma_if, outline, items_outline}
use Rattle.serde_json.proofs.Numbers.{number_of-decimal}
use Rattle.serde_json.proofs.Texts.{print-outline}
use Rattle.transcript.specs.Laws.{ReadsBack, ReadsAsOne}
use Rattle.transcript.specs.Reading.{transcript_in}
use Rattle.transcript.specs.Text.{exchange_data, exchanges_data, talk_data, talks_data, transcript_data, transcript_text, IsWritable, IsWritableTalk, IsWritableExchange}
use Rattle.transcript.specs.declared.transcripts.Exchange.{Exchange}
use Rattle.transcript.specs.declared.transcripts.SessionTranscript.{SessionTranscript}
use Rattle.transcript.specs.declared.transcripts.Transcript.{Transcript}
use Rattle.transcript.proofs.PieceTexts.{exchange_pieces, talk_pieces, transcript_pieces}
use Rattle.transcript.proofs.Trailing.{tokens-line_feed}
use Rattle.transcript.proofs.Values.{transcript_in-transcript_data}

-- ---- the numbers are numbers

exchanges_numbers : (es : List Exchange) → ItemsHaveNumbers (items_outline (exchanges_data es))
exchanges_numbers [] = tt
exchanges_numbers (e ∷ es) = ((tt, (tt, tt)), exchanges_numbers es)

talks_numbers : (ts : List SessionTranscript) → ItemsHaveNumbers (items_outline (talks_data ts))
talks_numbers [] = tt
talks_numbers (t ∷ ts) = ((tt, (exchanges_numbers t.replies, tt)), talks_numbers ts)

transcript_numbers : (t : Transcript) → t.start < 2 ^ 64 → HasNumbers (outline (transcript_data t))
transcript_numbers t small = (talks_numbers t.sessions, (IsNumber-decimal t.start small, tt))

-- ---- the nesting is shallow

exchanges_depth : (es : List Exchange) → tree.items_depth (items_outline (exchanges_data es)) ≤ 1
exchanges_depth [] = omega arith
exchanges_depth (e ∷ es) = omega (arith, exchanges_depth es)

talks_depth : (ts : List SessionTranscript) → tree.items_depth (items_outline (talks_data ts)) ≤ 3
talks_depth [] = omega arith
talks_depth (t ∷ ts) = omega (arith, exchanges_depth t.replies, talks_depth ts)

transcript_depth : (t : Transcript) → tree.depth (outline (transcript_data t)) ≤ max_depth
transcript_depth t = omega (arith, talks_depth t.sessions)

-- ---- the value of the JSON

exchanges_value : (es : List Exchange) → of_items (items_outline (exchanges_data es)) ≡ Some (exchanges_data es)
exchanges_value [] = refl
exchanges_value (e ∷ es) = rw (exchanges_value es) refl

talks_value : (ts : List SessionTranscript) → of_items (items_outline (talks_data ts)) ≡ Some (talks_data ts)
talks_value [] = refl
talks_value (t ∷ ts) = rw (exchanges_value t.replies, talks_value ts) refl

transcript_value : (t : Transcript) → t.start < 2 ^ 64 → of_json (outline (transcript_data t)) ≡ Some (transcript_data t)
transcript_value t small = rw (talks_value t.sessions, number_of-decimal t.start small) refl

-- ---- the tokens of the text

text_tokens : (t : Transcript) → t.start < 2 ^ 64 → tokens (transcript_text t) ≡ json_tokens (outline (transcript_data t))
text_tokens t small =
    let ts = json_tokens (outline (transcript_data t)) in
    let printable = ArePrintable-json_tokens (outline (transcript_data t)) (transcript_numbers t small) in
    ap (λ text. tokens (text ++ 10 ∷ [])) (sym (print-outline (transcript_data t))) ∙ tokens-line_feed ts printable ∙ tokens-print ts printable

abbrev whole : Option (json.Json × List Token) → Option Data
whole o = option_and_then of_json (option_and_then (λ p. json.if_last p.0 p.1) o)

text_value : (t : Transcript) → t.start < 2 ^ 64 → read (transcript_text t) ≡ Some (transcript_data t)
text_value t small =
    ap whole (ap (json.value max_depth) (text_tokens t small ∙ sym (append-nil _)) ∙ value-json_tokens (outline (transcript_data t)) max_depth [] (transcript_depth t))
    ∙ transcript_value t small

-- ---- the text is UTF-8

comma_utf8 : (later : Bool) → IsUtf8 (comma_if later)
comma_utf8 true = IsUtf8-are_ascii _ refl
comma_utf8 false = IsUtf8-nil

exchange_utf8 : (e : Exchange) → IsWritableExchange e → IsUtf8 (compact_text (exchange_data e))
exchange_utf8 e h =
    subst IsUtf8 (sym (exchange_pieces e))
    (IsUtf8-append _ _ (IsUtf8-are_ascii (codes "{\"line\":") refl) (IsUtf8-append _ _ (IsUtf8-quoted e.line h.0) (IsUtf8-append _ _ (IsUtf8-are_ascii (codes ",\"reply\":") refl) (IsUtf8-append _ _ (IsUtf8-quoted e.reply h.1) (IsUtf8-are_ascii (codes "}") refl)))))

exchanges_utf8 : (later : Bool) (es : List Exchange) → AllByRecursion IsWritableExchange es → IsUtf8 (items_text later (exchanges_data es))
exchanges_utf8 later [] h = IsUtf8-are_ascii (93 ∷ []) refl
exchanges_utf8 later (e ∷ es) h = IsUtf8-append _ _ (comma_utf8 later) (IsUtf8-append _ _ (exchange_utf8 e h.0) (exchanges_utf8 true es h.1))

talk_utf8 : (t : SessionTranscript) → IsWritableTalk t → IsUtf8 (compact_text (talk_data t))
talk_utf8 t h =
    subst IsUtf8 (sym (talk_pieces t))
    (IsUtf8-append _ _ (IsUtf8-are_ascii (codes "{\"name\":") refl) (IsUtf8-append _ _ (IsUtf8-quoted t.name h.0) (IsUtf8-append _ _ (IsUtf8-are_ascii (codes ",\"replies\":[") refl) (IsUtf8-append _ _ (exchanges_utf8 false t.replies h.1) (IsUtf8-are_ascii (codes "}") refl)))))

talks_utf8 : (later : Bool) (ts : List SessionTranscript) → AllByRecursion IsWritableTalk ts → IsUtf8 (items_text later (talks_data ts))
talks_utf8 later [] h = IsUtf8-are_ascii (93 ∷ []) refl
talks_utf8 later (t ∷ ts) h = IsUtf8-append _ _ (comma_utf8 later) (IsUtf8-append _ _ (talk_utf8 t h.0) (talks_utf8 true ts h.1))

text_utf8 : (t : Transcript) → t.start < 2 ^ 64 → IsWritable t → IsUtf8 (transcript_text t)
text_utf8 t small h =
    subst IsUtf8 (sym (transcript_pieces t))
    (IsUtf8-append _ _ (IsUtf8-are_ascii (codes "{\"sessions\":[") refl) (IsUtf8-append _ _ (talks_utf8 false t.sessions h) (IsUtf8-append _ _ (IsUtf8-are_ascii (codes ",\"start\":") refl) (IsUtf8-append _ _ (IsUtf8-from_ascii (decimal t.start) (IsAscii-decimal t.start small)) (IsUtf8-are_ascii (codes "}\n") refl)))))

-- ---- the laws

pub reads_back : ReadsBack
reads_back t small writable sound = record { utf8 = text_utf8 t small writable; value = text_value t small; sound = sound }

pub reads_as_one : ReadsAsOne
reads_as_one text t u first second =
    let same : Some (transcript_data t) ≡ Some (transcript_data u) = sym first.value ∙ second.value in
    let read_same = sym (transcript_in-transcript_data t) ∙ ap (λ o. option_and_then transcript_in o) same ∙ transcript_in-transcript_data u in
    cc
