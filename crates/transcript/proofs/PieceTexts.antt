-- The texts of the parts, in pieces.
use Rattle.std.proofs.Common.{◌≡◌, List, ℕ, [], ◌∷◌, ◌++◌, Bool, false, codes, decimal, refl, sym, ap, ◌∙◌, append_assoc}
use Rattle.json.specs.Print.{escape, escape_byte, quoted}
use Rattle.serde_json.specs.Written.{compact_text, items_text, comma_if}
use Rattle.transcript.specs.Pieces.{talk_head}
use Rattle.transcript.specs.Text.{exchange_data, exchanges_data, talk_data, talks_data, transcript_text}
use Rattle.transcript.specs.declared.transcripts.Exchange.{Exchange}
use Rattle.transcript.specs.declared.transcripts.SessionTranscript.{SessionTranscript}
use Rattle.transcript.specs.declared.transcripts.Transcript.{Transcript}

pub exchange_pieces : (e : Exchange) → compact_text (exchange_data e) ≡ codes "{\"line\":" ++ (quoted e.line ++ (codes ",\"reply\":" ++ (quoted e.reply ++ codes "}")))
unfolding escape_byte
exchange_pieces e = refl

pub talk_pieces : (t : SessionTranscript) → compact_text (talk_data t) ≡ codes "{\"name\":" ++ (quoted t.name ++ (codes ",\"replies\":[" ++ (items_text false (exchanges_data t.replies) ++ codes "}")))
unfolding escape_byte
talk_pieces t = refl

pub transcript_pieces : (t : Transcript) → transcript_text t ≡ codes "{\"sessions\":[" ++ (items_text false (talks_data t.sessions) ++ (codes ",\"start\":" ++ (decimal t.start ++ codes "}\n")))
unfolding escape_byte
transcript_pieces t =
    let start = decimal t.start in
    ap (λ s. codes "{\"sessions\":[" ++ s) (append_assoc (items_text false (talks_data t.sessions)) _ (10 ∷ []) ∙ ap (λ s. items_text false (talks_data t.sessions) ++ (codes ",\"start\":" ++ s)) (append_assoc start (125 ∷ []) (10 ∷ [])))

-- ---- the same with the quotes in the pieces

quote_apart : (s rest : List ℕ) → quoted s ++ rest ≡ 34 ∷ (escape s ++ (34 ∷ rest))
quote_apart s rest = ap (λ l. 34 ∷ l) (append_assoc (escape s) (34 ∷ []) rest)

exchange_escaped : (e : Exchange) → compact_text (exchange_data e) ≡ codes "{\"line\":\"" ++ (escape e.line ++ (codes "\",\"reply\":\"" ++ (escape e.reply ++ codes "\"}")))
exchange_escaped e =
    exchange_pieces e
    ∙ ap (λ s. codes "{\"line\":" ++ s) (quote_apart e.line (codes ",\"reply\":" ++ (quoted e.reply ++ codes "}")))
    ∙ ap (λ s. codes "{\"line\":\"" ++ (escape e.line ++ (codes "\",\"reply\":" ++ s))) (quote_apart e.reply (codes "}"))

pub exchange_put : (e : Exchange) (later : Bool) (first line reply : List ℕ) → first ≡ comma_if later → line ≡ e.line → reply ≡ e.reply
    → first ++ (codes "{\"line\":\"" ++ (escape line ++ (codes "\",\"reply\":\"" ++ (escape reply ++ codes "\"}")))) ≡ comma_if later ++ compact_text (exchange_data e)
exchange_put e later first line reply first_is line_is reply_is =
    (λ i. first_is i ++ (codes "{\"line\":\"" ++ (escape (line_is i) ++ (codes "\",\"reply\":\"" ++ (escape (reply_is i) ++ codes "\"}")))))
    ∙ ap (λ s. comma_if later ++ s) (sym (exchange_escaped e))

pub talk_head_put : (name : List ℕ) (later : Bool) (first : List ℕ) → first ≡ comma_if later
    → first ++ (codes "{\"name\":\"" ++ (escape name ++ codes "\",\"replies\":[")) ≡ talk_head later name
talk_head_put name later first first_is =
    ap (λ s. s ++ (codes "{\"name\":\"" ++ (escape name ++ codes "\",\"replies\":["))) first_is
    ∙ ap (λ s. comma_if later ++ (codes "{\"name\":" ++ s)) (sym (quote_apart name (codes ",\"replies\":[")))
