-- The transcript that a text is read as.
use Rattle.std.specs.Prelude.{◌≡◌, ℕ, List, [], ◌∷◌, Option, Some, option_map, option_and_then, IsUtf8, IsTrue, false, ⊤}
use Rattle.serde_json.specs.Data.{Data, Items, no_items, item}
use Rattle.serde_json.specs.Find.{as_str, as_array, as_number, as_u64}
use Rattle.serde_json.specs.Read.{read}
use Rattle.std.specs.Prelude.{codes}
use Rattle.transcript.specs.Members.{two_members}
use Rattle.transcript.specs.Shape.{is_sound}
use Rattle.transcript.specs.Text.{transcript_data}
use Rattle.transcript.specs.declared.reading.ReadTranscript.{ReadTranscript}
use Rattle.transcript.specs.declared.reading.ReadTranscript.TheVariants as out
use Rattle.transcript.specs.declared.transcripts.Exchange.{Exchange}
use Rattle.transcript.specs.declared.transcripts.SessionTranscript.{SessionTranscript}
use Rattle.transcript.specs.declared.transcripts.Transcript.{Transcript}

-- the text is JSON with the value of the transcript; the last of equal keys counts. Every session has its own valid
-- name and only lines of that session
pub record IsReading (text : List ℕ) (t : Transcript) : Type 0 where
  pub utf8 : IsUtf8 text
  pub value : read text ≡ Some (transcript_data t)
  pub sound : IsTrue (is_sound t)

-- the result of reading: the transcript, or that the text isn't one
abbrev pub Reads : List ℕ → ReadTranscript → Type 0
Reads text (out.Transcript t) = IsReading text t
Reads text out.BadText = (t : Transcript) → IsReading text t → ⊥
Reads text out.NoMemory = ⊤

-- ---- the same step by step

-- line and reply of an exchange, if both are texts
abbrev pub exchange_of : Data × Data → Option Exchange
exchange_of p =
    option_and_then (λ line. option_map (λ reply. record { line = line; reply = reply }) (as_str p.1)) (as_str p.0)

abbrev pub exchange_in : Data → Option Exchange
exchange_in d = option_and_then exchange_of (two_members (codes "line") (codes "reply") d)

abbrev pub exchanges_in : Items → Option (List Exchange)
exchanges_in no_items = Some []
exchanges_in (item d ds) = option_and_then (λ e. option_map (λ es. e ∷ es) (exchanges_in ds)) (exchange_in d)

-- name and replies of a session transcript, if one is a text and the other an array of exchanges
abbrev pub talk_of : Data × Data → Option SessionTranscript
talk_of p =
    option_and_then (λ name. option_map (λ replies. record { name = name; replies = replies })
    (option_and_then exchanges_in (as_array p.1))) (as_str p.0)

abbrev pub talk_in : Data → Option SessionTranscript
talk_in d = option_and_then talk_of (two_members (codes "name") (codes "replies") d)

abbrev pub talks_in : Items → Option (List SessionTranscript)
talks_in no_items = Some []
talks_in (item d ds) = option_and_then (λ t. option_map (λ ts. t ∷ ts) (talks_in ds)) (talk_in d)

-- sessions and start of a transcript, if one is an array of session transcripts and the other a number of 64 bits
abbrev pub transcript_of : Data × Data → Option Transcript
transcript_of p =
    option_and_then (λ start. option_map (λ sessions. record { start = start; sessions = sessions })
    (option_and_then talks_in (as_array p.0))) (option_and_then as_u64 (as_number p.1))

abbrev pub transcript_in : Data → Option Transcript
transcript_in d = option_and_then transcript_of (two_members (codes "sessions") (codes "start") d)

-- the result for a value
abbrev pub Answers : Data → ReadTranscript → Type 0
Answers d (out.Transcript t) = (d ≡ transcript_data t) × IsTrue (is_sound t)
Answers d out.BadText = (t : Transcript) → d ≡ transcript_data t → IsTrue (is_sound t) → ⊥
Answers d out.NoMemory = ⊤

-- the result for a transcript
abbrev pub AnswersSound : Transcript → ReadTranscript → Type 0
AnswersSound t (out.Transcript u) = (t ≡ u) × IsTrue (is_sound u)
AnswersSound t out.BadText = is_sound t ≡ false
AnswersSound t out.NoMemory = ⊤
