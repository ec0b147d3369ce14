-- The JSON text of a transcript.
use Rattle.std.specs.Prelude.{ℕ, List, [], ◌∷◌, ◌++◌, codes, IsUtf8}
use Rattle.std.specs.List.{AllByRecursion}
use Rattle.serde_json.specs.Data.{Data, number, unsigned, string, array, object, Items, no_items, item, no_members, member}
use Rattle.serde_json.specs.Written.{compact_text}
use Rattle.transcript.specs.declared.transcripts.Exchange.{Exchange}
use Rattle.transcript.specs.declared.transcripts.SessionTranscript.{SessionTranscript}
use Rattle.transcript.specs.declared.transcripts.Transcript.{Transcript}

-- {"line":..,"reply":..}
abbrev pub exchange_data : Exchange → Data
exchange_data e = object (member (codes "line") (string e.line) (member (codes "reply") (string e.reply) no_members))

abbrev pub exchanges_data : List Exchange → Items
exchanges_data [] = no_items
exchanges_data (e ∷ es) = item (exchange_data e) (exchanges_data es)

-- {"name":..,"replies":[..]}
abbrev pub talk_data : SessionTranscript → Data
talk_data t =
    object (member (codes "name") (string t.name) (member (codes "replies") (array (exchanges_data t.replies)) no_members))

abbrev pub talks_data : List SessionTranscript → Items
talks_data [] = no_items
talks_data (t ∷ ts) = item (talk_data t) (talks_data ts)

-- {"sessions":[..],"start":..}
abbrev pub transcript_data : Transcript → Data
transcript_data t =
    object (member (codes "sessions") (array (talks_data t.sessions))
    (member (codes "start") (number (unsigned t.start)) no_members))

-- the text of a transcript: its JSON value in compact text, and a line feed
abbrev pub transcript_text : Transcript → List ℕ
transcript_text t = compact_text (transcript_data t) ++ 10 ∷ []

-- line and reply are UTF-8, as a JSON string must be
abbrev pub IsWritableExchange : Exchange → Type 0
IsWritableExchange e = IsUtf8 e.line × IsUtf8 e.reply

abbrev pub IsWritableTalk : SessionTranscript → Type 0
IsWritableTalk t = IsUtf8 t.name × AllByRecursion IsWritableExchange t.replies

abbrev pub IsWritable : Transcript → Type 0
IsWritable t = AllByRecursion IsWritableTalk t.sessions
