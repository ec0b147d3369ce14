-- Texts that are ASCII are UTF-8.
use Rattle.std.proofs.Common.{◌≡◌, ℕ, true, ◌&&◌, List, [], ◌∷◌, nat_lt, refl, ap, ◌∙◌}
use Rattle.std.specs.List.{AllByRecursion, list_all}
use Rattle.std.specs.Prelude.{IsUtf8}
use Rattle.json.proofs.Printed.Utf8.{are_ascii, IsUtf8-are_ascii}
use Rattle.ts_schema.proofs.Cases.{and_first, and_second}
use Rattle.transcript.specs.Ascii.{is_ascii_exchange, is_ascii_talk, is_ascii_text}
use Rattle.transcript.specs.Laws.{AsciiReadsBack}
use Rattle.transcript.specs.Text.{IsWritableExchange, IsWritableTalk}
use Rattle.transcript.specs.declared.transcripts.Exchange.{Exchange}
use Rattle.transcript.specs.declared.transcripts.SessionTranscript.{SessionTranscript}
use Rattle.transcript.proofs.ReadingBack.{reads_back}

same_ascii : (bytes : List ℕ) → are_ascii bytes ≡ is_ascii_text bytes
same_ascii [] = refl
same_ascii (b ∷ bytes) = ap (λ t. nat_lt b 128 && t) (same_ascii bytes)

utf8 : (bytes : List ℕ) → is_ascii_text bytes ≡ true → IsUtf8 bytes
utf8 bytes ascii = IsUtf8-are_ascii bytes (same_ascii bytes ∙ ascii)

exchanges_writable : (es : List Exchange) → list_all is_ascii_exchange es ≡ true → AllByRecursion IsWritableExchange es
exchanges_writable [] all = tt
exchanges_writable (e ∷ es) all =
    let here = and_first (is_ascii_exchange e) (list_all is_ascii_exchange es) all in (
      (utf8 e.line (and_first (is_ascii_text e.line) (is_ascii_text e.reply) here), utf8 e.reply (and_second (is_ascii_text e.line) (is_ascii_text e.reply) here)),
      exchanges_writable es (and_second (is_ascii_exchange e) (list_all is_ascii_exchange es) all),
    )

talks_writable : (ts : List SessionTranscript) → list_all is_ascii_talk ts ≡ true → AllByRecursion IsWritableTalk ts
talks_writable [] all = tt
talks_writable (t ∷ ts) all =
    let here = and_first (is_ascii_talk t) (list_all is_ascii_talk ts) all in (
      (utf8 t.name (and_first (is_ascii_text t.name) (list_all is_ascii_exchange t.replies) here), exchanges_writable t.replies (and_second (is_ascii_text t.name) (list_all is_ascii_exchange t.replies) here)),
      talks_writable ts (and_second (is_ascii_talk t) (list_all is_ascii_talk ts) all),
    )

pub ascii_reads_back : AsciiReadsBack
ascii_reads_back t small ascii sound = reads_back t small (talks_writable t.sessions ascii) sound
