-- The texts of the parts, as sent.
use Rattle.std.proofs.Common.{◌≡◌, ℕ, Bool, false, List, ◌++◌, codes, sym, ap, ◌∙◌, append_assoc}
use Rattle.json.specs.Print.{quoted}
use Rattle.serde_json.specs.Written.{comma_if, compact_text, items_text}
use Rattle.transcript.specs.Pieces.{start_text, talk_head}
use Rattle.transcript.specs.Text.{exchanges_data, talk_data, talks_data, transcript_text}
use Rattle.transcript.specs.declared.transcripts.Exchange.{Exchange}
use Rattle.transcript.specs.declared.transcripts.SessionTranscript.{SessionTranscript}
use Rattle.transcript.specs.declared.transcripts.Transcript.{Transcript}
use Rattle.transcript.proofs.PieceTexts.{talk_pieces, transcript_pieces}

regroup : (z a b c r : List ℕ) → z ++ (a ++ (b ++ (c ++ r))) ≡ (z ++ (a ++ (b ++ c))) ++ r
regroup z a b c r = simp append_assoc

pub talk_parts : (t : SessionTranscript) (later : Bool) (name : List ℕ) (replies : List Exchange) → name ≡ t.name → replies ≡ t.replies
    → talk_head later name ++ (items_text false (exchanges_data replies) ++ codes "}") ≡ comma_if later ++ compact_text (talk_data t)
talk_parts t later name replies name_is replies_is =
    ap (λ n. talk_head later n ++ (items_text false (exchanges_data replies) ++ codes "}")) name_is
    ∙ ap (λ es. talk_head later t.name ++ (items_text false (exchanges_data es) ++ codes "}")) replies_is
    ∙ sym (ap (λ s. comma_if later ++ s) (talk_pieces t) ∙ regroup (comma_if later) (codes "{\"name\":") (quoted t.name) (codes ",\"replies\":[") (items_text false (exchanges_data t.replies) ++ codes "}"))

pub sessions_parts : (t : Transcript) (sessions : List SessionTranscript) → sessions ≡ t.sessions → items_text false (talks_data sessions) ++ start_text t.start ≡ items_text false (talks_data t.sessions) ++ start_text t.start
sessions_parts t sessions is = ap (λ l. items_text false (talks_data l) ++ start_text t.start) is

pub transcript_parts : (t : Transcript) → codes "{\"sessions\":[" ++ (items_text false (talks_data t.sessions) ++ start_text t.start) ≡ transcript_text t
transcript_parts t = sym (transcript_pieces t)
