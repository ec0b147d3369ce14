-- What a run writes: the text of all replies, and the lines and replies of each session.
use Rattle.std.specs.Prelude.{◌≡◌, ℕ, Bool, ◌||◌, List, [], ◌∷◌, ◌++◌, flat_map, length, map, nat_lt, sum_by}
use Rattle.std.specs.List.{list_any}
use Rattle.ts_schema.specs.Counts.{raised_by}
use Rattle.transcript.specs.declared.transcripts.SessionTranscript.{SessionTranscript}
use Rattle.transcript.specs.declared.transcripts.Transcript.{Transcript}
use Rattle.par_laws.specs.Parallel.{SessionReplies}
use Rattle.par_run.specs.declared.ends.ParEnd.{ParEnd}
use Rattle.par_run.specs.declared.outputs.Output.{Output as OutputMade}

-- the text of refusals and replies, whether one of them is a FAULT, and the sessions with their lines and replies
pub record Output : Type 0 where
  pub text : List ℕ
  pub fault : Bool
  pub sessions : List SessionTranscript

-- the output in a value of the code
abbrev pub output_in : OutputMade → Output
output_in o = record { text = o.text.items; fault = o.fault; sessions = o.sessions.items }

-- the output at the end of a run
abbrev pub output_of : {B : Type 0} → ParEnd B → Output
output_of end = record { text = end.text; fault = end.fault; sessions = end.sessions }

-- the transcript of a run that began at a position
abbrev pub transcript_in : ℕ → Output → Transcript
transcript_in start out = record { start = start; sessions = out.sessions }

-- ---- one session

-- the lines and replies of a session, as a session transcript
abbrev pub talk_of : SessionReplies → SessionTranscript
talk_of replies = record { name = replies.name; replies = replies.exchanges }

-- the texts of its replies
abbrev pub replies_text : SessionTranscript → List ℕ
replies_text talk = flat_map (λ exchange. exchange.reply) talk.replies

-- the output with one more session at the end
abbrev pub with_session : SessionReplies → Output → Output
with_session replies out = record {
  text = out.text ++ replies_text (talk_of replies);
  fault = out.fault || replies.fault;
  sessions = out.sessions ++ talk_of replies ∷ [];
}

-- the output with several more sessions at the end
abbrev pub with_sessions : List SessionReplies → Output → Output
with_sessions [] out = out
with_sessions (replies ∷ others) out = with_sessions others (with_session replies out)

-- only the refusals of lines that no session answers
abbrev pub refusals_only : List ℕ → Output
refusals_only text = record { text = text; fault = nat_lt 0 (length text); sessions = [] }

-- ---- all sessions

-- sessions with these replies have this output, after the refusals of lines that no session answers, and read this many
-- stored rows
pub record Says (refusals : List ℕ) (replied : List SessionReplies) (out : Output) (count : ℕ) : Type 0 where
  pub text : out.text ≡ refusals ++ flat_map replies_text out.sessions
  pub fault : out.fault ≡ (nat_lt 0 (length refusals) || list_any (λ replies. replies.fault) replied)
  pub sessions : out.sessions ≡ map talk_of replied
  pub reads : count ≡ raised_by (sum_by (λ replies. replies.reads) replied) 0
