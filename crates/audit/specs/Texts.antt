-- The numbers of the events that the replies of a transcript name, read from their texts.
use Rattle.std.specs.Prelude.{ℕ, List, IsPermutation}
use Rattle.std.specs.List.{flat_map}
use Rattle.ts_model.specs.History.{History, position}
use Rattle.turn_lock.specs.Positions.{positions_between}
use Rattle.audit_looks.specs.Replies.{numbers_in}
use Rattle.transcript.specs.declared.transcripts.SessionTranscript.{SessionTranscript}
use Rattle.transcript.specs.declared.transcripts.Transcript.{Transcript}

-- the numbers that the replies of one session name, in order
abbrev pub numbers_of : SessionTranscript → List ℕ
numbers_of talk = flat_map (λ exchange. numbers_in talk.name exchange.reply) talk.replies

-- the numbers that the replies of all sessions name
abbrev pub numbers_read : Transcript → List ℕ
numbers_read t = flat_map numbers_of t.sessions

-- the replies of a transcript name each position above its start and up to the end of a history once, and no other
abbrev pub NamesEachOnce : History → Transcript → Type 0
NamesEachOnce all t = IsPermutation (numbers_read t) (positions_between t.start (position all))
