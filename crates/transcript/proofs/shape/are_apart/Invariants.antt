use Rattle.std.proofs.Common.{List, length}
use Rattle.transcript.specs.declared.transcripts.SessionTranscript.{SessionTranscript}
use Rattle.transcript.proofs.Apart.{Seen}
use Rattle.transcript.proofs.shape.are_apart.Given as goal

abbrev pub invariant-loop-talk : goal.invariant-loop-talk
invariant-loop-talk l = (done : List SessionTranscript) × Seen l.fn.talks l.left done l.later.keys

abbrev pub decreases-loop-talk : goal.decreases-loop-talk
decreases-loop-talk l = length l.left
