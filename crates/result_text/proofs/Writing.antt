-- A buffer cut where its first bytes end.
use Rattle.std.proofs.lemmas.List.{take-append-drop, take-append-le, drop-append-le}
use Rattle.std.proofs.Math.Seq.{take-length, drop-length}

-- text is appended at the end of the buffer, and what was before is kept
pub ruleset appended_behind = (take-append-le, drop-append-le)

-- both parts together are the whole
pub ruleset cut_joined = (take-append-drop)

-- if nothing is appended, the buffer is as before
pub ruleset cut_at_end = (take-length, drop-length)
