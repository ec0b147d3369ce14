use Rattle.std.proofs.Common.{◌≡◌, ◌-◌, ◌++◌, drop, length}
use Rattle.event_codec.specs.Reading.{items, value_at}
use Rattle.event_codec.proofs.Loops.{with_front}
use Rattle.event_codec.proofs.reader.Reader.values_into.Given as goal

-- the values so far come after the others, and the values left are read after them
abbrev pub invariant-loop : goal.invariant-loop
invariant-loop l =
    (l.into ≡ l.fn.into ++ drop (length l.fn.into) l.into)
    × (with_front value_at (drop (length l.fn.into) l.into) (items (l.count - l.counter) value_at l.self) ≡ items l.count value_at l.fn.self)
