use Rattle.std.proofs.Common.{◌≡◌, ◌≤◌, take}
use Rattle.turn_lock.specs.Positions.{positions_between}
use Rattle.audit.proofs.numbers.first_gap.Given as goal

-- the numbers so far are the positions after the start, up to the last one seen
abbrev pub invariant-loop-number : goal.invariant-loop-number
invariant-loop-number l = record {
  low : l.start ≤ l.seen;
  high : l.seen ≤ l.end;
  taken : take l.number-index l.numbers ≡ positions_between l.start l.seen;
}
