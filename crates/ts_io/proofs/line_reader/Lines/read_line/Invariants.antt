-- The text to come stays, and no line ends among the bytes held.
use Rattle.std.proofs.Common.{◌≡◌, ◌-◌, true, false, [], length, take}
use Rattle.std.specs.Io.KnownBytes.{Consumes, prepend_known}
use Rattle.ts_io.specs.Lines.{ended_lines}
use Rattle.ts_io.specs.declared.line_reader.TheConstants.{HELD_LIMIT}
use Rattle.ts_io.proofs.line_reader.Lines.read_line.Given as goal

abbrev pub invariant-loop-self : goal.invariant-loop-self
invariant-loop-self g l = record {
  same : Consumes (prepend_known l.initial.self.held (g.S.Source.left l.initial.source)) (prepend_known l.self.held (g.S.Source.left l.source)) [];
  none : ended_lines (take l.self.allowed l.self.held) ≡ [];
  allowed : l.self.allowed ≡ l.initial.self.allowed;
  is_open : l.self.is_open ≡ true;
  untold : g.S.Source.ended l.source ≡ false;
  more : l.self.at_end ≡ false;
  counted : g.S.Source.faults l.source ≡ g.S.Source.faults l.initial.source;
}

abbrev pub decreases-loop-self : goal.decreases-loop-self
decreases-loop-self g l = HELD_LIMIT - length l.self.held
