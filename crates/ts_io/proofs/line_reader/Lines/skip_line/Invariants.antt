-- The line began with bytes that are gone, continues with those held, and is too long already.
use Rattle.std.proofs.Common.{◌≡◌, ◌<◌, true, false, [], length, take}
use Rattle.std.specs.Io.KnownBytes.{prepend_known}
use Rattle.ts_io.specs.Lines.{ended_lines}
use Rattle.ts_io.proofs.Skipping.{Skips}
use Rattle.ts_io.proofs.line_reader.Lines.skip_line.Given as goal

abbrev pub invariant-loop-self : goal.invariant-loop-self
invariant-loop-self g l = record {
  skips : Skips (prepend_known l.initial.self.held (g.S.Source.left l.initial.source)) (prepend_known l.self.held (g.S.Source.left l.source))
      l.initial.self.allowed l.self.allowed (length l.self.held);
  none : ended_lines (take l.self.allowed l.self.held) ≡ [];
  some : 0 < length l.self.held;
  is_open : l.self.is_open ≡ true;
  untold : g.S.Source.ended l.source ≡ false;
  more : l.self.at_end ≡ false;
  counted : g.S.Source.faults l.source ≡ g.S.Source.faults l.initial.source;
}

abbrev pub decreases-loop-self : goal.decreases-loop-self
decreases-loop-self g l = l.self.allowed
